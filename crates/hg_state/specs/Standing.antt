-- What stands: a line for each fact, or a picture.
use Rattle.std.specs.Prelude.{ℕ, ◌++◌, List}
use Rattle.std.specs.List.{flat_map}
use Rattle.hg_machine.specs.State.{State}
use Rattle.hg_show.specs.Parts.{tenants_in}
use Rattle.hg_state.specs.Blocks.{left_text, segment_text, tenant_line}
use Rattle.hg_state.specs.Costs.{costs_text}
use Rattle.hg_state.specs.Pictures.{picture}
use Rattle.hg_state.specs.Workers.{segments_in, worker_text, workers_in}
use Rattle.hg_state.specs.declared.costs.Granted.{Granted}
use Rattle.hg_state.specs.declared.form.Drawing.TheVariants as drawing
use Rattle.hg_state.specs.declared.form.Form.{Form}
use Rattle.hg_state.specs.declared.form.Form.TheVariants as form
use Rattle.hg_state.specs.declared.form.View.{View}
use Rattle.hg_state.specs.declared.form.View.TheVariants as view

-- where these are the orphans, oldest first, and these the blocks that were given out
unfoldable pub standing_lines : Form → State → List ℕ → List Granted → List ℕ
standing_lines form s orphans blocks =
    flat_map (worker_text form s) (workers_in s) ++ left_text form s orphans
    ++ flat_map (tenant_line form s) (tenants_in s.policy)
    ++ flat_map (segment_text form s) (segments_in s) ++ costs_text form s blocks

abbrev pub standing_text : View → State → List ℕ → List Granted → List ℕ
standing_text view.Text s orphans blocks = standing_lines form.Text s orphans blocks
standing_text view.Json s orphans blocks = standing_lines form.Json s orphans blocks
standing_text view.Map s orphans blocks = picture drawing.Map s
standing_text view.Svg s orphans blocks = picture drawing.Svg s
