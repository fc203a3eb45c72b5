use Rattle.std.proofs.Common.{map, sym, ap, ◌∙◌}
use Rattle.toml.specs.View.{view}
use Rattle.hg_policy_text.proofs.InTurn.{elements-view}
use Rattle.hg_show.specs.Rows.{elements_or_none}
use Rattle.hg_show.proofs.by_key.elements.Goals as goal

pub returns-in-Some : goal.returns-in-Some
returns-in-Some c =
    ap (map view) c.as_slice.ensures.value
    ∙ (sym (elements-view c.in-Some.array.now.items) ∙ ap elements_or_none c.in-Some.ensures)
