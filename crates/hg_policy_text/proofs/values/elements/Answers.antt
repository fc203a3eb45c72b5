use Rattle.std.proofs.Common.{◌∙◌, ap, Ok}
use Rattle.toml.specs.Data.{Data}
use Rattle.toml.specs.View.{view, items_view}
use Rattle.std.proofs.Common.{List}
use Rattle.hg_policy_text.proofs.InTurn.{elements-view}
use Rattle.hg_policy_text.proofs.Tables.{elements_in-Some}
use Rattle.hg_policy_text.proofs.values.elements.Goals as goal

pub returns-in-Some : goal.returns-in-Some
returns-in-Some c = elements_in-Some c.args.key (view c.args.value.now) (items_view c.in-Some.array.now.items) c.in-Some.ensures ∙ ap (λ (ds : List Data). Ok ds) (elements-view c.in-Some.array.now.items)
