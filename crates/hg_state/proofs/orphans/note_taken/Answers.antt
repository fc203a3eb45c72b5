use Rattle.std.proofs.Common.{◌==◌, not, ap, sym, ◌∙◌, rules}
use Rattle.std.proofs.lemmas.Fn.{filter_same}
use Rattle.hg_state.specs.Orphans.{taken}
use Rattle.hg_state.proofs.orphans.note_taken.Goals as goal

-- the others stay
pub returns-in-Refilled : goal.returns-in-Refilled
returns-in-Refilled c =
    filter_same _ (λ other. not (other == c.in-Refilled.segment)) _ (λ x b f t. search rules) _ _ c.retain.ensures.filtered
    ∙ ap (taken c.args.orphans.now.items) (sym c.in-Refilled.is)
