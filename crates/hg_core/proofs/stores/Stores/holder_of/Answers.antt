use Rattle.std.proofs.Common.{None, sym, ap, ◌∙◌, arith}
use Rattle.std.proofs.lemmas.List.{get_or_past}
use Rattle.hg_machine.specs.State.{holder_at}
use Rattle.hg_core.specs.Keeping.{state_in}
use Rattle.hg_core.specs.Held.{worker_in}
use Rattle.hg_core.proofs.stores.Stores.holder_of.Goals as goal

pub returns-then-from-ge-MAX_SEGMENTS-clause-value :
    goal.returns-then-from-ge-MAX_SEGMENTS-clause-value
returns-then-from-ge-MAX_SEGMENTS-clause-value c =
    sym (get_or_past c.self.inside.holders c.args.segment None
    (omega (arith, c.self.invariant.all, c.from.ensures)))
    ∙ c.self.invariant.holders c.args.segment
    ∙ ap (λ x. worker_in (holder_at (state_in x) c.args.segment)) c.self.view_is

pub returns-clause-value : goal.returns-clause-value
returns-clause-value c =
    c.self.invariant.holders c.from-2.result
    ∙ ap (λ x. worker_in (holder_at (state_in x) c.from-2.result)) c.self.view_is
    ∙ ap (λ n. worker_in (holder_at (state_in c.args.self.now) n)) c.from-2.ensures
