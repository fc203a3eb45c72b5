use Rattle.std.proofs.Common.{[], ◌∷◌, not, is_some, refl, sym, ap, ◌∙◌, arith}
use Rattle.hg_heap.specs.Ties.{shown_at}
use Rattle.hg_table.specs.Seats.{part_on}
use Rattle.hg_worker.specs.Seats.{number_in, part_of_seat}
use Rattle.hg_worker.specs.Workers.{had_in}
use Rattle.hg_worker.specs.Seen.{word_of}
use Rattle.hg_worker.proofs.Hands.{own_saw}
use Rattle.hg_worker.proofs.Steps.{own_looked, own_steps, no_step}
use Rattle.hg_worker.proofs.Tables.{same_together}
use Rattle.hg_worker.proofs.Workers.{held_by}
use Rattle.hg_worker.proofs.worker.Worker.look_away.Goals as goal

pub returns-clause-looks : goal.returns-clause-looks
returns-clause-looks g c =
    rw (sym c.deref_mut-inner.ensures.value) (
      shown_at c.args.place c.look.result,
      own_looked number_in part_of_seat c.args.place c.look.result
          (had_in c.deref_mut-inner.result.now) _
          (ap is_some (sym c.arena_of.ensures) ∙ (c.is_none.ensures ∙ ap not c.if-is_none.false))
          (held_by _ c.deref_mut-inner.ensures.value c.requires) refl c.look.ensures.shown
          c.look.ensures.step,
      refl,
    )

pub invariant_of-inner-clause-known : goal.invariant_of-inner-clause-known
invariant_of-inner-clause-known g c =
    own_saw number_in part_of_seat ((word_of c.args.place, c.look.result) ∷ [])
    c.look.ensures.step.1 c.deref_mut-inner.result.now.known

pub returns-then-is_none-clause-once : goal.returns-then-is_none-clause-once
returns-then-is_none-clause-once g c =
    rw (sym c.deref_mut-inner.ensures.value)
    (no_step number_in part_of_seat 1 c.args.place (had_in c.deref_mut-inner.result.now))

pub returns-clause-once : goal.returns-clause-once
returns-clause-once g c =
    rw (sym c.deref_mut-inner.ensures.value)
    (own_steps number_in part_of_seat 1 c.args.place (c.look.result ∷ [])
    (had_in c.deref_mut-inner.result.now) (record (had_in
    c.deref_mut-inner.result.now) { own = part_on c.look.new.self.badge })
    (held_by _ c.deref_mut-inner.ensures.value c.requires) refl (omega arith)
    c.look.ensures.step.1)

pub invariant_of-inner-clause-together : goal.invariant_of-inner-clause-together
invariant_of-inner-clause-together g c =
    same_together _ c.look.ensures.same c.deref_mut-inner.result.now.together
