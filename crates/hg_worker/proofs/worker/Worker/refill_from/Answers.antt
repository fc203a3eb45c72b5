use Rattle.std.proofs.Common.{◌≡◌, ◌<◌, ◌++◌, ◌∷◌, [], reverse, false, sym, ap, subst, ◌∙◌, Some}
use Rattle.hg_heap.specs.Entering.{pages_of_key}
use Rattle.hg_heap.specs.Held.{Held, is_held}
use Rattle.hg_queue.specs.Queues.{queue_of}
use Rattle.hg_machine.specs.declared.Answer.TheVariants as answer
use Rattle.hg_heap.specs.Policies.{AreOf, IsOf}
use Rattle.hg_machine.specs.Policy.{Policy, arena_of}
use Rattle.hg_machine.specs.SoundPolicy.{IsSoundPolicy}
use Rattle.hg_pool.specs.Pooled.{Pooled}
use Rattle.hg_table.specs.Seats.{part_on}
use Rattle.hg_worker.specs.Seats.{number_in, records_in, part_of_seat}
use Rattle.hg_heap.proofs.ViewRoom.{found_one}
use Rattle.hg_worker.specs.Hands.{KnowsHand}
use Rattle.hg_worker.specs.Workers.{had_in}
use Rattle.hg_worker.proofs.Comings.{comes_knows, comes_ends, lives_come}
use Rattle.hg_worker.proofs.Pools.{either_option, pool_without, next_contained, are_of_more}
use Rattle.hg_worker.proofs.Pools.{arena_low, without_there}
use Rattle.hg_worker.specs.Seats.{AreOnTable}
use Rattle.hg_worker.proofs.Tables.{more_on_table, same_together, same_words}
use Rattle.hg_worker.proofs.Workers.{named_by}
use Rattle.hg_worker.proofs.Records.{come_goes}
use Rattle.hg_worker.proofs.worker.Worker.refill_from.Goals as goal

pub invariant_of-pool : goal.invariant_of-pool
invariant_of-pool g c =
    let p = c.args.pool.now in
    record {
      each = either_option c.next_of.result _ _ c.next_of.ensures.left c.next_of.ensures.unchanged
          (λ one e. subst (λ (q : Pooled _).
          AreOf number_in g.N.ServiceName.policy (q.orphans ++ q.fresh)) (sym e)
          (pool_without number_in g.N.ServiceName.policy p.pool (number_in one.slots) p.each))
          (λ e. subst (λ (q : Pooled _).
          AreOf number_in g.N.ServiceName.policy (q.orphans ++ q.fresh)) (sym e) p.each);
      named = either_option c.next_of.result _ _ c.next_of.ensures.left
          c.next_of.ensures.unchanged
          (λ one e. subst (λ (q : Pooled _).
          AreOnTable g.N.TableName.table (q.orphans ++ q.fresh)) (sym e)
          (λ k there. p.named k (without_there number_in p.pool (number_in one.slots) k there)))
          (λ e. subst (λ (q : Pooled _). AreOnTable g.N.TableName.table (q.orphans ++ q.fresh))
          (sym e) p.named);
    }

pub adopt-requires-clause-arena : goal.adopt-requires-clause-arena
adopt-requires-clause-arena g c =
    let p = c.args.pool.now in
    let s = c.deref_mut-inner.result.now in
    let one = c.in-Some.one in
    let there = next_contained number_in p.pool c.args.arena one (sym c.in-Some.ensures.next) in
    subst (λ n. n < 16) (sym (ap (λ r. r.arena) c.see_hand.ensures.comes.rest))
    (arena_low g.N.ServiceName.policy (number_in one.slots) one.arena
    (subst IsSoundPolicy (named_by c.deref_mut-inner.ensures.value
    c.args.self.now.named).serves s.sound) (p.each.arena one there))

pub invariant_of-inner : goal.invariant_of-inner
invariant_of-inner g c =
    let p = c.args.pool.now in
    let s = c.deref_mut-inner.result.now in
    let one = c.in-Some.one in
    let one' = c.see_hand.new.one in
    let comes = c.see_hand.ensures.comes in
    let there = next_contained number_in p.pool c.args.arena one (sym c.in-Some.ensures.next) in
    let is_number : number_in one'.slots ≡ number_in one.slots = ap (λ r. r.number) comes.rest in
    let is_arena : one'.arena ≡ one.arena = ap (λ r. r.arena) comes.rest in
    let here : IsOf number_in g.N.ServiceName.policy one' = (
      ap (arena_of g.N.ServiceName.policy) is_number ∙ p.each.arena one there
          ∙ ap Some (sym is_arena),
      ap (λ r. r.greatest) comes.rest ∙ p.each.greatest one there,
    ) in
    let of : AreOf number_in s.policy (s.heap.segments ++ one' ∷ []) =
    are_of_more number_in s.policy s.heap.segments one' s.of
    (subst (λ (q : Policy). IsOf number_in q one') (sym (named_by c.deref_mut-inner.ensures.value
    c.args.self.now.named).serves) here) in
    let known : KnowsHand number_in part_of_seat s.hand
    (part_on c.see_hand.new.seat.badge) (s.heap.segments ++ one' ∷ []) =
    comes_knows number_in records_in part_of_seat s.hand one one' (had_in s).own
    (part_on c.see_hand.new.seat.badge) comes s.heap.segments s.known in
    record {
      sound = s.sound;
      below = s.below;
      words = same_words c.see_hand.ensures.same_seat s.words;
      of = rw (c.adopt.ensures.segments, c.in_default-release.ensures.unchanged) of;
      together = rw (c.adopt.ensures.segments, c.in_default-release.ensures.unchanged)
          (same_together (s.heap.segments ++ one' ∷ []) c.see_hand.ensures.same_seat
          (more_on_table s.heap.segments one' s.together
          (c.see_hand.ensures.same ∙ p.named one there
          ∙ sym (named_by c.deref_mut-inner.ensures.value c.args.self.now.named).seated)));
      reach = s.reach;
      known = rw (c.adopt.ensures.segments, c.in_default-release.ensures.unchanged) known;
    }

pub returns-clause-refilled : goal.returns-clause-refilled
returns-clause-refilled g c =
    rw (sym c.deref_mut-inner.ensures.value)
    (let one' = c.see_hand.new.one in
    let same = c.in_default-release.ensures.unchanged in
    rw (sym c.in-Some.ensures.next) (
      ap answer.Refilled c.number-segment.ensures,
      c.in-Some.ensures.left,
      one',
      c.see_hand.ensures.comes,
      c.adopt.ensures.segments ∙ ap (λ (h : Held _). h.segments ++ one' ∷ []) same,
      λ key. c.adopt.ensures.queues key
          ∙ ap (λ (h : Held _). reverse (pages_of_key number_in one' key) ++ queue_of h.queues key)
          same,
    ))

pub returns-clause-lives : goal.returns-clause-lives
returns-clause-lives g c =
    rw (sym c.deref_mut-inner.ensures.value)
    (let s = c.deref_mut-inner.result.now in
    let one' = c.see_hand.new.one in
    lives_come number_in records_in part_of_seat (had_in s) _ one'
    (comes_ends number_in records_in part_of_seat s.hand c.in-Some.one one' (had_in s).own
    (part_on c.see_hand.new.seat.badge) c.see_hand.ensures.comes)
    (c.adopt.ensures.segments
    ∙ ap (λ (h : Held _). h.segments ++ one' ∷ []) c.in_default-release.ensures.unchanged))

pub returns-clause-home : goal.returns-clause-home
returns-clause-home g c =
    rw (sym c.deref_mut-inner.ensures.value)
    (let one' = c.see_hand.new.one in
    come_goes number_in records_in _ _ _
    (c.adopt.ensures.segments
    ∙ ap (λ (h : Held _). h.segments ++ one' ∷ []) c.in_default-release.ensures.unchanged))

pub returns-clause-unheld : goal.returns-clause-unheld
returns-clause-unheld g c =
    rw (sym c.deref_mut-inner.ensures.value)
    (let one = c.in-Some.one in
    let away : is_held number_in
    c.deref_mut-inner.result.now.heap.segments (number_in one.slots) ≡ false =
    ap (λ (h : Held _). is_held number_in h.segments (number_in one.slots))
    (sym c.in_default-release.ensures.unchanged)
    ∙ ap (is_held number_in c.release.new.self.segments) (sym c.number-segment.ensures)
    ∙ c.release.ensures.gone in
    rw (sym c.in-Some.ensures.next) away)

pub see_hand-requires : goal.see_hand-requires
see_hand-requires g c =
    let p = c.args.pool.now in
    p.named c.in-Some.one
    (next_contained number_in p.pool c.args.arena c.in-Some.one (sym c.in-Some.ensures.next))
    ∙ sym (named_by c.deref_mut-inner.ensures.value c.args.self.now.named).seated

pub never_twice-requires-clause-table : goal.never_twice-requires-clause-table
never_twice-requires-clause-table g c =
    let p = c.args.pool.now in
    let s = c.deref_mut-inner.result.now in
    p.named c.in-Some.one
    (next_contained number_in p.pool c.args.arena c.in-Some.one (sym c.in-Some.ensures.next))
    ∙ sym (s.together c.in-Some-release.other
    (found_one number_in records_in s.heap.segments c.number-segment.result
    c.in-Some-release.other (sym c.in-Some-release.ensures.released)).0
    ∙ (named_by c.deref_mut-inner.ensures.value c.args.self.now.named).seated)
