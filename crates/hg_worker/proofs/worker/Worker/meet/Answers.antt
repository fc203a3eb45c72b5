use Rattle.std.proofs.Common.{[], ◌∷◌, not, is_some, refl, sym, ap, ◌∙◌}
use Rattle.hg_machine.specs.Policy.{arena_of}
use Rattle.hg_place.specs.Standings.{slot_of}
use Rattle.hg_table.specs.Seats.{part_on, word_at}
use Rattle.hg_worker.specs.Seen.{word_of}
use Rattle.hg_worker.proofs.Hands.{own_saw}
use Rattle.hg_worker.specs.Seats.{number_in, records_in, part_of_seat}
use Rattle.hg_worker.specs.Workers.{had_in}
use Rattle.hg_worker.proofs.Pools.{by_some}
use Rattle.hg_worker.proofs.Meetings.{met_away, met_held, met_turned, met_keeps, met_stepped}
use Rattle.hg_worker.proofs.Records.{all_goes}
use Rattle.hg_heap.proofs.ViewRoom.{found_one}
use Rattle.hg_worker.proofs.Tables.{same_together}
use Rattle.hg_worker.proofs.Workers.{stepped_stays, named_by}
use Rattle.hg_worker.proofs.worker.Worker.meet.Goals as goal

pub returns-then-not-holds-2-clause-met : goal.returns-then-not-holds-2-clause-met
returns-then-not-holds-2-clause-met g c =
    rw (sym c.deref_mut-inner.ensures.value, sym c.deref_mut-theirs.ensures.value)
    (let s = c.deref_mut-inner.result.now in
    let o = c.deref_mut-theirs.result.now in
    let place = c.args.handle.place in
    by_some (arena_of s.policy place.segment) _ _
    (ap is_some (sym c.arena_of.ensures) ∙ (c.is_none.ensures ∙ ap not c.if-is_none.false))
    (λ _. met_away place c.meet.result (had_in s) (had_in o)
    (record (had_in s) { own = part_on c.meet.new.self.badge })
    (record (had_in o) { own = part_on c.meet.new.other.badge })
    (sym c.holds.ensures ∙ c.if-not-holds.true)
    (sym c.holds-then-not-holds.ensures ∙ c.if-not-holds-2.true) refl refl c.meet.ensures.met))

pub invariant_of-theirs-then-not-holds : goal.invariant_of-theirs-then-not-holds
invariant_of-theirs-then-not-holds g c =
    let s = c.deref_mut-inner.result.now in
    let o = c.deref_mut-theirs.result.now in
    let place = c.args.handle.place in
    let word = c.meet-then-not-holds.result in
    let stays = stepped_stays o c.meet-then-not-holds.new.self place word word
    (met_stepped place word o.heap.segments c.meet-then-not-holds.new.self.segments s.seat _
    c.meet-then-not-holds.ensures.met) in
    record {
      sound = o.sound;
      below = o.below;
      words = o.words;
      of = stays.of;
      together = stays.together;
      reach = o.reach;
      known = stays.known;
    }

pub returns-then-not-holds-clause-met : goal.returns-then-not-holds-clause-met
returns-then-not-holds-clause-met g c =
    rw (sym c.deref_mut-inner.ensures.value, sym c.deref_mut-theirs.ensures.value)
    (let s = c.deref_mut-inner.result.now in
    let o = c.deref_mut-theirs.result.now in
    let place = c.args.handle.place in
    let word = c.meet-then-not-holds.result in
    let after = c.meet-then-not-holds.new.other in
    by_some (arena_of s.policy place.segment) _ _
    (ap is_some (sym c.arena_of.ensures) ∙ (c.is_none.ensures ∙ ap not c.if-is_none.false))
    (λ _. met_turned (met_held place word (had_in o) (had_in s)
    (record (had_in o) { heap = c.meet-then-not-holds.new.self })
    (record (had_in s) { own = part_on after.badge })
    c.settled-2.ensures.once (sym c.holds.ensures ∙ c.if-not-holds.true) refl refl s.seat after
    refl refl c.meet-then-not-holds.ensures.met)))

pub invariant_of-inner-then-not-holds-3 : goal.invariant_of-inner-then-not-holds-3
invariant_of-inner-then-not-holds-3 g c =
    let s = c.deref_mut-inner.result.now in
    let o = c.deref_mut-theirs.result.now in
    let place = c.args.handle.place in
    let word = c.meet-then-not-holds-3.result in
    let stays = stepped_stays s c.meet-then-not-holds-3.new.self place word word
    (met_stepped place word s.heap.segments c.meet-then-not-holds-3.new.self.segments o.seat _
    c.meet-then-not-holds-3.ensures.met) in
    record {
      sound = s.sound;
      below = s.below;
      words = s.words;
      of = stays.of;
      together = stays.together;
      reach = s.reach;
      known = stays.known;
    }

pub returns-then-not-holds-3-clause-met : goal.returns-then-not-holds-3-clause-met
returns-then-not-holds-3-clause-met g c =
    rw (sym c.deref_mut-inner.ensures.value, sym c.deref_mut-theirs.ensures.value)
    (let s = c.deref_mut-inner.result.now in
    let o = c.deref_mut-theirs.result.now in
    let place = c.args.handle.place in
    let word = c.meet-then-not-holds-3.result in
    let after = c.meet-then-not-holds-3.new.other in
    by_some (arena_of s.policy place.segment) _ _
    (ap is_some (sym c.arena_of.ensures) ∙ (c.is_none.ensures ∙ ap not c.if-is_none.false))
    (λ _. met_held place word (had_in s) (had_in o)
    (record (had_in s) { heap = c.meet-then-not-holds-3.new.self })
    (record (had_in o) { own = part_on after.badge })
    c.settled.ensures.once (sym c.holds-2.ensures ∙ c.if-not-holds-3.true) refl refl o.seat after
    refl refl c.meet-then-not-holds-3.ensures.met))

pub returns-then-not-holds-clause-other_heap : goal.returns-then-not-holds-clause-other_heap
returns-then-not-holds-clause-other_heap g c =
    rw (sym c.deref_mut-theirs.ensures.value)
    (met_keeps c.args.handle.place c.meet-then-not-holds.result c.deref_mut-theirs.result.now.heap
    c.meet-then-not-holds.new.self c.deref_mut-inner.result.now.seat _
    c.meet-then-not-holds.ensures.met
    c.meet-then-not-holds.ensures.queues)

pub returns-then-not-holds-3-clause-heap : goal.returns-then-not-holds-3-clause-heap
returns-then-not-holds-3-clause-heap g c =
    rw (sym c.deref_mut-inner.ensures.value)
    (met_keeps c.args.handle.place c.meet-then-not-holds-3.result c.deref_mut-inner.result.now.heap
    c.meet-then-not-holds-3.new.self c.deref_mut-theirs.result.now.seat _
    c.meet-then-not-holds-3.ensures.met
    c.meet-then-not-holds-3.ensures.queues)

pub invariant_of-inner-clause-known : goal.invariant_of-inner-clause-known
invariant_of-inner-clause-known g c =
    own_saw number_in part_of_seat ((word_of c.args.handle.place, c.meet.result) ∷ [])
    c.meet.ensures.met.step.1 c.deref_mut-inner.result.now.known

pub invariant_of-theirs-clause-known : goal.invariant_of-theirs-clause-known
invariant_of-theirs-clause-known g c =
    own_saw number_in part_of_seat ((word_of c.args.handle.place, c.meet.result) ∷ [])
    c.meet.ensures.met.step_other.1 c.deref_mut-theirs.result.now.known

pub invariant_of-inner-then-not-holds-clause-known
    : goal.invariant_of-inner-then-not-holds-clause-known
invariant_of-inner-then-not-holds-clause-known g c =
    let m = c.meet-then-not-holds.ensures.met in
    own_saw number_in part_of_seat
    ((word_at (number_in m.one.slots) (slot_of c.args.handle.place), c.meet-then-not-holds.result)
    ∷ []) m.met.met.step_other.1 c.deref_mut-inner.result.now.known

pub invariant_of-theirs-then-not-holds-3-clause-known
    : goal.invariant_of-theirs-then-not-holds-3-clause-known
invariant_of-theirs-then-not-holds-3-clause-known g c =
    let m = c.meet-then-not-holds-3.ensures.met in
    own_saw number_in part_of_seat
    ((word_at (number_in m.one.slots) (slot_of c.args.handle.place), c.meet-then-not-holds-3.result)
    ∷ []) m.met.met.step_other.1 c.deref_mut-theirs.result.now.known

pub returns-then-not-holds-clause-other_home : goal.returns-then-not-holds-clause-other_home
returns-then-not-holds-clause-other_home g c =
    rw (sym c.deref_mut-theirs.ensures.value)
    (all_goes number_in records_in _ _
    (met_keeps c.args.handle.place c.meet-then-not-holds.result c.deref_mut-theirs.result.now.heap
    c.meet-then-not-holds.new.self c.deref_mut-inner.result.now.seat _
    c.meet-then-not-holds.ensures.met
    c.meet-then-not-holds.ensures.queues).0)

pub returns-then-not-holds-3-clause-home : goal.returns-then-not-holds-3-clause-home
returns-then-not-holds-3-clause-home g c =
    rw (sym c.deref_mut-inner.ensures.value)
    (all_goes number_in records_in _ _
    (met_keeps c.args.handle.place c.meet-then-not-holds-3.result c.deref_mut-inner.result.now.heap
    c.meet-then-not-holds-3.new.self c.deref_mut-theirs.result.now.seat _
    c.meet-then-not-holds-3.ensures.met
    c.meet-then-not-holds-3.ensures.queues).0)

pub invariant_of-inner-clause-together : goal.invariant_of-inner-clause-together
invariant_of-inner-clause-together g c =
    same_together _ c.meet.ensures.same c.deref_mut-inner.result.now.together

pub invariant_of-theirs-clause-together : goal.invariant_of-theirs-clause-together
invariant_of-theirs-clause-together g c =
    same_together _ c.meet.ensures.same_other c.deref_mut-theirs.result.now.together

pub invariant_of-inner-then-not-holds-clause-together
    : goal.invariant_of-inner-then-not-holds-clause-together
invariant_of-inner-then-not-holds-clause-together g c =
    same_together _ c.meet-then-not-holds.ensures.met.met.same_other
    c.deref_mut-inner.result.now.together

pub invariant_of-theirs-then-not-holds-3-clause-together
    : goal.invariant_of-theirs-then-not-holds-3-clause-together
invariant_of-theirs-then-not-holds-3-clause-together g c =
    same_together _ c.meet-then-not-holds-3.ensures.met.met.same_other
    c.deref_mut-theirs.result.now.together

pub meet-requires-then-not-holds-clause-may_meet
    : goal.meet-requires-then-not-holds-clause-may_meet
meet-requires-then-not-holds-clause-may_meet g c = λ one is.
    let s = c.deref_mut-inner.result.now in
    let o = c.deref_mut-theirs.result.now in
    o.together one
    (found_one number_in records_in o.heap.segments c.args.handle.place.segment one is).0
    ∙ (named_by c.deref_mut-theirs.ensures.value c.args.other.now.named).seated
    ∙ sym (named_by c.deref_mut-inner.ensures.value c.args.self.now.named).seated

pub meet-requires-then-not-holds-3-clause-may_meet
    : goal.meet-requires-then-not-holds-3-clause-may_meet
meet-requires-then-not-holds-3-clause-may_meet g c = λ one is.
    let s = c.deref_mut-inner.result.now in
    let o = c.deref_mut-theirs.result.now in
    s.together one
    (found_one number_in records_in s.heap.segments c.args.handle.place.segment one is).0
    ∙ (named_by c.deref_mut-inner.ensures.value c.args.self.now.named).seated
    ∙ sym (named_by c.deref_mut-theirs.ensures.value c.args.other.now.named).seated

pub never_twice-requires-clause-table : goal.never_twice-requires-clause-table
never_twice-requires-clause-table g c =
    let s = c.deref_mut-inner.result.now in
    let o = c.deref_mut-theirs.result.now in
    s.together c.in-Some.one
    (found_one number_in records_in s.heap.segments c.args.handle.place.segment c.in-Some.one
    (sym c.in-Some.ensures.released)).0
    ∙ (named_by c.deref_mut-inner.ensures.value c.args.self.now.named).seated
    ∙ sym (o.together c.in-Some-release.two
    (found_one number_in records_in o.heap.segments c.args.handle.place.segment
    c.in-Some-release.two (sym c.in-Some-release.ensures.released)).0
    ∙ (named_by c.deref_mut-theirs.ensures.value c.args.other.now.named).seated)
