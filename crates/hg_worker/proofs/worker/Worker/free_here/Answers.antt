use Rattle.std.proofs.Common.{◌-◌, [], ◌∷◌, refl}
use Rattle.hg_place.specs.Lives.{word_generation}
use Rattle.hg_heap.specs.Ties.{shown_at}
use Rattle.hg_machine.specs.declared.Answer.TheVariants as answer
use Rattle.hg_machine.specs.declared.Event.TheVariants as event
use Rattle.hg_table.proofs.Told.{is_ended}
use Rattle.hg_table.proofs.WordSteps.{freed_word_after}
use Rattle.hg_worker.specs.Had.{hand_place, hand_generation}
use Rattle.hg_worker.specs.Seats.{number_in, part_of_seat}
use Rattle.hg_worker.specs.Seen.{word_of, Decided}
use Rattle.hg_worker.specs.Workers.{had_in}
use Rattle.hg_worker.specs.Answers.{is_done}
use Rattle.hg_worker.specs.Judged.{rule_of}
use Rattle.hg_worker.specs.Seats.{records_in}
use Rattle.hg_worker.proofs.Judged.{rule_refused, not_refused}
use Rattle.hg_worker.proofs.Records.{all_goes, none_goes, alone_goes}
use Rattle.std.proofs.lemmas.Bool.{true≢false}
use Rattle.std.proofs.Common.{ap, sym, ◌∙◌}
use Rattle.hg_worker.proofs.Seats.{arena_held, looked_held, machines_held, machines_shown}
use Rattle.hg_worker.proofs.Steps.{either_end, held_once, held_decides}
use Rattle.hg_worker.proofs.Tables.{stepped_as}
use Rattle.hg_worker.proofs.Workers.{Stays, stepped_stays, held_by, whole_of}
use Rattle.hg_worker.proofs.worker.Worker.free_here.Goals as goal

pub invariant_of-inner : goal.invariant_of-inner
invariant_of-inner g c =
    let s = c.deref_mut-inner.result.now in
    let new = c.free_here.new.self in
    let place = c.args.handle.place in
    let stays : Stays s new =
    either_end c.free_here.result _ _ c.free_here.ensures.freed
    (c.free_here.ensures.denied (held_by _ c.deref_mut-inner.ensures.value c.requires))
    (λ e. stepped_stays s new place e.0 (e.0 - 1) e.2)
    (λ _ e. stepped_stays s new place e.0 e.0 e.3) in
    record {
      sound = s.sound;
      below = s.below;
      words = s.words;
      of = stays.of;
      together = stays.together;
      reach = s.reach;
      known = stays.known;
    }

pub returns-in-Err-clause-refused : goal.returns-in-Err-clause-refused
returns-in-Err-clause-refused g c =
    rw (sym c.deref_mut-inner.ensures.value)
    (λ _.
    let s = c.deref_mut-inner.result.now in
    let old = had_in s in
    let place = c.args.handle.place in
    let whole = whole_of s c.settled.ensures.each in
    let e = c.in-Err.ensures.denied (held_by _ c.deref_mut-inner.ensures.value c.requires) in
    let ties = e.4 s.number (hand_place s.hand) (hand_generation s.hand) s.below in (
      shown_at place e.0,
      looked_held old _ place e.0 whole c.settled.ensures.once (held_by _
          c.deref_mut-inner.ensures.value c.requires) e.3 refl,
      machines_held old _ place e.0 whole c.settled.ensures.once (held_by _
          c.deref_mut-inner.ensures.value c.requires) e.3 refl
          (event.Free c.args.actor c.args.handle) c.refused_answer.result
          (rw (c.refused_answer.ensures, e.2) ties),
    ))

pub returns-clause-freed : goal.returns-clause-freed
returns-clause-freed g c =
    rw (sym c.deref_mut-inner.ensures.value)
    (λ _.
    let s = c.deref_mut-inner.result.now in
    let old = had_in s in
    let place = c.args.handle.place in
    let whole = whole_of s c.settled.ensures.each in
    let e = c.in_default.ensures.freed in
    let ties = e.3 s.number (hand_place s.hand) (hand_generation s.hand) s.below in
    let arena = arena_held old place.segment s.of (held_by _ c.deref_mut-inner.ensures.value
    c.requires) in
    let new = record old { heap = c.free_here.new.self } in
    let decided : Decided number_in part_of_seat place e.0 (e.0 - 1)
    ((word_of place, word_generation e.0) ∷ []) old new =
    held_decides number_in part_of_seat place e.0 (e.0 - 1)
    ((word_of place, word_generation e.0) ∷ []) old new c.settled.ensures.once (stepped_as e.2) refl
    (freed_word_after e.0 e.1).0 (λ es. is_ended (word_of place) e.0 es e.1) in (
      e.0,
      (e.1, decided),
      machines_shown old new place e.0 arena.0 (event.Free c.args.actor c.args.handle)
          answer.Done (shown_at place (e.0 - 1)) whole arena.1 decided.shown ties,
    ))

pub returns-in-Err-clause-judged : goal.returns-in-Err-clause-judged
returns-in-Err-clause-judged g c =
    rw (sym c.deref_mut-inner.ensures.value)
    (λ _.
    let s = c.deref_mut-inner.result.now in
    let e = c.in-Err.ensures.judged (held_by _ c.deref_mut-inner.ensures.value c.requires) in (
      shown_at c.args.handle.place e.0,
      looked_held (had_in s) _ c.args.handle.place e.0 (whole_of s c.settled.ensures.each)
          c.settled.ensures.once (held_by _ c.deref_mut-inner.ensures.value c.requires) e.3 refl,
      rw (ap rule_of c.refused_answer.ensures ∙ rule_refused c.in-Err.refused, e.2) e.4,
    ))

pub returns-in-Err-clause-records : goal.returns-in-Err-clause-records
returns-in-Err-clause-records g c =
    rw (sym c.deref_mut-inner.ensures.value)
    (λ is.
    absurd
    (true≢false
    (sym is ∙ ap is_done c.refused_answer.ensures ∙ not_refused c.in-Err.refused)))

pub returns-in-Err-clause-lists : goal.returns-in-Err-clause-lists
returns-in-Err-clause-lists g c =
    rw (sym c.deref_mut-inner.ensures.value)
    (λ is.
    absurd
    (true≢false
    (sym is ∙ ap is_done c.refused_answer.ensures ∙ not_refused c.in-Err.refused)))

pub returns-in-Err-clause-queues : goal.returns-in-Err-clause-queues
returns-in-Err-clause-queues g c =
    rw (sym c.deref_mut-inner.ensures.value)
    (λ is.
    absurd
    (true≢false
    (sym is ∙ ap is_done c.refused_answer.ensures ∙ not_refused c.in-Err.refused)))

pub returns-in-Err-clause-kept : goal.returns-in-Err-clause-kept
returns-in-Err-clause-kept g c =
    rw (sym c.deref_mut-inner.ensures.value)
    (λ _. (c.in-Err.ensures.kept, c.in-Err.ensures.same_queues))

pub returns-in-Err-clause-home : goal.returns-in-Err-clause-home
returns-in-Err-clause-home g c =
    rw (sym c.deref_mut-inner.ensures.value)
    (none_goes number_in records_in _ _ _ (all_goes number_in records_in _ _ c.in-Err.ensures.kept))

pub returns-clause-served : goal.returns-clause-served
returns-clause-served g c =
    rw (sym c.deref_mut-inner.ensures.value)
    (λ _.
    let s = c.deref_mut-inner.result.now in
    let old = had_in s in
    let place = c.args.handle.place in
    let e = c.in_default.ensures.served in
    let live = e.2.live refl in
    let new = record old { heap = c.free_here.new.self } in
    let decided : Decided number_in part_of_seat place e.0 (e.0 - 1)
    ((word_of place, word_generation e.0) ∷ []) old new =
    held_decides number_in part_of_seat place e.0 (e.0 - 1)
    ((word_of place, word_generation e.0) ∷ []) old new c.settled.ensures.once (stepped_as e.1) refl
    (freed_word_after e.0 live).0 (λ es. is_ended (word_of place) e.0 es live) in
    (e.0, (live, decided), e.2))

pub returns-clause-records : goal.returns-clause-records
returns-clause-records g c =
    rw (sym c.deref_mut-inner.ensures.value)
    (λ _. c.in_default.ensures.records)

pub returns-clause-home : goal.returns-clause-home
returns-clause-home g c =
    rw (sym c.deref_mut-inner.ensures.value)
    (alone_goes number_in records_in refl c.in_default.ensures.records)

pub returns-clause-any_hand : goal.returns-clause-any_hand
returns-clause-any_hand g c =
    rw (sym c.deref_mut-inner.ensures.value)
    (λ _.
    let old = had_in c.deref_mut-inner.result.now in
    let place = c.args.handle.place in
    let e = c.in_default.ensures.freed in
    let new = record old { heap = c.free_here.new.self } in
    let decided : Decided number_in part_of_seat place e.0 (e.0 - 1)
    ((word_of place, word_generation e.0) ∷ []) old new =
    held_decides number_in part_of_seat place e.0 (e.0 - 1)
    ((word_of place, word_generation e.0) ∷ []) old new c.settled.ensures.once (stepped_as e.2) refl
    (freed_word_after e.0 e.1).0 (λ es. is_ended (word_of place) e.0 es e.1) in
    (e.0, (e.1, decided), e.3))

pub returns-in-Err-clause-any_hand : goal.returns-in-Err-clause-any_hand
returns-in-Err-clause-any_hand g c =
    rw (sym c.deref_mut-inner.ensures.value)
    (λ is.
    absurd
    (true≢false
    (sym is ∙ ap is_done c.refused_answer.ensures ∙ not_refused c.in-Err.refused)))

pub returns-in-Err-clause-once : goal.returns-in-Err-clause-once
returns-in-Err-clause-once g c =
    rw (sym c.deref_mut-inner.ensures.value)
    (let e = c.in-Err.ensures.denied (held_by _ c.deref_mut-inner.ensures.value c.requires) in
    held_once number_in part_of_seat c.args.handle.place e.0 e.0 (had_in
    c.deref_mut-inner.result.now)
    (record (had_in c.deref_mut-inner.result.now) { heap = c.free_here.new.self })
    c.settled.ensures.once (stepped_as e.3))

pub returns-clause-once : goal.returns-clause-once
returns-clause-once g c =
    rw (sym c.deref_mut-inner.ensures.value)
    (let e = c.in_default.ensures.freed in
    held_once number_in part_of_seat c.args.handle.place e.0 (e.0 - 1) (had_in
    c.deref_mut-inner.result.now)
    (record (had_in c.deref_mut-inner.result.now) { heap = c.free_here.new.self })
    c.settled.ensures.once (stepped_as e.2))
