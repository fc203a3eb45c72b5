use Rattle.std.proofs.Common.{◌≡◌, [], None, refl, sym, ap, ◌∙◌}
use Rattle.hg_place.specs.Lives.{live_word}
use Rattle.hg_heap.specs.Held.{Held}
use Rattle.hg_heap.specs.Ties.{shown_at}
use Rattle.hg_heap.specs.declared.refused.Refused.{Refused}
use Rattle.hg_heap.specs.Answers.{refused_answer}
use Rattle.hg_machine.specs.declared.Answer.{Answer}
use Rattle.hg_machine.specs.declared.Answer.TheVariants as answer
use Rattle.hg_machine.specs.declared.Event.TheVariants as event
use Rattle.hg_machine.specs.Request.{size_of}
use Rattle.hg_worker.specs.Answers.{block_in}
use Rattle.hg_worker.specs.Had.{hand_place, hand_generation}
use Rattle.hg_worker.specs.Seats.{number_in, part_of_seat}
use Rattle.hg_worker.specs.Seen.{word_of, Decided}
use Rattle.hg_worker.specs.Workers.{had_in}
use Rattle.hg_worker.proofs.Allocs.{no_block, by_none, if_no_block, given_follows, given_arena}
use Rattle.hg_worker.proofs.Allocs.{live_ends_none}
use Rattle.hg_heap.specs.declared.refused.Refused.TheVariants as refused
use Rattle.hg_heap.specs.Records.{record_in}
use Rattle.hg_worker.specs.Seats.{records_in}
use Rattle.hg_worker.proofs.Records.{same_goes, given_goes}
use Rattle.hg_worker.proofs.Seats.{machines_shown, machines_unseen, machines_any}
use Rattle.std.specs.Prelude.{Option, Some, Err, IfNone}
use Rattle.hg_worker.proofs.Steps.{either_way, held_decides}
use Rattle.hg_worker.proofs.Tables.{allotted_as, stepped_as}
use Rattle.hg_worker.proofs.Workers.{Stays, stepped_stays, same_stays, whole_of}
use Rattle.hg_worker.proofs.worker.Worker.alloc.Goals as goal

pub invariant_of-inner : goal.invariant_of-inner
invariant_of-inner g c =
    let s = c.deref_mut-inner.result.now in
    let new = c.alloc.new.self in
    let stays : Stays s new =
    either_way c.alloc.result _ _ c.alloc.ensures.given c.alloc.ensures.refused
    (λ handle e. stepped_stays s new handle.place e.0.word
    (live_word handle.generation c.args.actor.0) e.0.stepped) (λ _ e. same_stays s new e.0) in
    record {
      sound = s.sound;
      below = s.below;
      words = s.words;
      of = stays.of;
      together = stays.together;
      reach = s.reach;
      known = stays.known;
    }

pub returns-in-Ok-clause-alloc : goal.returns-in-Ok-clause-alloc
returns-in-Ok-clause-alloc g c =
    rw (sym c.deref_mut-inner.ensures.value)
    (let s = c.deref_mut-inner.result.now in
    let old = had_in s in
    let handle = c.in-Ok.handle in
    let place = handle.place in
    let given = c.in-Ok.ensures.given.0 in
    let ties = c.in-Ok.ensures.given.1 s.number (hand_place s.hand) (hand_generation s.hand)
    s.below in
    let new = record old { heap = c.alloc.new.self } in
    let arena = given_arena s.policy (size_of c.args.bytes) c.args.actor.0 handle s.heap.segments
    c.alloc.new.self.segments given s.of in
    let decided : Decided number_in part_of_seat place given.word
    (live_word handle.generation c.args.actor.0) [] old new =
    held_decides number_in part_of_seat place given.word
    (live_word handle.generation c.args.actor.0) [] old new c.settled.ensures.once
    (stepped_as given.stepped) refl
    (given_follows s.policy (size_of c.args.bytes) c.args.actor.0 handle s.heap.segments
    c.alloc.new.self.segments given)
    (live_ends_none (word_of place) given.word handle.generation c.args.actor.0) in (
      given.word,
      decided,
      machines_shown old new place given.word arena.0
          (event.Alloc c.args.actor c.args.arena c.args.bytes) (answer.Block handle)
          (shown_at place (live_word handle.generation c.args.actor.0))
          (whole_of s c.settled.ensures.each) arena.1 decided.shown ties,
    ))

pub returns-in-Err-clause-alloc : goal.returns-in-Err-clause-alloc
returns-in-Err-clause-alloc g c =
    rw (sym c.deref_mut-inner.ensures.value)
    (let s = c.deref_mut-inner.result.now in
    let old = had_in s in
    let e = c.in-Err.ensures.refused in
    let new = record old { heap = c.alloc.new.self } in
    let ties = e.1 None s.number (hand_place s.hand) (hand_generation s.hand) s.below in
    by_none (block_in c.refused_answer.result) _ _
    (ap block_in c.refused_answer.ensures ∙ no_block c.in-Err.refused)
    (machines_unseen old new (event.Alloc c.args.actor c.args.arena c.args.bytes)
    c.refused_answer.result None (whole_of s c.settled.ensures.each)
    (rw (c.refused_answer.ensures, e.0) ties)))

-- a refusal of the heap is no block
refusal : (why : Refused) (answer : Answer) → answer ≡ refused_answer why
    → block_in answer ≡ None
refusal why answer is = ap block_in is ∙ no_block why

pub returns-in-Err-clause-given : goal.returns-in-Err-clause-given
returns-in-Err-clause-given g c =
    rw (sym c.deref_mut-inner.ensures.value)
    (if_no_block _ _ (refusal c.in-Err.refused c.refused_answer.result c.refused_answer.ensures))

pub returns-in-Err-clause-chosen : goal.returns-in-Err-clause-chosen
returns-in-Err-clause-chosen g c =
    rw (sym c.deref_mut-inner.ensures.value)
    (if_no_block _ _ (refusal c.in-Err.refused c.refused_answer.result c.refused_answer.ensures))

pub returns-in-Ok-clause-given : goal.returns-in-Ok-clause-given
returns-in-Ok-clause-given g c =
    rw (sym c.deref_mut-inner.ensures.value)
    (c.in-Ok.ensures.given.0)

pub returns-in-Err-clause-lists : goal.returns-in-Err-clause-lists
returns-in-Err-clause-lists g c =
    rw (sym c.deref_mut-inner.ensures.value)
    (if_no_block _ _ (refusal c.in-Err.refused c.refused_answer.result c.refused_answer.ensures))

pub returns-in-Err-clause-queues : goal.returns-in-Err-clause-queues
returns-in-Err-clause-queues g c =
    rw (sym c.deref_mut-inner.ensures.value)
    (if_no_block _ _ (refusal c.in-Err.refused c.refused_answer.result c.refused_answer.ensures))

only_no_room : (why : Refused) → refused_answer why ≡ answer.NoRoom → why ≡ refused.NoRoom
only_no_room (refused.Denied rule) e = absurd (cc)
only_no_room refused.TooLarge e = absurd (cc)
only_no_room refused.NoRoom e = refl
only_no_room refused.Elsewhere e = absurd (cc)
only_no_room refused.OutOfBlock e = absurd (cc)

where_none : {X : Type 0} (o : Option X) (P : Type 0) → P → IfNone o P
where_none None P p = p
where_none (Some x) P p = tt

pub returns-in-Err-clause-no_room : goal.returns-in-Err-clause-no_room
returns-in-Err-clause-no_room g c =
    rw (sym c.deref_mut-inner.ensures.value)
    (λ is.
    c.alloc.ensures.no_room
    (c.in-Err.is
    ∙ ap Err (only_no_room c.in-Err.refused (sym c.refused_answer.ensures ∙ is))))

pub returns-in-Err-clause-unchanged : goal.returns-in-Err-clause-unchanged
returns-in-Err-clause-unchanged g c =
    rw (sym c.deref_mut-inner.ensures.value)
    (where_none (block_in c.refused_answer.result) _ c.in-Err.ensures.refused.0)

pub returns-in-Err-clause-any : goal.returns-in-Err-clause-any
returns-in-Err-clause-any g c =
    rw (sym c.deref_mut-inner.ensures.value)
    (let s = c.deref_mut-inner.result.now in
    let old = had_in s in
    let e = c.in-Err.ensures.refused in
    let new = record old { heap = c.alloc.new.self } in
    where_none (block_in c.refused_answer.result) _
    (λ shown may.
    let ties = e.1 shown s.number (hand_place s.hand) (hand_generation s.hand) s.below in
    machines_any old new shown (event.Alloc c.args.actor c.args.arena c.args.bytes)
    c.refused_answer.result shown (whole_of s c.settled.ensures.each) may
    (rw (c.refused_answer.ensures, e.0) ties)))

pub returns-in-Err-clause-home : goal.returns-in-Err-clause-home
returns-in-Err-clause-home g c =
    rw (sym c.deref_mut-inner.ensures.value)
    (same_goes number_in records_in _ _
    (λ place.
    ap (λ (h : Held _). record_in number_in records_in h.segments place)
    c.in-Err.ensures.refused.0))

pub returns-in-Ok-clause-no_room : goal.returns-in-Ok-clause-no_room
returns-in-Ok-clause-no_room g c =
    rw (sym c.deref_mut-inner.ensures.value)
    (λ is. absurd (cc))

pub returns-in-Ok-clause-home : goal.returns-in-Ok-clause-home
returns-in-Ok-clause-home g c =
    rw (sym c.deref_mut-inner.ensures.value)
    (given_goes number_in records_in part_of_seat c.settled.ensures.once
    (allotted_as c.in-Ok.ensures.given.0))

pub returns-in-Err-clause-any_hand : goal.returns-in-Err-clause-any_hand
returns-in-Err-clause-any_hand g c =
    rw (sym c.deref_mut-inner.ensures.value)
    (where_none (block_in c.refused_answer.result) _
    (λ shown. rw (c.refused_answer.ensures, c.in-Err.ensures.refused.0)
    (c.in-Err.ensures.refused.1 shown)))
