-- What a core that is asked in a search answers.
use Rattle.std.proofs.Common.{◌≡◌, ℕ, ◌<◌, Bool, true, false, cond, is_none}
use Rattle.std.proofs.Common.{is_some, List, length, get_or, set, Option, Some, None, refl, sym, ap}
use Rattle.std.proofs.Common.{subst, ◌∙◌, All}
use Rattle.std.proofs.lemmas.List.{set-get_or}
use Rattle.std.proofs.lemmas.Option.{slice_get-get_or}
use Rattle.std.specs.Prelude.{slice_get}
use Rattle.hg_heap.specs.declared.refused.Refused.{Refused}
use Rattle.hg_heap.specs.declared.refused.Refused.TheVariants as refused
use Rattle.hg_heap.specs.Answers.{refused_answer}
use Rattle.hg_place.specs.declared.Actor.{Actor}
use Rattle.hg_place.specs.declared.Handle.{Handle}
use Rattle.hg_machine.specs.declared.Answer.{Answer}
use Rattle.hg_machine.specs.declared.Answer.TheVariants as answer
use Rattle.hg_machine.specs.declared.Event.{Event}
use Rattle.hg_machine.specs.declared.Event.TheVariants as event
use Rattle.hg_machine.specs.Holders.{next_of}
use Rattle.hg_machine.specs.Lists.{Kept, IsPartition}
use Rattle.hg_machine.specs.Request.{size_of}
use Rattle.hg_machine.specs.Room.{has_room}
use Rattle.hg_machine.specs.Soundness.{IsSound}
use Rattle.hg_choice.specs.ChosenSteps.{ChosenStep}
use Rattle.hg_choice.specs.ListsAfter.{lists_after}
use Rattle.hg_choice.specs.QueuesAfter.{queues_after}
use Rattle.hg_choice.proofs.ChoiceLemmas.{same_kept}
use Rattle.hg_laws.specs.Asked.{is_refusal}
use Rattle.hg_laws.proofs.Refusals.{was_served, was_refused}
use Rattle.hg_bank.specs.Choosing.{FitsIn, IsServedIn}
use Rattle.hg_bank.specs.Requests.{passes, has_room_in, has_segment_in}
use Rattle.hg_bank.proofs.AllocLemmas.{passed_over, had_room}

refuses : (r : Refused) → is_refusal (refused_answer r) ≡ true
refuses (refused.Denied rule) = refl
refuses refused.TooLarge = refl
refuses refused.NoRoom = refl
refuses refused.Elsewhere = refl
refuses refused.OutOfBlock = refl

none_left : (o : Option ℕ) → cond (is_none o) (Some answer.NoSegment) None ≡ None
    → is_some o ≡ true
none_left None e = absurd (cc)
none_left (Some n) e = refl

pub some_left : (o : Option ℕ) (a : Answer) → cond (is_none o) (Some answer.NoSegment) None ≡ Some a
    → is_some o ≡ false
some_left None a e = refl
some_left (Some n) a e = absurd (cc)

-- the core at a number
pub record IsAsked (cores : List Kept) (at : ℕ) (was : Kept) : Type 0 where
  pub there : was ≡ get_or cores at was
  pub below : at < length cores

module _ {cores : List Kept} {at : ℕ} {was : Kept} (asked : IsAsked cores at was) (worker : ℕ)
    (next : Kept) where
  stands : slice_get cores at ≡ Some was
  stands = slice_get-get_or cores at was asked.below ∙ ap Some (sym asked.there)

  passes_at : (test : Kept → Bool) → passes test (slice_get cores at) ≡ test was
  passes_at test = ap (passes test) stands

  pub still : next ≡ was → set cores at next ≡ cores
  still e = ap (set cores at) (e ∙ asked.there) ∙ set-get_or cores at was

  pub served_in : (e : Event) (a : Answer) → ChosenStep was worker e a next
      → IsSound next.state × IsPartition next → IsServedIn cores worker e at a (set cores at next)
  served_in e a step kept = record {
    was = was;
    next = next;
    there = stands;
    step = step;
    sound = kept.0;
    lists = kept.1;
    after = refl;
  }

  module _ (actor : Actor) (arena bytes : ℕ) (fits : All (FitsIn worker actor arena bytes) cores)
    where
      pub fits_at : FitsIn worker actor arena bytes was
      fits_at = subst (FitsIn worker actor arena bytes) (sym asked.there) (fits at was asked.below)

      -- a core without room is passed over as it was
      pub without_room : (r : Refused)
          → ChosenStep was worker (event.Alloc actor arena bytes) (refused_answer r) next
          → (next ≡ was) × (has_room_in cores worker arena (size_of bytes) at ≡ false)
      without_room r step =
          let e = event.Alloc actor arena bytes in
          let p = passed_over next.state fits_at (refused_answer r) (refuses r) step.step in (
            same_kept was next p.2 (step.lists ∙ ap (lists_after was worker e) p.1)
                (step.queues ∙ ap (queues_after was worker e) p.1),
            passes_at (λ k. has_room k.state worker arena (size_of bytes)) ∙ p.0,
          )

      pub with_room : (handle : Handle)
          → ChosenStep was worker (event.Alloc actor arena bytes) (answer.Block handle) next
          → has_room_in cores worker arena (size_of bytes) at ≡ true
      with_room handle step =
          passes_at (λ k. has_room k.state worker arena (size_of bytes))
          ∙ had_room next.state fits_at handle step.step

  -- and so is a core without a segment to take
  pub without_segment : (arena : ℕ)
      → ChosenStep was worker (event.Refill arena) answer.NoSegment next
      → (next ≡ was) × (has_segment_in cores arena at ≡ false)
  without_segment arena step =
      let r = was_refused was.state worker (event.Refill arena) answer.NoSegment next.state
      step.step refl in (
        same_kept was next r.same step.lists step.queues,
        passes_at (λ k. is_some (next_of k.state arena))
            ∙ some_left (next_of was.state arena) answer.NoSegment r.some,
      )

  pub with_segment : (arena segment : ℕ)
      → ChosenStep was worker (event.Refill arena) (answer.Refilled segment) next
      → has_segment_in cores arena at ≡ true
  with_segment arena segment step =
      let h = was_served was.state worker (event.Refill arena) (answer.Refilled segment) next.state
      step.step refl in
      passes_at (λ k. is_some (next_of k.state arena))
      ∙ none_left (next_of was.state arena) h.none
