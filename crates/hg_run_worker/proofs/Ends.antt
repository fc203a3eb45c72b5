-- How a step of a heap ends a call.
use Rattle.std.proofs.Common.{◌≡◌, ℕ, ◌-◌, List, Result, Ok, Err, OnOk, IfErr, refl, sym, subst}
use Rattle.std.proofs.lemmas.Bool.{eqb-true}
use Rattle.hg_place.specs.declared.Actor.{Actor}
use Rattle.hg_place.specs.declared.Handle.{Handle}
use Rattle.hg_place.specs.Places.{number_of}
use Rattle.hg_place.specs.Lives.{IsLiveWord}
use Rattle.hg_machine.specs.Policy.{Policy}
use Rattle.hg_machine.specs.declared.Event.TheVariants as event
use Rattle.hg_machine.specs.declared.Answer.TheVariants as answer
use Rattle.hg_machine.specs.declared.Rule.{Rule}
use Rattle.hg_segment.specs.Kept.{Kept}
use Rattle.hg_heap.specs.Answers.{done_answer}
use Rattle.hg_heap.specs.Ties.{HeapTies, Stepped, shown_at}
use Rattle.hg_heap.specs.declared.refused.Refused.{Refused}
use Rattle.hg_heap.specs.declared.refused.Refused.TheVariants.{Denied}
use Rattle.hg_run_table.specs.declared.segment.RunSegment.{RunSegment}
use Rattle.hg_run_worker.specs.AtWork.{number_in, records_in, shows_in, steps_in}
use Rattle.hg_run_worker.specs.Lent.{IsTiedStep}

module _ (policy : Policy) (actor : Actor) (handle : Handle) (ys zs : List (Kept RunSegment)) where
  abbrev Freed : Type 0
  Freed =
      (word : ℕ) × IsLiveWord word
      × Stepped number_in shows_in steps_in handle.place word (word - 1) ys zs
      × HeapTies number_in records_in policy (shown_at handle.place word) (shown_at handle.place (word - 1))
      (event.Free actor handle) answer.Done ys zs

  abbrev IsDenied : Refused → Type 0
  IsDenied refused =
      (word : ℕ) × (rule : Rule) × (refused ≡ Denied rule)
      × Stepped number_in shows_in steps_in handle.place word word ys zs
      × HeapTies number_in records_in policy (shown_at handle.place word) (shown_at handle.place word)
      (event.Free actor handle) (answer.Denied rule) ys zs

  -- a free is one step, which is tied with its answer
  pub free_ends : {X : Type 0} (r : Result X Refused) → OnOk r Freed → IfErr r IsDenied
      → (word : ℕ) × (left : ℕ)
      × IsTiedStep policy handle.place.segment handle.place word left (event.Free actor handle)
      (done_answer r) ys zs
  free_ends (Ok x) freed denied = (
    freed.0,
    freed.0 - 1,
    record {
      inside = refl;
      stepped = freed.2;
      ties = freed.3;
      alone = λ other t. sym (eqb-true (number_of handle.place) other t);
    },
  )
  free_ends {X = X} (Err refused) freed denied = (
    denied.0,
    denied.0,
    record {
      inside = refl;
      stepped = denied.3;
      ties =
          subst
          (λ f.
          HeapTies number_in records_in policy (shown_at handle.place denied.0)
          (shown_at handle.place denied.0) (event.Free actor handle) (done_answer {X = X} (Err f)) ys zs)
          (sym denied.2) denied.4;
      alone = λ other t. sym (eqb-true (number_of handle.place) other t);
    },
  )
