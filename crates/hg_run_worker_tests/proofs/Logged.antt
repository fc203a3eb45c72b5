-- What a worker has logged stays logged, and the last call is there.
use Rattle.std.proofs.Common.{◌≡◌, ℕ, suc, ◌+◌, Bool, true, map, arith, List, [], ◌∷◌, ◌++◌, length, refl, inl, subst, sym}
use Rattle.std.specs.Prelude.{Result, Ok, Err, Option, Some, None, IfSome, is_ok, slice_get}
use Rattle.std.specs.List.{AllZip, range_with_len}
use Rattle.atomic_table.specs.Seated.{TableId}
use Rattle.std.proofs.lemmas.Bool.{true≢false}
use Rattle.hg_place.specs.declared.Actor.{Actor}
use Rattle.hg_place.specs.declared.Handle.{Handle}
use Rattle.hg_machine.specs.declared.Answer.TheVariants as answer
use Rattle.hg_machine.specs.declared.Event.TheVariants as event
use Rattle.hg_history.specs.Service.{IsIn}
use Rattle.hg_history.proofs.Views.{at_first, at_second}
use Rattle.hg_heap.specs.Answers.{done_answer}
use Rattle.hg_heap.specs.declared.refused.Refused.{Refused}
use Rattle.hg_roles.specs.Roles.{Call, of_remote}
use Rattle.hg_run_table.specs.declared.table.RunSeat.{RunSeat}
use Rattle.hg_run_table.specs.JoinedCalls.{IsOthers}
use Rattle.hg_run_table.specs.NewSeats.{IsNewOther}
use Rattle.hg_run_table.specs.Calls.{log_in}
use Rattle.hg_run_worker.specs.declared.worker.RunWorker.{RunWorker}
use Rattle.hg_run_worker_tests.specs.Frees.{HasLogged}

pub logged_still : (handle : Handle) (old new : RunWorker) (more : List Call)
    → log_in new.call ≡ log_in old.call ++ more → HasLogged handle old → HasLogged handle new
logged_still handle old new more longer had = record {
  at = had.at;
  call = had.call;
  there =
      subst (λ (calls : List Call). IsIn calls had.at had.call) (sym longer)
      (at_first (log_in old.call) more had.at had.call had.there);
  freed = had.freed;
}

pub free_logged : {X : Type 0} (actor : Actor) (handle : Handle) (old new : RunWorker)
    (r : Result X Refused)
    → log_in new.call ≡ log_in old.call ++ (event.Free actor handle, done_answer r) ∷ []
    → is_ok r ≡ true → HasLogged handle new
free_logged actor handle old new (Ok done) longer ok =
    let call : Call = (event.Free actor handle, answer.Done) in
    record {
      at = length (log_in old.call) + 0;
      call = call;
      there =
          subst (λ (calls : List Call). IsIn calls (length (log_in old.call) + 0) call) (sym longer)
          (at_second (log_in old.call) (call ∷ []) 0 call refl);
      freed = record { actor = actor; asked = refl; served = inl refl };
    }
free_logged actor handle old new (Err refused) longer ok = absurd (true≢false (sym ok))

-- the lists of a new table, by their numbers
pub all_lists : {id : TableId} (from : ℕ) (items : List RunSeat)
    → ((k : ℕ) (seat : RunSeat) → slice_get items k ≡ Some seat
    → IsNewOther id (of_remote (from + k) []) seat)
    → AllZip IsOthers items (map (λ k. of_remote k []) (range_with_len from (length items)))
all_lists from [] each = tt
all_lists {id} from (x ∷ xs) each = (
  (let here : from + 0 ≡ from = omega arith in
      subst (λ n. IsOthers x (of_remote n [])) here (each 0 x refl).part),
  all_lists (from + 1) xs
      (λ k seat e.
      (let next : from + suc k ≡ from + 1 + k = omega arith in
      subst (λ n. IsNewOther id (of_remote n []) seat) next (each (suc k) seat e))),
)

-- both have freed it, if they have logged so, never
pub never_both : (o : Option (Bool × Bool)) (one two : RunWorker)
    → IfSome o (λ freed.
    (handle : Handle) × (freed.0 ≡ true → HasLogged handle one)
    × (freed.1 ≡ true → HasLogged handle two))
    → ((handle : Handle) → HasLogged handle one → HasLogged handle two → ⊥)
    → IfSome o (λ freed. (freed.0 ≡ true) × (freed.1 ≡ true) → ⊥)
never_both None one two logged law = tt
never_both (Some freed) one two logged law =
    λ both. law logged.0 (logged.1 both.0) (logged.2 both.1)
