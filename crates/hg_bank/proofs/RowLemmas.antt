-- The rows of current cores, and what a step does to them.
use Rattle.std.proofs.Common.{◌≡◌, inl, inr, ℕ, ◌<◌, List, [], length, get_or, set, replicate, Some}
use Rattle.std.proofs.Common.{refl, sym, ap, subst, ◌∙◌}
use Rattle.std.proofs.lemmas.List.{length-set, length-replicate, get_or-replicate}
use Rattle.std.proofs.lemmas.Option.{none-some, same_Some}
use Rattle.hg_machine.specs.declared.Answer.{Answer}
use Rattle.hg_machine.proofs.Keeps.{set_cases}
use Rattle.hg_bank.specs.Laws.{arena_asked}
use Rattle.hg_bank.specs.Requests.{Request, alloc, refill, named}
use Rattle.hg_bank.specs.State.{BankState, with_core, with_current}
use Rattle.hg_bank.specs.Steps.{IsServedBy, moved}

-- there is a row for each worker, with an entry for each number of an arena
pub record AreRows (workers : ℕ) (rows : List (List ℕ)) : Type 0 where
  pub long : length rows ≡ workers
  pub wide : (worker : ℕ) → worker < workers → length (get_or rows worker []) ≡ 256

pub open_rows : (workers : ℕ) → AreRows workers (replicate workers (replicate 256 0))
open_rows workers = record {
  long = length-replicate workers (replicate 256 0);
  wide = λ worker below.
      ap length (get_or-replicate workers worker (replicate 256 0) [] below)
      ∙ length-replicate {A = ℕ} 256 0;
}

-- a row with another current core
abbrev pub put : List (List ℕ) → ℕ → ℕ → ℕ → List (List ℕ)
put rows worker arena core = set rows worker (set (get_or rows worker []) arena core)

pub put_rows : (workers : ℕ) (rows : List (List ℕ)) (worker arena core : ℕ) → AreRows workers rows
    → worker < workers → AreRows workers (put rows worker arena core)
put_rows workers rows worker arena core are inside = record {
  long = length-set rows worker (set (get_or rows worker []) arena core) ∙ are.long;
  wide = λ other below.
      elim (set_cases rows worker other (set (get_or rows worker []) arena core) []) as
      (λ _. length (get_or (put rows worker arena core) other []) ≡ 256) [
        | inl here ↦
            ap length here.1 ∙ length-set (get_or rows worker []) arena core
            ∙ are.wide worker inside
        | inr away ↦ ap length away ∙ are.wide other below
      ];
}

-- what was asked of an arena moves its current core, and what was not moves none
moved_in : (request : Request) (arena worker core : ℕ) (b : BankState)
    → arena_asked request ≡ Some arena
    → moved request worker core b ≡ with_current b worker arena core
moved_in (alloc actor at bytes) arena worker core b e =
    ap (λ n. with_current b worker n core) (same_Some at arena e)
moved_in (refill at) arena worker core b e =
    ap (λ n. with_current b worker n core) (same_Some at arena e)
moved_in (named at asked) arena worker core b e = absurd (none-some arena e)

module _ {old new : BankState} {worker : ℕ} {request : Request} {told : Answer} {core : ℕ}
    (is : IsServedBy old worker request told new core) where
  pub rows_after : (arena : ℕ) → arena_asked request ≡ Some arena
      → new.currents ≡ put old.currents worker arena core
  rows_after arena e =
      ap (λ b. b.currents)
      (is.after ∙ moved_in request arena worker core (with_core old core is.next) e)

  -- by whether an arena was asked
  pub by_arena : (P : List (List ℕ) → Type 0) → P old.currents
      → ((arena : ℕ) → arena_asked request ≡ Some arena → P (put old.currents worker arena core))
      → P new.currents
  by_arena P same moves = subst (λ b. P b.currents) (sym is.after) (each request moves)
    where
      each : (r : Request)
          → ((arena : ℕ) → arena_asked r ≡ Some arena → P (put old.currents worker arena core))
          → P (moved r worker core (with_core old core is.next)).currents
      each (alloc actor arena bytes) h = h arena refl
      each (refill arena) h = h arena refl
      each (named at asked) h = same
