-- Which core is current after a step.
use Rattle.std.proofs.Common.{◌≡◌, ◌≢◌, ◌⊎◌, inl, inr, ℕ, ◌<◌, List, [], get_or, set, Some}
use Rattle.std.proofs.Common.{refl, sym, ap, ◌∙◌, arith}
use Rattle.std.proofs.lemmas.Grind.{get_or-set_at}
use Rattle.std.proofs.lemmas.List.{get_or-set_other}
use Rattle.std.proofs.lemmas.Option.{none-some, same_Some}
use Rattle.hg_machine.specs.declared.Answer.{Answer}
use Rattle.hg_machine.specs.Policy.{Policy}
use Rattle.hg_machine.proofs.Keeps.{set_cases}
use Rattle.hg_bank.specs.Histories.{Entry, IsSinceOpening}
use Rattle.hg_bank.specs.Laws.{arena_asked, CurrentsMove}
use Rattle.hg_bank.specs.Opening.{opened_bank}
use Rattle.hg_bank.specs.Requests.{Request, server}
use Rattle.hg_bank.specs.State.{BankState, current_of}
use Rattle.hg_bank.specs.Steps.{BankStep}
use Rattle.hg_bank.proofs.RowLemmas.{AreRows, put, rows_after, by_arena}
use Rattle.hg_bank.proofs.StepCases.{step_cases}
use Rattle.hg_bank.proofs.UsualLemmas.{open_bank, usual_since}

-- the entry that was put
put_at : (workers : ℕ) (rows : List (List ℕ)) (worker arena core : ℕ) → AreRows workers rows
    → worker < workers → arena < 256 → current_of (put rows worker arena core) worker arena ≡ core
put_at workers rows worker arena core are inside below =
    let long = are.long in
    let wide = are.wide worker inside in
    let row = set (get_or rows worker []) arena core in
    ap (λ r. get_or r arena 0) (get_or-set_at rows worker worker row [] refl (omega arith))
    ∙ get_or-set_at (get_or rows worker []) arena arena core 0 refl (omega arith)

-- and the others
put_other : (rows : List (List ℕ)) (worker other at arena core : ℕ)
    → (other ≢ worker) ⊎ (arena ≢ at)
    → current_of (put rows worker at core) other arena ≡ current_of rows other arena
put_other rows worker other at arena core away =
    let row = set (get_or rows worker []) at core in
    elim away as
    (λ _. current_of (put rows worker at core) other arena ≡ current_of rows other arena) [
      | inl ne ↦ ap (λ r. get_or r arena 0) (get_or-set_other rows worker other row [] ne)
      | inr ne ↦
          elim (set_cases rows worker other row []) as
          (λ _. current_of (put rows worker at core) other arena ≡ current_of rows other arena) [
            | inl here ↦
                ap (λ r. get_or r arena 0) here.1
                ∙ get_or-set_other (get_or rows worker []) at arena core 0 ne
                ∙ ap (λ w. current_of rows w arena) (sym here.0)
            | inr same ↦ ap (λ r. get_or r arena 0) same
          ]
    ]

moves : (policy : Policy) (room : ℕ) (entries : List Entry) (old new : BankState) (worker : ℕ)
    (request : Request) (told : Answer) (arena core : ℕ)
    → IsSinceOpening policy room entries old
    → worker < policy.workers → arena < 256 → arena_asked request ≡ Some arena
    → server old worker request ≡ Some core → BankStep old worker request told new
    → current_of new.currents worker arena ≡ core
moves policy room entries old new worker request told arena core since inside below asks serves
    step =
    let usual = usual_since policy entries (opened_bank policy room) old since.sound
    (open_bank policy room since.sound) since.workers since.history in
    elim (step_cases old worker request told new step) as
    (λ _. current_of new.currents worker arena ≡ core) [
      | inl none ↦ absurd (none-some core (sym none.0 ∙ serves))
      | inr by ↦
          ap (λ rows. current_of rows worker arena) (rows_after by.2 arena asks)
          ∙ put_at policy.workers old.currents worker arena by.0 usual.rows inside below
          ∙ same_Some by.0 core (sym by.1 ∙ serves)
    ]

stay : (old new : BankState) (worker : ℕ) (request : Request) (told : Answer) (other arena : ℕ)
    → (other ≢ worker) ⊎ (arena_asked request ≢ Some arena)
    → BankStep old worker request told new
    → current_of new.currents other arena ≡ current_of old.currents other arena
stay old new worker request told other arena away step =
    elim (step_cases old worker request told new step) as
    (λ _. current_of new.currents other arena ≡ current_of old.currents other arena) [
      | inl none ↦ ap (λ b. current_of b.currents other arena) none.1.1
      | inr by ↦
          by_arena by.2
          (λ rows. current_of rows other arena ≡ current_of old.currents other arena) refl
          (λ at e. put_other old.currents worker other at arena by.0 (elsewhere at e))
    ]
  where
    elsewhere : (at : ℕ) → arena_asked request ≡ Some at → (other ≢ worker) ⊎ (arena ≢ at)
    elsewhere at e = elim away as (λ _. (other ≢ worker) ⊎ (arena ≢ at)) [
      | inl ne ↦ inl ne
      | inr ne ↦ inr (λ same. ne (e ∙ ap Some (sym same)))
    ]

pub currents_move : CurrentsMove
currents_move = record { moves = moves; stay = stay }
