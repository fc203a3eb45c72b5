-- An instance: several workers free one block, each in steps of its own.
use Rattle.std.specs.Prelude.{◌≡◌, ℕ, ◌≤◌, Bool, true, false, List, [], ◌∷◌, ◌++◌, map}
use Rattle.std.specs.Prelude.{slice_set, All}
use Rattle.std.specs.List.{range_with_len}
use mathlib.Core.Option.{Option, none, some}
use lib.ListN.{get_elem?}
use Rattle.hg_history.specs.History.{log_of}
use Rattle.hg_history.specs.Service.{Service, IsIn}
use Rattle.hg_history.specs.Laws.{KeepsOneRun}

-- the machine's state is whether the block lives; a call is answered whether it has freed it
abbrev pub Frees : Bool → ℕ → Bool → Bool → Type 0
Frees lives worker done after = (done ≡ lives) × (after ≡ false)

-- where a worker stands: before its call, or after a look at the word, which showed that the block
-- lives; or it knows that the block was freed
pub data Stage : Type 0 where
  before : Stage
  looked : Stage
  knows : Stage

pub record Worker : Type 0 where
  pub name : ℕ
  pub stage : Stage
  pub log : List Bool

-- The next step of a worker at a word that shows whether the block lives. It looks, and where the
-- block is freed it is answered no; where it has looked it exchanges the word, and is answered what
-- this found; where it knows that the block was freed it is answered no without a look
abbrev pub left : Stage → Bool → Bool
left looked word = false
left stage word = word

abbrev pub stage_after : Stage → Bool → Stage
stage_after before true = looked
stage_after stage word = knows

abbrev pub said : Stage → Bool → List Bool
said before true = []
said before false = false ∷ []
said looked word = word ∷ []
said knows word = false ∷ []

abbrev pub moved : Bool → Worker → Worker
moved word worker = record {
  name = worker.name;
  stage = stage_after worker.stage word;
  log = worker.log ++ said worker.stage word;
}

-- the word and the workers after one has made its next step
abbrev pub after_one : Option Worker → ℕ → Bool → List Worker → Bool × List Worker
after_one none i word workers = (word, workers)
after_one (some worker) i word workers =
    (left worker.stage word, slice_set workers i (moved word worker))

-- and after each number of a schedule has made one
abbrev pub after_all : List ℕ → Bool → List Worker → Bool × List Worker
after_all [] word workers = (word, workers)
after_all (i ∷ schedule) word workers =
    let now = after_one (get_elem? workers i) i word workers in
    after_all schedule now.0 now.1

abbrev pub new_worker : ℕ → Worker
new_worker name = record { name = name; stage = before; log = [] }

-- so many workers that haven't begun, and a block that lives
abbrev pub after_schedule : ℕ → List ℕ → Bool × List Worker
after_schedule count schedule =
    after_all schedule true (map new_worker (range_with_len 0 count))

-- it knows only what is so
abbrev pub Knows : Worker → Bool → Type 0
Knows worker lives = worker.stage ≡ knows → lives ≡ false

-- as a service: the word shows whether the block lives, and each worker is one part
abbrev pub freeing : ℕ → Service Bool Bool Bool Worker
freeing count = record {
  Steps = Frees;
  start = true;
  Shows = λ word lives. word ≡ lives;
  Agrees = Knows;
  count = count;
  name = λ worker. worker.name;
  log = λ worker. worker.log;
}

-- the rule holds of them at the start, and each step and each change of seats keeps it
abbrev pub SeatsKeepOneHistory : Type 0
SeatsKeepOneHistory = (count : ℕ) → KeepsOneRun (freeing count)

-- the first call frees, and no later one
abbrev pub FirstAlone : List (ℕ × Bool) → Type 0
FirstAlone [] = Unit {0}
FirstAlone (made ∷ more) = (made.1 ≡ true) × All (λ later. later.1 ≡ false) more

-- whatever the schedule, there is a history that has of each worker what it has logged, and no call
-- of anybody else; and the first call in it has freed the block, and no other
abbrev pub FirstFreesAlone : Type 0
FirstFreesAlone =
    (count : ℕ) (schedule : List ℕ) → (history : List (ℕ × Bool)) × FirstAlone history
    × ((i : ℕ) (worker : Worker) → IsIn (after_schedule count schedule).1 i worker
    → log_of i history ≡ worker.log)
    × ((name : ℕ) → count ≤ name → log_of name history ≡ [])
