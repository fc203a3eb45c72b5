-- The workers of a service that nobody has taken yet.
use Rattle.std.specs.Prelude.{◌≡◌, ℕ, Bool, true, false, List, Option, None, Some, slice_get}
use Rattle.hg_service.specs.declared.worker.Worker.{Worker}
use Rattle.hg_service.specs.New.{IsNew}

module _ {N : _} {own : _} {table : _} where
  -- it holds nothing, has nothing in hand, and its seat knows nothing
  abbrev pub IsNewOwn : ℕ → Worker N own table → Type 0
  IsNewOwn number worker = IsNew number worker.own

  -- each that is there is new, and at its number
  abbrev pub AreReady : List (Option (Worker N own table)) → Type 0
  AreReady workers =
      (k : ℕ) (worker : Worker N own table) → slice_get workers k ≡ Some (Some worker)
      → IsNewOwn k worker

  abbrev pub is_there : Option (Option (Worker N own table)) → Bool
  is_there None = false
  is_there (Some None) = false
  is_there (Some (Some worker)) = true

  -- the one of this number is there
  abbrev pub is_ready : List (Option (Worker N own table)) → ℕ → Bool
  is_ready workers number = is_there (slice_get workers number)
