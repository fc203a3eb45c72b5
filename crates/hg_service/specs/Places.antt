-- Workers that have left, in the places of their numbers.
use Rattle.std.specs.Prelude.{◌≡◌, ℕ, List, [], Option, Some, slice_get}
use Rattle.hg_worker.specs.declared.worker.Worker.{Worker as Own}

module _ {N : _} {own : _} {table : _} where
  -- each stands at its number
  abbrev pub AreTheirs : List (Option (Own N own table)) → Type 0
  AreTheirs workers =
      (k : ℕ) (worker : Own N own table) → slice_get workers k ≡ Some (Some worker)
      → worker.inner.value.number ≡ k

  -- none holds a segment
  abbrev pub HoldNothing : List (Option (Own N own table)) → Type 0
  HoldNothing workers =
      (k : ℕ) (worker : Own N own table) → slice_get workers k ≡ Some (Some worker)
      → worker.inner.value.heap.segments ≡ []
