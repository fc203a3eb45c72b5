-- Workers that are back where they came from, to close.
use Rattle.std.specs.Prelude.{◌≡◌, ℕ, ◌<◌, ◌==◌, ◌&&◌, Bool, true, false, List, is_none}
use Rattle.std.specs.List.{list_any}
use Rattle.hg_worker.specs.declared.worker.Worker.{Worker as Own}

module _ {N : _} {own : _} {table : _} where
  -- it is the worker of this number, with nothing in hand
  abbrev pub is_back : ℕ → Own N own table → Bool
  is_back number worker = worker.inner.value.number == number && is_none worker.inner.value.hand

  -- so many workers are there so
  abbrev pub AreBack : List (Own N own table) → ℕ → Type 0
  AreBack workers count = (number : ℕ) → number < count → list_any (is_back number) workers ≡ true

  -- the lowest of so many that isn't
  pub record IsFirstOut (workers : List (Own N own table)) (count number : ℕ) : Type 0 where
    pub below : number < count
    pub out : list_any (is_back number) workers ≡ false
    pub lower : AreBack workers number
