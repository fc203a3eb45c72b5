-- Laws: the rule holds at the start, each step and each change of seats keeps it, and who has all
-- parts knows the history.
use Rattle.std.specs.Prelude.{◌≢◌, ℕ, List, [], ◌∷◌, ◌++◌, map, slice_set}
use Rattle.hg_history.specs.Service.{Service, IsIn}
use Rattle.hg_history.specs.OneRun.{IsOneRun, IsNew, HasAll, IsWhole}
use Rattle.hg_history.specs.Steps.{Decides}

-- views of parts that are new; a step, which changes what is shared and the view of its seat; one
-- seat takes in all parts of another; the view of a seat is cut, and a new one has the rest
pub record KeepsOneRun {M C W P : Type 0} (x : Service M C W P) : Type 0 where
  pub opened : (shared : W) (views : List (List P)) → IsNew x shared views → IsOneRun x shared views
  pub decided :
      (before after : W) (views : List (List P)) (i : ℕ) (view : List P) (made : List (ℕ × C))
      (change : P → P)
      → IsOneRun x before views → IsIn views i view → Decides x made before after view change
      → IsOneRun x after (slice_set views i (map change view))
  pub joined :
      (shared : W) (views : List (List P)) (i k : ℕ) (one other : List P)
      → IsOneRun x shared views → IsIn views i one → k ≢ i → IsIn views k other
      → IsOneRun x shared (slice_set (slice_set views i (one ++ other)) k [])
  pub split :
      (shared : W) (views : List (List P)) (i : ℕ) (one other : List P)
      → IsOneRun x shared views → IsIn views i (one ++ other)
      → IsOneRun x shared (slice_set views i one ++ other ∷ [])
  pub ended :
      (shared : W) (views : List (List P)) (i : ℕ) (view : List P)
      → IsOneRun x shared views → IsIn views i view → HasAll x view → IsWhole x shared view

-- so it is with every service
abbrev pub OneHistory : Type 1
OneHistory = (M C W P : Type 0) (x : Service M C W P) → KeepsOneRun x
