-- What a worker gives up before it leaves.
use Rattle.std.specs.Prelude.{◌≡◌, ℕ, List, [], ◌∷◌}
use Rattle.std.specs.List.{range_with_len}
use Rattle.hg_place.specs.declared.geometry.TheConstants.{MAX_SEGMENTS}
use Rattle.hg_machine.specs.declared.Answer.{Answer}
use Rattle.hg_heap.specs.Held.{Held}
use Rattle.hg_service.specs.Behind.{Abandons}

-- all segments that there may be, rising
unfoldable pub all_segments : List ℕ
all_segments = range_with_len 0 MAX_SEGMENTS

module _ {S : Type 0} (number : S → ℕ) where
  -- each of these segments, one after the other, goes to a pool if it is held
  abbrev pub AbandonsEach : List ℕ → Held S → Held S → Type 0
  AbandonsEach [] heap heap' = heap' ≡ heap
  AbandonsEach (segment ∷ segments) heap heap' =
      (answer : Answer) × (between : Held S) × Abandons number segment answer heap between
      × AbandonsEach segments between heap'
