-- What a read of many words of a block leaves in a room, by the verdict on the word that was shown.
use Rattle.std.specs.Prelude.{◌≡◌, ℕ, ◌+◌, ◌<◌, ◌≤◌, List, length, drop, slice_index}
use Rattle.std.specs.Prelude.{Option, IfSome, MatchOption, Ok, Err}
use Rattle.hg_machine.specs.declared.Rule.{Rule}
use Rattle.hg_heap.specs.Reading.{reached}
use Rattle.hg_heap.specs.declared.how_far.HowFar.{HowFar}

-- it came to the last of so many words, or the next was refused
abbrev pub ComesTo : ℕ → HowFar → Type 0
ComesTo all far = MatchOption far.refused (far.done ≡ all) (λ why. far.done < all)

-- each of so many words from an index on is reached and stands in front in the room; the next one
-- isn't, or the room is full; what stands behind is as it was
pub record ReadsMany (denial : Option Rule) (block : List ℕ) (first : ℕ) (room : List ℕ)
    (far : HowFar) (told : List ℕ) : Type 0 where
  pub each :
      (at : ℕ) → at < far.done
      → reached denial block (first + at) (slice_index block (first + at))
      ≡ Ok (slice_index told at)
  pub next :
      IfSome far.refused
      (λ why. reached denial block (first + far.done) (slice_index block (first + far.done))
      ≡ Err why)
  pub end : ComesTo (length room) far
  pub rest : drop far.done told ≡ drop far.done room
