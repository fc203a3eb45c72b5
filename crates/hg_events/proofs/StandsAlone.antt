-- A segment of a heap that stands there alone of its number.
use Rattle.std.proofs.Common.{◌≡◌, ◌≢◌, ℕ, ◌<◌, List, length, slice_get, slice_set, Some, refl, sym}
use Rattle.std.proofs.Common.{ap, ◌∙◌, inl, inr, subst}
use Rattle.std.proofs.lemmas.Bool.{cases_eq}
use Rattle.std.proofs.lemmas.List.{length-set, get_or-set_other}
use Rattle.std.proofs.lemmas.Grind.{get_or-set_at}
use Rattle.std.proofs.lemmas.Option.{slice_get-get_or, slice_get_within, get_or_from_slice_get}
use Rattle.hg_place.specs.declared.plain.PlainWords.{PlainWords}
use Rattle.hg_segment.specs.Kept.{Kept}
use Rattle.hg_segment.specs.Parted.{plain_number}

-- the segment stands there, and no other of its number stands anywhere
pub record StandsAlone (segments : List (Kept PlainWords)) (found : ℕ) (one : Kept PlainWords)
    : Type 0 where
  pub there : slice_get segments found ≡ Some one
  pub alone : (other : ℕ) (k : Kept PlainWords) → slice_get segments other ≡ Some k
      → plain_number k.slots ≡ plain_number one.slots → other ≡ found

-- what stands at another index stood there
get_other : (xs : List (Kept PlainWords)) (i j : ℕ) (y k : Kept PlainWords) → j ≢ i
    → slice_get (slice_set xs i y) j ≡ Some k → slice_get xs j ≡ Some k
get_other xs i j y k ne e =
    let below : j < length xs =
    subst (λ n. j < n) (length-set xs i y) (slice_get_within (slice_set xs i y) j k e) in
    slice_get-get_or xs j k below
    ∙ ap Some (sym (get_or-set_other xs i j y k ne)
    ∙ get_or_from_slice_get (slice_set xs i y) j k k e)

-- another of its number that comes in its place stands alone too
pub still_alone : (xs : List (Kept PlainWords)) (found : ℕ) (one now : Kept PlainWords)
    → StandsAlone xs found one → plain_number now.slots ≡ plain_number one.slots
    → StandsAlone (slice_set xs found now) found now
still_alone xs found one now s number =
    let below = slice_get_within xs found one s.there in record {
      there =
          slice_get-get_or (slice_set xs found now) found now
          (subst (λ n. found < n) (sym (length-set xs found now)) below)
          ∙ ap Some (get_or-set_at xs found found now now refl below);
      alone = λ other k e is. elim (cases_eq other found) [
        | inl same ↦ same
        | inr ne ↦ s.alone other k (get_other xs found other now k ne e) (is ∙ number)
      ];
    }
