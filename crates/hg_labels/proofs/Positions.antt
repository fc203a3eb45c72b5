-- Where an element stands that passes a test.
use Rattle.std.proofs.Common.{◌≡◌, ℕ, ◌<◌, ◌≤◌, Bool, true, false, not, cond, List, Some, None, length, get_or}
use Rattle.std.proofs.Common.{position, refl, arith}
use Rattle.std.specs.List.{position_or_len}
use Rattle.std.proofs.lemmas.Bool.{ltb-false, not-true}
use Rattle.std.proofs.lemmas.List.Sums.{prefix_len_passes}

none_is_false : {A : Type 0} (b : Bool) (x : A) → cond b (Some x) None ≡ None → b ≡ false
none_is_false true x h = absurd (cc)
none_is_false false x h = refl

-- where there is no such place, no element passes
pub position-None : {X : Type 0} (p : X → Bool) (xs : List X) → position p xs ≡ None → (k : ℕ) (d : X) → k < length xs → p (get_or xs k d) ≡ false
position-None p xs none k d lt =
    let whole : length xs ≤ position_or_len p xs = ltb-false _ _ (none_is_false _ _ none) in
    not-true _ (prefix_len_passes (λ x. not (p x)) xs k d (omega arith))
