-- Names by their bytes.
use Rattle.std.proofs.Common.{◌≡◌, ℕ, ◌<◌, ◌≤◌, List, map, Some, None, Bor, length, get_or, slice_get}
use Rattle.std.proofs.Common.{option_map, refl, ap, ◌∙◌}
use Rattle.std.proofs.lemmas.Option.{slice_get-map, slice_get_read, slice_get_past, slice_get-get_or}

-- the bytes of the name that was read
pub text_read : (names : List (Bor (List ℕ))) (i : ℕ) (name : Bor (List ℕ)) → i < length names → name ≡ get_or names i name
    → slice_get (map (λ known. known.now) names) i ≡ Some name.now
text_read names i name lt is =
    slice_get-map (λ (known : Bor (List ℕ)). known.now) names i ∙ ap (option_map (λ (known : Bor (List ℕ)). known.now)) (slice_get_read names (length names) i name refl lt is)

pub text_past : (names : List (Bor (List ℕ))) (i : ℕ) → length names ≤ i → slice_get (map (λ known. known.now) names) i ≡ None
text_past names i le =
    slice_get-map (λ (known : Bor (List ℕ)). known.now) names i ∙ ap (option_map (λ (known : Bor (List ℕ)). known.now)) (slice_get_past names i le)

pub text_at : (names : List (Bor (List ℕ))) (i : ℕ) (d : Bor (List ℕ)) → i < length names → slice_get (map (λ known. known.now) names) i ≡ Some (get_or names i d).now
text_at names i d lt =
    slice_get-map (λ (known : Bor (List ℕ)). known.now) names i ∙ ap (option_map (λ (known : Bor (List ℕ)). known.now)) (slice_get-get_or names i d lt)
