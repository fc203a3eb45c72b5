-- Bands as text, owner by owner.
use Rattle.std.proofs.Common.{◌≡◌, ℕ, ◌+◌, ◌-◌, ◌<◌, Bool, true, false, cond, List, [], ◌∷◌, ◌++◌, refl, sym, ap, subst, ◌∙◌, append_assoc, codes, arith, suc}
use Rattle.std.specs.List.{flat_map, range_with_len}
use Rattle.hg_machine.specs.Policy.{Policy}
use Rattle.hg_show.specs.Bands.{bands_from, is_full}
use Rattle.hg_show.specs.Matrix.{band_text, bands_text, next_band_text}

-- bands behind another one begin with an empty line
next_bands : (policy : Policy) (band owners : List ℕ) → flat_map (next_band_text policy) (bands_from policy band owners) ≡ codes "\n" ++ bands_text policy (bands_from policy band owners)
unfolding next_band_text
next_bands policy band [] = refl
next_bands policy band (owner ∷ owners) =
    elim (is_full policy band owner) as (λ full. flat_map (next_band_text policy) (cond full (band ∷ bands_from policy (owner ∷ []) owners) (bands_from policy (band ++ owner ∷ []) owners))
    ≡ codes "\n" ++ bands_text policy (cond full (band ∷ bands_from policy (owner ∷ []) owners) (bands_from policy (band ++ owner ∷ []) owners))) [
      | true ↦ refl
      | false ↦ next_bands policy (band ++ owner ∷ []) owners
    ]

-- a band that is full stands before the bands of the owners that are left
pub full_text : (policy : Policy) (band : List ℕ) (owner : ℕ) (owners old now : List ℕ) → is_full policy band owner ≡ true → now ≡ old ++ band_text policy band ++ codes "\n"
    → now ++ bands_text policy (bands_from policy (owner ∷ []) owners) ≡ old ++ bands_text policy (bands_from policy band (owner ∷ owners))
full_text policy band owner owners old now full is =
    let rest : List (List ℕ) = bands_from policy (owner ∷ []) owners in
    let behind : List ℕ = codes "\n" ++ bands_text policy rest in
    let P : Bool → Type 0 = λ b. now ++ bands_text policy rest ≡ old ++ bands_text policy (cond b (band ∷ rest) (bands_from policy (band ++ owner ∷ []) owners)) in
    subst P (sym full)
    (ap (λ t. t ++ bands_text policy rest) is
    ∙ append_assoc (old ++ band_text policy band) (codes "\n") (bands_text policy rest)
    ∙ append_assoc old (band_text policy band) behind
    ∙ ap (λ t. old ++ (band_text policy band ++ t)) (sym (next_bands policy (owner ∷ []) owners)))

-- and one that isn't takes the owner in
pub room_text : (policy : Policy) (band next : List ℕ) (owner : ℕ) (owners : List ℕ) → is_full policy band owner ≡ false → next ≡ band ++ owner ∷ []
    → bands_text policy (bands_from policy next owners) ≡ bands_text policy (bands_from policy band (owner ∷ owners))
room_text policy band next owner owners full is =
    let P : Bool → Type 0 = λ b. bands_text policy (bands_from policy next owners) ≡ bands_text policy (cond b (band ∷ bands_from policy (owner ∷ []) owners) (bands_from policy (band ++ owner ∷ []) owners)) in
    subst P (sym full) (ap (λ b. bands_text policy (bands_from policy b owners)) is)

-- the owners from a number on
pub range_next : (i n : ℕ) → i < n → range_with_len i (n - i) ≡ i ∷ range_with_len (i + 1) (n - (i + 1))
range_next i n below =
    let e : n - i ≡ suc (n - (i + 1)) = omega arith in
    ap (range_with_len i) e
