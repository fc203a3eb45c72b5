-- The segment of a pool that stands first.
use Rattle.std.proofs.Common.{◌≡◌, ◌≢◌, ◌↔◌, ◌==◌, ℕ, Bool, true, false, not, IsTrue, cond, nat_eq, List, [], ◌∷◌, ◌++◌}
use Rattle.std.proofs.Common.{length, map, find, slice_get, slice_index_or, Option, Some, refl, sym, ap, ◌∙◌, subst, arith}
use Rattle.std.proofs.lemmas.Bool.{ne_eqb}
use Rattle.std.proofs.lemmas.Option.{same_Some}
use Rattle.hg_lists.proofs.RepeatsLemmas.{nat_eq-same, Each-left}
use Rattle.std.specs.Option.{option_map}
use Rattle.hg_segment.specs.Kept.{Kept}
use Rattle.hg_pool.specs.Pooled.{Pooled, first_in, segment_of, is_numbered}
use Rattle.hg_pool.specs.Shown.{shown, IsKept}
use Rattle.hg_pool.proofs.Keeping.{seen, key, all_there, both_shown}
use Rattle.hg_pool.proofs.ShownLemmas.{IsThere, keys_shown}

head_mapped : {X : Type 0} (f : X → ℕ) (xs : List X)
    → option_map f (slice_get xs 0) ≡ slice_get (map f xs) 0
head_mapped f [] = refl
head_mapped f (x ∷ xs) = refl

-- its number is the first of the orphans, and behind them of the fresh ones
pub first_number : {S : Type 0} (number : S → ℕ) (segments : List (Option (Kept S)))
    (orphans fresh : List ℕ) (now : Pooled S) → IsKept number segments orphans fresh
    → seen segments orphans fresh ≡ now
    → option_map (λ (one : Kept S). number one.slots) (first_in now)
    ≡ slice_get (orphans ++ fresh) 0
first_number number segments orphans fresh now kept is =
    ap (λ p. option_map (key number) (first_in p)) (sym is)
    ∙ ap (λ xs. option_map (key number) (slice_get xs 0))
    (sym (both_shown number segments orphans fresh))
    ∙ head_mapped (key number) (shown segments (orphans ++ fresh))
    ∙ ap (λ ns. slice_get ns 0)
    (keys_shown (key number) segments (orphans ++ fresh) (all_there number segments orphans fresh kept))

-- the head of two lists
pub some_head : (ns ms : List ℕ) (b : Bool) → b ≡ (length ns == 0) → b ≡ false
    → slice_get (ns ++ ms) 0 ≡ Some (slice_index_or ns 0 0)
some_head [] ms b e f = absurd (let bad : true ≡ false = sym e ∙ f in cc)
some_head (x ∷ xs) ms b e f = refl

pub other_head : (ns ms : List ℕ) (b c : Bool) → b ≡ (length ns == 0) → b ≡ true
    → c ≡ (length ms == 0) → c ≡ false → slice_get (ns ++ ms) 0 ≡ Some (slice_index_or ms 0 0)
other_head (x ∷ xs) ms b c e f g h = absurd (let bad : false ≡ true = sym (e ∙ more xs) ∙ f in cc)
  where
    more : (xs : List ℕ) → (length (x ∷ xs) == 0) ≡ false
    more xs = ne_eqb (length (x ∷ xs)) 0 (λ e. omega (arith, e))
other_head [] [] b c e f g h = absurd (let bad : true ≡ false = sym g ∙ h in cc)
other_head [] (y ∷ ys) b c e f g h = refl

-- whether any is shown
pub some_shown : {S : Type 0} (number : S → ℕ) (segments : List (Option (Kept S)))
    (orphans fresh ns : List ℕ) (now : Pooled S) (b : Bool)
    → IsKept number segments orphans fresh → seen segments orphans fresh ≡ now → ns ≡ orphans
    → b ≡ (length ns == 0) → IsTrue (not b) ↔ (now.orphans ≢ [])
some_shown number segments orphans fresh ns now b kept is same e =
    subst (λ p. IsTrue (not b) ↔ (p.orphans ≢ [])) is
    (by_numbers orphans b (shown segments orphans)
    (keys_shown (key number) segments orphans
    (Each-left (IsThere (key number) segments) orphans fresh
    (all_there number segments orphans fresh kept)))
    (e ∙ ap (λ xs. length xs == 0) same))
  where
    by_numbers : (os : List ℕ) (b : Bool) (xs : List (Kept _)) → map (key number) xs ≡ os
        → b ≡ (length os == 0) → IsTrue (not b) ↔ (xs ≢ [])
    by_numbers [] b [] m e = (λ t. absurd (let f = ap not e in cc), λ ne. absurd (ne refl))
    by_numbers [] b (x ∷ xs) m e = absurd (cc)
    by_numbers (o ∷ os) b [] m e = absurd (cc)
    by_numbers (o ∷ os) b (x ∷ xs) m e =
        (λ t f. absurd (cc), λ ne. ap not (e ∙ ne_eqb (length (o ∷ os)) 0 (λ z. omega (arith, z))))

-- the segment that stands first is the one of its number
first_passes : {S : Type 0} (number : S → ℕ) (xs : List (Kept S)) (one : Kept S)
    → slice_get xs 0 ≡ Some one → find (is_numbered number (number one.slots)) xs ≡ Some one
first_passes number [] one e = absurd (cc)
first_passes number (x ∷ xs) one e =
    let same : x ≡ one = same_Some x one e in
    ap (λ b. cond b (Some x) (find (is_numbered number (number one.slots)) xs))
    (ap (λ k. nat_eq (number k.slots) (number one.slots)) same ∙ nat_eq-same (number one.slots))
    ∙ ap Some same

pub number_first : {S : Type 0} (number : S → ℕ) (pool : Pooled S) (one : Kept S) (n : ℕ)
    → first_in pool ≡ Some one
    → Some n ≡ option_map (λ (k : Kept S). number k.slots) (first_in pool) → n ≡ number one.slots
number_first number pool one n first is =
    same_Some n (number one.slots)
    (is ∙ ap (option_map (λ (k : Kept _). number k.slots)) first)

pub picked_first : {S : Type 0} (number : S → ℕ) (pool : Pooled S) (one : Kept S) (n : ℕ)
    (o : Option (Kept S)) → first_in pool ≡ Some one → n ≡ number one.slots
    → o ≡ segment_of number pool n → o ≡ Some one
picked_first number pool one n o first is picked =
    picked ∙ ap (segment_of number pool) is
    ∙ first_passes number (pool.orphans ++ pool.fresh) one first

-- what was picked by the number of the segment that stands first is that one
pub picked_is_first : {S : Type 0} (number : S → ℕ) (pool : Pooled S) (one now : Kept S) (n : ℕ)
    {o : Option (Kept S)} → first_in pool ≡ Some one
    → Some n ≡ option_map (λ (k : Kept S). number k.slots) (first_in pool)
    → o ≡ segment_of number pool n → o ≡ Some now → now ≡ one
picked_is_first number pool one now n first is picked some =
    same_Some now one (sym some
    ∙ picked_first number pool one n _ first (number_first number pool one n first is) picked)
