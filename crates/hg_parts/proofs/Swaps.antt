-- One segment replaced where it stands.
use Rattle.std.proofs.Common.{◌≡◌, ℕ, zero, suc, ◌+◌, ◌≤◌, Bool, true, false, cond, List, [], ◌∷◌}
use Rattle.std.proofs.Common.{◌++◌, map, count_by, find, slice_get, slice_set, slice_index_or}
use Rattle.std.proofs.Common.{Option, Some, sym, ap, ◌∙◌, arith, subst}
use Rattle.std.specs.List.{AllByRecursion}
use Rattle.hg_place.specs.Words.{bit_of}
use Rattle.hg_machine.specs.State.{Holder, fresh, orphan, held}
use Rattle.hg_agreement.specs.Parts.{Plain, Parts}
use Rattle.hg_agreement.proofs.Firsts.{count_cons}
use Rattle.hg_parts.specs.Rights.{held_from, segments_in}
use Rattle.hg_parts.specs.Spots.{Spot, in_heap, in_orphans, in_fresh, segment_at, heaps_with}
use Rattle.hg_parts.specs.Spots.{with_segment}
use Rattle.hg_parts.proofs.Flat.{E}

pub data Swaps : E → E → List E → List E → Type 0 where
  here : {a b : E} {xs : List E} → Swaps a b (a ∷ xs) (b ∷ xs)
  there : {a b x : E} {xs ys : List E} → Swaps a b xs ys → Swaps a b (x ∷ xs) (x ∷ ys)

swaps_left : (a b : E) (xs ys zs : List E) → Swaps a b xs ys → Swaps a b (xs ++ zs) (ys ++ zs)
swaps_left a b [] ys zs s = elim s [ ]
swaps_left a b (x ∷ xs) [] zs s = elim s [ ]
swaps_left a b (x ∷ xs) (y ∷ ys) zs here = here
swaps_left a b (x ∷ xs) (y ∷ ys) zs (there s) = there (swaps_left a b xs ys zs s)

swaps_right : (a b : E) (zs xs ys : List E) → Swaps a b xs ys → Swaps a b (zs ++ xs) (zs ++ ys)
swaps_right a b [] xs ys s = s
swaps_right a b (z ∷ zs) xs ys s = there (swaps_right a b zs xs ys s)

swaps_map : (h : Holder) (one now : Plain) (xs : List Plain) (i : ℕ) → slice_get xs i ≡ Some one
    → Swaps (h, one) (h, now) (map (λ s. (h, s)) xs) (map (λ s. (h, s)) (slice_set xs i now))
swaps_map h one now [] i e = absurd (cc)
swaps_map h one now (x ∷ xs) zero e =
    let same : x ≡ one = grind (arith, e) in
    subst (λ (y : Plain). Swaps (h, one) (h, now) ((h, y) ∷ map (λ s. (h, s)) xs)
    ((h, now) ∷ map (λ s. (h, s)) xs)) (sym same) here
swaps_map h one now (x ∷ xs) (suc i) e = there (swaps_map h one now xs i e)

swaps_held : (one now : Plain) (k : ℕ) (hs : List (List Plain)) (w i : ℕ)
    → slice_get (slice_index_or hs w []) i ≡ Some one
    → (h : Holder) × Swaps (h, one) (h, now) (held_from k hs)
    (held_from k (slice_set hs w (slice_set (slice_index_or hs w []) i now)))
swaps_held one now k [] w i e = absurd (cc)
swaps_held one now k (x ∷ xs) zero i e = (
  held k,
  swaps_left (held k, one) (held k, now) (map (λ s. (held k, s)) x)
      (map (λ s. (held k, s)) (slice_set x i now)) (held_from (k + 1) xs)
      (swaps_map (held k) one now x i e),
)
swaps_held one now k (x ∷ xs) (suc w) i e =
    let r = swaps_held one now (k + 1) xs w i e in (
      r.0,
      swaps_right (r.0, one) (r.0, now) (map (λ s. (held k, s)) x) (held_from (k + 1) xs)
          (held_from (k + 1) (slice_set xs w (slice_set (slice_index_or xs w []) i now))) r.1,
    )

pub kept_swaps : (parts : Parts) (spot : Spot) (one now : Plain) (hands : List (Option ℕ))
    → segment_at parts spot ≡ Some one
    → (h : Holder) × Swaps (h, one) (h, now) (segments_in parts)
    (segments_in (with_segment parts spot now hands))
kept_swaps parts (in_heap w i) one now hands e =
    let r = swaps_held one now 0 parts.heaps w i e in (
      r.0,
      swaps_left (r.0, one) (r.0, now) (held_from 0 parts.heaps)
          (held_from 0 (heaps_with parts (in_heap w i) now))
          (map (λ s. (orphan, s)) parts.orphans ++ map (λ s. (fresh, s)) parts.fresh) r.1,
    )
kept_swaps parts (in_orphans i) one now hands e =
    let os : List E = map (λ s. (orphan, s)) parts.orphans in
    let ns : List E = map (λ s. (orphan, s)) (slice_set parts.orphans i now) in
    let fs : List E = map (λ s. (fresh, s)) parts.fresh in (
      orphan,
      swaps_right (orphan, one) (orphan, now) (held_from 0 parts.heaps) (os ++ fs) (ns ++ fs)
          (swaps_left (orphan, one) (orphan, now) os ns fs
          (swaps_map orphan one now parts.orphans i e)),
    )
kept_swaps parts (in_fresh i) one now hands e =
    let os : List E = map (λ s. (orphan, s)) parts.orphans in
    let fs : List E = map (λ s. (fresh, s)) parts.fresh in
    let ns : List E = map (λ s. (fresh, s)) (slice_set parts.fresh i now) in (
      fresh,
      swaps_right (fresh, one) (fresh, now) (held_from 0 parts.heaps) (os ++ fs) (os ++ ns)
          (swaps_right (fresh, one) (fresh, now) os fs ns
          (swaps_map fresh one now parts.fresh i e)),
    )

-- what follows

pub swaps_count : (p : E → Bool) (a b : E) (xs ys : List E) → p a ≡ p b → Swaps a b xs ys
    → count_by p xs ≡ count_by p ys
swaps_count p a b [] ys e s = elim s [ ]
swaps_count p a b (x ∷ xs) [] e s = elim s [ ]
swaps_count p a b (x ∷ xs) (y ∷ ys) e here =
    count_cons p a xs ∙ ap (λ (c : Bool). bit_of c + count_by p xs) e ∙ sym (count_cons p b xs)
swaps_count p a b (x ∷ xs) (y ∷ ys) e (there s) =
    count_cons p x xs ∙ ap (λ (k : ℕ). bit_of (p x) + k) (swaps_count p a b xs ys e s)
    ∙ sym (count_cons p x ys)

pub swaps_counts : (p : E → Bool) (a b : E) (xs ys : List E) → p a ≡ true → Swaps a b xs ys
    → 1 ≤ count_by p xs
swaps_counts p a b [] ys e s = elim s [ ]
swaps_counts p a b (x ∷ xs) [] e s = elim s [ ]
swaps_counts p a b (x ∷ xs) (y ∷ ys) e here = omega (arith, count_cons p a xs, ap bit_of e)
swaps_counts p a b (x ∷ xs) (y ∷ ys) e (there s) =
    omega (arith, count_cons p x xs, swaps_counts p a b xs ys e s)

pub swaps_each : (P : E → Type 0) (a b : E) (xs ys : List E) → P b → Swaps a b xs ys
    → AllByRecursion P xs → AllByRecursion P ys
swaps_each P a b [] ys pb s all = elim s [ ]
swaps_each P a b (x ∷ xs) [] pb s all = elim s [ ]
swaps_each P a b (x ∷ xs) (y ∷ ys) pb here all = (pb, all.1)
swaps_each P a b (x ∷ xs) (y ∷ ys) pb (there s) all = (all.0, swaps_each P a b xs ys pb s all.1)

pub swaps_find : (p : E → Bool) (a b : E) (xs ys : List E) → p a ≡ false → p b ≡ false
    → Swaps a b xs ys → find p xs ≡ find p ys
swaps_find p a b [] ys ea eb s = elim s [ ]
swaps_find p a b (x ∷ xs) [] ea eb s = elim s [ ]
swaps_find p a b (x ∷ xs) (y ∷ ys) ea eb here =
    ap (λ (c : Bool). cond c (Some a) (find p xs)) ea
    ∙ sym (ap (λ (c : Bool). cond c (Some b) (find p xs)) eb)
swaps_find p a b (x ∷ xs) (y ∷ ys) ea eb (there s) =
    ap (λ (o : Option E). cond (p x) (Some x) o) (swaps_find p a b xs ys ea eb s)

-- the one of its number
past_step : (c : Bool) (x : E) (r : Option E) (o : Option E) (k : ℕ) → 1 ≤ k → bit_of c + k ≡ 1 → r
    ≡ o → cond c (Some x) r ≡ o
past_step true x r o k one total e = absurd (omega (arith, one, total))
past_step false x r o k one total e = e

rest_one : (c : Bool) (k : ℕ) → 1 ≤ k → bit_of c + k ≡ 1 → k ≡ 1
rest_one true k one total = absurd (omega (arith, one, total))
rest_one false k one total = omega (arith, total)

pub swaps_old : (p : E → Bool) (a b : E) (xs ys : List E) → p a ≡ true → count_by p xs ≡ 1
    → Swaps a b xs ys → find p xs ≡ Some a
swaps_old p a b [] ys e one s = elim s [ ]
swaps_old p a b (x ∷ xs) [] e one s = elim s [ ]
swaps_old p a b (x ∷ xs) (y ∷ ys) e one here = ap (λ (c : Bool). cond c (Some a) (find p xs)) e
swaps_old p a b (x ∷ xs) (y ∷ ys) e one (there s) =
    let k = swaps_counts p a b xs ys e s in
    let total = sym (count_cons p x xs) ∙ one in
    past_step (p x) x (find p xs) (Some a) (count_by p xs) k total
    (swaps_old p a b xs ys e (rest_one (p x) (count_by p xs) k total) s)

pub swaps_new : (p : E → Bool) (a b : E) (xs ys : List E) → p a ≡ true → p b ≡ true → count_by p xs
    ≡ 1 → Swaps a b xs ys → find p ys ≡ Some b
swaps_new p a b [] ys e f one s = elim s [ ]
swaps_new p a b (x ∷ xs) [] e f one s = elim s [ ]
swaps_new p a b (x ∷ xs) (y ∷ ys) e f one here = ap (λ (c : Bool). cond c (Some b) (find p ys)) f
swaps_new p a b (x ∷ xs) (y ∷ ys) e f one (there s) =
    let k = swaps_counts p a b xs ys e s in
    let total = sym (count_cons p x xs) ∙ one in
    past_step (p x) x (find p ys) (Some b) (count_by p xs) k total
    (swaps_new p a b xs ys e f (rest_one (p x) (count_by p xs) k total) s)
