-- The segments of parts, found by their number.
use Rattle.std.proofs.Common.{◌≡◌, ℕ, zero, suc, ◌+◌, ◌<◌, ◌≤◌, Bool, true, false, not, cond, List}
use Rattle.std.proofs.Common.{[], ◌∷◌, ◌++◌, length, map, count_by, slice_get, refl, sym, ap, ◌∙◌}
use Rattle.std.proofs.Common.{arith, subst}
use Rattle.std.specs.Prelude.{Option, Some, find}
use Rattle.std.specs.List.{AllByRecursion, position_or_len}
use Rattle.std.proofs.lemmas.Map.Keys.{any_passes_from_place}
use Rattle.hg_place.specs.Words.{bit_of}
use Rattle.hg_machine.specs.State.{Holder, held}
use Rattle.hg_machine.specs.Holders.{is_orphan}
use Rattle.hg_agreement.specs.Parts.{Plain}
use Rattle.hg_agreement.proofs.Firsts.{count_cons, some_counted}
use Rattle.hg_parts.specs.Rights.{held_from}
use Rattle.hg_parts.proofs.Flat.{E, holder_in}

-- what is so of each is so of the one that is found
found_step : (P : E → Type 0) (b : Bool) (x y : E) (r : Option E) → P x → cond b (Some x) r ≡ Some y
    → (r ≡ Some y → P y) → P y
found_step P true x y r px e rest = subst P (grind (arith, e)) px
found_step P false x y r px e rest = rest e

pub found_each : (P : E → Type 0) (p : E → Bool) (xs : List E) (y : E) → AllByRecursion P xs
    → find p xs ≡ Some y → P y
found_each P p [] y all e = absurd (cc)
found_each P p (x ∷ xs) y all e =
    found_step P (p x) x y (find p xs) all.0 e (found_each P p xs y all.1)

-- and of each where it is so at every index
pub each_at : (P : E → Type 0) (xs : List E) → ((k : ℕ) (y : E) → slice_get xs k ≡ Some y → P y)
    → AllByRecursion P xs
each_at P [] f = tt
each_at P (x ∷ xs) f = (f 0 x refl, each_at P xs (λ k y e. f (suc k) y e))

-- one that counts alone is found
some_step : (b : Bool) (x : E) (r : Option E) (rest : ℕ) → bit_of b + rest ≡ 1
    → (rest ≡ 1 → (e : E) × (r ≡ Some e)) → (e : E) × (cond b (Some x) r ≡ Some e)
some_step true x r rest one f = (x, refl)
some_step false x r rest one f = f (omega (arith, one))

pub found_some : (p : E → Bool) (xs : List E) → count_by p xs ≡ 1 → (e : E) × (find p xs ≡ Some e)
found_some p [] one = absurd (omega (arith, one))
found_some p (x ∷ xs) one =
    some_step (p x) x (find p xs) (count_by p xs) (sym (count_cons p x xs) ∙ one) (found_some p xs)

pub stands_counts : (p : E → Bool) (xs : List E) (k : ℕ) (y : E) → slice_get xs k ≡ Some y → p y
    ≡ true → 1 ≤ count_by p xs
stands_counts p xs k y there passes =
    some_counted p xs (any_passes_from_place p xs k y there passes)

only_step : (b : Bool) (x y : E) (r : Option E) (rest : ℕ) → bit_of b + rest ≡ 1 → 1 ≤ rest
    → (rest ≡ 1 → r ≡ Some y) → cond b (Some x) r ≡ Some y
only_step true x y r rest one more f = absurd (omega (arith, one, more))
only_step false x y r rest one more f = f (omega (arith, one))

pub only_found : (p : E → Bool) (xs : List E) (k : ℕ) (y : E) → slice_get xs k ≡ Some y → p y ≡ true
    → count_by p xs ≡ 1 → find p xs ≡ Some y
only_found p [] k y there passes one = absurd (cc)
only_found p (x ∷ xs) zero y there passes one =
    let same : x ≡ y = grind (arith, there) in ap (λ b. cond b (Some x) (find p xs))
    (ap p same ∙ passes) ∙ there
only_found p (x ∷ xs) (suc k) y there passes one =
    only_step (p x) x y (find p xs) (count_by p xs) (sym (count_cons p x xs) ∙ one)
    (stands_counts p xs k y there passes) (only_found p xs k y there passes)

pub each_append : (P : E → Type 0) (xs ys : List E) → AllByRecursion P xs → AllByRecursion P ys
    → AllByRecursion P (xs ++ ys)
each_append P [] ys a b = b
each_append P (x ∷ xs) ys a b = (a.0, each_append P xs ys a.1 b)

pub each_map : (P : E → Type 0) (h : Holder) (xs : List Plain) → ((s : Plain) → P (h, s))
    → AllByRecursion P (map (λ s. (h, s)) xs)
each_map P h [] f = tt
each_map P h (x ∷ xs) f = (f x, each_map P h xs f)

pub each_of : (P : Plain → Type 0) (h : Holder) (xs : List Plain) → AllByRecursion P xs
    → AllByRecursion (λ (e : E). P e.1) (map (λ s. (h, s)) xs)
each_of P h [] all = tt
each_of P h (x ∷ xs) all = (all.0, each_of P h xs all.1)

pub each_held : (P : E → Type 0) (worker n : ℕ) (heaps : List (List Plain)) → worker + length heaps
    ≡ n → ((w : ℕ) (s : Plain) → w < n → P (held w, s)) → AllByRecursion P (held_from worker heaps)
each_held P worker n [] long f = tt
each_held P worker n (heap ∷ heaps) long f =
    each_append P (map (λ s. (held worker, s)) heap) (held_from (worker + 1) heaps)
    (each_map P (held worker) heap (λ s. f worker s (omega (arith, long))))
    (each_held P (worker + 1) n heaps (omega (arith, long)) f)

-- the found one is an orphan exactly where one of the orphans counts

abbrev flag : Option E → ℕ
flag o = bit_of (is_orphan (holder_in o))

none_step : (b : Bool) (x : E) (r : Option E) → is_orphan x.0 ≡ false → flag r ≡ 0
    → flag (cond b (Some x) r) ≡ 0
none_step true x r e h = ap bit_of e
none_step false x r e h = h

no_orphan : (p : E → Bool) (xs : List E) → AllByRecursion (λ e. is_orphan e.0 ≡ false) xs
    → flag (find p xs) ≡ 0
no_orphan p [] all = refl
no_orphan p (x ∷ xs) all = none_step (p x) x (find p xs) all.0 (no_orphan p xs all.1)

orphan_step : (b : Bool) (x : E) (r : Option E) (own rest : ℕ) → is_orphan x.0 ≡ true
    → (bit_of b + own) + rest ≡ 1 → (own + rest ≡ 1 → flag r ≡ own) → flag (cond b (Some x) r)
    ≡ bit_of b + own
orphan_step true x r own rest e total h = ap bit_of e ∙ omega (arith, total)
orphan_step false x r own rest e total h = h (omega (arith, total)) ∙ omega arith

first_orphans : (p : E → Bool) (os fs : List E) → AllByRecursion (λ e. is_orphan e.0 ≡ true) os
    → AllByRecursion (λ e. is_orphan e.0 ≡ false) fs
    → count_by p os + count_by p fs ≡ 1 → flag (find p (os ++ fs)) ≡ count_by p os
first_orphans p [] fs os-all fs-all total = no_orphan p fs fs-all
first_orphans p (x ∷ xs) fs os-all fs-all total =
    orphan_step (p x) x (find p (xs ++ fs)) (count_by p xs) (count_by p fs) os-all.0
    (omega (arith, total, count_cons p x xs)) (first_orphans p xs fs os-all.1 fs-all)
    ∙ sym (count_cons p x xs)

held_step : (b : Bool) (x : E) (r : Option E) (own rest others : ℕ) → is_orphan x.0 ≡ false
    → (bit_of b + own) + (others + rest) ≡ 1 → (own + (others + rest) ≡ 1 → flag r ≡ others)
    → flag (cond b (Some x) r) ≡ others
held_step true x r own rest others e total h = ap bit_of e ∙ omega (arith, total)
held_step false x r own rest others e total h = h (omega (arith, total))

pub orphan_found : (p : E → Bool) (hs os fs : List E) → AllByRecursion (λ e. is_orphan e.0 ≡ false)
    hs → AllByRecursion (λ e. is_orphan e.0 ≡ true) os → AllByRecursion (λ e. is_orphan e.0 ≡ false)
    fs
    → count_by p hs + (count_by p os + count_by p fs) ≡ 1 → flag (find p (hs ++ (os ++ fs)))
    ≡ count_by p os
orphan_found p [] os fs hs-all os-all fs-all total =
    first_orphans p os fs os-all fs-all (omega (arith, total))
orphan_found p (x ∷ xs) os fs hs-all os-all fs-all total =
    held_step (p x) x (find p (xs ++ (os ++ fs))) (count_by p xs) (count_by p fs) (count_by p os)
    hs-all.0 (omega (arith, total, count_cons p x xs))
    (orphan_found p xs os fs hs-all.1 os-all fs-all)

-- the first that counts, where one counts alone

alone_step : (b : Bool) (rest at : ℕ) → bit_of b + rest ≤ 1 → 1 ≤ rest → 1 + at
    ≡ cond {A = ℕ} (not b) (1 + at) 0
alone_step true rest at one more = absurd (omega (arith, one, more))
alone_step false rest at one more = refl

pub stands_first : {X : Type 0} (p : X → Bool) (xs : List X) (k : ℕ) (y : X) → slice_get xs k
    ≡ Some y → p y ≡ true → count_by p xs ≤ 1 → k ≡ position_or_len p xs
stands_first {X} p [] k y there passes one = absurd (cc)
stands_first {X} p (x ∷ xs) zero y there passes one =
    let same : x ≡ y = grind (arith, there) in
    sym (ap (λ b. cond {A = ℕ} (not b) (1 + position_or_len p xs) 0) (ap p same ∙ passes))
stands_first {X} p (x ∷ xs) (suc k) y there passes one =
    let more = some_counted p xs (any_passes_from_place p xs k y there passes) in
    let rest = stands_first p xs k y there passes (omega (arith, one, count_cons p x xs)) in
    (let e : suc k ≡ 1 + position_or_len p xs = omega (arith, rest) in e)
    ∙ alone_step (p x) (count_by p xs) (position_or_len p xs)
    (omega (arith, one, count_cons p x xs)) more
