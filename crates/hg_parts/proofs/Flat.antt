-- What parts tell of a segment is told by the first of its number among all, with their holders.
use Rattle.std.proofs.Common.{◌≡◌, ℕ, suc, ◌+◌, ◌==◌, Bool, true, false, cond, ◌||◌, List, [], ◌∷◌}
use Rattle.std.proofs.Common.{◌++◌, length, map, find, is_some, slice_index_or, Option, Some, None}
use Rattle.std.proofs.Common.{refl, sym, ap, ◌∙◌, arith}
use Rattle.std.specs.Option.{option_map, option_or}
use Rattle.std.specs.List.{range_with_len, list_any}
use Rattle.std.proofs.lemmas.List.Folds.{find-append}
use Rattle.hg_machine.specs.State.{Holder, fresh, orphan, held}
use Rattle.hg_agreement.specs.Holdings.{has}
use Rattle.hg_agreement.specs.Parts.{Plain, Parts, is_of, heap_at, holdings, worker_of, plain_by}
use Rattle.hg_agreement.specs.Parts.{plain_of, holder_by, holder_of}
use Rattle.hg_agreement.proofs.Bridge.{first_passes}
use Rattle.hg_agreement.proofs.Lookups.{kept_find}
use Rattle.hg_parts.specs.Rights.{held_from, is_numbered, found_in}

abbrev pub E : Type 0
E = Holder × Plain

abbrev pub plain_in : Option E → Option Plain
plain_in None = None
plain_in (Some e) = Some e.1

abbrev pub holder_in : Option E → Holder
holder_in None = fresh
holder_in (Some e) = e.0

abbrev pub with_holder : Holder → Option Plain → Option E
with_holder h None = None
with_holder h (Some s) = Some (h, s)

find_with : (n : ℕ) (h : Holder) (xs : List Plain) (ys : List E)
    → find (is_numbered n) (map (λ s. (h, s)) xs ++ ys)
    ≡ option_or (with_holder h (find (is_of n) xs)) (find (is_numbered n) ys)
find_with n h [] ys = refl
find_with n h (x ∷ xs) ys =
    elim (x.holding.number == n) as (λ b. cond b (Some (h, x))
    (find (is_numbered n) (map (λ s. (h, s)) xs ++ ys))
    ≡ option_or (with_holder h (cond b (Some x) (find (is_of n) xs))) (find (is_numbered n) ys)) [
      | true ↦ refl
      | false ↦ find_with n h xs ys
    ]

pub has_is : (n : ℕ) (xs : List Plain) → has (holdings xs) n ≡ is_some (find (is_of n) xs)
has_is n xs = ap is_some (kept_find xs n) ∙ mapped (find (is_of n) xs)
  where
    mapped : (o : Option Plain) → is_some (option_map (λ (k : Plain). k.holding) o) ≡ is_some o
    mapped None = refl
    mapped (Some s) = refl

pub any_is : (n : ℕ) (xs : List Plain) → list_any (is_of n) xs ≡ is_some (find (is_of n) xs)
any_is n [] = refl
any_is n (x ∷ xs) = elim (x.holding.number == n) as (λ b. (b || list_any (is_of n) xs)
    ≡ is_some (cond b (Some x) (find (is_of n) xs))) [
      | true ↦ refl
      | false ↦ any_is n xs
    ]

-- the pool

pool_plain : (o f : Option Plain) → option_or o f
    ≡ plain_in (option_or (with_holder orphan o) (with_holder fresh f))
pool_plain None None = refl
pool_plain None (Some s) = refl
pool_plain (Some s) f = refl

pool_holder : (o f : Option Plain) → holder_by None (is_some o)
    ≡ holder_in (option_or (with_holder orphan o) (with_holder fresh f))
pool_holder None None = refl
pool_holder None (Some s) = refl
pool_holder (Some s) f = refl

-- the heaps, from a worker on, and what is told where none has it

abbrev by_worker : (ℕ → List Plain) → ℕ → Option E → Option ℕ → Option E
by_worker f n rest None = rest
by_worker f n rest (Some w) = with_holder (held w) (find (is_of n) (f w))

heap_step : (f : ℕ → List Plain) (n k : ℕ) (rest : Option E) (o : Option Plain) (others : Option ℕ)
    (more : Option E) → find (is_of n) (f k) ≡ o → by_worker f n rest others ≡ option_or more rest
    → by_worker f n rest (cond (is_some o) (Some k) others)
    ≡ option_or (option_or (with_holder (held k) o) more) rest
heap_step f n k rest None others more e h = h
heap_step f n k rest (Some s) others more e h = ap (with_holder (held k)) e

first_heap : (f : ℕ → List Plain) (n k : ℕ) (rest : Option E) (hs : List (List Plain))
    → ((i : ℕ) → f (k + i) ≡ slice_index_or hs i [])
    → by_worker f n rest (find (λ w. has (holdings (f w)) n) (range_with_len k (length hs)))
    ≡ option_or (find (is_numbered n) (held_from k hs)) rest
first_heap f n k rest [] is = refl
first_heap f n k rest (h ∷ hs) is =
    let here : f k ≡ h = ap f (let e : k ≡ k + 0 = omega arith in e) ∙ is 0 in
    let others = find (λ w. has (holdings (f w)) n) (range_with_len (k + 1) (length hs)) in
    ap (λ (b : Bool). by_worker f n rest (cond b (Some k) others))
    (has_is n (f k) ∙ ap (λ (xs : List Plain). is_some (find (is_of n) xs)) here)
    ∙ heap_step f n k rest (find (is_of n) h) others (find (is_numbered n) (held_from (k + 1) hs))
    (ap (find (is_of n)) here)
    (first_heap f n (k + 1) rest hs (λ i. ap f (let e : k + 1 + i ≡ k + suc i = omega arith in e)
    ∙ is (suc i)))
    ∙ sym (ap (λ (o : Option E). option_or o rest) (find_with n (held k) h (held_from (k + 1) hs)))

pub find_all : (n : ℕ) (h : Holder) (xs : List Plain) → find (is_numbered n) (map (λ s. (h, s)) xs)
    ≡ with_holder h (find (is_of n) xs)
find_all n h [] = refl
find_all n h (x ∷ xs) =
    elim (x.holding.number == n) as (λ b. cond b (Some (h, x))
    (find (is_numbered n) (map (λ s. (h, s)) xs))
    ≡ with_holder h (cond b (Some x) (find (is_of n) xs))) [
      | true ↦ refl
      | false ↦ find_all n h xs
    ]

plain_with : (h : Holder) (o : Option Plain) → o ≡ plain_in (with_holder h o)
plain_with h None = refl
plain_with h (Some s) = refl

holder_with : (h : Holder) (o : Option Plain) → is_some o ≡ true → h ≡ holder_in (with_holder h o)
holder_with h None e = absurd (cc)
holder_with h (Some s) e = refl

module _ (parts : Parts) (n : ℕ) where
  pool : Option E
  pool =
      option_or (with_holder orphan (find (is_of n) parts.orphans))
      (with_holder fresh (find (is_of n) parts.fresh))

  found_by : found_in parts n ≡ by_worker (heap_at parts) n pool (worker_of parts n)
  unfolding pool
  found_by =
      let os : List E = map (λ s. (orphan, s)) parts.orphans in
      let fs : List E = map (λ s. (fresh, s)) parts.fresh in
      find-append (is_numbered n) (held_from 0 parts.heaps) (os ++ fs)
      ∙ ap (option_or (find (is_numbered n) (held_from 0 parts.heaps)))
      (find_with n orphan parts.orphans fs
      ∙ ap (option_or (with_holder orphan (find (is_of n) parts.orphans)))
      (find_all n fresh parts.fresh))
      ∙ sym (first_heap (heap_at parts) n 0
      (option_or (with_holder orphan (find (is_of n) parts.orphans))
      (with_holder fresh (find (is_of n) parts.fresh))) parts.heaps
      (λ i. ap (heap_at parts) (let e : 0 + i ≡ i = omega arith in e)))

  plain_by_is : (o : Option ℕ) → plain_by parts n o ≡ plain_in (by_worker (heap_at parts) n pool o)
  unfolding pool
  plain_by_is (Some w) = plain_with (held w) (find (is_of n) (heap_at parts w))
  plain_by_is None =
      find-append (is_of n) parts.orphans parts.fresh ∙ pool_plain (find (is_of n) parts.orphans)
      (find (is_of n) parts.fresh)

  holder_by_is : (o : Option ℕ) → worker_of parts n ≡ o
      → holder_by o (list_any (is_of n) parts.orphans)
      ≡ holder_in (by_worker (heap_at parts) n pool o)
  unfolding pool
  holder_by_is (Some w) e = holder_with (held w) (find (is_of n) (heap_at parts w))
      (sym (has_is n (heap_at parts w)) ∙ first_passes (λ v. has (holdings (heap_at parts v)) n) 0
      (length parts.heaps) w e)
  holder_by_is None e =
      ap (holder_by None) (any_is n parts.orphans) ∙ pool_holder (find (is_of n) parts.orphans)
      (find (is_of n) parts.fresh)

  pub plain_is : plain_of parts n ≡ plain_in (found_in parts n)
  plain_is = plain_by_is (worker_of parts n) ∙ sym (ap plain_in found_by)

  pub holder_is : holder_of parts n ≡ holder_in (found_in parts n)
  holder_is = holder_by_is (worker_of parts n) refl ∙ sym (ap holder_in found_by)
