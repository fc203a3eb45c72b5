-- A heap's segments, of which one has gone and the last stands in its place.
use Rattle.std.proofs.Common.{◌≡◌, ◌≢◌, ◌⊎◌, ⊎_elim, ℕ, zero, suc, ◌+◌, ◌-◌, ◌==◌, ◌<◌, ◌≤◌, inl}
use Rattle.std.proofs.Common.{inr, Bool, cond, ◌∷◌, [], List, length, get_or}
use Rattle.std.proofs.Common.{Option, Some, None, refl, sym, ap, subst, ◌∙◌, arith, is_some}
use Rattle.std.proofs.Common.{slice_get, slice_set, slice_index_or, Contains}
use Rattle.std.proofs.Common.{get_or-set_other, get_or-set_same}
use Rattle.std.specs.Prelude.{IsPermutation, swap_remove}
use Rattle.std.specs.List.{position_or_len, count_by}
use Rattle.std.proofs.lemmas.Bool.{eq-eqb, ne_eqb}
use Rattle.std.proofs.lemmas.List.{length-set, length-take-le, get_or-take}
use Rattle.std.proofs.lemmas.List.Sorted.{IsPermutation-swap_remove, IsPermutation-map}
use Rattle.std.proofs.lemmas.List.Sorted.{IsPermutation-sym, Contains-permutation}
use Rattle.std.proofs.lemmas.List.Sorted.{sum_by-IsPermutation}
use Rattle.std.proofs.lemmas.List.Folds.{find_at}
use Rattle.std.proofs.lemmas.List.Sums.{sum_by-cons}
use Rattle.std.proofs.lemmas.Option.{get_or_from_slice_get, slice_get-get_or}
use Rattle.hg_lists.specs.Repeats.{HasNoRepeats}
use Rattle.hg_lists.proofs.RepeatsLemmas.{in_cases, count_by-lacks, count_by-in, Contains-lacks}
use Rattle.hg_segment.specs.Kept.{Kept}
use Rattle.hg_heap.specs.Held.{is_of, segment_in}
use Rattle.hg_heap.specs.Table.{IsAt}
use Rattle.hg_heap.proofs.Founds.{Found, numbers, passes, segment_contained, inside_of}
use Rattle.hg_heap.proofs.Founds.{number_is, found_is, first_by, get-map, Contains-get}

-- how often a number stands on a list
abbrev times : ℕ → List ℕ → ℕ
times x xs = count_by (λ y. y == x) xs

once_at_most : (x : ℕ) (xs : List ℕ) → HasNoRepeats xs → times x xs ≤ 1
once_at_most x xs h = ⊎_elim (λ i. let e = count_by-in x xs h i in omega (arith, e))
    (λ l. let e = count_by-lacks x xs l in omega (arith, e)) (in_cases x xs)

times_next : (x y : ℕ) (xs : List ℕ) → times x (y ∷ xs) ≡ cond (y == x) 1 0 + times x xs
times_next x y xs = sum_by-cons (λ (z : ℕ). cond (z == x) 1 0) y xs

fewer_times : (x y : ℕ) (xs : List ℕ) → times x xs ≤ times x (y ∷ xs)
fewer_times x y xs = let e = times_next x y xs in omega (arith, e)

once_more_times : (x : ℕ) (xs : List ℕ) → times x (x ∷ xs) ≡ 1 + times x xs
once_more_times x xs =
    times_next x x xs ∙ ap (λ (b : Bool). cond b 1 0 + times x xs) (eq-eqb x x refl)

no_repeats : (xs : List ℕ) → ((x : ℕ) → times x xs ≤ 1) → HasNoRepeats xs
no_repeats [] h = tt
no_repeats (y ∷ ys) h =
    let rest = no_repeats ys (λ x. let a = h x in let b = fewer_times x y ys in
    omega (arith, a, b)) in (
      ⊎_elim
          (λ i. absurd (
          let one = count_by-in y ys rest i in
          let most = h y in
          let more = once_more_times y ys in
          omega (arith, one, most, more))) (λ l. l) (in_cases y ys),
      rest,
    )

-- a list in another order repeats nothing either
pub permuted_once : (xs ys : List ℕ) → IsPermutation xs ys → HasNoRepeats xs → HasNoRepeats ys
permuted_once xs ys p h = no_repeats ys (λ x.
    let same = sum_by-IsPermutation (λ (y : ℕ). cond (y == x) 1 0) xs ys p in
    let most = once_at_most x xs h in
    omega (arith, same, most))

pub contains_more : {X : Type 0} (x y : X) (xs : List X) → Contains xs y → Contains (x ∷ xs) y
contains_more x y xs c = (suc c.0, (let lt = c.1 in omega (arith, lt)), c.2)

contained_cases : {X : Type 0} (x y : X) (xs : List X) → Contains (x ∷ xs) y
    → (y ≡ x) ⊎ Contains xs y
contained_cases {X} x y xs c = go c.0 c.1 c.2
  where
    go : (k : ℕ) → k < length (x ∷ xs) → get_or (x ∷ xs) k y ≡ y → (y ≡ x) ⊎ Contains xs y
    go zero lt e = inl (sym e)
    go (suc k) lt e = inr (k, omega (arith, lt), e)

-- where a number stands that stands once
position_at : (ns : List ℕ) (n at : ℕ) → HasNoRepeats ns → at < length ns → get_or ns at n ≡ n
    → position_or_len (λ m. m == n) ns ≡ at
position_at [] n at h lt e = absurd (omega (arith, lt))
position_at (x ∷ ns) n zero h lt e = rw (eq-eqb x n e) refl
position_at (x ∷ ns) n (suc at) h lt e =
    let less : at < length ns = omega (arith, lt) in
    let away : x ≢ n = λ s. Contains-lacks x ns h.0 (
      at,
      less,
      (
          ap (get_or ns at) s ∙ e ∙ sym s),
    ) in
    let next : 1 + at ≡ suc at = omega arith in
    rw (ne_eqb x n away) (ap (λ (m : ℕ). 1 + m) (position_at ns n at h.1 less e) ∙ next)

module _ {S : Type 0} (number : S → ℕ) where
  -- each segment stands where its number is found
  pub stands : (heap : List (Kept S)) (at : ℕ) (k : Kept S) → HasNoRepeats (numbers number heap)
      → slice_get heap at ≡ Some k → at ≡ position_or_len (is_of number (number k.slots)) heap
  stands heap at k once e =
      let n = number k.slots in
      let there = get-map (λ (j : Kept S). number j.slots) heap at k e in
      sym (first_by number heap n
      ∙ position_at (numbers number heap) n at once (inside_of (numbers number heap) at n there)
      (get_or_from_slice_get (numbers number heap) at n n there))

  pub found_there : (heap : List (Kept S)) (at : ℕ) (k : Kept S)
      → HasNoRepeats (numbers number heap) → slice_get heap at ≡ Some k
      → Found number heap (number k.slots) at k
  found_there heap at k once e = record { at = e; first = stands heap at k once e }

  -- and each that is there is found by its number
  pub in_of : (heap : List (Kept S)) (k : Kept S) → HasNoRepeats (numbers number heap)
      → Contains heap k → segment_in number heap (number k.slots) ≡ Some k
  in_of heap k once c =
      found_is number heap (number k.slots) c.0 k
      (found_there heap c.0 k once (slice_get-get_or heap c.0 k c.1 ∙ ap Some c.2))

  module _ (heap : List (Kept S)) (segment found : ℕ) (one : Kept S)
      (here : Found number heap segment found one)
      (once : HasNoRepeats (numbers number heap)) where
    abbrev pub rest : List (Kept S)
    rest = swap_remove heap found one

    inside : found < length heap
    inside = inside_of heap found one here.at

    pub own : number one.slots ≡ segment
    own = number_is number heap segment found one here

    pub permuted : IsPermutation heap (one ∷ rest)
    permuted = IsPermutation-swap_remove heap found one inside
        (sym (get_or_from_slice_get heap found one one here.at))

    once_all : HasNoRepeats (number one.slots ∷ numbers number rest)
    once_all = permuted_once (numbers number heap) (numbers number (one ∷ rest))
        (IsPermutation-map (λ (k : Kept S). number k.slots) heap (one ∷ rest) permuted) once

    pub once_rest : HasNoRepeats (numbers number rest)
    once_rest = once_all.1

    -- what is left was there, and all but the one is left
    pub was_there : (k : Kept S) → Contains rest k → Contains heap k
    was_there k c = Contains-permutation (one ∷ rest) heap k
        (IsPermutation-sym heap (one ∷ rest) permuted) (contains_more one k rest c)

    still_there : (k : Kept S) → Contains heap k → (k ≡ one) ⊎ Contains rest k
    still_there k c =
        contained_cases one k rest (Contains-permutation heap (one ∷ rest) k permuted c)

    -- no other has its number
    pub other_number : (k : Kept S) → Contains rest k → number k.slots ≢ segment
    other_number k c e =
        let there = get-map (λ (j : Kept S). number j.slots) rest c.0 k
        (slice_get-get_or rest c.0 k c.1 ∙ ap Some c.2) in
        Contains-lacks (number one.slots) (numbers number rest) once_all.0
        (subst (Contains (numbers number rest)) (e ∙ sym own)
        (Contains-get (numbers number rest) c.0 (number k.slots) there))

    gone_by : (o : Option (Kept S)) → segment_in number rest segment ≡ o → o ≡ None
    gone_by None e = refl
    gone_by (Some k) e = absurd (other_number k (segment_contained number rest segment k e)
        (passes number rest segment k e))

    pub gone : segment_in number rest segment ≡ None
    gone = gone_by (segment_in number rest segment) refl

    new_by : (other : ℕ) → segment_in number heap other ≡ None → (o : Option (Kept S))
        → segment_in number rest other ≡ o → o ≡ None
    new_by other none None e = refl
    new_by other none (Some k) e = absurd (
        let was = in_of heap k once
        (was_there k (segment_contained number rest other k e)) in
        let n = passes number rest other k e in
        let nothing : None ≡ Some k = sym none ∙ ap (segment_in number heap) (sym n) ∙ was in
        cc)

    others_by : (other : ℕ) → other ≢ segment → (o : Option (Kept S))
        → segment_in number heap other ≡ o → segment_in number rest other ≡ o
    others_by other ne None e = new_by other e (segment_in number rest other) refl
    others_by other ne (Some k) e =
        let n = passes number heap other k e in
        ⊎_elim (λ s. absurd (ne (sym n ∙ ap (λ (j : Kept S). number j.slots) s ∙ own)))
        (λ c. ap (segment_in number rest) (sym n) ∙ in_of rest k once_rest c)
        (still_there k (segment_contained number heap other k e))

    pub others : (other : ℕ) → other ≢ segment
        → segment_in number rest other ≡ segment_in number heap other
    others other ne = others_by other ne (segment_in number heap other) refl

    -- where each stands
    abbrev last : ℕ
    last = length heap - 1

    pub length_rest : length rest + 1 ≡ length heap
    length_rest =
        let x = slice_index_or heap last one in
        let l = length-set heap found x in
        let t = length-take-le last (slice_set heap found x) (omega (arith, l)) in
        let i = inside in
        omega (arith, t, i)

    kept : (at : ℕ) (k : Kept S) → at < length rest → at ≢ found → slice_get heap at ≡ Some k
        → slice_get rest at ≡ Some k
    kept at k lt ne e =
        let x = slice_index_or heap last one in
        let below : at < last = let l = length_rest in omega (arith, lt, l) in
        slice_get-get_or rest at k lt
        ∙ ap Some (get_or-take last (slice_set heap found x) at k below
        ∙ get_or-set_other heap found at x k ne ∙ get_or_from_slice_get heap at k k e)

    pub moved_is : (k : Kept S) → slice_get rest found ≡ Some k → slice_get heap last ≡ Some k
    moved_is k e =
        let x = slice_index_or heap last one in
        let lt = inside_of rest found k e in
        let below : found < last = let l = length_rest in omega (arith, lt, l) in
        let in_heap : last < length heap = let i = inside in omega (arith, i) in
        slice_get-get_or heap last one in_heap
        ∙ ap Some (sym (get_or-set_same heap found x k inside)
        ∙ sym (get_or-take last (slice_set heap found x) found k below)
        ∙ get_or_from_slice_get rest found k k e)

    place_kept : (s at : ℕ) (k : Kept S) → s ≢ segment
        → ((j : Kept S) → slice_get heap last ≡ Some j → number j.slots ≢ s)
        → slice_get heap at ≡ Some k → number k.slots ≡ s
        → (at < length rest) × (at ≡ position_or_len (is_of number s) rest)
    place_kept s at k ne away e n =
        let off : at ≢ found = λ a. (
        let same : Some k ≡ Some one = sym e ∙ ap (slice_get heap) a ∙ here.at in
        let is : k ≡ one = cc in
        ne (sym n ∙ ap (λ (j : Kept S). number j.slots) is ∙ own)) in
        let not_last : at ≢ last = λ a. away k (ap (slice_get heap) (sym a) ∙ e) n in
        let within = inside_of heap at k e in
        let lt : at < length rest = let l = length_rest in omega (arith, within, l, not_last) in (
          lt,
          subst (λ (m : ℕ). at ≡ position_or_len (is_of number m) rest) n
              (stands rest at k once_rest (kept at k lt off e)),
        )

    -- a number that is neither the one's nor the last's is found where it was
    pub at_kept : (s : ℕ) (o : Option ℕ) → s ≢ segment
        → ((j : Kept S) → slice_get heap last ≡ Some j → number j.slots ≢ s)
        → IsAt number heap s o → IsAt number rest s o
    at_kept s None ne away h = ap is_some (others s ne) ∙ h
    at_kept s (Some at) ne away h =
        let first : at ≡ position_or_len (is_of number s) heap = h.1 in
        let k = get_or heap at one in
        let there = slice_get-get_or heap at one h.0 in
        place_kept s at k ne away there
        (passes number heap s k
        (find_at (is_of number s) heap ∙ ap (slice_get heap) (sym first) ∙ there))
