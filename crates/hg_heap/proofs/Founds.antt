-- The segment that a heap has of a number, and a heap in which it is another.
use Rattle.std.proofs.Common.{◌≡◌, ◌⊎◌, ℕ, ◌+◌, ◌%◌, ◌==◌, ◌<◌, ◌≤◌, inl, inr, Bool, true}
use Rattle.std.proofs.Common.{false, cond, ◌∷◌, [], List, map, length, get_or, set, Option, Some}
use Rattle.std.proofs.Common.{None, refl, sym, ap, subst, ◌∙◌, arith, find, is_some, slice_get}
use Rattle.std.proofs.Common.{slice_set, slice_index_or}
use Rattle.std.specs.Prelude.{option_map, Contains, IfSome, IfNone}
use Rattle.std.specs.List.{position_or_len}
use Rattle.std.proofs.lemmas.Bool.{cases_Bool, cases_lt, cases_eq, eqb-true, ne_eqb}
use Rattle.std.proofs.lemmas.Grind.{get_or-set_at}
use Rattle.std.proofs.lemmas.List.{set-get_or, map-set, length-map, length-set, get_or-map}
use Rattle.std.proofs.lemmas.List.{get_or-set_other}
use Rattle.std.proofs.lemmas.List.Folds.{find_at}
use Rattle.std.proofs.lemmas.Option.{get_or_from_slice_get, slice_get-get_or, slice_get_past}
use Rattle.hg_place.specs.declared.Place.{Place}
use Rattle.hg_place.specs.Places.{number_of}
use Rattle.hg_place.specs.Standings.{slot_of}
use Rattle.hg_lists.specs.Repeats.{HasNoRepeats}
use Rattle.hg_segment.specs.Kept.{Kept}
use Rattle.hg_heap.specs.Held.{is_of, is_held, segment_in}
use Rattle.hg_heap.specs.Found.{IsFoundAt}
use Rattle.hg_heap.specs.Table.{IsAt, IsTabled}

pub at_is : (place : Place) → number_of place % 8192 ≡ slot_of place
at_is place = let a = place.page_below in let b = place.index_below in omega arith

some_there : {X : Type 0} (xs : List X) (n : ℕ) → n < length xs → is_some (slice_get xs n) ≡ true
some_there [] n lt = absurd (omega (arith, lt))
some_there (x ∷ xs) n lt = ap is_some (slice_get-get_or (x ∷ xs) n x lt)

pub get-map : {X Y : Type 0} (f : X → Y) (xs : List X) (n : ℕ) (x : X) → slice_get xs n ≡ Some x
    → slice_get (map f xs) n ≡ Some (f x)
get-map f xs n x e = elim (cases_lt n (length xs)) [
  | inl lt ↦ (
      let here : get_or xs n x ≡ x = get_or_from_slice_get xs n x x e in
      let less : n < length (map f xs) = subst (λ m. n < m) (sym (length-map xs f)) lt in
      slice_get-get_or (map f xs) n (f x) less ∙ ap Some (get_or-map f xs n x (f x) lt ∙ ap f here))
  | inr ge ↦ absurd (let none : slice_get xs n ≡ None = slice_get_past xs n ge in cc)
]

-- what stands in a list
pub inside_of : {X : Type 0} (xs : List X) (n : ℕ) (x : X) → slice_get xs n ≡ Some x → n < length xs
inside_of xs n x e = elim (cases_lt n (length xs)) [
  | inl lt ↦ lt
  | inr ge ↦ absurd (let none : slice_get xs n ≡ None = slice_get_past xs n ge in cc)
]

pub Contains-get : {X : Type 0} (xs : List X) (n : ℕ) (x : X) → slice_get xs n ≡ Some x
    → Contains xs x
Contains-get xs n x e = (n, inside_of xs n x e, get_or_from_slice_get xs n x x e)

-- what a list has after one entry is another was there, or is that one
pub contained_set : {X : Type 0} (xs : List X) (n : ℕ) (y x : X) → Contains (slice_set xs n y) x
    → (x ≡ y) ⊎ Contains xs x
contained_set xs n y x c =
    let below : c.0 < length xs = subst (λ m. c.0 < m) (length-set xs n y) c.1 in
    elim (cases_eq c.0 n) [
      | inl e ↦ inl (sym c.2 ∙ get_or-set_at xs n c.0 y x e (subst (λ m. m < length xs) e below))
      | inr ne ↦ inr (c.0, below, sym (get_or-set_other xs n c.0 y x ne) ∙ c.2)
    ]

-- a list that has another entry, of which a map tells the same, is told the same
pub map_same : {X Y : Type 0} (f : X → Y) (xs : List X) (n : ℕ) (x y : X) → slice_get xs n ≡ Some x
    → f y ≡ f x → map f (slice_set xs n y) ≡ map f xs
map_same f xs n x y at same =
    map-set f xs n y
    ∙ ap (set (map f xs) n) same
    ∙ sym (map-set f xs n x)
    ∙ ap (map f) (ap (set xs n) (sym (get_or_from_slice_get xs n x x at)) ∙ set-get_or xs n x)

module _ {S X : Type 0} (number : S → ℕ) (told : Kept S → X) where
  mapped : (b : Bool) (k : Kept S) (o : Option (Kept S))
      → option_map told (cond b (Some k) o) ≡ cond b (Some (told k)) (option_map told o)
  mapped true k o = refl
  mapped false k o = refl

  abbrev pub pair : Kept S → ℕ × X
  pair k = (number k.slots, told k)

  -- what is told of the segment of a number, by what is told of all
  pub told_in : (xs ys : List (Kept S)) → map pair ys ≡ map pair xs → (segment : ℕ)
      → option_map told (segment_in number ys segment)
      ≡ option_map told (segment_in number xs segment)
  told_in [] [] e segment = refl
  told_in [] (y ∷ ys) e segment = absurd (cc)
  told_in (x ∷ xs) [] e segment = absurd (cc)
  told_in (x ∷ xs) (y ∷ ys) e segment =
      let heads : pair y ≡ pair x = cc in
      let tails : map pair ys ≡ map pair xs = cc in
      mapped (number y.slots == segment) y (segment_in number ys segment)
      ∙ ap (λ (p : ℕ × X). cond (p.0 == segment) (Some p.1)
      (option_map told (segment_in number ys segment))) heads
      ∙ ap (λ (o : Option X). cond (number x.slots == segment) (Some (told x)) o)
      (told_in xs ys tails segment)
      ∙ sym (mapped (number x.slots == segment) x (segment_in number xs segment))

module _ {S : Type 0} (number : S → ℕ) where
  -- a heap has what its numbers say
  abbrev pub numbers : List (Kept S) → List ℕ
  numbers = map (λ k. number k.slots)

  abbrev is_there : List ℕ → ℕ → Bool
  is_there ns segment = is_some (find (λ n. n == segment) ns)

  pub held_by : (heap : List (Kept S)) (segment : ℕ)
      → is_held number heap segment ≡ is_there (numbers heap) segment
  held_by [] segment = refl
  held_by (x ∷ xs) segment = elim (cases_Bool (number x.slots == segment))
      as (λ _. is_some (cond (number x.slots == segment) (Some x) (find (is_of number segment) xs))
      ≡ is_some (cond (number x.slots == segment) (Some (number x.slots))
      (find (λ n. n == segment) (numbers xs)))) [
        | inl t ↦ rw t refl
        | inr f ↦ rw f (held_by xs segment)
      ]

  pub first_by : (heap : List (Kept S)) (segment : ℕ)
      → position_or_len (is_of number segment) heap ≡ position_or_len (λ n. n == segment)
      (numbers heap)
  first_by [] segment = refl
  first_by (x ∷ xs) segment = elim (cases_Bool (number x.slots == segment))
      as (λ _. position_or_len (is_of number segment) (x ∷ xs) ≡ position_or_len (λ n. n == segment)
      (numbers (x ∷ xs))) [
        | inl t ↦ rw t refl
        | inr f ↦ rw f (ap (λ n. 1 + n) (first_by xs segment))
      ]

  pub numbers_same : (heap : List (Kept S)) (found : ℕ) (one after : Kept S)
      → slice_get heap found ≡ Some one → number after.slots ≡ number one.slots
      → numbers (slice_set heap found after) ≡ numbers heap
  numbers_same heap found one after at same =
      map_same (λ (k : Kept S). number k.slots) heap found one after at same

  is_at_same : (heap other : List (Kept S)) → numbers other ≡ numbers heap
      → (segment : ℕ) (o : Option ℕ) → IsAt number heap segment o → IsAt number other segment o
  is_at_same heap other e segment None h = held_by other segment ∙ ap (λ ns. is_there ns segment) e
      ∙ sym (held_by heap segment) ∙ h
  is_at_same heap other e segment (Some found) h = (
    subst (λ n. found < n) (sym (length-map heap (λ (k : Kept S). number k.slots))
        ∙ sym (ap length e) ∙ length-map other (λ (k : Kept S). number k.slots)) h.0,
    h.1 ∙ first_by heap segment ∙ sym (ap (position_or_len (λ n. n == segment)) e)
        ∙ sym (first_by other segment),
  )

  -- which segments are held stays where one is another of the same number
  pub held_same : (heap : List (Kept S)) (found : ℕ) (one after : Kept S)
      → slice_get heap found ≡ Some one → number after.slots ≡ number one.slots → (segment : ℕ)
      → is_held number (slice_set heap found after) segment ≡ is_held number heap segment
  held_same heap found one after at same segment =
      held_by (slice_set heap found after) segment
      ∙ ap (λ ns. is_there ns segment) (numbers_same heap found one after at same)
      ∙ sym (held_by heap segment)

  -- no segment is held of a number that there isn't
  pub held_beyond : ((s : S) → number s < 64) → (heap : List (Kept S)) (segment : ℕ) → 64 ≤ segment
      → is_held number heap segment ≡ false
  held_beyond numbered [] segment far = refl
  held_beyond numbered (x ∷ xs) segment far =
      rw (ne_eqb (number x.slots) segment
      (λ e. absurd (let n = numbered x.slots in omega (arith, n, e, far))))
      (held_beyond numbered xs segment far)

  -- the table tells where what is held stands
  at_none : (heap : List (Kept S)) (segment : ℕ) (o : Option ℕ) → IsAt number heap segment o
      → IfNone o (is_held number heap segment ≡ false)
  at_none heap segment None h = h
  at_none heap segment (Some found) h = tt

  at_some : (heap : List (Kept S)) (segment : ℕ) (o : Option ℕ) → IsAt number heap segment o
      → IfSome o (λ found. IsFoundAt number heap segment found)
  at_some heap segment None h = tt
  at_some heap segment (Some found) h = record { inside = h.0; first = h.1 }

  pub told_none : (table : List (Option ℕ)) (heap : List (Kept S)) (segment : ℕ)
      → IsTabled number table heap → segment < 64
      → IfNone (slice_index_or table segment None) (is_held number heap segment ≡ false)
  told_none table heap segment t below =
      at_none heap segment (slice_index_or table segment None) (t.each segment below)

  pub told_some : (table : List (Option ℕ)) (heap : List (Kept S)) (segment : ℕ)
      → IsTabled number table heap → segment < 64
      → IfSome (slice_index_or table segment None) (λ found. IsFoundAt number heap segment found)
  told_some table heap segment t below =
      at_some heap segment (slice_index_or table segment None) (t.each segment below)

  -- the table stays right where one segment is another of the same number
  pub tabled_same : (table : List (Option ℕ)) (heap : List (Kept S)) (found : ℕ)
      (one after : Kept S) → IsTabled number table heap → slice_get heap found ≡ Some one
      → number after.slots ≡ number one.slots → IsTabled number table (slice_set heap found after)
  tabled_same table heap found one after t at same = record {
    all = t.all;
    each = λ segment below. is_at_same heap (slice_set heap found after)
        (numbers_same heap found one after at same) segment (slice_index_or table segment None)
        (t.each segment below);
    many = t.many ∙ sym (length-set heap found after);
    once = subst HasNoRepeats (sym (numbers_same heap found one after at same)) t.once;
  }

  pub passes : (heap : List (Kept S)) (segment : ℕ) (one : Kept S)
      → segment_in number heap segment ≡ Some one → number one.slots ≡ segment
  passes [] segment one e = absurd (cc)
  passes (x ∷ xs) segment one e = elim
      (cases_Bool (number x.slots == segment)) as (λ _. number one.slots ≡ segment) [
        | inl t ↦
            let same : Some x ≡ Some one = sym
            (ap (λ b. cond b (Some x) (find (is_of number segment) xs)) t) ∙ e in
            let is : x ≡ one = cc in
            ap (λ k. number k.slots) (sym is) ∙ eqb-true (number x.slots) segment t
        | inr f ↦ passes xs segment one
            (sym (ap (λ b. cond b (Some x) (find (is_of number segment) xs)) f) ∙ e)
      ]

  -- the segment of this number, and where it stands
  pub record Found (heap : List (Kept S)) (segment found : ℕ) (one : Kept S) : Type 0 where
    pub at : slice_get heap found ≡ Some one
    pub first : found ≡ position_or_len (is_of number segment) heap

  pub found_of : (items : List (Kept S)) (segment found : ℕ) (one : Kept S)
      → IsFoundAt number items segment found → one ≡ get_or items found one
      → Found items segment found one
  found_of items segment found one f is =
      record { at = slice_get-get_or items found one f.inside ∙ ap Some (sym is); first = f.first }

  pub found_is : (heap : List (Kept S)) (segment found : ℕ) (one : Kept S)
      → Found heap segment found one → segment_in number heap segment ≡ Some one
  found_is heap segment found one here = find_at (is_of number segment) heap
      ∙ ap (slice_get heap) (sym here.first) ∙ here.at

  pub number_is : (heap : List (Kept S)) (segment found : ℕ) (one : Kept S)
      → Found heap segment found one → number one.slots ≡ segment
  number_is heap segment found one here =
      passes heap segment one (found_is heap segment found one here)

  -- where it stands when it is another of the same number
  pub found_after : (heap : List (Kept S)) (segment found : ℕ) (one after : Kept S)
      → Found heap segment found one → number after.slots ≡ number one.slots
      → Found (slice_set heap found after) segment found after
  found_after heap segment found one after here same = record {
    at = (
        let inside : found < length (slice_set heap found after) =
        subst (λ n. found < n) (sym (length-set heap found after))
        (inside_of heap found one here.at) in
        slice_get-get_or (slice_set heap found after) found after inside
        ∙ ap Some (get_or-set_at heap found found after after refl
        (inside_of heap found one here.at)));
    first = here.first ∙ first_by heap segment
        ∙ sym (ap (position_or_len (λ n. n == segment))
        (numbers_same heap found one after here.at same))
        ∙ sym (first_by (slice_set heap found after) segment);
  }

  -- a segment that is held is found
  pub found_held : (items : List (Kept S)) (segment found : ℕ)
      → IsFoundAt number items segment found → is_held number items segment ≡ true
  found_held items segment found f = ap is_some
      (find_at (is_of number segment) items ∙ ap (slice_get items) (sym f.first))
      ∙ some_there items found f.inside

  -- whether a segment is held, by where it is found
  pub held_by_found : (items : List (Kept S)) (segment : ℕ) (o : Option ℕ)
      → IfNone o (is_held number items segment ≡ false)
      → IfSome o (λ found. IsFoundAt number items segment found)
      → is_some o ≡ is_held number items segment
  held_by_found items segment None none some = sym none
  held_by_found items segment (Some found) none some = sym (found_held items segment found some)

  -- what is told of the segment of a number
  pub told_of : {X : Type 0} (f : Kept S → X) (items : List (Kept S)) (segment found : ℕ)
      (one : Kept S) → IsFoundAt number items segment found → one ≡ get_or items found one
      → option_map f (segment_in number items segment) ≡ Some (f one)
  told_of f items segment found one at is =
      ap (option_map f) (found_is items segment found one (found_of items segment found one at is))

  -- it is one of those that are held
  pub segment_contained : (items : List (Kept S)) (segment : ℕ) (one : Kept S)
      → segment_in number items segment ≡ Some one → Contains items one
  segment_contained items segment one e =
      Contains-get items (position_or_len (is_of number segment) items) one
      (sym (find_at (is_of number segment) items) ∙ e)
