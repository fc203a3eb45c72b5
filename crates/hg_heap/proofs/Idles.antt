-- Whether a page is idle, by its class and the records of its places.
use Rattle.std.proofs.Common.{◌≡◌, ◌≢◌, ℕ, zero, suc, ◌+◌, ◌%◌, ◌<◌, ◌==◌, ◌&&◌, inl, inr}
use Rattle.std.proofs.Common.{Bool, true, false, cond, ◌∷◌, [], List, map, Option, Some, None, refl}
use Rattle.std.proofs.Common.{sym, ap, ◌∙◌, arith, is_some, find, option_map}
use Rattle.std.specs.List.{list_all, range_with_len}
use Rattle.std.proofs.lemmas.Bool.{cases_Bool, true≢false, and_from, and_parts}
use Rattle.std.proofs.lemmas.Bool.{false_from_ne_true}
use Rattle.hg_place.specs.declared.standing.Standing.{Standing}
use Rattle.hg_place.specs.Places.{segment_of_page}
use Rattle.hg_place.specs.Standings.{standing_at, is_home}
use Rattle.hg_segment.specs.Kept.{Kept, slot}
use Rattle.hg_segment.specs.Kept.{class_at as class_in}
use Rattle.hg_segment.specs.Retires.{IsIdlePage}
use Rattle.hg_heap.specs.Held.{is_of, segment_in, class_by, class_on}
use Rattle.hg_heap.specs.Idle.{is_idle_by, is_idle, bare}

-- a range passes a test where each of its numbers does
pub all_from : (p : ℕ → Bool) (a n : ℕ) → ((k : ℕ) → k < n → p (a + k) ≡ true)
    → list_all p (range_with_len a n) ≡ true
all_from p a zero h = refl
all_from p a (suc n) h =
    let z : a + 0 ≡ a = omega arith in
    and_from (p a) (list_all p (range_with_len (a + 1) n)) (ap p (sym z) ∙ h 0 (omega arith))
    (all_from p (a + 1) n (λ k lt.
    let e : a + 1 + k ≡ a + (k + 1) = omega arith in
    ap p e ∙ h (k + 1) (omega (arith, lt))))

pub all_at : (p : ℕ → Bool) (a n k : ℕ) → list_all p (range_with_len a n) ≡ true → k < n
    → p (a + k) ≡ true
all_at p a zero k e lt = absurd (omega (arith, lt))
all_at p a (suc n) zero e lt =
    let z : a + 0 ≡ a = omega arith in
    ap p z ∙ (and_parts (p a) (list_all p (range_with_len (a + 1) n)) e).0
all_at p a (suc n) (suc k) e lt =
    let s : a + suc k ≡ a + 1 + k = omega arith in
    ap p s
    ∙ all_at p (a + 1) n k (and_parts (p a) (list_all p (range_with_len (a + 1) n)) e).1
    (omega (arith, lt))

-- two ranges of one length, and a test of each
pub all_shift : (p q : ℕ → Bool) (a b n : ℕ) → ((k : ℕ) → k < n → p (a + k) ≡ q (b + k))
    → list_all p (range_with_len a n) ≡ list_all q (range_with_len b n)
all_shift p q a b zero h = refl
all_shift p q a b (suc n) h =
    let z : a + 0 ≡ a = omega arith in
    let y : b + 0 ≡ b = omega arith in
    ap (λ c. c && list_all p (range_with_len (a + 1) n))
    (ap p (sym z) ∙ h 0 (omega arith) ∙ ap q y)
    ∙ ap (λ c. q b && c) (all_shift p q (a + 1) (b + 1) n (λ k lt.
    let e : a + 1 + k ≡ a + (k + 1) = omega arith in
    let f : b + (k + 1) ≡ b + 1 + k = omega arith in
    ap p e ∙ h (k + 1) (omega (arith, lt)) ∙ ap q f))

-- each place of a page is home
abbrev pub home_on : List Standing → ℕ → Bool
home_on rs page =
    list_all (λ index. is_home (standing_at rs (slot page index))) (range_with_len 0 512)

pub home_from : (rs : List Standing) (page : ℕ) → IsIdlePage rs page → home_on rs page ≡ true
home_from rs page idle = go 512 refl
  where
    go : (n : ℕ) → n ≡ 512
        → list_all (λ index. is_home (standing_at rs (slot page index))) (range_with_len 0 n)
        ≡ true
    go n e = all_from (λ index. is_home (standing_at rs (slot page index))) 0 n (λ k lt.
        let z : 0 + k ≡ k = omega arith in
        ap (λ (index : ℕ). is_home (standing_at rs (slot page index))) z
        ∙ idle k (omega (arith, lt, e)))

pub home_at : (rs : List Standing) (page : ℕ) → home_on rs page ≡ true → IsIdlePage rs page
home_at rs page = go 512 refl
  where
    go : (n : ℕ) → n ≡ 512
        → list_all (λ index. is_home (standing_at rs (slot page index))) (range_with_len 0 n)
        ≡ true → IsIdlePage rs page
    go n e all k lt =
        let z : k ≡ 0 + k = omega arith in
        ap (λ (index : ℕ). is_home (standing_at rs (slot page index))) z
        ∙ all_at (λ index. is_home (standing_at rs (slot page index))) 0 n k all
        (omega (arith, lt, e))

is_one : (o : Option ℕ) → o ≢ None → is_some o ≡ true
is_one None ne = absurd (ne refl)
is_one (Some n) ne = refl

one_is : (o : Option ℕ) → is_some o ≡ true → o ≢ None
one_is None e same = true≢false (sym e)
one_is (Some n) e same = absurd (cc)

module _ {S : Type 0} (number : S → ℕ) (records : S → List Standing) where
  -- by what the segment tells of the page
  pub idle_here : (k : Kept S) (page : ℕ) → class_in k.classes page ≢ None
      → IsIdlePage (records k.slots) page → is_idle_by number records (Some k) page ≡ true
  idle_here k page classed idle =
      and_from (is_some (class_in k.classes page)) (home_on (records k.slots) page)
      (is_one (class_in k.classes page) classed) (home_from (records k.slots) page idle)

  pub busy_here : (k : Kept S) (page : ℕ)
      → (class_in k.classes page ≢ None → IsIdlePage (records k.slots) page → ⊥)
      → is_idle_by number records (Some k) page ≡ false
  busy_here k page busy = false_from_ne_true (is_idle_by number records (Some k) page) (λ e.
      let parts = and_parts (is_some (class_in k.classes page)) (home_on (records k.slots) page) e
      in
      busy (one_is (class_in k.classes page) parts.0) (home_at (records k.slots) page parts.1))

  -- of a segment that is held
  abbrev pub home_by : Option (Kept S) → ℕ → Bool
  home_by None page = false
  home_by (Some k) page = home_on (records k.slots) page

  parted : (o : Option (Kept S)) (page : ℕ) → is_idle_by number records o page
      ≡ (is_some (class_by number o page) && home_by o page)
  parted None page = refl
  parted (Some k) page = refl

  pub home_bare : (o : Option (Kept S)) (page : ℕ)
      → home_by o page ≡ home_by (option_map bare o) page
  home_bare None page = refl
  home_bare (Some k) page = refl

  -- an idle page has a class, and its places are home
  pub idle_is : (segments : List (Kept S)) (page : ℕ) → is_idle number records segments page
      ≡ (is_some (class_on number segments page) && home_by
      (segment_in number segments (segment_of_page page)) (page % 16))
  idle_is segments page =
      parted (segment_in number segments (segment_of_page page)) (page % 16)

  in_map : (xs : List (Kept S)) (segment : ℕ)
      → option_map bare (segment_in number xs segment)
      ≡ segment_in number (map bare xs) segment
  in_map [] segment = refl
  in_map (x ∷ xs) segment =
      elim (cases_Bool (number x.slots == segment))
      as (λ _. option_map bare (cond (number x.slots == segment) (Some x)
      (find (is_of number segment) xs))
      ≡ cond (number x.slots == segment) (Some (bare x))
      (find (is_of number segment) (map bare xs))) [
        | inl t ↦ rw t refl
        | inr f ↦ rw f (in_map xs segment)
      ]

  -- segments that differ only in classes and lists
  pub rest_in : (xs ys : List (Kept S)) (segment : ℕ) → map bare xs ≡ map bare ys
      → option_map bare (segment_in number xs segment)
      ≡ option_map bare (segment_in number ys segment)
  rest_in xs ys segment e =
      in_map xs segment
      ∙ ap (λ (zs : List (Kept S)). segment_in number zs segment) e
      ∙ sym (in_map ys segment)

  -- such a page is idle where it was, if its class is the same
  pub idle_same : (xs ys : List (Kept S)) (page : ℕ) → map bare xs ≡ map bare ys
      → class_on number xs page ≡ class_on number ys page
      → is_idle number records xs page ≡ is_idle number records ys page
  idle_same xs ys page rest class =
      let at = λ (zs : List (Kept S)). segment_in number zs (segment_of_page page) in
      idle_is xs page
      ∙ ap (λ (c : Option ℕ). is_some c && home_by (at xs) (page % 16)) class
      ∙ ap (λ (b : Bool). is_some (class_on number ys page) && b)
      (home_bare (at xs) (page % 16)
      ∙ ap (λ (o : Option (Kept S)). home_by o (page % 16))
      (rest_in xs ys (segment_of_page page) rest)
      ∙ sym (home_bare (at ys) (page % 16)))
      ∙ sym (idle_is ys page)
