-- The parts of a core at its opening.
use Rattle.std.proofs.Common.{zero, suc, ◌≡◌, ℕ, ◌+◌, ◌*◌, ◌%◌, ◌==◌, ◌&&◌, ◌<◌, ◌≤◌, inl, inr}
use Rattle.std.proofs.Common.{false, ◌∷◌, [], ◌++◌, List, map, length, replicate, Option, Some}
use Rattle.std.proofs.Common.{None, refl, sym, ap, ◌∙◌, arith, find, is_none, nat_lt, count_by}
use Rattle.std.proofs.Common.{subst}
use Rattle.std.specs.List.{range_with_len, list_any}
use Rattle.std.proofs.lemmas.Bool.{cases_eq, eq-eqb, ne_eqb, true≢false, lt-ltb, le-ltb}
use Rattle.hg_place.specs.Places.{segment_of, segment_of_page}
use Rattle.hg_place.specs.Words.{bit_of}
use Rattle.hg_machine.specs.Life.{never_used}
use Rattle.hg_machine.specs.State.{fresh, opening}
use Rattle.hg_agreement.specs.Holdings.{has}
use Rattle.hg_agreement.specs.Parts.{Plain, Parts, is_of, heap_at, holdings, worker_of, plain_by}
use Rattle.hg_agreement.specs.Parts.{plain_of, record_by, class_by, record_of, page_class}
use Rattle.hg_agreement.specs.Parts.{holder_by, holder_of, state_of}
use Rattle.hg_agreement.specs.LeftPut.{numbers}
use Rattle.hg_agreement.specs.Pool.{IsRising, is_unheld}
use Rattle.hg_agreement.specs.Unused.{IsUnused, UnusedIsOpening}
use Rattle.hg_agreement.proofs.Lookups.{maps}
use Rattle.hg_agreement.proofs.Leaves.{none_passes}
use Rattle.hg_agreement.proofs.Firsts.{count_cons}

pub count_numbers : (segment : ℕ) (xs : List Plain) → count_by (is_of segment) xs ≡ count_by
    (λ k. k == segment) (numbers xs)
count_numbers segment [] = refl
count_numbers segment (x ∷ xs) =
    count_cons (is_of segment) x xs
    ∙ ap (λ k. bit_of (x.holding.number == segment) + k) (count_numbers segment xs)
    ∙ sym (count_cons (λ k. k == segment) x.holding.number (numbers xs))

none_counted : (x a n : ℕ) → x < a → count_by (λ k. k == x) (range_with_len a n) ≡ 0
none_counted x a zero h = refl
none_counted x a (suc n) h =
    let c = count_cons (λ k. k == x) a (range_with_len (a + 1) n) in
    let z : bit_of (a == x) ≡ 0 = ap bit_of (ne_eqb a x (λ e. omega arith)) in
    let rest = none_counted x (a + 1) n (omega arith) in
    omega arith

range_counted : (x a n : ℕ) → a ≤ x → count_by (λ k. k == x) (range_with_len a n) ≡ bit_of
    (nat_lt x (a + n))
range_counted x a zero low = sym (ap bit_of (le-ltb x (a + 0) (omega arith)))
range_counted x a (suc n) low =
    let c = count_cons (λ k. k == x) a (range_with_len (a + 1) n) in
    elim (cases_eq a x) [
      | inl e ↦
          let z : bit_of (a == x) ≡ 1 = ap bit_of (eq-eqb a x e) in
          let rest = none_counted x (a + 1) n (omega arith) in
          let all : bit_of (nat_lt x (a + suc n)) ≡ 1 =
          ap bit_of (lt-ltb x (a + suc n) (omega arith)) in
          omega arith
      | inr ne ↦
          let z : bit_of (a == x) ≡ 0 = ap bit_of (ne_eqb a x ne) in
          let rest = range_counted x (a + 1) n (omega arith) in
          let same : bit_of (nat_lt x (a + 1 + n)) ≡ bit_of (nat_lt x (a + suc n)) =
          ap (λ k. bit_of (nat_lt x k)) (omega arith) in
          omega arith
    ]

rising_range : (a n : ℕ) → IsRising a (range_with_len a n)
rising_range a zero = tt
rising_range a (suc n) = (omega arith, rising_range (a + 1) n)

map_same : {X : Type 0} (x : X) (a n : ℕ) → map (λ k. x) (range_with_len a n) ≡ replicate n x
map_same {X} x a zero = refl
map_same {X} x a (suc n) = ap (λ l. x ∷ l) (map_same x (a + 1) n)

module _ (parts : Parts) (unused : IsUnused parts) where
  segments : ℕ
  segments = length parts.policy.segments

  has_none : (v segment : ℕ) → has (holdings (heap_at parts v)) segment ≡ false
  has_none v segment = ap (λ h. has (holdings h) segment) (unused.heaps v)

  unheld : (segment : ℕ) → worker_of parts segment ≡ None
  unheld segment =
      none_passes (λ v. has (holdings (heap_at parts v)) segment)
      (range_with_len 0 (length parts.heaps)) (λ v. has_none v segment)

  plain_is : (segment : ℕ) → plain_of parts segment ≡ find (is_of segment) parts.fresh
  plain_is segment =
      ap (plain_by parts segment) (unheld segment)
      ∙ ap (λ l. find (is_of segment) (l ++ parts.fresh)) unused.orphans

  record_by_find : (segment at : ℕ) (o : Option Plain) → find (is_of segment) parts.fresh ≡ o
      → at < 8192 → record_by o at ≡ never_used
  record_by_find segment at None is below = refl
  record_by_find segment at (Some one) is below = unused.records segment at one is below

  class_by_find : (segment page : ℕ) (o : Option Plain) → find (is_of segment) parts.fresh ≡ o
      → page < 16 → class_by o page ≡ None
  class_by_find segment page None is below = refl
  class_by_find segment page (Some one) is below = unused.classes segment page one is below

  record_is : (q : ℕ) → record_of parts q ≡ never_used
  record_is q = ap (λ o. record_by o (q % 8192)) (plain_is (segment_of q))
      ∙ record_by_find (segment_of q) (q % 8192) (find (is_of (segment_of q)) parts.fresh) refl
      (omega arith)

  class_is : (q : ℕ) → page_class parts q ≡ None
  class_is q = ap (λ o. class_by o (q % 16)) (plain_is (segment_of_page q))
      ∙ class_by_find (segment_of_page q) (q % 16) (find (is_of (segment_of_page q)) parts.fresh)
      refl (omega arith)

  holder_is : (segment : ℕ) → holder_of parts segment ≡ fresh
  holder_is segment =
      ap (λ o. holder_by o (list_any (is_of segment) parts.orphans)) (unheld segment)
      ∙ ap (λ l. holder_by None (list_any (is_of segment) l)) unused.orphans

  pub opens : state_of parts ≡ opening parts.policy
  opens =
      let n = length parts.policy.segments in
      let r = maps (record_of parts) (λ k. never_used) (range_with_len 0 (n * 8192)) record_is
      ∙ map_same never_used 0 (n * 8192) in
      let none : Option ℕ = None in
      let c = maps (page_class parts) (λ k. none) (range_with_len 0 (n * 16)) class_is
      ∙ map_same none 0 (n * 16) in
      let h = maps (holder_of parts) (λ k. fresh) (range_with_len 0 n) holder_is
      ∙ map_same fresh 0 n in
      let o = ap numbers unused.orphans in
      let hands = unused.hands in
      cc

  pub counted : (segment : ℕ) → count_by (is_of segment) (parts.orphans ++ parts.fresh) ≡ bit_of
      (is_unheld parts segment)
  counted segment =
      ap (λ l. count_by (is_of segment) (l ++ parts.fresh)) unused.orphans
      ∙ count_numbers segment parts.fresh
      ∙ ap (count_by (λ k. k == segment)) unused.fresh
      ∙ range_counted segment 0 (length parts.policy.segments) (omega arith)
      ∙ ap (λ k. bit_of (nat_lt segment k)) (omega arith)
      ∙ sym (ap (λ o. bit_of (is_none o && nat_lt segment (length parts.policy.segments)))
      (unheld segment))

pub unused_is_opening : UnusedIsOpening
unused_is_opening parts unused = (
  opens parts unused,
  record {
    below = λ v segment t. absurd (true≢false (sym t ∙ has_none parts unused v segment));
    one_heap = λ v other segment t u. absurd (true≢false (sym t ∙ has_none parts unused v segment));
  },
  record {
    once = counted parts unused;
    rising = subst (IsRising 0) (sym unused.fresh) (rising_range 0 (length parts.policy.segments));
  },
)
