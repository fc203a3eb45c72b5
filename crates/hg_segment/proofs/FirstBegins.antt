-- The search for the first page at which a block may begin, mark by mark.
use Rattle.std.proofs.Common.{◌≡◌, ◌≢◌, ◌+◌, ◌<◌, ◌≤◌, ◌⊎◌, ℕ, List, true, false, refl, sym, ap, ◌∙◌, arith, inl, inr}
use Rattle.std.specs.Int.{bit_at}
use Rattle.std.proofs.lemmas.Bool.{cases_eq, cases_lt, true≢false}
use Rattle.hg_place.specs.declared.standing.Standing.{Standing}
use Rattle.hg_place.specs.Standings.{standing_at}
use Rattle.hg_place.specs.Words.{bit_of}
use Rattle.hg_mask.specs.Marks.{IsFirstRun}
use Rattle.hg_size.specs.Sizes.{places_of}
use Rattle.hg_size.specs.Runs.{may_begin}
use Rattle.hg_segment.specs.Kept.{Kept, slot, class_at}
use Rattle.hg_segment.specs.Right.{is_vacant}
use Rattle.hg_segment.specs.Begins.{CanBegin, IsFirstBegin}
use Rattle.hg_segment.proofs.MarkedLemmas.{bit_true}

module _ {S : Type 0} (records : S → List Standing) (k : Kept S) (size : ℕ) where
  -- a block may begin at each page that is marked still, and at no other; so many pages are passed
  pub record AreLeft (marks turn : ℕ) : Type 0 where
    pub may :
        (page : ℕ) → page < 16 → bit_at marks page ≡ 1
        → may_begin (class_at k.classes) size page ≡ true
    pub out : (page : ℕ) → page < 16 → bit_at marks page ≡ 0 → ¬ CanBegin records k size page
    pub passed : (page : ℕ) → page < turn → bit_at marks page ≡ 0

  pub all_left : (marks : ℕ)
      → ((page : ℕ) → page < 16
      → bit_at marks page ≡ bit_of (may_begin (class_at k.classes) size page))
      → AreLeft marks 0
  all_left marks told = record {
    may = λ page low on. bit_true _ (sym (told page low) ∙ on);
    out = λ page low off can.
        (let bit : bit_at marks page ≡ 1 = told page low ∙ ap bit_of can.may in
        omega (arith, off, bit));
    passed = λ page low. absurd (omega (arith, low));
  }

  module _ (marks turn page : ℕ) (left : AreLeft marks turn) (lowest : IsFirstRun marks page) where
    pub found : (index : ℕ) × (index < places_of size)
        × (is_vacant k.greatest (standing_at (records k.slots) (slot page index)) ≡ true)
        → IsFirstBegin records k size page
    found vacant = record {
      below = lowest.low;
      can = record { may = left.may page lowest.low lowest.marked; vacant = vacant };
      first = λ other lt. left.out other (omega (arith, lt, lowest.low)) (lowest.least other lt);
    }

    -- the lowest page has no place
    pub one_less : (next : ℕ)
        → ((index : ℕ) → index < places_of size
        → is_vacant k.greatest (standing_at (records k.slots) (slot page index)) ≡ false)
        → ((q : ℕ) → page ≤ q → q < page + 1 → bit_at next q ≡ 0)
        → ((q : ℕ) → (q < page) ⊎ (page + 1 ≤ q) → bit_at next q ≡ bit_at marks q)
        → AreLeft next (turn + 1)
    one_less next none inside outside = record {
      may = λ q low on. elim (cases_eq q page)
          as (λ _. may_begin (class_at k.classes) size q ≡ true) [
            | inl e ↦ (let off = here q e in absurd (omega (arith, on, off)))
            | inr ne ↦ left.may q low (sym (there q ne) ∙ on)
          ];
      out = λ q low off can. elim (cases_eq q page) as (λ _. ⊥) [
        | inl e ↦ (let v = can.vacant in
            true≢false (sym (ap (λ p. is_vacant k.greatest (standing_at (records k.slots)
            (slot p v.0))) (sym e) ∙ v.2) ∙ none v.0 v.1))
        | inr ne ↦ left.out q low (sym (there q ne) ∙ off) can
      ];
      passed = λ q low. elim (cases_eq q page) as (λ _. bit_at next q ≡ 0) [
        | inl e ↦ here q e
        | inr ne ↦ there q ne ∙ elim (cases_lt q turn) as (λ _. bit_at marks q ≡ 0) [
          | inl lt ↦ left.passed q lt
          | inr ge ↦ elim (cases_lt page q) as (λ _. bit_at marks q ≡ 0) [
            | inl before ↦
                (let off = left.passed page (omega (arith, before, low)) in
                absurd (omega (arith, off, lowest.marked)))
            | inr behind ↦ lowest.least q (omega (arith, behind, ne))
          ]
        ]
      ];
    }
      where
        here : (q : ℕ) → q ≡ page → bit_at next q ≡ 0
        here q e = inside q (omega (arith, e)) (omega (arith, e))

        there : (q : ℕ) → q ≢ page → bit_at next q ≡ bit_at marks q
        there q ne = outside q (elim (cases_lt q page) as (λ _. (q < page) ⊎ (page + 1 ≤ q)) [
          | inl lt ↦ inl lt
          | inr ge ↦ inr (omega (arith, ge, ne))
        ])

  pub none_left : (marks turn : ℕ) → AreLeft marks turn
      → ((page : ℕ) → page < 16 → bit_at marks page ≡ 0)
      → (page : ℕ) → page < 16 → ¬ CanBegin records k size page
  none_left marks turn left off page low = left.out page low (off page low)
