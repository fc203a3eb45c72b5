-- A change of one place of a segment that nobody holds, in the state of a core.
use Rattle.std.proofs.Common.{◌≡◌, ℕ, ◌+◌, ◌*◌, ◌%◌, ◌==◌, inl, inr, ◌||◌, ◌∷◌, [], ◌++◌, List}
use Rattle.std.proofs.Common.{length, set, Option, Some, None, refl, sym, ap, ◌∙◌, arith, find}
use Rattle.std.proofs.Common.{slice_get}
use Rattle.std.specs.List.{range_with_len, list_any}
use Rattle.std.proofs.lemmas.Bool.{cases_eq, eq-eqb, ne_eqb}
use Rattle.std.proofs.lemmas.List.Folds.{find_at, find-set, find_past}
use Rattle.std.proofs.lemmas.Option.{slice_get_within, get_or_from_slice_get}
use Rattle.hg_place.specs.Places.{segment_of_page}
use Rattle.hg_agreement.specs.Parts.{Plain, Parts, is_of, worker_of, plain_by, plain_of, record_by}
use Rattle.hg_agreement.specs.Parts.{class_by, page_class, holder_by, holder_of, state_of}
use Rattle.hg_agreement.specs.LeftPut.{with_left, numbers, IsLeftPut, LeftPutIsRecord}
use Rattle.hg_agreement.proofs.ChangedOne.{ChangesOne, records_changed}
use Rattle.hg_agreement.proofs.Lookups.{maps}

pub any_number : (xs : List Plain) (segment : ℕ) → list_any (is_of segment) xs ≡ list_any
    (λ n. n == segment) (numbers xs)
any_number [] segment = refl
any_number (x ∷ xs) segment = ap (λ b. (x.holding.number == segment) || b) (any_number xs segment)

module _ (parts : Parts) (orphans fresh : List Plain) (found : ℕ) (one now : Plain) (at : ℕ)
    (put : IsLeftPut parts orphans fresh found one now at) where
  abbrev n : ℕ
  n = one.holding.number

  abbrev after : Parts
  after = with_left parts orphans fresh

  abbrev pool : List Plain
  pool = parts.orphans ++ parts.fresh

  before_here : plain_of parts n ≡ Some one
  before_here = ap (plain_by parts n) put.unheld ∙ find_at (is_of n) pool
      ∙ ap (slice_get pool) (sym put.first) ∙ put.there

  after_here : plain_of after n ≡ Some now
  after_here =
      ap (plain_by after n) put.unheld ∙ ap (find (is_of n)) put.now_there
      ∙ find-set (is_of n) pool found now put.first (slice_get_within pool found one put.there)
      (eq-eqb now.holding.number n put.number)

  by_same : (segment : ℕ) (o : Option ℕ) → (segment ≡ n → ⊥)
      → plain_by after segment o ≡ plain_by parts segment o
  by_same segment (Some v) ne = refl
  by_same segment None ne =
      ap (find (is_of segment)) put.now_there
      ∙ find_past (is_of segment) pool found now one
      (ap (is_of segment) (get_or_from_slice_get pool found one one put.there)
      ∙ ne_eqb n segment (λ e. ne (sym e)))
      (ne_eqb now.holding.number segment (λ e. ne (sym e ∙ put.number)))

  plain_same : (segment : ℕ) → (segment ≡ n → ⊥) → plain_of after segment ≡ plain_of parts segment
  plain_same segment ne = by_same segment (worker_of parts segment) ne

  one_changed : ChangesOne parts after one now at
  one_changed = record {
    was = before_here;
    is = after_here;
    same = plain_same;
    below = put.below;
    others = put.others;
  }

  class_same : (q : ℕ) → page_class after q ≡ page_class parts q
  class_same q = elim (cases_eq (segment_of_page q) n) [
    | inl e ↦
        rw e (ap (λ o. class_by o (q % 16)) after_here
        ∙ put.classes (q % 16) (omega arith)
        ∙ sym (ap (λ o. class_by o (q % 16)) before_here))
    | inr away ↦ ap (λ o. class_by o (q % 16)) (plain_same (segment_of_page q) away)
  ]

  holder_same : (segment : ℕ) → holder_of after segment ≡ holder_of parts segment
  holder_same segment =
      ap (holder_by (worker_of parts segment))
      (any_number orphans segment ∙ ap (list_any (λ k. k == segment)) put.order
      ∙ sym (any_number parts.orphans segment))

  left_is : state_of after ≡ record (state_of parts) {
    records = set (state_of parts).records (n * 8192 + at) (record_by (Some now) at);
  }
  left_is =
      let segments = length parts.policy.segments in
      let r = records_changed one_changed segments put.inside in
      let c = maps (page_class after) (page_class parts) (range_with_len 0 (segments * 16))
      class_same in
      let h = maps (holder_of after) (holder_of parts) (range_with_len 0 segments) holder_same in
      let o = put.order in
      cc

pub left_put_is_record : LeftPutIsRecord
left_put_is_record parts orphans fresh found one now at put =
    left_is parts orphans fresh found one now at put

-- other hands in the parts are other hands in the state
pub hands_are : (parts : Parts) (hands : List (Option ℕ))
    → state_of (record parts { hands = hands }) ≡ record (state_of parts) { hands = hands }
hands_are parts hands = refl
