-- A change of one place of a held segment, in the state of a core.
use Rattle.std.proofs.Common.{◌≡◌, ℕ, ◌+◌, ◌*◌, ◌/◌, ◌%◌, inl, inr, map, length, set, Some, None}
use Rattle.std.proofs.Common.{sym, ap, ◌∙◌, arith}
use Rattle.std.specs.List.{range_with_len}
use Rattle.std.proofs.lemmas.Bool.{cases_eq}
use Rattle.std.proofs.lemmas.List.{set-get_or}
use Rattle.std.proofs.lemmas.List.FromFn.{get_or-map-range_with_len}
use Rattle.hg_place.specs.Places.{segment_of_page}
use Rattle.hg_agreement.specs.Holdings.{class_of}
use Rattle.hg_agreement.specs.Parts.{Plain, Parts, plain_of, record_by, class_by, page_class}
use Rattle.hg_agreement.specs.Parts.{state_of, IsSorted}
use Rattle.hg_agreement.specs.PlainPut.{with_plain, IsPut, PutIsPut, PutIsRecord}
use Rattle.hg_agreement.proofs.ChangedOne.{ChangesOne, records_changed}
use Rattle.hg_agreement.proofs.Lookups.{map_set}
use Rattle.hg_agreement.proofs.Swapped.{swap_before, swap_after, swap_other, swap_holders}
use Rattle.hg_agreement.proofs.Swapped.{swap_below}

module _ (parts : Parts) (w found : ℕ) (one now : Plain) (at : ℕ) (sorted : IsSorted parts)
    (put : IsPut parts w found one now at) where
  abbrev n : ℕ
  n = one.holding.number

  abbrev after : Parts
  after = with_plain parts w found now

  abbrev segments : ℕ
  segments = length parts.policy.segments

  before_is : plain_of parts n ≡ Some one
  before_is = swap_before parts w found one now sorted put.swap

  after_is : plain_of after n ≡ Some now
  after_is = swap_after parts w found one now sorted put.swap

  same : (segment : ℕ) → (segment ≡ n → ⊥) → plain_of after segment ≡ plain_of parts segment
  same = swap_other parts w found one now sorted put.swap

  change : ChangesOne parts after one now at
  change = record {
    was = before_is;
    is = after_is;
    same = same;
    below = put.below;
    others = put.others;
  }

  class_other : (q : ℕ) → (q ≡ n * 16 + at / 512 → ⊥) → page_class after q ≡ page_class parts q
  class_other q ne =
      elim (cases_eq (segment_of_page q) n) [
        | inl e ↦
            let b = put.below in
            rw e (ap (λ o. class_by o (q % 16)) after_is
            ∙ put.classes (q % 16) (omega arith) (λ f. ne (omega arith))
            ∙ sym (ap (λ o. class_by o (q % 16)) before_is))
        | inr away ↦ ap (λ o. class_by o (q % 16)) (same (segment_of_page q) away)
      ]

  class_here : (k : Plain) (p : Parts) → plain_of p n ≡ Some k
      → page_class p (n * 16 + at / 512) ≡ class_of k.holding (at / 512)
  class_here k p e =
      let b = put.below in
      let s : segment_of_page (n * 16 + at / 512) ≡ n = omega arith in
      let m : (n * 16 + at / 512) % 16 ≡ at / 512 = omega arith in
      ap (λ x. class_by (plain_of p x) ((n * 16 + at / 512) % 16)) s
      ∙ ap (λ o. class_by o ((n * 16 + at / 512) % 16)) e
      ∙ ap (class_of k.holding) m

  put_is : state_of after ≡ record (state_of parts) {
    records = set (state_of parts).records (n * 8192 + at) (record_by (Some now) at);
    classes = set (state_of parts).classes (n * 16 + at / 512) (class_of now.holding (at / 512));
  }
  put_is =
      let b = put.below in
      let below = swap_below parts w found one now sorted put.swap in
      let r = records_changed change segments below in
      let c = map_set (page_class parts) (page_class after) (segments * 16) (n * 16 + at / 512)
      None (omega arith) class_other
      ∙ ap (set (map (page_class parts) (range_with_len 0 (segments * 16))) (n * 16 + at / 512))
      (class_here now after after_is) in
      cc (swap_holders parts w found one now sorted put.swap)

  -- the class of its page was this one
  class_was : class_of now.holding (at / 512) ≡ class_of one.holding (at / 512)
      → set (state_of parts).classes (n * 16 + at / 512) (class_of now.holding (at / 512))
      ≡ (state_of parts).classes
  class_was is =
      let s = state_of parts in
      let page = n * 16 + at / 512 in
      let b = put.below in
      let below = swap_below parts w found one now sorted put.swap in
      let was = get_or-map-range_with_len (page_class parts) 0 (segments * 16) page page None
      (omega arith) (omega arith) ∙ class_here one parts before_is ∙ sym is in
      ap (set s.classes page) (sym was) ∙ set-get_or s.classes page None

pub put_is_put : PutIsPut
put_is_put parts worker found one now at sorted put =
    put_is parts worker found one now at sorted put

pub put_is_record : PutIsRecord
put_is_record parts w found one now at sorted put same =
    let p = put_is parts w found one now at sorted put in
    let c = class_was parts w found one now at sorted put same in
    cc
