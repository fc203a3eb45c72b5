-- One place of one segment changed, in what is recorded of all places.
use Rattle.std.proofs.Common.{◌≡◌, ℕ, ◌+◌, ◌*◌, ◌%◌, ◌<◌, inl, inr, map, set, Some, sym, ap, ◌∙◌, arith}
use Rattle.std.specs.List.{range_with_len}
use Rattle.std.proofs.lemmas.Bool.{cases_eq}
use Rattle.hg_place.specs.Places.{segment_of}
use Rattle.hg_machine.specs.Life.{never_used}
use Rattle.hg_agreement.specs.Parts.{Plain, Parts, plain_of, record_by, record_of}
use Rattle.hg_agreement.proofs.Lookups.{map_set}

-- the segment before and after, which tell the same of all places but this one
pub record ChangesOne (parts after : Parts) (one now : Plain) (at : ℕ) : Type 0 where
  pub was : plain_of parts one.holding.number ≡ Some one
  pub is : plain_of after one.holding.number ≡ Some now
  pub same :
      (segment : ℕ) → (segment ≡ one.holding.number → ⊥)
      → plain_of after segment ≡ plain_of parts segment
  pub below : at < 8192
  pub others :
      (other : ℕ) → other < 8192 → (other ≡ at → ⊥)
      → record_by (Some now) other ≡ record_by (Some one) other

module _ {parts after : Parts} {one now : Plain} {at : ℕ}
    (change : ChangesOne parts after one now at) where
  abbrev n : ℕ
  n = one.holding.number

  record_other : (q : ℕ) → (q ≡ n * 8192 + at → ⊥) → record_of after q ≡ record_of parts q
  record_other q ne = elim (cases_eq (segment_of q) n) [
    | inl e ↦
        let b = change.below in
        rw e (ap (λ o. record_by o (q % 8192)) change.is
        ∙ change.others (q % 8192) (omega arith) (λ f. ne (omega arith))
        ∙ sym (ap (λ o. record_by o (q % 8192)) change.was))
    | inr away ↦ ap (λ o. record_by o (q % 8192)) (change.same (segment_of q) away)
  ]

  record_here : record_of after (n * 8192 + at) ≡ record_by (Some now) at
  record_here =
      let b = change.below in
      let s : segment_of (n * 8192 + at) ≡ n = omega arith in
      let m : (n * 8192 + at) % 8192 ≡ at = omega arith in
      ap (λ x. record_by (plain_of after x) ((n * 8192 + at) % 8192)) s
      ∙ ap (λ o. record_by o ((n * 8192 + at) % 8192)) change.is
      ∙ ap (record_by (Some now)) m

  pub records_changed : (segments : ℕ) → n < segments
      → map (record_of after) (range_with_len 0 (segments * 8192))
      ≡ set (map (record_of parts) (range_with_len 0 (segments * 8192))) (n * 8192 + at)
      (record_by (Some now) at)
  records_changed segments inside =
      let b = change.below in
      map_set (record_of parts) (record_of after) (segments * 8192) (n * 8192 + at) never_used
      (omega arith) record_other
      ∙ ap (set (map (record_of parts) (range_with_len 0 (segments * 8192))) (n * 8192 + at))
      record_here
