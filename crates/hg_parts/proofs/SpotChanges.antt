-- A segment that changes where it stands keeps parts tidy.
use Rattle.std.proofs.Common.{◌≡◌, ◌≢◌, ℕ, ◌+◌, ◌*◌, ◌%◌, true, false, nat_eq, List, length}
use Rattle.std.proofs.Common.{slice_set, slice_index_or, refl, sym, ap, ◌∙◌, arith, subst, inl, inr}
use Rattle.std.specs.Prelude.{Option, Some, None}
use Rattle.std.proofs.lemmas.Bool.{cases_eq}
use Rattle.std.proofs.lemmas.List.{length-set}
use Rattle.hg_lists.proofs.RepeatsLemmas.{nat_eq-same, nat_eq-other}
use Rattle.hg_place.specs.Words.{bit_of}
use Rattle.hg_place.specs.Places.{segment_of}
use Rattle.hg_machine.specs.Life.{Life, home, live, parted, is_home, is_live, is_parted}
use Rattle.hg_machine.specs.State.{record_at}
use Rattle.hg_machine.specs.Holders.{is_number}
use Rattle.hg_agreement.specs.Parts.{Plain, Parts, record_by, state_of}
use Rattle.hg_parts.specs.Accounted.{is_out, IsOutOnce}
use Rattle.hg_parts.specs.Tidy.{IsTidy}
use Rattle.hg_parts.specs.Spots.{Spot, with_segment, IsSpotPut}
use Rattle.hg_parts.specs.SpotChanges.{SameOutIsTidy, GoneOutIsTidy, ComeHomeIsTidy, PartedIsTidy}
use Rattle.hg_parts.proofs.Times.{count_set}
use Rattle.hg_parts.proofs.SpotSwapped.{segments, still_rising, record_was, record_now, record_away, out_away}

-- a life at home, or live, is not parted
pub home_in : (l : Life) → is_home l ≡ true → is_parted l ≡ false
home_in home e = refl
home_in (live o ws) e = refl
home_in (parted o ws) e = absurd (cc)

live_in : (l : Life) → is_live l ≡ true → is_parted l ≡ false
live_in home e = refl
live_in (live o ws) e = refl
live_in (parted o ws) e = absurd (cc)

module _ {parts : Parts} {spot : Spot} {one now : Plain} {at : ℕ} (hands : List (Option ℕ))
    (t : IsTidy parts) (put : IsSpotPut parts spot one now at)
    (long : length hands ≡ length parts.hands) where
  abbrev changed : ℕ
  changed = one.holding.number * 8192 + at

  abbrev later : Parts
  later = with_segment parts spot now hands

  own : segment_of changed ≡ one.holding.number
  own = let b = put.below in omega (arith, b)

  own_at : changed % 8192 ≡ at
  own_at = let b = put.below in omega (arith, b)

  record_before : record_at (state_of parts) changed ≡ record_by (Some one) at
  record_before =
      record_was hands t put.swap long changed own ∙ ap (record_by (Some one))
      own_at

  record_after : record_at (state_of later) changed ≡ record_by (Some now) at
  record_after =
      record_now hands t put.swap long changed own ∙ ap (record_by (Some now))
      own_at

  record_other : (place : ℕ) → place ≢ changed → record_at (state_of later) place
      ≡ record_at (state_of parts) place
  record_other place ne =
      elim (cases_eq (segment_of place) one.holding.number) [
        | inl e ↦
            record_now hands t put.swap long place e
            ∙ put.others (place % 8192) (omega arith) (λ f. ne (omega (arith, e, f)))
            ∙ sym (record_was hands t put.swap long place e)
        | inr away ↦ record_away hands t put.swap long place away
      ]

  pub out_other : (place : ℕ) → place ≢ changed → is_out later place ≡ is_out parts place
  out_other place ne = ap (λ r. is_parted r.life) (record_other place ne)

  pub out_before : is_out parts changed ≡ is_parted (record_by (Some one) at).life
  out_before = ap (λ r. is_parted r.life) record_before

  pub out_after : is_out later changed ≡ is_parted (record_by (Some now) at).life
  out_after = ap (λ r. is_parted r.life) record_after

-- out before and after, or neither
kept_out : (parts : Parts) (spot : Spot) (one now : Plain) (at : ℕ) → IsTidy parts
    → IsSpotPut parts spot one now at
    → is_parted (record_by (Some one) at).life ≡ false → is_parted (record_by (Some now) at).life
    ≡ false → IsTidy (with_segment parts spot now parts.hands)
kept_out parts spot one now at t put b a = record {
  segments = segments parts.hands t put.swap refl;
  remotes = t.remotes;
  out_once =
      λ place. elim (cases_eq place (one.holding.number * 8192 + at)) [
        | inl e ↦ subst (IsOutOnce (with_segment parts spot now parts.hands)) (sym e)
            (t.out_once (one.holding.number * 8192 + at)
            ∙ ap bit_of (out_before parts.hands t put refl ∙ b ∙ sym a
            ∙ sym (out_after parts.hands t put refl)))
        | inr ne ↦ t.out_once place
            ∙ ap bit_of (sym (out_other parts.hands t put refl place ne))
      ];
  rising = still_rising t put.swap;
}

pub gone_out : GoneOutIsTidy
gone_out parts spot one now at t put b a =
    kept_out parts spot one now at t put (home_in (record_by (Some one) at).life b)
    (live_in (record_by (Some now) at).life a)

pub come_home : ComeHomeIsTidy
come_home parts spot one now at t put b a =
    kept_out parts spot one now at t put (live_in (record_by (Some one) at).life b)
    (home_in (record_by (Some now) at).life a)

pub parted_out : PartedIsTidy
parted_out parts spot one now at worker t put lt empty b a =
    let q = one.holding.number * 8192 + at in
    let hands = slice_set parts.hands worker (Some q) in
    let long : length hands ≡ length parts.hands = length-set parts.hands worker (Some q) in
    let after = with_segment parts spot now hands in
    record {
      segments = segments hands t put.swap long;
      remotes = t.remotes;
      out_once = λ place.
          let none : bit_of (is_number place (slice_index_or parts.hands worker None)) ≡ 0 =
          ap (λ (o : Option ℕ). bit_of (is_number place o)) empty in
          let count = count_set parts.hands worker place (Some q) lt in
          let was = t.out_once place in
          elim (cases_eq place q) [
            | inl e ↦
                let out : bit_of (is_out parts place) ≡ 0 =
                ap bit_of (ap (is_out parts) e ∙ out_before hands t put long
                ∙ live_in (record_by (Some one) at).life b) in
                let now_out : bit_of (is_out after place) ≡ 1 =
                ap bit_of (ap (is_out after) e ∙ out_after hands t put long
                ∙ a) in
                let one_more : bit_of (is_number place (Some q)) ≡ 1 =
                ap bit_of (let same : nat_eq q place ≡ true = ap (nat_eq q) e ∙ nat_eq-same q in
                same) in
                omega (arith, none, count, was, out, now_out, one_more)
            | inr ne ↦
                let out : bit_of (is_out after place) ≡ bit_of (is_out parts place) =
                ap bit_of (out_other hands t put long place ne) in
                let no_more : bit_of (is_number place (Some q)) ≡ 0 =
                ap bit_of (nat_eq-other q place (λ f. ne (sym f))) in
                omega (arith, none, count, was, out, no_more)
          ];
      rising = still_rising t put.swap;
    }

-- a segment that changes with the same places out

pub same_out : SameOutIsTidy
same_out parts spot one now t put same = record {
  segments = segments parts.hands t put refl;
  remotes = t.remotes;
  out_once = λ place. t.out_once place ∙ ap bit_of (sym (out_same place));
  rising = still_rising t put;
}
  where
    out_same : (place : ℕ) → is_out (with_segment parts spot now parts.hands) place
        ≡ is_out parts place
    out_same place = elim (cases_eq (segment_of place) one.holding.number) [
      | inl e ↦
          ap (λ r. is_parted r.life) (record_now parts.hands t put refl place e)
          ∙ same (place % 8192) (omega arith)
          ∙ sym (ap (λ r. is_parted r.life)
          (record_was parts.hands t put refl place e))
      | inr away ↦ out_away parts.hands t put refl place away
    ]
