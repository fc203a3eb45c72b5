-- Places that go on a segment's remote list, or come off it.
use Rattle.std.proofs.Common.{◌≡◌, ℕ, ◌+◌, ◌*◌, ◌%◌, ◌<◌, Bool, true, false, nat_eq, length}
use Rattle.std.proofs.Common.{count_by, slice_set, slice_index_or, refl, sym, ap, ◌∙◌, arith, inl}
use Rattle.std.proofs.Common.{inr}
use Rattle.std.specs.Prelude.{Option, Some, None}
use Rattle.std.proofs.lemmas.Bool.{cases_lt, cases_eq}
use Rattle.std.proofs.lemmas.List.{length-set, get_or_past}
use Rattle.hg_lists.proofs.RepeatsLemmas.{nat_eq-same, nat_eq-other}
use Rattle.hg_place.specs.Words.{bit_of}
use Rattle.hg_place.specs.Places.{segment_of}
use Rattle.hg_remote.specs.Remote.{contents, Remote as RemoteList}
use Rattle.hg_machine.specs.Life.{Record, is_parted}
use Rattle.hg_machine.specs.Holders.{is_number}
use Rattle.hg_machine.specs.Lists.{times, sent_in}
use Rattle.hg_machine.proofs.Listed.{bit_true}
use Rattle.hg_agreement.specs.Parts.{Remote, Parts, remote_at, record_by, lists_of}
use Rattle.hg_agreement.specs.PlainPut.{with_plain}
use Rattle.hg_agreement.specs.TakenIn.{remote_places, is_listed, taken_in}
use Rattle.hg_parts.specs.Rights.{AreSegmentsRight, list_of, remote_from}
use Rattle.hg_parts.specs.Accounted.{is_out}
use Rattle.hg_parts.specs.Spots.{in_heap, with_segment, IsSpotSwap}
use Rattle.hg_parts.specs.Remotes.{with_remote, DeliveredIsTidy, TakenBackIsTidy, TakenInIsTidy}
use Rattle.hg_parts.proofs.Times.{times_inserted, hand_counts, count_set, any_counts, AnyCounts}
use Rattle.hg_parts.proofs.Times.{bit_small}
use Rattle.hg_parts.proofs.Records.{record_past}
use Rattle.hg_parts.proofs.Sent.{places_are, sent_is, remotes_right, sent_here, sent_other}
use Rattle.hg_parts.proofs.SpotSwapped.{segments, inside, still_rising, record_was, record_now, out_away}
use Rattle.hg_parts.proofs.SpotChanges.{out_other, out_before, out_after, home_in}

-- other remote lists for as many segments
remotes_long : (parts : Parts) (n : ℕ) (remote : RemoteList) → AreSegmentsRight parts
    → AreSegmentsRight (with_remote parts n remote)
remotes_long parts n remote h = record {
  heaps = h.heaps;
  hands = h.hands;
  remotes = length-set parts.remotes n (remote_from remote) ∙ h.remotes;
  once = h.once;
  each = h.each;
}

-- from a hand to the list

out_inside : (parts : Parts) → AreSegmentsRight parts → (place : ℕ) → is_out parts place ≡ true
    → place < length parts.policy.segments * 8192
out_inside parts h place out = elim (cases_lt place (length parts.policy.segments * 8192)) [
  | inl lt ↦ lt
  | inr ge ↦ absurd (let no : is_out parts place ≡ false =
      ap (λ r. is_parted r.life) (record_past parts h place ge) in let bad : true ≡ false = sym out
      ∙ no in cc)
]

-- a place of the segment is the one at that number in it
turned : (n at place : ℕ) → at < 8192 → segment_of place ≡ n → bit_of (nat_eq at (place % 8192))
    ≡ bit_of (nat_eq (n * 8192 + at) place)
turned n at place low e =
    elim (cases_eq at (place % 8192)) [
      | inl f ↦ ap (λ (k : ℕ). bit_of (nat_eq at k)) (sym f) ∙ ap bit_of (nat_eq-same at)
          ∙ sym (ap (λ (k : ℕ). bit_of (nat_eq (n * 8192 + at) k))
          (let s : place ≡ n * 8192 + at = omega (arith, e, f) in s)
          ∙ ap bit_of (nat_eq-same (n * 8192 + at)))
      | inr f ↦ ap bit_of (nat_eq-other at (place % 8192) f)
          ∙ sym (ap bit_of (nat_eq-other (n * 8192 + at) place (λ s. f (omega (arith, s, e, low)))))
    ]

pub delivered : DeliveredIsTidy
delivered parts worker n at remote t below-at hand right more =
    let q = n * 8192 + at in
    let hands = slice_set parts.hands worker None in
    let out : is_out parts q ≡ true =
    bit_true (is_out parts q) (omega (arith, t.out_once q, hand_counts parts.hands worker q hand))
    in
    let low = out_inside parts t.segments q out in
    let inside-n : n < length parts.policy.segments = omega (arith, low) in
    let below : n < length parts.remotes = omega (arith, inside-n, t.segments.remotes) in
    let working : worker < length parts.hands = elim (cases_lt worker (length parts.hands)) [
      | inl lt ↦ lt
      | inr ge ↦ absurd (let none = get_or_past parts.hands worker None ge in let bad : Some q
          ≡ None = sym hand ∙ none in cc)
    ] in
    let mid : Parts = record parts { hands = hands } in
    let after : Parts = with_remote mid n remote in
    record {
      segments = remotes_long mid n remote (record {
        heaps = t.segments.heaps;
        hands = length-set parts.hands worker None ∙ t.segments.hands;
        remotes = t.segments.remotes;
        once = t.segments.once;
        each = t.segments.each;
      });
      remotes = remotes_right mid n remote below t.remotes right;
      out_once = λ place.
          let was = t.out_once place in
          let had : bit_of (is_number place (slice_index_or parts.hands worker None))
          ≡ bit_of (nat_eq q place) = ap (λ (o : Option ℕ). bit_of (is_number place o)) hand in
          let count : count_by (is_number place) hands + bit_of
          (is_number place (slice_index_or parts.hands worker None)) ≡ count_by (is_number place)
          parts.hands + 0 = count_set parts.hands worker place None working in
          elim (cases_eq (segment_of place) n) [
            | inl e ↦
                let new : times place (sent_in (lists_of after) (segment_of place))
                ≡ times (place % 8192) (contents remote) = sent_here mid n remote below t.remotes
                right place inside-n e in
                let old : times place (sent_in (lists_of parts) (segment_of place))
                ≡ times (place % 8192) (contents (list_of (remote_at parts n))) =
                ap (λ (m : ℕ). times place (sent_in (lists_of parts) m)) e
                ∙ sent_is parts t.remotes n place inside-n e in
                let step = times_inserted (place % 8192) at (contents (list_of (remote_at parts n)))
                (contents remote) more in
                let bit = turned n at place below-at e in
                omega (arith, was, had, count, new, old, step, bit)
            | inr ne ↦
                let new : times place (sent_in (lists_of after) (segment_of place))
                ≡ times place (sent_in (lists_of parts) (segment_of place)) =
                sent_other mid n remote below t.remotes right place ne in
                let no : bit_of (nat_eq q place) ≡ 0 =
                ap bit_of (nat_eq-other q place (λ f. ne (omega (arith, f, below-at)))) in
                omega (arith, was, had, count, new, no)
          ];
      rising = t.rising;
    }

-- from the list home

pub taken_back : TakenBackIsTidy
taken_back parts spot one now at remote t put b a right more =
    let n = one.holding.number in
    let q = n * 8192 + at in
    let mid : Parts = with_segment parts spot now parts.hands in
    let inside-n : n < length parts.policy.segments = inside parts.hands t
    put.swap refl in
    let below : n < length parts.remotes = omega (arith, inside-n, t.segments.remotes) in
    let small = put.below in
    let after : Parts = with_remote mid n remote in
    record {
      segments =
          remotes_long mid n remote (segments parts.hands t put.swap refl);
      remotes = remotes_right mid n remote below t.remotes right;
      out_once = λ place.
          let was = t.out_once place in
          elim (cases_eq (segment_of place) n) [
            | inl e ↦
                let new : times place (sent_in (lists_of after) (segment_of place))
                ≡ times (place % 8192) (contents remote) = sent_here mid n remote below t.remotes
                right place inside-n e in
                let old : times place (sent_in (lists_of parts) (segment_of place))
                ≡ times (place % 8192) (contents (list_of (remote_at parts n))) =
                ap (λ (m : ℕ). times place (sent_in (lists_of parts) m)) e
                ∙ sent_is parts t.remotes n place inside-n e in
                let step = times_inserted (place % 8192) at (contents remote)
                (contents (list_of (remote_at parts n))) more in
                let turn = turned n at place small e in
                elim (cases_eq q place) [
                  | inl f ↦
                      let out : bit_of (is_out parts place) ≡ 1 =
                      ap bit_of (ap (is_out parts) (sym f) ∙ out_before parts.hands t put refl ∙ b) in
                      let no : bit_of (is_out after place) ≡ 0 =
                      ap bit_of (ap (is_out after) (sym f) ∙ out_after parts.hands t put refl ∙ home_in (record_by (Some now) at).life a) in
                      let bit : bit_of (nat_eq q place) ≡ 1 =
                      ap bit_of (ap (nat_eq q) (sym f) ∙ nat_eq-same q) in
                      omega (arith, was, out, no, new, old, step, turn, bit)
                  | inr ne ↦
                      let out : bit_of (is_out after place) ≡ bit_of (is_out parts place) =
                      ap bit_of (out_other parts.hands t put refl place
                      (λ f. ne (sym f))) in
                      let bit : bit_of (nat_eq q place) ≡ 0 = ap bit_of (nat_eq-other q place ne) in
                      omega (arith, was, out, new, old, step, turn, bit)
                ]
            | inr away ↦
                let new : times place (sent_in (lists_of after) (segment_of place))
                ≡ times place (sent_in (lists_of parts) (segment_of place)) =
                sent_other mid n remote below t.remotes right place away in
                let out : bit_of (is_out after place) ≡ bit_of (is_out parts place) =
                ap bit_of (out_away parts.hands t put.swap refl place away) in
                omega (arith, was, out, new)
          ];
      rising = still_rising t put.swap;
    }

-- all of the list home

taken_bit : (listed : Bool) (r : Record) (h times : ℕ) → h + times ≡ bit_of (is_parted r.life)
    → AnyCounts listed times → h + 0 ≡ bit_of (is_parted (taken_in listed r).life)
taken_bit true r h times total any =
    let small = bit_small (is_parted r.life) in omega (arith, total, any, small)
taken_bit false r h times total any = omega (arith, total, any)

pub taken_in_tidy : TakenInIsTidy
taken_in_tidy parts worker found one now remote t taken is right none =
    let n = one.holding.number in
    let spot = in_heap worker found in
    let put : IsSpotSwap parts spot one now =
    record { there = taken.swap.there; number = taken.swap.number; right = is } in
    let mid : Parts = with_plain parts worker found now in
    let inside-n : n < length parts.policy.segments = inside parts.hands t put
    refl in
    let below : n < length parts.remotes = omega (arith, inside-n, t.segments.remotes) in
    let after : Parts = with_remote mid n remote in
    let old_list : Remote = remote_at parts n in
    record {
      segments = remotes_long mid n remote (segments parts.hands t put refl);
      remotes = remotes_right mid n remote below t.remotes right;
      out_once = λ place.
          let was = t.out_once place in
          let at = place % 8192 in
          elim (cases_eq (segment_of place) n) [
            | inl e ↦
                let new : times place (sent_in (lists_of after) (segment_of place)) ≡ 0 =
                sent_here mid n remote below t.remotes right place inside-n e
                ∙ ap (times at) none in
                let old : times place (sent_in (lists_of parts) (segment_of place))
                ≡ times at (remote_places old_list) =
                ap (λ (m : ℕ). times place (sent_in (lists_of parts) m)) e
                ∙ sent_is parts t.remotes n place inside-n e
                ∙ sym (ap (times at) (places_are old_list (t.remotes n inside-n))) in
                let before : bit_of (is_out parts place)
                ≡ bit_of (is_parted (record_by (Some one) at).life) =
                ap (λ r. bit_of (is_parted r.life))
                (record_was parts.hands t put refl place e) in
                let later : bit_of (is_out after place)
                ≡ bit_of (is_parted (taken_in (is_listed old_list at)
                (record_by (Some one) at)).life) =
                ap (λ r. bit_of (is_parted r.life))
                (record_now parts.hands t put refl place e
                ∙ taken.records at (omega arith)) in
                let step = taken_bit (is_listed old_list at) (record_by (Some one) at)
                (count_by (is_number place) parts.hands) (times at (remote_places old_list))
                (omega (arith, was, old, before))
                (any_counts (λ k. nat_eq k at) (remote_places old_list)) in
                omega (arith, new, later, step)
            | inr away ↦
                let new : times place (sent_in (lists_of after) (segment_of place))
                ≡ times place (sent_in (lists_of parts) (segment_of place)) =
                sent_other mid n remote below t.remotes right place away in
                let out : bit_of (is_out after place) ≡ bit_of (is_out parts place) =
                ap bit_of (out_away parts.hands t put refl place away) in
                omega (arith, was, out, new)
          ];
      rising = t.rising;
    }
