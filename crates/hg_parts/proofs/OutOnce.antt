-- Where a place is out once: hands and remote lists.
use Rattle.std.proofs.Common.{◌≡◌, ◌≢◌, ℕ, ◌+◌, ◌*◌, ◌%◌, ◌<◌, true, nat_eq, List, [], length}
use Rattle.std.proofs.Common.{count_by, ◌∙◌, arith, inl, inr}
use Rattle.std.specs.Prelude.{Some, Contains}
use Rattle.std.specs.List.{concat, list_any}
use Rattle.std.proofs.lemmas.Bool.{cases_lt, cases_eq, eqb-true}
use Rattle.std.proofs.lemmas.List.{get_or_past}
use Rattle.std.proofs.lemmas.List.FromFn.{length-map-range_with_len, get_or-map-range_with_len}
use Rattle.std.proofs.lemmas.List.Elements.{Contains-append_left}
use Rattle.hg_lists.proofs.RepeatsLemmas.{nat_eq-same, nat_eq-other}
use Rattle.hg_place.specs.Words.{bit_of}
use Rattle.hg_place.specs.Places.{segment_of, segment_of_page, page_of}
use Rattle.hg_machine.specs.Life.{is_parted}
use Rattle.hg_machine.specs.State.{record_at, hand_of}
use Rattle.hg_machine.specs.Holders.{is_number}
use Rattle.hg_machine.specs.Sweeps.{is_sent_to}
use Rattle.hg_machine.specs.Lists.{Lists, times, list_at, sent_in}
use Rattle.hg_machine.proofs.Listed.{bit_true}
use Rattle.hg_agreement.specs.Parts.{Parts, state_of, thread_of, delayed_of, lists_of, places_from}
use Rattle.hg_agreement.specs.Parts.{remote_at, thread_at}
use Rattle.hg_parts.specs.Rights.{AreRemotesRight}
use Rattle.hg_parts.specs.Accounted.{is_out, IsOutOnce}
use Rattle.hg_parts.proofs.Times.{Contains-shifted, shifted_contains, hand_counts, hands_count}
use Rattle.hg_parts.proofs.Times.{any_counts, sent_bit, bit_small}
use Rattle.hg_parts.proofs.Sent.{any_contains, sent_away, sent_past}

module _ (parts : Parts) (r : AreRemotesRight parts) where
  abbrev segments : ℕ
  segments = length parts.policy.segments

  abbrev lists : Lists
  lists = lists_of parts

  pub in_hand : (place : ℕ) → IsOutOnce parts place → (worker : ℕ)
      → hand_of (state_of parts) worker ≡ Some place
      → is_parted (record_at (state_of parts) place).life ≡ true
  in_hand place once worker e =
      bit_true (is_out parts place) (omega (arith, once, hand_counts parts.hands worker place e))

  pub one_hand : (place : ℕ) → IsOutOnce parts place → (worker other : ℕ)
      → hand_of (state_of parts) worker ≡ Some place
      → hand_of (state_of parts) other ≡ Some place → worker ≡ other
  one_hand place once worker other e f = elim (cases_eq worker other) [
    | inl same ↦ same
    | inr ne ↦
        let two = hands_count parts.hands worker other place ne e f in
        let few = bit_small (is_out parts place) in
        absurd (omega (arith, once))
  ]

  pub sent : (place : ℕ) → IsOutOnce parts place → (n : ℕ)
      → times place (sent_in lists n) ≡ bit_of (is_sent_to (state_of parts) n place)
  sent place once n = elim (cases_eq (segment_of place) n) [
    | inl e ↦ rw (← e, nat_eq-same (segment_of place))
        (sent_bit (is_out parts place) (list_any (is_number place) parts.hands)
        (count_by (is_number place) parts.hands) (times place (sent_in lists (segment_of place)))
        once (any_counts (is_number place) parts.hands))
    | inr ne ↦
        let none : times place (sent_in lists n) ≡ 0 = elim (cases_lt n segments) [
          | inl lt ↦ sent_away parts r n place lt ne
          | inr ge ↦ sent_past parts n place ge
        ] in
        none ∙ rw (nat_eq-other (segment_of place) n ne)
  ]

  -- a place on the thread-free list of a page, by its number in the segment
  thread_here : (page : ℕ) → page < segments * 16
      → list_at lists.thread_free page ≡ places_from (segment_of_page page * 8192)
      (thread_at (remote_at parts (segment_of_page page)) (page % 16))
  thread_here page lt =
      get_or-map-range_with_len (thread_of parts) 0 (segments * 16) page page [] lt (omega arith)

  on_thread : (place page : ℕ) → Contains (list_at lists.thread_free page) place
      → (at : ℕ) × Contains (thread_at (remote_at parts (segment_of_page page)) (page % 16)) at
      × (place ≡ segment_of_page page * 8192 + at) × (page < segments * 16)
  on_thread place page c = elim (cases_lt page (segments * 16)) [
    | inl lt ↦
        let n = segment_of_page page in
        let f = shifted_contains (n * 8192) place (thread_at (remote_at parts n) (page % 16))
        (rw (thread_here page lt) at c) in
        (f.0, f.1, f.2, lt)
    | inr ge ↦
        let none = get_or_past lists.thread_free page []
        (let l = length-map-range_with_len (thread_of parts) 0 (segments * 16) in omega arith) in
        let d : Contains [] place = rw none at c in
        absurd (omega (arith, d.1))
  ]

  pub own_page : (place page : ℕ) → Contains (list_at lists.thread_free page) place
      → page_of place ≡ page
  own_page place page c =
      let f = on_thread place page c in
      let own = (r (segment_of_page page) (omega (arith, f.3))).own (page % 16) f.0 f.1 in
      omega (arith, f.2, own)

  some_on : (xs : List ℕ) (x : ℕ) → Contains xs x → xs ≢ []
  some_on xs x c e = let d : Contains [] x = rw e at c in omega (arith, d.1)

  pub waits : (place : ℕ) → Contains (list_at lists.thread_free (page_of place)) place
      → (first : ℕ) × Contains (list_at lists.delayed (segment_of place)) first
      × (page_of first ≡ page_of place)
  waits place c =
      let page = page_of place in
      let n = segment_of place in
      let same : segment_of_page page ≡ n = omega arith in
      let f = on_thread place page c in
      let below : n < segments = omega (arith, f.3) in
      let rest : Contains (thread_at (remote_at parts n) (page % 16)) f.0 = rw same at f.1 in
      let delayed = (remote_at parts n).delayed in
      let w = any_contains (λ at. nat_eq (page_of at) (page % 16)) delayed ((r n below).behind
      (page % 16) (some_on (thread_at (remote_at parts n) (page % 16)) f.0 rest)) in
      let small : w.0 < 8192 = (r n below).below w.0
      (Contains-append_left delayed (concat (remote_at parts n).thread_free) w.0 w.1) in
      let on : page_of w.0 ≡ page % 16 = eqb-true (page_of w.0) (page % 16) w.2 in (
        n * 8192 + w.0,
        rw (get_or-map-range_with_len (delayed_of parts) 0 segments n n [] below (omega arith))
            (Contains-shifted (n * 8192) w.0 delayed w.1),
        omega (arith, on, small),
      )
