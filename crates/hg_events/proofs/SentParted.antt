-- What was sent to a segment of a core is parted.
use Rattle.std.proofs.Common.{◌≡◌, ℕ, ◌+◌, ◌*◌, ◌%◌, ◌==◌, ◌<◌, true, length, slice_get, sym, ap}
use Rattle.std.proofs.Common.{◌∙◌, arith, subst}
use Rattle.std.specs.Prelude.{Some, Contains}
use Rattle.std.specs.List.{list_any}
use Rattle.std.proofs.lemmas.List.{get_or-map, length-map}
use Rattle.hg_lists.specs.Repeats.{IsIn}
use Rattle.hg_lists.proofs.RepeatsLemmas.{Contains-in, in_contains, count_by-in}
use Rattle.hg_place.specs.declared.plain.PlainWords.{PlainWords}
use Rattle.hg_place.specs.Places.{segment_of}
use Rattle.hg_remote.specs.Remote.{Remote, IsRight, contents, nothing_sent}
use Rattle.hg_remote.specs.Order.{drained}
use Rattle.hg_remote.specs.RemoteLaws.{IsOrderOf}
use Rattle.hg_remote.proofs.OrderLemmas.{order_all}
use Rattle.hg_segment.specs.Kept.{Kept}
use Rattle.hg_segment.specs.Parted.{plain_number}
use Rattle.hg_machine.specs.Life.{is_parted}
use Rattle.hg_machine.specs.Lists.{times, sent_in}
use Rattle.hg_machine.proofs.Listed.{bit_true}
use Rattle.hg_agreement.specs.Parts.{plain_from, plain_of, remote_at, no_remote, record_by}
use Rattle.hg_agreement.specs.Parts.{lists_of}
use Rattle.hg_agreement.specs.TakenIn.{remote_places, is_listed}
use Rattle.hg_agreement.proofs.Told.{record_is}
use Rattle.hg_parts.specs.Rights.{list_of, remote_from}
use Rattle.hg_parts.specs.Accounted.{is_out}
use Rattle.hg_parts.specs.Tidy.{IsTidy}
use Rattle.hg_parts.proofs.Sent.{sent_is, places_are}
use Rattle.hg_events.specs.Core.{Core, parts_of, heap_of}
use Rattle.hg_events.specs.Take.{remote_of}
use Rattle.hg_events.proofs.TakenHome.{IsPartedAt}
use Rattle.hg_events.proofs.SameListed.{any_same}
use Rattle.hg_events.proofs.CoreHeaps.{inside, plain_is}

-- of a segment of a worker's heap
module _ (core : Core) (worker : ℕ) (t : IsTidy (parts_of core))
    (below : worker < length core.heaps) (at : ℕ) (one : Kept PlainWords)
    (there : slice_get (heap_of core worker).segments at ≡ Some one) where
  abbrev n : ℕ
  n = plain_number one.slots

  abbrev list : Remote
  list = remote_of core n

  low_n : n < length core.policy.segments
  low_n = inside core worker t below at one there

  -- its remote list
  sent_below : n < length core.remotes
  sent_below =
      let low = low_n in
      let long : length (parts_of core).remotes ≡ length core.policy.segments =
      t.segments.remotes in
      let mapped : length (parts_of core).remotes ≡ length core.remotes =
      length-map core.remotes remote_from in
      omega (arith, low, long, mapped)

  remote_is : remote_at (parts_of core) n
      ≡ remote_from list
  remote_is =
      get_or-map remote_from core.remotes n nothing_sent no_remote sent_below

  list_right : IsRight list
  list_right =
      subst (λ r. IsRight (list_of r)) remote_is (t.remotes n low_n)

  pub order : IsOrderOf list
  order = order_all list list_right

  -- what is on it is parted
  pub sent_parted : (place : ℕ) → IsIn place (drained list)
      → (place < 8192) × IsPartedAt one place
  sent_parted place on =
      let parts = parts_of core in
      let c : Contains (contents list) place =
      (order.same place).0 (Contains-in place (drained list) on) in
      let low : place < 8192 = list_right.below place c in
      let q = n * 8192 + place in
      let inside = low_n in
      let own : segment_of q ≡ n = omega (arith, low) in
      let own_at : q % 8192 ≡ place = omega (arith, low) in
      let total = t.out_once q in
      let once : times place (contents list) ≡ 1 =
      count_by-in place (contents list) list_right.once (in_contains place (contents list) c) in
      let counts : times q (sent_in (lists_of parts) (segment_of q)) ≡ times place (contents list) =
      ap (λ m. times q (sent_in (lists_of parts) m)) own
      ∙ sent_is parts t.remotes n q inside own
      ∙ ap (λ r. times (q % 8192) (contents (list_of r))) remote_is
      ∙ ap (λ k. times k (contents list)) own_at in
      let out : is_out parts q ≡ true =
      bit_true (is_out parts q) (omega (arith, total, counts, once)) in (
        low,
        sym (ap (λ r. is_parted r.life)
            (record_is parts q (omega (arith, low, inside))
            ∙ ap (λ m. record_by (plain_of parts m) (q % 8192)) own
            ∙ ap (λ o. record_by o (q % 8192)) (plain_is core worker t below at one there)
            ∙ ap (record_by (Some (plain_from one))) own_at))
            ∙ out,
      )

  places_is : remote_places (remote_at (parts_of core) n) ≡ contents list
  places_is =
      places_are (remote_at (parts_of core) n) (t.remotes n low_n)
      ∙ ap (λ r. contents (list_of r)) remote_is

  -- in all
  pub as_many : length (drained list)
      ≡ length (remote_places (remote_at (parts_of core) n))
  as_many =
      order.as_many
      ∙ sym (ap length places_is)

  pub listed_is : (place : ℕ)
      → list_any (λ k. k == place) (drained list)
      ≡ is_listed (remote_at (parts_of core) n) place
  listed_is place =
      any_same place (drained list) (contents list) (order.same place).0 (order.same place).1
      ∙ sym (ap (list_any (λ k. k == place)) places_is)
