-- A core whose workers hold nothing.
use Rattle.std.proofs.Common.{◌≡◌, ℕ, zero, suc, Bool, true, false, List, [], ◌∷◌, length, map}
use Rattle.std.proofs.Common.{Option, None, slice_index_or, refl, ap, ◌∙◌, arith, inl, inr, subst, sym}
use Rattle.std.specs.Option.{option_map}
use Rattle.std.specs.List.{AllByRecursion, list_any, range_with_len}
use Rattle.std.proofs.lemmas.Bool.{cases_lt}
use Rattle.std.proofs.lemmas.List.{get_or_past}
use Rattle.std.proofs.lemmas.List.FromFn.{length-map-range_with_len}
use Rattle.hg_place.specs.declared.Place.{Place}
use Rattle.hg_place.specs.declared.plain.PlainWords.{PlainWords}
use Rattle.hg_place.specs.Places.{number_of}
use Rattle.hg_machine.specs.Holders.{holds, is_held_by}
use Rattle.hg_machine.specs.Lists.{Kept, IsPartition}
use Rattle.hg_machine.specs.Soundness.{IsSound}
use Rattle.hg_machine.specs.State.{fresh, hand_of}
use Rattle.hg_heap.specs.Held.{Held}
use Rattle.hg_agreement.specs.Holdings.{has}
use Rattle.hg_agreement.specs.Parts.{heap_at, holder_by, holder_of, holdings, is_of, kept_of}
use Rattle.hg_agreement.specs.Parts.{plain_from, state_of, worker_of}
use Rattle.hg_agreement.specs.Parts.{Parts as CoreParts}
use Rattle.hg_agreement.proofs.Leaves.{none_passes}
use Rattle.hg_agreement.proofs.Told.{holder_is}
use Rattle.hg_events.specs.Core.{Core, parts_of}
use Rattle.hg_parts.specs.Audit.{IsInOrder}
use Rattle.hg_audit.specs.declared.faults.AuditFault.{AuditFault}
use Rattle.hg_audit.specs.declared.faults.AuditFault.TheVariants as fault
use Rattle.hg_audit.specs.declared.parts.Parts.{Parts as Handed}
use Rattle.hg_audit.specs.Handed.{core_in, parts_in}
use Rattle.hg_audit.specs.Told.{IsFirstFault}
use Rattle.hg_close.specs.Closed.{IsQuiet, IsPlace, AreLost}
use Rattle.hg_close.specs.declared.room.CloseRoom.{CloseRoom}
use Rattle.hg_close.specs.Rooms.{IsRoom}

empty_at : (hs : List (Held PlainWords)) → AllByRecursion (λ heap. heap.segments ≡ []) hs
    → (w : ℕ) → slice_index_or (map (λ held. map plain_from held.segments) hs) w [] ≡ []
empty_at [] empty w = refl
empty_at (x ∷ xs) empty zero = ap (map plain_from) empty.0
empty_at (x ∷ xs) empty (suc w) = empty_at xs empty.1 w

none_in_hand : (hs : List (Option Place)) → ((w : ℕ) → slice_index_or hs w None ≡ None)
    → (w : ℕ) → slice_index_or (map (option_map number_of) hs) w None ≡ None
none_in_hand [] none w = refl
none_in_hand (h ∷ hs) none zero = ap (option_map number_of) (none 0)
none_in_hand (h ∷ hs) none (suc w) = none_in_hand hs (λ k. none (suc k)) w

held_by_none : (w : ℕ) (b : Bool) → is_held_by w (holder_by None b) ≡ false
held_by_none w true = refl
held_by_none w false = refl

module _ (core : Core) (empty : AllByRecursion (λ heap. heap.segments ≡ []) core.heaps) where
  nobody : (n : ℕ) → worker_of (parts_of core) n ≡ None
  nobody n =
      none_passes (λ w. has (holdings (heap_at (parts_of core) w)) n)
      (range_with_len 0 (length (parts_of core).heaps))
      (λ w. ap (λ ks. has (holdings ks) n) (empty_at core.heaps empty w))

  unheld : (w n : ℕ) → holds (state_of (parts_of core)) w n ≡ false
  unheld w n = elim (cases_lt n (length core.policy.segments)) [
    | inl lt ↦
        ap (is_held_by w) (holder_is (parts_of core) n lt)
        ∙ ap (λ o. is_held_by w (holder_by o (list_any (is_of n) (parts_of core).orphans)))
        (nobody n)
        ∙ held_by_none w (list_any (is_of n) (parts_of core).orphans)
    | inr ge ↦
        ap (is_held_by w) (get_or_past (state_of (parts_of core)).holders n fresh
        (omega (
          arith,
          ge,
          length-map-range_with_len (holder_of (parts_of core)) 0 (length core.policy.segments),
        )))
  ]

-- a core that is made of room
pub quiet : (room : CloseRoom) → IsRoom room → (core : Kept) → core ≡ kept_of (parts_in room.parts)
    → IsSound core.state × IsPartition core → IsQuiet room.parts.policy core
quiet room is core e kept = record {
  policy_is = ap (λ (k : Kept). k.state.policy) e;
  sound = kept.0;
  partition = kept.1;
  unheld = λ w n. ap (λ (k : Kept). holds k.state w n) e ∙ unheld (core_in room.parts) is.heaps w n;
  hands = λ w. ap (λ (k : Kept). hand_of k.state w) e
      ∙ none_in_hand room.parts.hands.items is.hands w;
}

-- where segments are in order an audit can only find a place
pub is_place : (parts : CoreParts) (why : AuditFault) → ((n : ℕ) → IsInOrder parts n)
    → IsFirstFault parts why → IsPlace why
is_place parts (fault.Segment n) ordered first = first.wrong (ordered n)
is_place parts (fault.Place place) ordered first = tt
is_place parts fault.Memory ordered first = first

-- parts that are a room's, in which an audit found a place
pub lost : (room : CloseRoom) → IsRoom room → (parts : Handed) → parts ≡ room.parts
    → (why : AuditFault) → IsFirstFault (parts_in room.parts) why
    → (place : Place) → why ≡ fault.Place place → AreLost room.parts.policy place parts
lost room is parts same why first place told =
    subst (AreLost room.parts.policy place) (sym same) (record {
      policy_is = refl;
      complete = is.complete;
      heaps = is.heaps;
      hands = is.hands;
      first = subst (IsFirstFault (parts_in room.parts)) told first;
    })
