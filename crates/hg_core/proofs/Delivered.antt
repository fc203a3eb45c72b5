-- A place goes from a worker's hand to a remote list.
use Rattle.std.proofs.Common.{◌≡◌, ℕ, ◌<◌, Option, Some, None, length, Contains, slice_index_or}
use Rattle.std.proofs.Common.{refl, sym, ap, subst, ◌∙◌, arith}
use Rattle.std.specs.Option.{option_map}
use Rattle.std.specs.Box.{boxed_slice_items, boxed_slice_with_item}
use Rattle.std.proofs.lemmas.List.{length-map, map-set, get_or-map, get_or_read}
use Rattle.hg_place.specs.declared.Place.{Place}
use Rattle.hg_place.specs.Places.{number_of}
use Rattle.hg_lists.specs.Inserts.{Inserts}
use Rattle.hg_remote.specs.Remote.{Remote, IsRight, contents, slot}
use Rattle.hg_remote.specs.Sends.{sent as with_sent}
use Rattle.hg_events.specs.Core.{Core}
use Rattle.hg_events.specs.Delivered.{IsInHand, IsUnsent, remote_of, nothing_there, delivered}
use Rattle.hg_events.proofs.Delivered.{hand_is_unsent, deliver_is_served, deliver_is_refused}
use Rattle.hg_chosen.specs.Chosen.{IsChosenBy}
use Rattle.hg_chosen.specs.Delivered.{IsSent}
use Rattle.hg_chosen.proofs.Refusals.{refused_is_chosen}
use Rattle.hg_chosen.proofs.Sending.{deliver_is_chosen}
use Rattle.hg_core.specs.declared.stores.Stores.TheInside.{Inside}
use Rattle.hg_core.specs.Stored.{core_of, IsStored}
use Rattle.hg_core.proofs.After.{IsAfter, after_still}
use Rattle.hg_machine.specs.declared.Event.TheVariants as event
use Rattle.hg_machine.specs.declared.Answer.TheVariants as answer

-- a worker's hand, as it is read
pub hand_read : (a : Inside) (s : Core) (at worker : ℕ) (hand : Option Place) → core_of a ≡ s
    → IsStored a → worker < s.policy.workers → at ≡ worker
    → hand ≡ slice_index_or (boxed_slice_items a.hands) at hand
    → slice_index_or (core_of a).hands worker None ≡ option_map number_of hand
hand_read a s at worker hand view stored below same there =
    let hands = boxed_slice_items a.hands in
    let low : worker < a.policy.workers = subst (λ x. worker < x.policy.workers) (sym view) below in
    let inside : at < length hands =
    omega (
      arith,
      stored.kept.tidy.segments.hands,
      length-map hands (option_map number_of),
      low,
      same,
    ) in
    ap (λ n. slice_index_or (core_of a).hands n None) (sym same)
    ∙ get_or-map (option_map number_of) hands at None None inside
    ∙ ap (option_map number_of) (sym (get_or_read hands at hand inside there None))

-- where it is empty, nothing goes
pub nothing_goes : (a : Inside) (s : Core) (at worker : ℕ) (hand : Option Place) → core_of a ≡ s
    → IsStored a → worker < s.policy.workers → at ≡ worker
    → hand ≡ slice_index_or (boxed_slice_items a.hands) at hand → hand ≡ None
    → IsChosenBy s worker event.Deliver answer.NothingInHand s
nothing_goes a s at worker hand view stored below same there none =
    subst (λ x. IsChosenBy x worker event.Deliver answer.NothingInHand x) view
    (refused_is_chosen (core_of a) worker event.Deliver answer.NothingInHand refl
    (deliver_is_refused (core_of a) worker
    (hand_read a s at worker hand view stored below same there
    ∙ ap (option_map number_of) none)))

module _ (a : Inside) (s : Core) (at worker : ℕ) (hand : Option Place) (place : Place)
    (view : core_of a ≡ s) (stored : IsStored a) (below : worker < s.policy.workers)
    (same : at ≡ worker) (there : hand ≡ slice_index_or (boxed_slice_items a.hands) at hand)
    (some : hand ≡ Some place) where
  in_hand : IsInHand (core_of a) worker place
  in_hand =
      hand_read a s at worker hand view stored below same there ∙ ap (option_map number_of) some

  pub unsent : IsUnsent (core_of a) place
  unsent = hand_is_unsent (core_of a) worker place stored.kept.tidy in_hand

  module _ (n : ℕ) (old : Remote) (number : n ≡ place.segment)
      (at_n : old ≡ slice_index_or (boxed_slice_items a.remotes) n old) where
    remote_inside : n < length (boxed_slice_items a.remotes)
    remote_inside = omega (arith, unsent.inside, number)

    remote_is : remote_of (core_of a) place.segment ≡ old
    remote_is =
        ap (remote_of (core_of a)) (sym number)
        ∙ sym (get_or_read (boxed_slice_items a.remotes) n old remote_inside at_n nothing_there)

    -- its remote list takes it
    pub takes_it : Contains (contents old) (slot place.page place.index) → ⊥
    takes_it c = unsent.unsent
        (subst (λ r. Contains (contents r) (slot place.page place.index)) (sym remote_is) c)

    pub after_deliver : (new : Remote) (to : ℕ) → to ≡ worker
        → new ≡ with_sent old place.page place.index
        → Inserts (slot place.page place.index) (contents old) (contents new) → IsRight new
        → IsAfter s
        (record a {
          remotes = boxed_slice_with_item a.remotes n new;
          hands = boxed_slice_with_item a.hands to None;
        }) worker event.Deliver answer.Done
    after_deliver new to back sent more right =
        let core = core_of a in
        let its : IsSent core place new =
        record {
          sent = sent ∙ ap (λ r. with_sent r place.page place.index) (sym remote_is);
          added = subst (λ r. Inserts (slot place.page place.index) (contents r) (contents new))
              (sym remote_is) more;
          right = right;
        } in
        after_still a
        (record a {
          remotes = boxed_slice_with_item a.remotes n new;
          hands = boxed_slice_with_item a.hands to None;
        }) s (delivered core worker place new) worker event.Deliver answer.Done view stored tt
        (let empty = map-set (option_map number_of) (boxed_slice_items a.hands) to None in
        let there = number in let its_hand = back in cc)
        refl
        (deliver_is_served core worker place new stored.kept.tidy in_hand its.added right)
        (deliver_is_chosen core worker place new stored.kept.tidy in_hand its)
