-- Two states that agree on a side refuse and serve its workers' events alike.
use Rattle.std.proofs.Common.{◌≡◌, ℕ, ◌+◌, ◌&&◌, Bool, true, not, [], ◌∷◌, if◌then◌else◌, length}
use Rattle.std.proofs.Common.{get_or, nat_lt, max, is_none, is_some, Some, None, refl, sym, ap, ◌∙◌}
use Rattle.std.proofs.Math.Path.{fun_ext}
use Rattle.std.specs.List.{count_by}
use Rattle.hg_place.specs.declared.Place.{Place}
use Rattle.hg_place.specs.declared.Handle.{Handle}
use Rattle.hg_place.specs.declared.Right.{Right}
use Rattle.hg_place.specs.declared.Right.TheVariants as right
use Rattle.hg_place.specs.Places.{number_of, segment_of}
use Rattle.hg_machine.specs.declared.Event.{Event}
use Rattle.hg_machine.specs.declared.Event.TheVariants as event
use Rattle.hg_machine.specs.declared.Answer.{Answer}
use Rattle.hg_machine.specs.declared.Answer.TheVariants as answer
use Rattle.hg_machine.specs.declared.AllocVerdict.{AllocVerdict}
use Rattle.hg_machine.specs.declared.AllocVerdict.TheVariants as alloc
use Rattle.hg_machine.specs.Life.{owner_of, contents_of, bytes_of}
use Rattle.hg_machine.specs.State.{State, record_at, hand_of, places_in, pages_in}
use Rattle.hg_machine.specs.Holders.{holds}
use Rattle.hg_machine.specs.Charge.{charge}
use Rattle.hg_machine.specs.Room.{is_room}
use Rattle.hg_machine.specs.Denial.{denial}
use Rattle.hg_machine.specs.Request.{words_for, alloc_verdict, size_of}
use Rattle.hg_machine.specs.Refusal.{refusal, alloc_refusal, denial_or, reach_refusal}
use Rattle.hg_machine.specs.First.{first_of}
use Rattle.hg_machine.specs.Served.{IsServed}
use Rattle.hg_machine.specs.Sweeps.{is_sent_to}
use Rattle.hg_choice.specs.ListsAfter.{is_collected}
use Rattle.hg_purge.proofs.Agreeing.{Beside, Names}
use Rattle.hg_purge.proofs.Facts.{room_held}
use Rattle.hg_purge.proofs.Following.{place_same, holding_same, decides, sent_same, collected_same}
use Rattle.hg_purge.proofs.Following.{held_named, next_same, denial_same, places_same, pages_same}

module _ {on own : ℕ → Bool} {s t : State} (b : Beside on own s t) (w : ℕ) (mine : own w ≡ true)
  where
    holding : (segment : ℕ) → holds t w segment ≡ holds s w segment
    holding = holding_same b w mine

    place_is : (place : Place) → on place.segment ≡ true
        → record_at t (number_of place) ≡ record_at s (number_of place)
    place_is = place_same b

    verdict_is : (actor : ℕ) (right : Right) (place : Place) (expected : ℕ)
        → on place.segment ≡ true
        → denial t actor right place expected ≡ denial s actor right place expected
    verdict_is = denial_same b

    alloc_is : (arena : ℕ) (v : AllocVerdict)
        → alloc_refusal t w arena v ≡ alloc_refusal s w arena v
    alloc_is arena (alloc.Denied rule) = refl
    alloc_is arena alloc.TooLarge = refl
    alloc_is arena (alloc.Fits size) =
        ap (λ b. if b then None else Some answer.NoRoom)
        ((decides b w mine).some_room arena size)

    reach_is : (actor : ℕ) (right : Right) (handle : Handle) (index : ℕ)
        → on handle.place.segment ≡ true
        → reach_refusal t w actor right handle index ≡ reach_refusal s w actor right handle index
    reach_is actor right handle index o =
        let words = contents_of (record_at t (number_of handle.place)).life in
        ap (λ d. denial_or d ((not (holds t w handle.place.segment), answer.Elsewhere)
        ∷ (not (nat_lt index (length words)), answer.OutOfBlock) ∷ []))
        (verdict_is actor right handle.place handle.generation o)
        ∙ ap (λ h. denial_or (denial s actor right handle.place handle.generation)
        ((not h, answer.Elsewhere) ∷ (not (nat_lt index (length words)), answer.OutOfBlock) ∷ []))
        (holding handle.place.segment)
        ∙ ap (λ r. denial_or (denial s actor right handle.place handle.generation)
        ((not (holds s w handle.place.segment), answer.Elsewhere)
        ∷ (not (nat_lt index (length (contents_of r.life))), answer.OutOfBlock) ∷ []))
        (place_is handle.place o)

    -- the same reason refuses both
    pub same_refusal : (e : Event) → Names on own true s e → refusal t w e ≡ refusal s w e
    same_refusal (event.Alloc actor arena bytes) o =
        alloc_is arena (alloc_verdict t.policy actor.0 arena (words_for bytes) (charge t w actor.0))
        ∙ ap (λ p. alloc_refusal s w arena
        (alloc_verdict p actor.0 arena (words_for bytes) (charge t w actor.0))) b.same.policy
        ∙ ap (λ c. alloc_refusal s w arena
        (alloc_verdict s.policy actor.0 arena (words_for bytes) c))
        ((decides b w mine).charged actor.0)
    same_refusal (event.Free actor handle) o =
        ap (λ d. denial_or d
        ((not (holds t w handle.place.segment) && is_some (hand_of t w), answer.Busy) ∷ []))
        (verdict_is actor.0 right.Free handle.place handle.generation (o refl))
        ∙ ap (λ h. denial_or (denial s actor.0 right.Free handle.place handle.generation)
        ((not h && is_some (hand_of t w), answer.Busy) ∷ [])) (holding handle.place.segment)
        ∙ ap (λ x. denial_or (denial s actor.0 right.Free handle.place handle.generation)
        ((not (holds s w handle.place.segment) && is_some x, answer.Busy) ∷ []))
        (b.same.hands.at w mine)
    same_refusal event.Deliver o =
        ap (λ x. first_of ((is_none x, answer.NothingInHand) ∷ [])) (b.same.hands.at w mine)
    same_refusal (event.Take segment) o =
        ap (λ h. first_of ((not h, answer.NotHeld) ∷ [])) (holding segment)
    same_refusal event.Collect o = refl
    same_refusal (event.Read actor handle index) o =
        reach_is actor.0 right.Read handle index (o refl)
    same_refusal (event.Write actor handle index value) o =
        reach_is actor.0 right.Write handle index (o refl)
    same_refusal (event.Look actor place) o =
        ap (λ r. denial_or (denial t actor.0 right.List place (max 1 r.generation))
        ((not (holds t w place.segment), answer.Elsewhere) ∷ [])) (place_is place (o refl))
        ∙ ap (λ d. denial_or d ((not (holds t w place.segment), answer.Elsewhere) ∷ []))
        (verdict_is actor.0 right.List place
        (max 1 (record_at s (number_of place)).generation) (o refl))
        ∙ ap (λ h. denial_or (denial s actor.0 right.List place
        (max 1 (record_at s (number_of place)).generation)) ((not h, answer.Elsewhere) ∷ []))
        (holding place.segment)
    same_refusal (event.Abandon segment) o =
        ap (λ h. first_of ((not h, answer.NotHeld) ∷ [])) (holding segment)
    same_refusal (event.Refill arena) o =
        ap (λ x. first_of ((is_none x, answer.NoSegment) ∷ []))
        (next_same b arena o)

    -- a place with room is of the side
    pub room_on : (arena size place : ℕ) → is_room s w arena size place ≡ true
        → on (segment_of place) ≡ true
    room_on arena size place room =
        b.here.holding w (segment_of place) (room_held s w arena size place room) ∙ mine

    -- what serves it in the one serves it in the other
    pub same_serving : (e : Event) (a : Answer) → refusal s w e ≡ None → Names on own true s e
        → IsServed s w e a → IsServed t w e a
    same_serving (event.Alloc actor arena bytes) a none o g =
        let p = number_of g.0.place in
        let at = b.same.records.at p (room_on arena (size_of bytes) p g.2.room) in (
          g.0,
          g.1,
          record {
            room =
                (decides b w mine).rooms arena (size_of bytes) p
                ∙ g.2.room;
            next = g.2.next ∙ sym (ap (λ r. r.generation + 1) at);
          },
        )
    same_serving (event.Free actor handle) a none o is =
        is ∙ sym (ap (λ h. if h then answer.Done else answer.Parted) (holding handle.place.segment))
    same_serving event.Deliver a none o is = is
    same_serving (event.Take segment) a none o is =
        let mine_is = held_named b.here w segment none ∙ mine in
        is
        ∙ sym (ap (λ f. answer.Taken (count_by f (places_in s)))
        (fun_ext λ p. sent_same b segment p mine_is))
        ∙ sym (ap (λ ps. answer.Taken (count_by (is_sent_to t segment) ps))
        (places_same b))
    same_serving event.Collect a none o is =
        is
        ∙ sym (ap (λ f. answer.Pages (count_by f (pages_in s)))
        (collected_same b w mine))
        ∙ sym (ap (λ ps. answer.Pages (count_by (is_collected t w) ps))
        (pages_same b))
    same_serving (event.Read actor handle index) a none o is =
        is
        ∙ sym (ap (λ r. answer.Value (get_or (contents_of r.life) index 0))
        (place_is handle.place (o refl)))
    same_serving (event.Write actor handle index value) a none o is = is
    same_serving (event.Look actor place) a none o g =
        let at = place_is place (o refl) in (
          g.0,
          g.1,
          record {
            stands = g.2.stands;
            generation = g.2.generation ∙ sym (ap (λ r. r.generation) at);
            owner = g.2.owner ∙ sym (ap (λ r. owner_of r.life) at);
            bytes = g.2.bytes ∙ sym (ap (λ r. bytes_of r.life) at);
          },
        )
    same_serving (event.Abandon segment) a none o is = is
    same_serving (event.Refill arena) a none o g =
        (g.0, g.1, next_same b arena o ∙ g.2)
