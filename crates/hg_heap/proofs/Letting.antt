-- What the slot words of a segment that was found allow, by what those of held segments do.
use Rattle.std.specs.Prelude.{option_map}
use Rattle.std.proofs.Common.{◌≡◌, ℕ, ◌+◌, ◌*◌, ◌/◌, ◌%◌, ◌<◌, List, Option, Some, None}
use Rattle.std.proofs.Common.{refl, sym, ap, subst, ◌∙◌, arith, inl, inr, Contains, slice_set}
use Rattle.hg_lists.specs.Repeats.{HasNoRepeats}
use Rattle.hg_place.specs.declared.Handle.{Handle}
use Rattle.hg_place.specs.declared.Place.{Place}
use Rattle.hg_place.specs.declared.standing.Standing.{Standing}
use Rattle.hg_place.specs.Lives.{live_word}
use Rattle.hg_place.specs.Places.{segment_of, segment_of_page}
use Rattle.hg_place.specs.Standings.{standing_at, standing_generation}
use Rattle.hg_size.specs.Sizes.{number_of_size}
use Rattle.hg_size.specs.SizeLaws.{key_of}
use Rattle.hg_machine.specs.Policy.{Policy}
use Rattle.hg_page.specs.PageLists.{PageLists, Pops}
use Rattle.hg_queue.specs.Queues.{queue_of}
use Rattle.hg_segment.specs.Kept.{Kept, lists_at, refilled, slot}
use Rattle.hg_segment.specs.Kept.{class_at as class_in}
use Rattle.hg_heap.specs.Allowed.{IsQuietIn, LetsLook, LetsFree, LetsOpen, MayLook, MayFree, MayGive, MayOpen}
use Rattle.hg_heap.specs.Begun.{Begun}
use Rattle.hg_heap.specs.Choice.{lists_for, blank_on, chosen_place}
use Rattle.hg_heap.specs.Held.{Held, segment_in, lists_on, lists_by, class_by, class_on}
use Rattle.hg_heap.specs.Queues.{AreQueued, key_by}
use Rattle.hg_heap.specs.Ready.{IsAtFront, IsBegun, IsReady}
use Rattle.hg_heap.proofs.Allotting.{begun_is, chosen_popped, chosen_ready, found_first, lists_for_classed}
use Rattle.hg_heap.proofs.Founds.{Found, found_is, found_after, numbers}

module _ {S : Type 0} (number : S → ℕ) (quiet : S → Type 0) where
  -- the segment that was found is quiet, and so is the one that stands in its place
  pub quiet_found : (items : List (Kept S)) (segment found : ℕ) (one : Kept S)
      → Found number items segment found one → IsQuietIn number quiet segment items
      → quiet one.slots
  quiet_found items segment found one here may =
      may one (found_is number items segment found one here)

  pub quiet_after : (items : List (Kept S)) (segment found : ℕ) (one after : Kept S)
      → Found number items segment found one → number after.slots ≡ number one.slots
      → quiet after.slots → IsQuietIn number quiet segment (slice_set items found after)
  quiet_after items segment found one after here same now k e =
      let there =
      found_is number (slice_set items found after) segment found after
      (found_after number items segment found one after here same) in
      let both : Some after ≡ Some k = sym there ∙ e in
      let is : after ≡ k = cc in
      subst (λ (j : Kept S). quiet j.slots) is now

module _ {S : Type 0} (number : S → ℕ) (shows : S → ℕ → ℕ → Type 0)
    (allows : S → ℕ → ℕ → ℕ → Type 0) where
  pub lets_look : (items : List (Kept S)) (place : Place) (found : ℕ) (one : Kept S)
      → Found number items place.segment found one → MayLook shows allows number place items
      → LetsLook shows allows place one
  lets_look items place found one here may =
      may one (found_is number items place.segment found one here)

  pub lets_free : (policy : Policy) (actor : ℕ) (items : List (Kept S)) (handle : Handle) (found : ℕ)
      (one : Kept S) → Found number items handle.place.segment found one
      → MayFree shows allows number policy actor handle items
      → LetsFree shows allows policy actor handle one
  lets_free policy actor items handle found one here may =
      may one (found_is number items handle.place.segment found one here)

  module _ (records : S → List Standing) where
    -- a page with a key has a class
    keyed : (o : Option (Kept S)) (page key : ℕ) → key_by number o page ≡ Some key
        → (size : ℕ) × (class_by number o page ≡ Some size)
    keyed None page key e = absurd (cc)
    keyed (Some k) page key e = go (class_in k.classes page) refl
      where
        go : (c : Option ℕ) → class_in k.classes page ≡ c
            → (size : ℕ) × (class_by number (Some k) page ≡ Some size)
        go None is = absurd (let no : None ≡ Some key = sym (ap (option_map (λ size. key_of k.arena (number_of_size size))) is) ∙ e in cc)
        go (Some size) is = (size, is)

    -- the lists of a page that is ready are those that it gives out of
    ready_lists : (old mid : Held S) (arena size page : ℕ) → AreQueued number old
        → Contains (queue_of mid.queues (key_of arena (number_of_size size))) page
        → IsReady number records arena size page old mid
        → lists_for number records old.segments arena size page
        ≡ lists_on number mid.segments page
    ready_lists old mid arena size page queued on (inl f) =
        let back : Contains (queue_of old.queues (key_of arena (number_of_size size))) page =
        subst (λ (h : Held S). Contains (queue_of h.queues (key_of arena (number_of_size size))) page)
        f.same on in
        let has = keyed (segment_in number old.segments (segment_of_page page)) (page % 16)
        (key_of arena (number_of_size size))
        (queued.only (key_of arena (number_of_size size)) page back).0 in
        lists_for_classed number records old.segments arena size page has.0 has.1
        ∙ ap (λ (h : Held S). lists_on number h.segments page) (sym f.same)
    ready_lists old mid arena size page queued on (inr b) =
        begun_is (blank_on number records old.segments arena size page)
        (lists_on number old.segments page) b.blank ∙ sym b.lists

    -- the segment of a page that began is held as it was, but for words, classes and lists
    begun_slots : (size page : ℕ) (old new : List (Kept S))
        → Begun number records size page old new → HasNoRepeats (numbers number old) → (k : Kept S)
        → segment_in number new (segment_of_page page) ≡ Some k
        → (one : Kept S) × (segment_in number old (segment_of_page page) ≡ Some one)
        × (one.slots ≡ k.slots)
    begun_slots size page old new b once k e =
        let here : Found number old (segment_of_page page) b.found b.before = record {
          at = b.at;
          first = found_first number records old b.found b.before (segment_of_page page) once b.at b.segment;
        } in
        let slots : b.after.slots ≡ b.before.slots = ap (λ (j : Kept S). j.slots) b.changed in
        let now = found_is number (slice_set old b.found b.after) (segment_of_page page) b.found b.after
        (found_after number old (segment_of_page page) b.found b.before b.after here
        (ap number slots)) in
        let there : segment_in number new (segment_of_page page) ≡ Some b.after =
        ap (λ (xs : List (Kept S)). segment_in number xs (segment_of_page page)) b.now ∙ now in
        let same : Some b.after ≡ Some k = sym there ∙ e in
        let is : b.after ≡ k = cc in (
          b.before,
          found_is number old (segment_of_page page) b.found b.before here,
          sym slots ∙ ap (λ (j : Kept S). j.slots) is,
        )

    ready_slots : (old mid : Held S) (arena size page : ℕ)
        → HasNoRepeats (numbers number old.segments)
        → IsReady number records arena size page old mid → (k : Kept S)
        → segment_in number mid.segments (segment_of_page page) ≡ Some k
        → (one : Kept S) × (segment_in number old.segments (segment_of_page page) ≡ Some one)
        × (one.slots ≡ k.slots)
    ready_slots old mid arena size page once (inl f) k e = (
      k,
      subst (λ (h : Held S). segment_in number h.segments (segment_of_page page) ≡ Some k) f.same e,
      refl,
    )
    ready_slots old mid arena size page once (inr b) k e =
        begun_slots size page old.segments mid.segments b.begun once k e

    -- whichever place a page gives out that is ready, it is the one that is chosen
    pub may_give : (old mid : Held S) (arena size owner page : ℕ) → AreQueued number old
        → HasNoRepeats (numbers number old.segments)
        → Contains (queue_of mid.queues (key_of arena (number_of_size size))) page
        → IsReady number records arena size page old mid
        → MayOpen shows allows number records arena size owner old
        → MayGive shows allows number records page owner mid.segments
    may_give old mid arena size owner page queued once on ready may index after k low e pops =
        let lists : lists_on number mid.segments page ≡ lists_at k.lists (page % 16) =
        ap (λ (o : Option (Kept S)). lists_by number o (page % 16)) e in
        let its = ready_lists old mid arena size page queued on ready ∙ lists in
        let chosen : chosen_place number records old arena size ≡ Some (page * 512 + index) =
        chosen_popped number records old arena size page index after
        (chosen_ready number records old mid arena size page ready)
        (subst (λ (l : PageLists). Pops index (refilled l) after) (sym its) pops) in
        let held = ready_slots old mid arena size page once ready k e in
        let segment : segment_of_page page ≡ segment_of (page * 512 + index) = omega (arith, low) in
        let at : (page * 512 + index) % 8192 ≡ page % 16 * 512 + index = omega (arith, low) in
        let lets =
        may (page * 512 + index) held.0 chosen
        (subst (λ (n : ℕ). segment_in number old.segments n ≡ Some held.0) segment held.1) in
        subst
        (λ (s : S).
        (word : ℕ) → shows s (page % 16 * 512 + index) word
        → allows s (page % 16 * 512 + index) word
        (live_word
        (standing_generation (standing_at (records s) (page % 16 * 512 + index)) + 1) owner))
        held.2
        (subst
        (λ (n : ℕ).
        (word : ℕ) → shows held.0.slots n word
        → allows held.0.slots n word
        (live_word (standing_generation (standing_at (records held.0.slots) n) + 1) owner))
        at lets)
