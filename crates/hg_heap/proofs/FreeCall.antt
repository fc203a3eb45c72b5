-- A free, tied, and what it leaves of the heap.
use Rattle.std.proofs.Common.{◌≡◌, ℕ, ◌-◌, ◌*◌, ◌/◌, ◌%◌, ◌==◌, ◌<◌, ◌&&◌, Bool}
use Rattle.std.proofs.Common.{not, ◌∷◌, [], List, length, is_some, Option}
use Rattle.std.proofs.Common.{Some, None, refl, sym, ap, subst, ◌∙◌, slice_set, arith, inl}
use Rattle.std.specs.Prelude.{option_map, Contains}
use Rattle.std.proofs.lemmas.Grind.{get_or-set_at}
use Rattle.std.proofs.lemmas.List.{get_or-set_other}
use Rattle.hg_place.specs.declared.Actor.{Actor}
use Rattle.hg_place.specs.declared.Handle.{Handle}
use Rattle.hg_place.specs.declared.Place.{Place}
use Rattle.hg_place.specs.declared.Right.TheVariants as right
use Rattle.hg_place.specs.declared.standing.Standing.{Standing}
use Rattle.hg_place.specs.declared.standing.Standing.TheVariants.{Home, Open}
use Rattle.hg_place.specs.Places.{number_of, page_number, segment_of_page}
use Rattle.hg_place.specs.Slots.{slot_in}
use Rattle.hg_place.specs.Lives.{word_generation, word_owner, word_life, IsLiveWord}
use Rattle.hg_place.specs.Standings.{slot_of, standing_at, is_home, Fits}
use Rattle.hg_machine.specs.declared.Rule.{Rule}
use Rattle.hg_machine.specs.declared.Event.TheVariants as event
use Rattle.hg_machine.specs.declared.Answer.{Answer}
use Rattle.hg_machine.specs.declared.Answer.TheVariants as answer
use Rattle.hg_machine.specs.Policy.{Policy}
use Rattle.hg_machine.specs.Refusal.{denial_or}
use Rattle.hg_size.specs.Sizes.{number_of_size}
use Rattle.hg_size.specs.SizeLaws.{key_of}
use Rattle.hg_segment.specs.Kept.{Kept, class_at, lists_at, no_lists, returned}
use Rattle.hg_segment.specs.Charges.{block_bytes}
use Rattle.hg_segment.specs.Right.{IsBlockPlace}
use Rattle.hg_page.specs.PageLists.{PageLists}
use Rattle.hg_agreement.specs.Agreement.{Ties}
use Rattle.hg_agreement.specs.Seen.{refusal_in}
use Rattle.hg_agreement.specs.Changed.{put}
use Rattle.hg_agreement.specs.Holdings.{block_of, view_of}
use Rattle.hg_agreement.proofs.Sees.{undenied_is_live}
use Rattle.hg_agreement.proofs.Frees.{free_here_is_tied}
use Rattle.hg_heap.specs.Held.{kind_of, lists_on, has_place, greatest_by, greatest_in}
use Rattle.hg_heap.specs.Held.{segment_in}
use Rattle.hg_heap.specs.Queues.{key_by, key_on}
use Rattle.hg_heap.specs.Lists.{CameHome}
use Rattle.hg_heap.specs.Settled.{IsSettled}
use Rattle.hg_heap.specs.Ties.{holding, heap_view, shown_at, HeapTies, Stepped}
use Rattle.hg_heap.specs.Freeing.{free_denial}
use Rattle.hg_heap.specs.Stays.{Looked, Closed}
use Rattle.hg_heap.proofs.Founds.{Found, found_is, number_is, Contains-get}
use Rattle.hg_heap.proofs.FoundHoldings.{held_found}
use Rattle.hg_heap.proofs.OpenBlocks.{none_at_home, generation_read}
use Rattle.hg_heap.proofs.PageChanged.{PageChange, kind_same, lists_now, lists_before}
use Rattle.hg_heap.proofs.PageChanged.{lists_other}
use Rattle.hg_heap.proofs.ChargeChanged.{PlaceChange}
use Rattle.hg_heap.proofs.Putting.{IsChangedAt, put_ties}
use Rattle.hg_heap.proofs.Looking.{FitsLaw, stepped, refused_ends, slot_below}

-- the record that a live word fits
open_by : (standing : Standing) (word : ℕ) → Fits standing word → word_life word ≡ 1
    → standing ≡ Open (word_generation word) (word_owner word)
open_by (Home g) word fits alive = absurd (let a = fits.freed refl in omega (arith, a, alive))
open_by (Open g o) word fits alive = ap (λ (n : ℕ). Open n o) (sym fits.generation)
    ∙ ap (Open (word_generation word)) (sym (fits.owner refl))

pub no_class : (class : Option ℕ) (index : ℕ) → IsBlockPlace class index → class ≡ None → ⊥
no_class None index on e = on
no_class (Some n) index on e = absurd (cc)

module _ {S : Type 0} (number : S → ℕ) (records : S → List Standing) (shows : S → ℕ → ℕ → Type 0)
    (steps : S → ℕ → ℕ → ℕ → S → Type 0) where
  module _ (policy : Policy) (items : List (Kept S)) (found : ℕ) (actor : Actor)
      (handle : Handle) where
    abbrev pub reason_by : Option Rule → Bool → Option ℕ → Option Answer
    reason_by o held hand = denial_or o ((not held && is_some hand, answer.Busy) ∷ [])

    abbrev pub DeniedEnds : Rule → List (Kept S) → Type 0
    DeniedEnds rule new = (word : ℕ) × Stepped number shows steps handle.place word word items new
        × HeapTies number records policy (shown_at handle.place word) (shown_at handle.place word)
        (event.Free actor handle) (answer.Denied rule) items new

    abbrev pub FreedEnds : List (Kept S) → Type 0
    FreedEnds new = (word : ℕ) × IsLiveWord word
        × Stepped number shows steps handle.place word (word - 1) items new
        × HeapTies number records policy (shown_at handle.place word)
        (shown_at handle.place (word - 1)) (event.Free actor handle) answer.Done items new

    -- a free that is denied
    pub denied_ends : (word : ℕ) (one after : Kept S)
        → Found number items handle.place.segment found one
        → Looked number records shows steps handle.place word one after → after.words ≡ one.words
        → (rule : Rule) → free_denial policy actor.0 handle word ≡ Some rule
        → DeniedEnds rule (slice_set items found after)
    denied_ends word one after here looked words rule e = (
      word,
      stepped here looked,
      refused_ends here looked
          words policy (event.Free actor handle) (answer.Denied rule) (λ w h g. refl)
          (λ w h g. ap (λ (o : Option Rule). reason_by o
          ((heap_view number records policy w h g items).holds handle.place.segment) h) e),
    )

  -- a place of a segment of the heap that went home
  pub record Frees (items : List (Kept S)) (found word : ℕ) (place : Place)
      (one after : Kept S) : Type 0 where
    pub here : Found number items place.segment found one
    pub was : IsSettled records one
    pub sized : length (records one.slots) ≡ 8192
    pub fits : FitsLaw number records shows steps
    pub closed : Closed number records shows steps place word one after

-- by what stands of the segment in the heap
pub frees_of : {S : Type 0} {number : S → ℕ} {records : S → List Standing}
    {shows : S → ℕ → ℕ → Type 0} {steps : S → ℕ → ℕ → ℕ → S → Type 0} {items : List (Kept S)}
    {found word : ℕ} {place : Place} {one after : Kept S} → Found number items place.segment found
    one
    → ((k : Kept S) → Contains items k → IsSettled records k) → length (records one.slots) ≡ 8192
    → FitsLaw number records shows steps → Closed number records shows steps place word one after
    → Frees number records shows steps items found word place one after
frees_of {items = items} {found = found} {one = one} here settled sized fits closed = record {
  here = here;
  was = settled one (Contains-get items found one here.at);
  sized = sized;
  fits = fits;
  closed = closed;
}

module _ {S : Type 0} {number : S → ℕ} {records : S → List Standing} {shows : S → ℕ → ℕ → Type 0}
    {steps : S → ℕ → ℕ → ℕ → S → Type 0} {items : List (Kept S)} {found word : ℕ} {place : Place}
    {one after : Kept S} (h : Frees number records shows steps items found word place one after)
  where
    -- it was open
    pub was_open : standing_at (records one.slots) (slot_of place) ≡ Open (word_generation word)
        (word_owner word)
    was_open =
        let f = h.fits one.slots (slot_of place) word (slot_below place) h.closed.shown in
        open_by (standing_at (records one.slots) (slot_of place)) word f.1 h.closed.live.1

    -- so its page has a class
    pub has_class : class_at after.classes place.page ≡ None → ⊥
    has_class e = no_class (class_at one.classes place.page) place.index
        (h.was.opened place.page place.index place.page_below place.index_below
        (ap is_home was_open))
        (sym (ap (λ (cs : List (Option ℕ)). class_at cs place.page) h.closed.fixed.classes) ∙ e)

    pub owner_below : word_owner word < 64
    owner_below = let bits = h.closed.live.0.1 in omega (arith, bits)

    pub kind_kept : kind_of number after ≡ kind_of number one
    kind_kept = kind_same number one after h.closed.same_number h.closed.fixed.arena
        h.closed.fixed.greatest

    page_is : slot_of place / 512 ≡ place.page
    page_is = let b = place.index_below in omega arith

    module _ {size : ℕ} (class : class_at after.classes place.page ≡ Some size) where
      pub class_one : class_at one.classes place.page ≡ Some size
      class_one = sym (ap (λ (cs : List (Option ℕ)). class_at cs place.page) h.closed.fixed.classes)
          ∙ class

      abbrev pub page_change : PageChange number items found place.page one after
      page_change = record {
        segment = place.segment;
        here = h.here;
        kind = kind_kept;
        low = place.page_below;
        size = size;
        class = class;
        was = inl class_one;
        classes = λ other ne. ap (λ (cs : List (Option ℕ)). class_at cs other)
            h.closed.fixed.classes;
        lists = λ other ne. ap (λ (ls : List PageLists). lists_at ls other) h.closed.lists
            ∙ get_or-set_other one.lists place.page other _ no_lists ne;
      }

      pub place_change : PlaceChange records items found one after (slot_of place) (8 * size)
          (Home (word_generation word))
      place_change = record {
        there = h.here.at;
        inside = let b = slot_below place in omega (arith, h.sized, b);
        classes = h.closed.fixed.classes;
        standings = h.closed.home;
        class = ap (λ (n : ℕ). block_bytes (class_at one.classes n)) page_is
            ∙ ap block_bytes class_one;
      }

      -- the key of its page
      pub key_was : key_on number items (page_number place) ≡ Some
          (key_of one.arena (number_of_size size))
      key_was =
          let s : segment_of_page (page_number place) ≡ place.segment =
          (let b = place.page_below in omega arith) in
          let p : page_number place % 16 ≡ place.page = (let b = place.page_below in omega arith) in
          ap (λ (n : ℕ). key_by number (segment_in number items n) (page_number place % 16)) s
          ∙ ap (λ (o : Option (Kept S)). key_by number o (page_number place % 16))
          (found_is number items place.segment found one h.here)
          ∙ ap (λ (n : ℕ). option_map (λ size. key_of one.arena (number_of_size size))
          (class_at one.classes n)) p
          ∙ ap (option_map (λ size. key_of one.arena (number_of_size size))) class_one

      pub place_now : has_place (lists_on number (slice_set items found after) (page_number place))
          ≡ has_place (lists_at after.lists place.page)
      place_now = ap has_place (lists_now number items found place.page one after page_change)

      -- its index came home
      pub came_home : (generation : ℕ) → generation ≡ word_generation word
          → CameHome number (generation == greatest_in number items place.segment)
          (page_number place) place.index items (slice_set items found after)
      came_home generation same = record {
        returned =
            let greatest : greatest_in number items place.segment ≡ one.greatest =
            ap (greatest_by number) (found_is number items place.segment found one h.here) in
            let set : lists_at after.lists place.page ≡ returned
            (word_generation word == one.greatest) (lists_at one.lists place.page) place.index =
            ap (λ (ls : List PageLists). lists_at ls place.page) h.closed.lists
            ∙ get_or-set_at one.lists place.page place.page _ no_lists refl
            (let b = place.page_below in omega (arith, h.was.pages, b)) in
            lists_now number items found place.page one after page_change ∙ set
            ∙ ap (λ (b : Bool). returned b (lists_at one.lists place.page) place.index)
            (ap (λ (n : ℕ). n == one.greatest) (sym same)
            ∙ ap (λ (n : ℕ). generation == n) (sym greatest))
            ∙ ap (λ (ls : PageLists). returned
            (generation == greatest_in number items place.segment) ls place.index)
            (sym (lists_before number items found place.page one after page_change));
        others = lists_other number items found place.page one after page_change;
      }

    pub changed : IsChangedAt number records one after (slot_of place)
    changed = record {
      number_kept = h.closed.same_number;
      classes = h.closed.fixed.classes;
      standings = λ other below ne. ap (λ (rs : List Standing). standing_at rs other) h.closed.home
          ∙ get_or-set_other (records one.slots) (slot_of place) other (Home (word_generation word))
          (Home 0) ne;
      blocks = λ page index low small ne away. h.closed.blocks page index low small away;
    }

    pub home_now : standing_at (records after.slots) (slot_of place) ≡ Home (word_generation word)
    home_now = ap (λ (rs : List Standing). standing_at rs (slot_of place)) h.closed.home
        ∙ get_or-set_at (records one.slots) (slot_of place) (slot_of place)
        (Home (word_generation word)) (Home 0) refl
        (let b = slot_below place in omega (arith, h.sized, b))

    pub closed_step : Stepped number shows steps place word (word - 1) items
        (slice_set items found after)
    closed_step = record {
      found = found;
      before = one;
      after = after;
      at = h.here.at;
      now = refl;
      segment = number_is number items place.segment found one h.here;
      kind = kind_kept;
      shown = h.closed.shown;
      stepped = h.closed.step;
    }

module _ {S : Type 0} {number : S → ℕ} {records : S → List Standing} {shows : S → ℕ → ℕ → Type 0}
    {steps : S → ℕ → ℕ → ℕ → S → Type 0} {items : List (Kept S)} {found word : ℕ}
    {one after : Kept S} (policy : Policy) (actor : Actor) (handle : Handle)
    (h : Frees number records shows steps items found word handle.place one after)
    (undenied : free_denial policy actor.0 handle word ≡ None) where
  -- what is freed is of the handle's generation
  pub generation_freed : handle.generation ≡ word_generation word
  generation_freed =
      let f = h.fits one.slots (slot_of handle.place) word
      (slot_below handle.place) h.closed.shown in
      sym (undenied_is_live (view_of policy 0 None 0 []) (slot_in word) actor.0 right.Free handle
      undenied).0
      ∙ generation_read (standing_at (records one.slots) (slot_of handle.place)) word f.0 f.1

  pub done_ends : FreedEnds number records shows steps policy items found actor handle
      (slice_set items found after)
  done_ends = (
    word,
    h.closed.live,
    closed_step h,
    λ w hand g below.
        let view = heap_view number records policy w hand g items in
        let p = number_of handle.place in
        let held = held_found number records items handle.place found one h.here in
        let none : refusal_in view (slot_in word) (event.Free actor handle) ≡ None =
        ap (λ (o : Option Rule). reason_by number records shows steps policy items found actor
        handle o
        (view.holds handle.place.segment) hand) undenied
        ∙ ap (λ (b : Bool). reason_by number records shows steps policy items found actor handle
        None b hand) held in
        let home = home_now h in
        let standing : Home handle.generation ≡ standing_at (records after.slots)
        (slot_of handle.place) = ap Home generation_freed ∙ sym home in
        let block : [] ≡ block_of (holding number records after) (slot_of handle.place) =
        sym (none_at_home number records after handle.place.page handle.place.index
        handle.place.index_below (ap is_home home)) in
        let ties = free_here_is_tied view word actor handle below none held in
        put_ties number records items found handle.place one after h.here
        (changed h) policy w hand g
        (shown_at handle.place word) (shown_at handle.place (word - 1))
        (event.Free actor handle) answer.Done
        (subst (λ (b : List ℕ). Ties view (shown_at handle.place word) (event.Free actor handle)
        answer.Done (put view p (standing_at (records after.slots) (slot_of handle.place)) b)
        (shown_at handle.place (word - 1))) block
        (subst (λ (s : Standing). Ties view (shown_at handle.place word) (event.Free actor handle)
        answer.Done (put view p s []) (shown_at handle.place (word - 1))) standing ties)),
  )
