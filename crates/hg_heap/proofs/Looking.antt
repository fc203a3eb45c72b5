-- A call that looked at a place of a segment, and of a heap that has the segment.
use Rattle.std.proofs.Common.{◌≡◌, ℕ, ◌<◌, ◌≤◌, Bool, true, false, not, cond, nat_lt, ◌∷◌, [], List}
use Rattle.std.proofs.Common.{length, Option, Some, None, refl, sym, ap, subst, ◌∙◌, arith}
use Rattle.std.proofs.Common.{slice_set, max}
use Rattle.std.proofs.lemmas.Bool.{lt-ltb, le-ltb}
use Rattle.hg_place.specs.declared.Actor.{Actor}
use Rattle.hg_place.specs.declared.Place.{Place}
use Rattle.hg_place.specs.declared.Handle.{Handle}
use Rattle.hg_place.specs.declared.Right.{Right}
use Rattle.hg_place.specs.declared.standing.Standing.{Standing}
use Rattle.hg_place.specs.Places.{number_of}
use Rattle.hg_place.specs.Slots.{slot_in}
use Rattle.hg_place.specs.Lives.{IsSlotWord, word_generation}
use Rattle.hg_place.specs.Standings.{slot_of, standing_at, is_home, Fits}
use Rattle.hg_machine.specs.declared.Rule.{Rule}
use Rattle.hg_machine.specs.declared.Event.{Event}
use Rattle.hg_machine.specs.declared.Answer.{Answer}
use Rattle.hg_machine.specs.Policy.{Policy}
use Rattle.hg_machine.specs.Denial.{denial_on}
use Rattle.hg_machine.specs.Refusal.{denial_or}
use Rattle.hg_segment.specs.Kept.{Kept}
use Rattle.hg_segment.specs.Blocks.{block_at}
use Rattle.hg_agreement.specs.Agreement.{Ties}
use Rattle.hg_agreement.specs.Seen.{refusal_in, reach_in, IsShownFor}
use Rattle.hg_agreement.specs.Holdings.{Holding, block_of, view_of}
use Rattle.hg_agreement.proofs.Sees.{undenied_is_live}
use Rattle.hg_agreement.proofs.Frames.{refused_is_tied}
use Rattle.hg_heap.specs.Held.{kind_of, KeepsLists}
use Rattle.hg_heap.specs.Settled.{IsSettled}
use Rattle.hg_heap.specs.Right.{IsRight}
use Rattle.hg_heap.specs.Ties.{holding, heap_view, HeapTies, Stepped, shown_at}
use Rattle.hg_heap.specs.Answers.{list_denial}
use Rattle.hg_heap.specs.Stays.{Looked}
use Rattle.hg_heap.specs.Reading.{use_denial}
use Rattle.hg_heap.proofs.Founds.{Found, number_is}
use Rattle.hg_heap.proofs.FoundHoldings.{block_found, held_found, kept_same}
use Rattle.hg_heap.proofs.RightKept.{lists_kept as pages_kept, right_kept}
use Rattle.hg_heap.proofs.OpenBlocks.{block_is, live_open, generation_read}
use Rattle.hg_place.specs.declared.Right.TheVariants as right
use Rattle.hg_machine.specs.declared.Answer.TheVariants as answer

-- why a row isn't shown is why the generation that the word shows may not be listed
pub listed_as : (policy : Policy) (actor : Actor) (place : Place) (word generation : ℕ)
    → generation ≡ max 1 (slot_in word).generation
    → list_denial policy actor place word
    ≡ denial_on policy actor.0 right.List place.segment generation (slot_in word)
listed_as policy actor place word generation shown =
    ap (λ (n : ℕ). denial_on policy actor.0 right.List place.segment n (slot_in word)) (sym shown)

abbrev pub held_as : ℕ → List Standing → List (Option ℕ) → List ℕ → Holding
held_as n rs cs ws = record { number = n; standings = rs; classes = cs; words = ws }

pub slot_below : (place : Place) → slot_of place < 8192
slot_below place = let a = place.page_below in let b = place.index_below in omega arith

module _ {S : Type 0} (number : S → ℕ) (records : S → List Standing) (shows : S → ℕ → ℕ → Type 0)
    (steps : S → ℕ → ℕ → ℕ → S → Type 0) where
  -- a look at a place, by what the segment tells
  pub looked_of : (place : Place) (word : ℕ) (one after : Kept S)
      → shows one.slots (slot_of place) word → steps one.slots (slot_of place) word word after.slots
      → number after.slots ≡ number one.slots → records after.slots ≡ records one.slots
      → after ≡ record one { slots = after.slots }
      → Looked number records shows steps place word one after
  looked_of place word one after shown step same_number same_records others = record {
    shown = shown;
    step = step;
    same_number = same_number;
    same_records = same_records;
    rest = others ∙ ap (λ (ws : List ℕ). record {
      arena = one.arena;
      greatest = one.greatest;
      slots = after.slots;
      words = ws;
      classes =
          one.classes;
      lists = one.lists;
    }) (sym (ap (λ (k : Kept S). k.words) others));
  }

  -- and a write after it
  pub wrote_of : (place : Place) (word : ℕ) (one after last : Kept S)
      → Looked number records shows steps place word one after
      → last ≡ record after { words = last.words }
      → Looked number records shows steps place word one last
  wrote_of place word one after last looked rest =
      let same : last.slots ≡ after.slots = ap (λ (k : Kept S). k.slots) rest in
      record {
        shown = looked.shown;
        step = subst (λ (s : S). steps one.slots (slot_of place) word word s)
            (sym same) looked.step;
        same_number = ap number same ∙ looked.same_number;
        same_records = ap records same ∙ looked.same_records;
        rest = rest ∙ ap (λ (k : Kept S). record {
          arena = k.arena;
          greatest = k.greatest;
          slots = k.slots;
          words = last.words;
          classes =
              k.classes;
          lists = k.lists;
        }) looked.rest
            ∙ ap (λ (s : S). record {
              arena = one.arena;
              greatest = one.greatest;
              slots = s;
              words =
                  last.words;
              classes = one.classes;
              lists = one.lists;
            }) (sym same);
      }

  -- the word fits the record
  abbrev pub FitsLaw : Type 0
  FitsLaw = (s : S) (at word : ℕ) → at < 8192 → shows s at word → IsSlotWord word
      × Fits (standing_at (records s) at) word

module _ {S : Type 0} {number : S → ℕ} {records : S → List Standing} {shows : S → ℕ → ℕ → Type 0}
    {steps : S → ℕ → ℕ → ℕ → S → Type 0} where
  -- what no rule denies is open
  module _ {word : ℕ} {one after : Kept S} (fits : FitsLaw number records shows steps)
      (policy : Policy) (actor : ℕ) (which : Right) (handle : Handle)
      (looked : Looked number records shows steps handle.place word one after)
      (none : use_denial policy actor which handle word ≡ None) where
    pub open_one : is_home (standing_at (records one.slots) (slot_of handle.place)) ≡ false
    open_one =
        let l = undenied_is_live (view_of policy 0 None 0 [])
        (slot_in word) actor which handle none in
        let f = fits one.slots (slot_of handle.place) word (slot_below handle.place) looked.shown in
        live_open (standing_at (records one.slots) (slot_of handle.place)) word f.0 f.1 l.1

    pub open_after : is_home (standing_at (records after.slots) (slot_of handle.place)) ≡ false
    open_after = ap (λ (rs : List Standing). is_home (standing_at rs (slot_of handle.place)))
        looked.same_records ∙ open_one

    -- the block of the view is the block of the segment
    pub block_here : block_of (holding number records one)
        (slot_of handle.place) ≡ block_at one.words one.classes handle.place.page handle.place.index
    block_here = block_is number records one handle.place.page handle.place.index
        handle.place.index_below open_one

  -- what a word says that no rule denies
  pub generation_shown : {word : ℕ} {one after : Kept S} (fits : FitsLaw number records shows steps)
      (policy : Policy) (actor : ℕ) (which : Right) (handle : Handle)
      → Looked number records shows steps handle.place word one after
      → use_denial policy actor which handle word ≡ None → handle.generation ≡ word_generation word
  generation_shown {word} {one} {after} fits policy actor which handle looked none =
      let l = undenied_is_live (view_of policy 0 None 0 [])
      (slot_in word) actor which handle none in
      let f = fits one.slots (slot_of handle.place) word (slot_below handle.place) looked.shown in
      sym l.0 ∙ generation_read (standing_at (records one.slots) (slot_of handle.place)) word f.0
      f.1

  module _ {items : List (Kept S)} {found word : ℕ} {place : Place} {one after : Kept S}
      (here : Found number items place.segment found one)
      (looked : Looked number records shows steps place word one after) where
    pub kind_kept : kind_of number after ≡ kind_of number one
    kind_kept = ap (kind_of number) looked.rest
        ∙ ap (λ (n : ℕ). record { number = n; arena = one.arena; greatest = one.greatest })
        looked.same_number

    pub classes_kept : after.classes ≡ one.classes
    classes_kept = ap (λ (k : Kept S). k.classes) looked.rest

    pub lists_kept : after.lists ≡ one.lists
    lists_kept = ap (λ (k : Kept S). k.lists) looked.rest

    pub stepped : Stepped number shows steps place word word items (slice_set items found after)
    stepped = record {
      found = found;
      before = one;
      after = after;
      at = here.at;
      now = refl;
      segment = number_is number items place.segment found one here;
      kind = kind_kept;
      shown = looked.shown;
      stepped = looked.step;
    }

    -- the lists of each page stay, and the heap is right
    pub heap_lists : KeepsLists number items (slice_set items found after)
    heap_lists = pages_kept number items found one after here.at kind_kept classes_kept lists_kept

    pub heap_right : (table : List (Option ℕ)) (charges : List ℕ) (capacity : ℕ)
        (queues : List (List ℕ))
        → IsRight number records table charges capacity
        (record { segments = items; queues = queues }) → IsSettled records after
        → IsRight number records table charges capacity
        (record { segments = slice_set items found after; queues = queues })
    heap_right = right_kept number items found one after here.at kind_kept classes_kept lists_kept
        records looked.same_records

    module _ (words : after.words ≡ one.words) where
      pub holding_kept : holding number records after ≡ holding number records one
      holding_kept =
          ap (holding number records) looked.rest
          ∙ ap (λ (n : ℕ). held_as n (records after.slots) one.classes after.words)
          looked.same_number
          ∙ ap (λ (rs : List Standing). held_as (number one.slots) rs one.classes after.words)
          looked.same_records
          ∙ ap (λ (ws : List ℕ). held_as (number one.slots) (records one.slots) one.classes ws)
          words

      -- the block of the place is as it was
      pub block_after : block_at after.words after.classes place.page place.index ≡ block_at
          one.words one.classes place.page place.index
      block_after = ap (λ (k : Kept S). block_at after.words k.classes place.page place.index)
          looked.rest
          ∙ ap (λ (ws : List ℕ). block_at ws one.classes place.page place.index) words

      -- what is tied with the heap before is tied with the heap after the look
      pub ends : (policy : Policy) (e : Event) (a : Answer)
          → ((worker : ℕ) (hand : Option ℕ) (generation : ℕ) → worker < policy.workers
          → Ties (heap_view number records policy worker hand generation items)
          (shown_at place word) e a (heap_view number records policy worker hand generation
          items) (shown_at place word))
          → HeapTies number records policy (shown_at place word) (shown_at place word) e a items
          (slice_set items found after)
      ends policy e a ties worker hand generation below =
          subst (λ (hs : List Holding). Ties
          (heap_view number records policy worker hand generation items)
          (shown_at place word) e a (view_of policy worker hand generation hs)
          (shown_at place word))
          (kept_same number records items place found one here after holding_kept)
          (ties worker hand generation below)

      -- a refusal
      pub refused_ends : (policy : Policy) (e : Event) (a : Answer)
          → ((worker : ℕ) (hand : Option ℕ) (generation : ℕ)
          → IsShownFor (heap_view number records policy worker hand generation items) e
          (shown_at place word))
          → ((worker : ℕ) (hand : Option ℕ) (generation : ℕ)
          → refusal_in (heap_view number records policy worker hand generation items)
          (slot_in word) e ≡ Some a)
          → HeapTies number records policy (shown_at place word) (shown_at place word) e a items
          (slice_set items found after)
      refused_ends policy e a at is = ends policy e a (λ worker hand generation below.
          refused_is_tied (heap_view number records policy worker hand generation items)
          (shown_at place word) e a below (at worker hand generation)
          (is worker hand generation))

  module _ {items : List (Kept S)} {found word : ℕ} {one after : Kept S}
      (fits : FitsLaw number records shows steps) (policy : Policy) (actor : ℕ) (which : Right)
      (handle : Handle) (here : Found number items handle.place.segment found one)
      (looked : Looked number records shows steps handle.place word one after) (index : ℕ) where
    abbrev reach_by : Option Rule → Bool → List ℕ → Option Answer
    reach_by o held block = denial_or o
        ((not held, answer.Elsewhere) ∷ (not (nat_lt index (length block)), answer.OutOfBlock) ∷ [])

    abbrev reach : ℕ → Option ℕ → ℕ → Option Answer
    reach worker hand generation = reach_in
        (heap_view number records policy worker hand generation items)
        (slot_in word) actor which handle index

    reason : (worker : ℕ) (hand : Option ℕ) (generation : ℕ)
        → reach worker hand generation ≡ reach_by (use_denial policy actor which handle word) true
        (block_of (holding number records one) (slot_of handle.place))
    reason worker hand generation =
        ap (λ (b : Bool). reach_by (use_denial policy actor which handle word) b
        ((heap_view number records policy worker hand generation items).block
        (number_of handle.place))) (held_found number records items handle.place found one here)
        ∙ ap (reach_by (use_denial policy actor which handle word) true)
        (block_found number records items handle.place found one here)

    pub denied_reach : (rule : Rule) → use_denial policy actor which handle word ≡ Some rule
        → (worker : ℕ) (hand : Option ℕ) (generation : ℕ)
        → reach worker hand generation ≡ Some (answer.Denied rule)
    denied_reach rule e worker hand generation = reason worker hand generation
        ∙ ap (λ (o : Option Rule). reach_by o true
        (block_of (holding number records one) (slot_of handle.place))) e

    allowed_reach : use_denial policy actor which handle word ≡ None → (b : Bool)
        → nat_lt index (length (block_at one.words one.classes handle.place.page
        handle.place.index)) ≡ b → (worker : ℕ) (hand : Option ℕ) (generation : ℕ)
        → reach worker hand generation ≡ cond (not b) (Some answer.OutOfBlock) None
    allowed_reach none b is worker hand generation =
        reason worker hand generation
        ∙ ap (λ (o : Option Rule). reach_by o true
        (block_of (holding number records one) (slot_of handle.place))) none
        ∙ ap (reach_by None true) (block_here fits policy actor which handle looked
        none)
        ∙ ap (λ (x : Bool). cond (not x) (Some answer.OutOfBlock) None) is

    pub outside_reach : use_denial policy actor which handle word ≡ None
        → length (block_at one.words one.classes handle.place.page handle.place.index) ≤ index
        → (worker : ℕ) (hand : Option ℕ) (generation : ℕ)
        → reach worker hand generation ≡ Some answer.OutOfBlock
    outside_reach none out = allowed_reach none false (le-ltb index _ out)

    pub inside_reach : use_denial policy actor which handle word ≡ None
        → index < length (block_at one.words one.classes handle.place.page handle.place.index)
        → (worker : ℕ) (hand : Option ℕ) (generation : ℕ) → reach worker hand generation ≡ None
    inside_reach none in_it = allowed_reach none true (lt-ltb index _ in_it)
