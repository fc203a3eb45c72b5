-- A page without a class gets one.
use Rattle.std.proofs.Common.{◌≡◌, ◌≢◌, ◌⊎◌, ℕ, ◌+◌, ◌*◌, ◌/◌, ◌%◌, ◌==◌, ◌<◌, ◌++◌, inl, inr}
use Rattle.std.proofs.Common.{Bool, true, false, cond}
use Rattle.std.proofs.Common.{◌∷◌, [], List, length, Option, Some, None, refl, sym, ap, subst}
use Rattle.std.proofs.Common.{◌∙◌, arith, slice_set}
use Rattle.std.proofs.Common.{get_or-set_other, get_or-set_same}
use Rattle.std.specs.Prelude.{Contains}
use Rattle.std.proofs.lemmas.Bool.{cases_Bool, cases_eq, eqb-true, true≢false}
use Rattle.hg_place.specs.declared.geometry.TheConstants.{SEGMENT_PAGES, MAX_SEGMENTS}
use Rattle.hg_place.specs.declared.standing.Standing.{Standing}
use Rattle.hg_place.specs.Places.{segment_of_page}
use Rattle.hg_place.specs.Standings.{standing_at, is_home}
use Rattle.hg_size.specs.Sizes.{number_of_size, places_of}
use Rattle.hg_size.specs.SizeLaws.{key_of}
use Rattle.hg_size.specs.Runs.{may_begin}
use Rattle.hg_size.proofs.Covers.{begins}
use Rattle.hg_page.specs.PageLists.{PageLists, fresh}
use Rattle.hg_queue.specs.declared.page_queues.TheConstants.{PAGES, ARENAS}
use Rattle.hg_queue.specs.Queues.{queue_of}
use Rattle.hg_segment.specs.Kept.{Kept, no_lists, lists_at}
use Rattle.hg_segment.specs.Kept.{class_at as class_in}
use Rattle.hg_segment.specs.Blocks.{KeepsBlocks}
use Rattle.hg_segment.specs.Charges.{charge_of}
use Rattle.hg_segment.specs.Right.{vacant_in, IsBlockPlace}
use Rattle.hg_segment.proofs.Charged.{charge_kept}
use Rattle.hg_heap.specs.Held.{kind_of, lists_on, class_on, has_place}
use Rattle.hg_heap.specs.Held.{is_some_place, KeepsOtherLists}
use Rattle.hg_heap.specs.Choice.{blank_of, blank_by, blank_on}
use Rattle.hg_heap.specs.Requeued.{requeued}
use Rattle.hg_heap.specs.Queues.{AreQueued}
use Rattle.hg_heap.specs.Begun.{Begun}
use Rattle.hg_heap.specs.Charges.{charge_in}
use Rattle.hg_heap.specs.Settled.{IsSettled}
use Rattle.hg_heap.specs.Right.{IsRight}
use Rattle.hg_heap.proofs.Founds.{Contains-get, Found, found_is, number_is}
use Rattle.hg_heap.proofs.PageChanged.{PageChange, its_own, lists_now, lists_other, class_now}
use Rattle.hg_heap.proofs.Requeuing.{requeues}
use Rattle.hg_heap.proofs.RightChanged.{right_changed}
use Rattle.hg_size.proofs.Table.{number_below}
use Rattle.hg_heap.proofs.ChargeChanged.{charge_same}

some_behind : (xs : List ℕ) → is_some_place xs ≡ true → is_some_place (xs ++ []) ≡ true
some_behind [] e = e
some_behind (x ∷ xs) e = refl

-- a page by its segment and its number there
pub split_page : (page : ℕ) → segment_of_page page * SEGMENT_PAGES + page % SEGMENT_PAGES ≡ page
split_page page = omega arith

module _ {S : Type 0} (number : S → ℕ) (records : S → List Standing) where
  -- what a page is where a block of this size may be begun
  record IsBlank (arena size page : ℕ) (k : Kept S) (may : Bool) : Type 0 where
    pub class : may ≡ true
    pub of : k.arena ≡ arena
    pub places : blank_of number records arena size page k may
        ≡ vacant_in k.greatest (records k.slots) page (places_of size)

  blank_is : (arena size page : ℕ) (k : Kept S) (may : Bool)
      → is_some_place (blank_of number records arena size page k may) ≡ true
      → IsBlank arena size page k may
  blank_is arena size page k false some = absurd (true≢false (sym some))
  blank_is arena size page k true some = elim (cases_Bool (k.arena == arena)) [
    | inl t ↦ record {
      class = refl;
      of = eqb-true k.arena arena t;
      places =
          ap (λ (b : Bool). cond b (vacant_in k.greatest (records k.slots) page (places_of size))
          []) t;
    }
    | inr f ↦ absurd (true≢false
        (sym some ∙ ap (λ (b : Bool). is_some_place
        (cond b (vacant_in k.greatest (records k.slots) page (places_of size)) [])) f))
  ]

  module _ (items : List (Kept S)) (found arena size page : ℕ) (one : Kept S)
      (here : Found number items (segment_of_page page) found one)
      (blank : is_some_place (blank_on number records items arena size page) ≡ true) where
    told : blank_on number records items arena size page
        ≡ blank_of number records arena size (page % SEGMENT_PAGES) one
        (may_begin (class_in one.classes) size (page % SEGMENT_PAGES))
    told = ap (λ (o : Option (Kept S)). blank_by number records arena size o
        (page % SEGMENT_PAGES)) (found_is number items (segment_of_page page) found one here)

    was_blank : IsBlank arena size (page % SEGMENT_PAGES) one
        (may_begin (class_in one.classes) size (page % SEGMENT_PAGES))
    was_blank = blank_is arena size (page % SEGMENT_PAGES) one
        (may_begin (class_in one.classes) size (page % SEGMENT_PAGES))
        (sym (ap is_some_place told) ∙ blank)

    -- a page that a block may be begun in may get the class
    pub begun_there : may_begin (class_in one.classes) size (page % SEGMENT_PAGES) ≡ true
    begun_there = was_blank.class

  -- the page of a segment that is found had no class and a place for a block, and has the class now
  pub record Begins (items : List (Kept S)) (found arena size page : ℕ)
      (one after : Kept S) : Type 0 where
    pub here : Found number items (segment_of_page page) found one
    pub settled : (k : Kept S) → Contains items k → IsSettled records k
    pub blank : is_some_place (blank_on number records items arena size page) ≡ true
    pub assigned : after ≡ record one {
      words = after.words;
      classes = slice_set one.classes (page % SEGMENT_PAGES) (Some size);
      lists = slice_set one.lists (page % SEGMENT_PAGES)
          (fresh (vacant_in one.greatest (records one.slots) (page % SEGMENT_PAGES)
          (places_of size)));
    }

  module _ {items : List (Kept S)} {found arena size page : ℕ} {one after : Kept S}
      (b : Begins items found arena size page one after) where
    abbrev at : ℕ
    at = page % SEGMENT_PAGES

    abbrev places : List ℕ
    places = vacant_in one.greatest (records one.slots) at (places_of size)

    settled_before : IsSettled records one
    settled_before = b.settled one (Contains-get items found one b.here.at)

    was : IsBlank arena size at one (may_begin (class_in one.classes) size at)
    was = was_blank items found arena size page one b.here b.blank

    unclassed : class_in one.classes at ≡ None
    unclassed = (begins (class_in one.classes) size at was.class).none at (omega arith)
        (omega arith)

    places_are : blank_on number records items arena size page ≡ places
    places_are = told items found arena size page one b.here b.blank ∙ was.places

    low : at < SEGMENT_PAGES
    low = omega arith

    classes_are : after.classes ≡ slice_set one.classes at (Some size)
    classes_are = ap (λ (k : Kept S). k.classes) b.assigned

    lists_are : after.lists ≡ slice_set one.lists at (fresh places)
    lists_are = ap (λ (k : Kept S). k.lists) b.assigned

    lists_at_is : lists_at after.lists at ≡ fresh places
    lists_at_is = ap (λ (ls : List PageLists). lists_at ls at) lists_are
        ∙ get_or-set_same one.lists at (fresh places) no_lists
        (omega (arith, settled_before.pages))

    class_other : (other : ℕ) → other ≢ at
        → class_in after.classes other ≡ class_in one.classes other
    class_other other ne = ap (λ (cs : List (Option ℕ)). class_in cs other) classes_are
        ∙ get_or-set_other one.classes at other (Some size) None ne

    abbrev page_change : PageChange number items found at one after
    page_change = record {
      segment = segment_of_page page;
      here = b.here;
      kind = ap (kind_of number) b.assigned;
      low = low;
      size = size;
      class = ap (λ (cs : List (Option ℕ)). class_in cs at) classes_are
          ∙ get_or-set_same one.classes at (Some size) None
          (omega (arith, settled_before.classes));
      was = inr unclassed;
      classes = class_other;
      lists = λ other ne. ap (λ (ls : List PageLists). lists_at ls other) lists_are
          ∙ get_or-set_other one.lists at other (fresh places) no_lists ne;
    }

    key_is : key_of one.arena (number_of_size size) ≡ key_of arena (number_of_size size)
    key_is = ap (λ (a : ℕ). key_of a (number_of_size size)) was.of

    -- it has a place
    place_now : has_place (lists_at after.lists at) ≡ true
    place_now = ap has_place lists_at_is
        ∙ some_behind places (sym (ap is_some_place places_are) ∙ b.blank)

    pub begun : KeepsBlocks (records one.slots) one.classes one.words after.words
        → Begun number records size page items (slice_set items found after)
    begun blocks = record {
      found = found;
      before = one;
      after = after;
      at = b.here.at;
      now = refl;
      segment = number_is number items (segment_of_page page) found one b.here;
      changed = b.assigned;
      blocks = blocks;
    }

    abbrev new : List (Kept S)
    new = slice_set items found after

    pub class_begun : class_on number new page ≡ Some size
    class_begun = subst (λ (n : ℕ). class_on number new n ≡ Some size) (split_page page)
        (class_now number items found at one after page_change)

    pub lists_begun : lists_on number new page
        ≡ fresh (blank_on number records items arena size page)
    lists_begun = subst (λ (n : ℕ). lists_on number new n
        ≡ fresh (blank_on number records items arena size page)) (split_page page)
        (lists_now number items found at one after page_change ∙ lists_at_is
        ∙ ap fresh (sym places_are))

    pub others_begun : KeepsOtherLists number page items new
    others_begun = subst (λ (n : ℕ). KeepsOtherLists number n items new) (split_page page)
        (lists_other number items found at one after page_change)

    -- the places of the page are home, so no charge changes
    home_there : (other : ℕ) → other < length (records one.slots)
        → (is_home (standing_at (records one.slots) other) ≡ true)
        ⊎ (class_in after.classes (other / 512) ≡ class_in one.classes (other / 512))
    home_there other inside = elim (cases_eq (other / 512) at) [
      | inl e ↦ (let is : at * 512 + other % 512 ≡ other = omega (arith, e) in
          elim (cases_Bool (is_home (standing_at (records one.slots) other))) [
            | inl t ↦ inl t
            | inr f ↦ absurd (subst (λ (c : Option ℕ). IsBlockPlace c (other % 512)) unclassed
                (settled_before.opened at (other % 512) low (omega arith)
                (ap (λ (n : ℕ). is_home (standing_at (records one.slots) n)) is ∙ f)))
          ])
      | inr ne ↦ inr (class_other (other / 512) ne)
    ]

    charge_begun : (tenant : ℕ) → charge_in records new tenant ≡ charge_in records items tenant
    charge_begun tenant = charge_same records items found one after tenant b.here.at
        (ap (λ (k : Kept S). charge_of (records k.slots) after.classes tenant) b.assigned
        ∙ charge_kept (records one.slots) one.classes after.classes tenant home_there)

    module _ (queues : List (List ℕ)) where
      -- it stood in no queue but its own
      pub own_begun : AreQueued number (record { segments = items; queues = queues })
          → (k : ℕ) → Contains (queue_of queues k) page → k ≡ key_of arena (number_of_size size)
      own_begun queued k on = its_own number items found at one after page_change queues queued k
          (subst (Contains (queue_of queues k)) (sym (split_page page)) on) ∙ key_is

      requeued_is : (now : List (List ℕ))
          → now ≡ requeued (key_of arena (number_of_size size)) page true queues
          → now ≡ requeued (key_of one.arena (number_of_size size))
          (segment_of_page page * SEGMENT_PAGES + at)
          (has_place (lists_at after.lists at)) queues
      requeued_is now e = e
          ∙ ap (λ (n : ℕ). requeued n page true queues) (sym key_is)
          ∙ ap (λ (n : ℕ). requeued (key_of one.arena (number_of_size size)) n true queues)
          (sym (split_page page))
          ∙ ap (λ (has : Bool). requeued (key_of one.arena (number_of_size size))
          (segment_of_page page * SEGMENT_PAGES + at) has queues) (sym place_now)

      module _ (numbered : (s : S) → number s < MAX_SEGMENTS) {table : List (Option ℕ)}
          {charges : List ℕ} {capacity : ℕ}
          (r : IsRight number records table charges capacity
          (record { segments = items; queues = queues })) where
        pub arena_begun : arena < ARENAS
        arena_begun = subst (λ (a : ℕ). a < ARENAS) was.of
            (r.arenas one (Contains-get items found one b.here.at))

        pub right_begun : IsSettled records after → (now : List (List ℕ))
            → now ≡ requeued (key_of arena (number_of_size size)) page true queues
            → IsRight number records table charges capacity
            (record { segments = new; queues = now })
        right_begun settled now e =
            right_changed number records items found at one after page_change settled numbered
            table charges charges capacity queues now r (requeued_is now e)
            r.counted (λ tenant below. r.charged tenant below ∙ sym (charge_begun tenant))

        -- it stands in its queue now
        pub queued_begun : IsSettled records after → page < PAGES → (now : List (List ℕ))
            → now ≡ requeued (key_of arena (number_of_size size)) page true queues
            → Contains (queue_of now (key_of arena (number_of_size size))) page
        queued_begun settled below now e =
            let key = key_of arena (number_of_size size) in
            let number = number_below size (settled.sizes at size page_change.class) in
            let low = arena_begun in
            let inside : key < length queues = omega (arith, number, low, r.queued.queues.all) in
            subst (λ (qs : List (List ℕ)). Contains (queue_of qs key) page) (sym e)
            ((requeues queues key page r.queued.queues inside below
            (own_begun r.queued) true).there refl)
