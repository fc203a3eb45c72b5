-- One page of one segment has lost its class.
use Rattle.std.proofs.Common.{◌≡◌, ◌≢◌, ⊎_elim, ℕ, ◌+◌, ◌*◌, ◌%◌, ◌<◌, inl, inr, [], List, length}
use Rattle.std.proofs.Common.{Option, Some, None, refl, sym, ap, subst, ◌∙◌, arith, slice_set, map}
use Rattle.std.proofs.Common.{get_or-set_other, get_or-set_same}
use Rattle.std.specs.Prelude.{option_map, Contains}
use Rattle.std.proofs.lemmas.Bool.{cases_eq, true≢false}
use Rattle.std.proofs.lemmas.List.{length-map}
use Rattle.hg_place.specs.declared.geometry.TheConstants.{SEGMENT_PAGES}
use Rattle.hg_place.specs.Places.{segment_of_page}
use Rattle.hg_lists.specs.Lists.{without}
use Rattle.hg_lists.proofs.Listed.{list_of-without, contained_without, Contains-without}
use Rattle.hg_lists.proofs.Without.{Apart-without}
use Rattle.hg_lists.specs.Repeats.{HasNoRepeats}
use Rattle.hg_size.specs.Sizes.{number_of_size}
use Rattle.hg_size.specs.SizeLaws.{key_of}
use Rattle.hg_page.specs.PageLists.{PageLists, freed}
use Rattle.hg_queue.specs.Queues.{queue_of}
use Rattle.hg_segment.specs.Kept.{Kept, lists_at, no_lists}
use Rattle.hg_segment.specs.Kept.{class_at as class_in}
use Rattle.hg_heap.specs.Held.{segment_in, lists_by, lists_on, has_place, class_by, class_on}
use Rattle.hg_heap.specs.Queues.{key_by, key_on, AreQueued}
use Rattle.hg_place.specs.declared.standing.Standing.{Standing}
use Rattle.hg_segment.specs.Retires.{IsIdlePage}
use Rattle.hg_segment.specs.Charges.{charge_of}
use Rattle.hg_segment.proofs.Retirings.{charge_same as page_charge}
use Rattle.hg_heap.specs.Settled.{IsSettled}
use Rattle.hg_heap.specs.Right.{IsRight}
use Rattle.hg_heap.proofs.ChargeChanged.{charge_same as heap_charge}
use Rattle.hg_heap.specs.Idle.{bare}
use Rattle.hg_heap.specs.Retiring.{RetiredOn}
use Rattle.hg_heap.proofs.Founds.{Found, found_is, found_after, number_is, tabled_same}
use Rattle.hg_heap.proofs.Founds.{contained_set, Contains-get, map_same}
use Rattle.hg_heap.proofs.PageChanged.{other_found}

module _ {S : Type 0} (number : S → ℕ) where
  -- one page of a segment that is held has no class now, and nothing on its lists
  pub record PageRetired (old : List (Kept S)) (found page : ℕ) (one after : Kept S) : Type 0 where
    pub segment : ℕ
    pub here : Found number old segment found one
    pub low : page < SEGMENT_PAGES
    pub pages : length one.lists ≡ SEGMENT_PAGES
    pub paged : length one.classes ≡ SEGMENT_PAGES
    pub changed : after ≡ record one {
      classes = slice_set one.classes page None;
      lists = slice_set one.lists page (freed (lists_at one.lists page) []);
    }

  module _ (old : List (Kept S)) (found page : ℕ) (one after : Kept S)
      (h : PageRetired old found page one after) where
    abbrev new : List (Kept S)
    new = slice_set old found after

    -- the page over all segments
    abbrev here : ℕ
    here = h.segment * SEGMENT_PAGES + page

    number_kept : number after.slots ≡ number one.slots
    number_kept = ap (λ (k : Kept S). number k.slots) h.changed

    segment_is : number one.slots ≡ h.segment
    segment_is = number_is number old h.segment found one h.here

    in_segment : segment_of_page here ≡ h.segment
    in_segment = let l = h.low in omega arith

    in_page : here % SEGMENT_PAGES ≡ page
    in_page = let l = h.low in omega arith

    module _ {X : Type 0} (told : Option (Kept S) → ℕ → X) where
      abbrev told_on : List (Kept S) → ℕ → X
      told_on heap at = told (segment_in number heap (segment_of_page at)) (at % SEGMENT_PAGES)

      told_there : (heap : List (Kept S)) (k : Kept S) → Found number heap h.segment found k
          → told_on heap here ≡ told (Some k) page
      told_there heap k f =
          ap (λ (s : ℕ). told (segment_in number heap s) (here % SEGMENT_PAGES)) in_segment
          ∙ ap (λ (o : Option (Kept S)). told o (here % SEGMENT_PAGES))
          (found_is number heap h.segment found k f)
          ∙ ap (told (Some k)) in_page

      told_now : told_on new here ≡ told (Some after) page
      told_now = told_there new after (found_after number old h.segment found one after h.here
          number_kept)

      told_before : told_on old here ≡ told (Some one) page
      told_before = told_there old one h.here

      told_other : ((q : ℕ) → q ≢ page → told (Some after) q ≡ told (Some one) q) → (at : ℕ)
          → at ≢ here → told_on new at ≡ told_on old at
      told_other same at ne = elim (cases_eq (segment_of_page at) h.segment) [
        | inl e ↦ (
            let away : at % SEGMENT_PAGES ≢ page = λ s. ne (let l = h.low in omega (arith, e, s)) in
            let is : (heap : List (Kept S)) (k : Kept S) → Found number heap h.segment found k
            → told_on heap at ≡ told (Some k) (at % SEGMENT_PAGES) =
            λ heap k f. ap (λ (s : ℕ). told (segment_in number heap s) (at % SEGMENT_PAGES)) e
            ∙ ap (λ (o : Option (Kept S)). told o (at % SEGMENT_PAGES))
            (found_is number heap h.segment found k f) in
            is new after (found_after number old h.segment found one after h.here number_kept)
            ∙ same (at % SEGMENT_PAGES) away ∙ sym (is old one h.here))
        | inr ne ↦ ap (λ (o : Option (Kept S)). told o (at % SEGMENT_PAGES))
            (other_found number old found (segment_of_page at) one after h.here.at number_kept
            (λ s. ne (s ∙ segment_is)))
      ]

    class_in_other : (q : ℕ) → q ≢ page → class_in after.classes q ≡ class_in one.classes q
    class_in_other q ne = ap (λ (k : Kept S). class_in k.classes q) h.changed
        ∙ get_or-set_other one.classes page q None None ne

    lists_in_other : (q : ℕ) → q ≢ page → lists_at after.lists q ≡ lists_at one.lists q
    lists_in_other q ne =
        ap (λ (k : Kept S). lists_at k.lists q) h.changed
        ∙ get_or-set_other one.lists page q (freed (lists_at one.lists page) []) no_lists ne

    pub lists_now : lists_on number new here ≡ freed (lists_on number old here) []
    lists_now =
        told_now (lists_by number)
        ∙ ap (λ (k : Kept S). lists_at k.lists page) h.changed
        ∙ get_or-set_same one.lists page (freed (lists_at one.lists page) []) no_lists
        (let l = h.low in let a = h.pages in omega (arith, l, a))
        ∙ ap (λ (l : PageLists). freed l []) (sym (told_before (lists_by number)))

    pub lists_other : (at : ℕ) → at ≢ here → lists_on number new at ≡ lists_on number old at
    lists_other = told_other (lists_by number) lists_in_other

    pub class_now : class_on number new here ≡ None
    class_now =
        told_now (class_by number)
        ∙ ap (λ (k : Kept S). class_in k.classes page) h.changed
        ∙ get_or-set_same one.classes page None None (let l = h.low in let a = h.paged in omega
        (arith, l, a))

    pub class_other : (at : ℕ) → at ≢ here → class_on number new at ≡ class_on number old at
    class_other = told_other (class_by number) class_in_other

    key_other : (at : ℕ) → at ≢ here → key_on number new at ≡ key_on number old at
    key_other = told_other (key_by number) (λ q ne.
        ap (λ (a : ℕ). option_map (λ size. key_of a (number_of_size size))
        (class_in after.classes q)) (ap (λ (k : Kept S). k.arena) h.changed)
        ∙ ap (option_map (λ size. key_of one.arena (number_of_size size))) (class_in_other q ne))

    -- it has lost its class, and stands in no queue
    pub retired_on : (queues : List (List ℕ))
        → RetiredOn number here (record { segments = old; queues = queues })
        (record { segments = new; queues = map (without here) queues })
    retired_on queues = record {
      class = class_now;
      classes = class_other;
      lists = lists_now;
      others = lists_other;
      rest = map_same bare old found one after h.here.at (ap bare h.changed);
      queues = refl;
    }

    module _ (queues : List (List ℕ))
        (queued : AreQueued number (record { segments = old; queues = queues })) where
      abbrev out : List (List ℕ)
      out = map (without here) queues

      out_of : (key : ℕ) → queue_of out key ≡ without here (queue_of queues key)
      out_of key = list_of-without (record { by_key = queues; entries = 0 }) here key

      was_there : (key at : ℕ) → Contains (queue_of out key) at
          → (at ≢ here) × Contains (queue_of queues key) at
      was_there key at c =
          contained_without at here (queue_of queues key)
          (subst (λ (xs : List ℕ). Contains xs at) (out_of key) c)

      -- the page stands in no queue
      pub queued_out : AreQueued number (record { segments = new; queues = out })
      queued_out = record {
        queues = record {
          all = length-map queues (without here) ∙ queued.queues.all;
          below = λ key at c. queued.queues.below key at (was_there key at c).1;
          once = λ key. subst HasNoRepeats (sym (out_of key))
              (Apart-without here (queue_of queues key) (queued.queues.once key));
          alone = λ at key other c d. queued.queues.alone at key other (was_there key at c).1
              (was_there other at d).1;
        };
        there = λ at has. elim (cases_eq at here) [
          | inl e ↦ absurd
              (true≢false (sym has ∙ ap (λ (n : ℕ). has_place (lists_on number new n)) e
              ∙ ap has_place lists_now))
          | inr ne ↦ (
              let was = queued.there at (sym (ap has_place (lists_other at ne)) ∙ has) in (
                was.0,
                key_other at ne ∙ was.1,
                subst (λ (xs : List ℕ). Contains xs at) (sym (out_of was.0))
                    (Contains-without at here (queue_of queues was.0) ne was.2),
              ))
        ];
        only = λ key at c. (
            let was = was_there key at c in
            let q = queued.only key at was.1 in
            (key_other at was.0 ∙ q.0, ap has_place (lists_other at was.0) ∙ q.1));
      }

      -- and the heap stays right
      pub right_retired : (records : S → List Standing) (table : List (Option ℕ)) (charges : List ℕ)
          (capacity : ℕ) → IsIdlePage (records one.slots) page → IsSettled records after
          → IsRight number records table charges capacity
          (record { segments = old; queues = queues })
          → IsRight number records table charges capacity (record { segments = new; queues = out })
      right_retired records table charges capacity idle settled r = record {
        tabled = tabled_same number table old found one after r.tabled h.here.at number_kept;
        room = r.room;
        settled = λ k c. ⊎_elim (λ e. subst (IsSettled records) (sym e) settled)
            (λ was. r.settled k was) (contained_set old found after k c);
        arenas = λ k c. ⊎_elim
            (λ e. subst (λ (n : ℕ). n < 16)
            (sym (ap (λ (x : Kept S). x.arena) e ∙ ap (λ (x : Kept S). x.arena) h.changed))
            (r.arenas one (Contains-get old found one h.here.at))) (λ was. r.arenas k was)
            (contained_set old found after k c);
        queued = queued_out;
        counted = r.counted;
        charged = λ tenant below. r.charged tenant below
            ∙ sym (heap_charge records old found one after tenant h.here.at
            (ap (λ (x : Kept S). charge_of (records x.slots) x.classes tenant) h.changed
            ∙ page_charge (records one.slots) one.classes page None tenant idle));
      }
