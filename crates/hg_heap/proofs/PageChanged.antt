-- One page of one segment has changed.
use Rattle.std.proofs.Common.{◌≡◌, ◌≢◌, ◌⊎◌, ⊎_elim, ℕ, suc, zero, ◌+◌, ◌*◌, ◌%◌, ◌==◌, ◌<◌}
use Rattle.std.proofs.Common.{inl, inr, Bool, true}
use Rattle.std.proofs.Common.{false, cond, ◌∷◌, [], List, length, Option, Some, None, refl, sym}
use Rattle.std.proofs.Common.{ap, subst, ◌∙◌}
use Rattle.std.proofs.Common.{arith, slice_get, slice_set}
use Rattle.std.specs.Prelude.{option_map, Contains}
use Rattle.std.proofs.lemmas.Bool.{cases_eq}
use Rattle.hg_place.specs.declared.geometry.TheConstants.{SEGMENT_PAGES}
use Rattle.hg_place.specs.Places.{segment_of_page}
use Rattle.hg_lists.proofs.RepeatsLemmas.{nat_eq-other}
use Rattle.hg_size.specs.Sizes.{number_of_size}
use Rattle.hg_size.specs.SizeLaws.{key_of}
use Rattle.hg_queue.specs.declared.page_queues.TheConstants.{PAGES}
use Rattle.hg_queue.specs.Queues.{queue_of}
use Rattle.hg_segment.specs.Kept.{Kept, lists_at}
use Rattle.hg_segment.specs.Kept.{class_at as class_in}
use Rattle.hg_heap.specs.Held.{Kind, kind_of, segment_in, lists_by, lists_on}
use Rattle.hg_heap.specs.Held.{has_place, KeepsOtherLists}
use Rattle.hg_heap.specs.Held.{class_by, class_on}
use Rattle.hg_heap.specs.Queues.{key_by, key_on, AreQueued}
use Rattle.hg_heap.specs.Requeued.{requeued}
use Rattle.hg_heap.proofs.Founds.{Found, found_is, found_after, number_is}
use Rattle.hg_heap.proofs.Requeuing.{Requeues, requeues}

module _ {S : Type 0} (number : S → ℕ) where
  -- another segment's number finds what it found
  pub other_found : (heap : List (Kept S)) (found segment : ℕ) (one after : Kept S)
      → slice_get heap found ≡ Some one
      → number after.slots ≡ number one.slots → segment ≢ number one.slots
      → segment_in number (slice_set heap found after) segment ≡ segment_in number heap segment
  other_found [] found segment one after at same ne = absurd (cc)
  other_found (x ∷ xs) zero segment one after at same ne =
      let is : x ≡ one = cc in
      let apart : (number one.slots == segment) ≡ false =
      nat_eq-other (number one.slots) segment (λ e. ne (sym e)) in
      ap (λ (n : ℕ). cond (n == segment) (Some after) (segment_in number xs segment)) same
      ∙ ap (λ (b : Bool). cond b (Some after) (segment_in number xs segment)) apart
      ∙ sym (ap (λ (b : Bool). cond b (Some x) (segment_in number xs segment))
      (ap (λ (k : Kept S). number k.slots == segment) is ∙ apart))
  other_found (x ∷ xs) (suc found) segment one after at same ne =
      ap (λ (o : Option (Kept S)). cond (number x.slots == segment) (Some x) o)
      (other_found xs found segment one after at same ne)

  -- a segment that keeps its number, its arena and its greatest generation is of its kind
  pub kind_same : (one after : Kept S) → number after.slots ≡ number one.slots
      → after.arena ≡ one.arena → after.greatest ≡ one.greatest
      → kind_of number after ≡ kind_of number one
  kind_same one after same arena greatest =
      ap (λ (n : ℕ). record { number = n; arena = after.arena; greatest = after.greatest }) same
      ∙ ap (λ (n : ℕ). record { number = number one.slots; arena = n; greatest = after.greatest })
      arena
      ∙ ap (λ (n : ℕ). record { number = number one.slots; arena = one.arena; greatest = n })
      greatest

  -- one page of a segment that is held has this class now, and had it or none
  pub record PageChange (old : List (Kept S)) (found page : ℕ) (one after : Kept S) : Type 0 where
    pub segment : ℕ
    pub here : Found number old segment found one
    pub kind : kind_of number after ≡ kind_of number one
    pub low : page < SEGMENT_PAGES
    pub size : ℕ
    pub class : class_in after.classes page ≡ Some size
    pub was : (class_in one.classes page ≡ Some size) ⊎ (class_in one.classes page ≡ None)
    pub classes : (other : ℕ) → other ≢ page
        → class_in after.classes other ≡ class_in one.classes other
    pub lists : (other : ℕ) → other ≢ page → lists_at after.lists other ≡ lists_at one.lists other

  module _ (old : List (Kept S)) (found page : ℕ) (one after : Kept S)
      (h : PageChange old found page one after) where
    abbrev new : List (Kept S)
    new = slice_set old found after

    -- the page over all segments
    abbrev here : ℕ
    here = h.segment * SEGMENT_PAGES + page

    number_kept : number after.slots ≡ number one.slots
    number_kept = ap (λ (k : Kind). k.number) h.kind

    segment_is : number one.slots ≡ h.segment
    segment_is = number_is number old h.segment found one h.here

    in_segment : segment_of_page here ≡ h.segment
    in_segment = let l = h.low in omega arith

    in_page : here % SEGMENT_PAGES ≡ page
    in_page = let l = h.low in omega arith

    -- what is told of a page by its segment
    module _ {X : Type 0} (told : Option (Kept S) → ℕ → X) where
      abbrev told_on : List (Kept S) → ℕ → X
      told_on heap at = told (segment_in number heap (segment_of_page at)) (at % SEGMENT_PAGES)

      told_there : (heap : List (Kept S)) (k : Kept S) → Found number heap h.segment found k
          → told_on heap here ≡ told (Some k) page
      told_there heap k f =
          ap (λ (s : ℕ). told (segment_in number heap s) (here % SEGMENT_PAGES)) in_segment
          ∙ ap (λ (o : Option (Kept S)). told o (here % SEGMENT_PAGES))
          (found_is number heap h.segment found k f)
          ∙ ap (told (Some k)) in_page

      told_now : told_on new here ≡ told (Some after) page
      told_now = told_there new after
          (found_after number old h.segment found one after h.here number_kept)

      told_before : told_on old here ≡ told (Some one) page
      told_before = told_there old one h.here

      told_other : ((q : ℕ) → q ≢ page → told (Some after) q ≡ told (Some one) q) → (at : ℕ)
          → at ≢ here → told_on new at ≡ told_on old at
      told_other same at ne = elim (cases_eq (segment_of_page at) h.segment) [
        | inl e ↦ (
            let away : at % SEGMENT_PAGES ≢ page =
            λ s. ne (let l = h.low in omega (arith, e, s)) in
            let is : (heap : List (Kept S)) (k : Kept S) → Found number heap h.segment found k
            → told_on heap at ≡ told (Some k) (at % SEGMENT_PAGES) =
            λ heap k f. ap (λ (s : ℕ). told (segment_in number heap s) (at % SEGMENT_PAGES)) e
            ∙ ap (λ (o : Option (Kept S)). told o (at % SEGMENT_PAGES))
            (found_is number heap h.segment found k f) in
            is new after (found_after number old h.segment found one after h.here number_kept)
            ∙ same (at % SEGMENT_PAGES) away ∙ sym (is old one h.here))
        | inr ne ↦ ap (λ (o : Option (Kept S)). told o (at % SEGMENT_PAGES))
            (other_found old found (segment_of_page at) one after h.here.at number_kept
            (λ s. ne (s ∙ segment_is)))
      ]

    -- the lists of the page, and of the others
    pub lists_now : lists_on number new here ≡ lists_at after.lists page
    lists_now = told_now (lists_by number)

    pub lists_before : lists_on number old here ≡ lists_at one.lists page
    lists_before = told_before (lists_by number)

    pub lists_other : KeepsOtherLists number here old new
    lists_other = told_other (lists_by number) h.lists

    -- and the classes
    pub class_now : class_on number new here ≡ Some h.size
    class_now = told_now (class_by number) ∙ h.class

    pub class_other : (at : ℕ) → at ≢ here → class_on number new at ≡ class_on number old at
    class_other = told_other (class_by number) h.classes

    -- the key of the page
    abbrev key : ℕ
    key = key_of one.arena (number_of_size h.size)

    key_in : (k : Kept S) → k.arena ≡ one.arena → class_in k.classes page ≡ Some h.size
        → key_by number (Some k) page ≡ Some key
    key_in k arena class =
        ap (λ (a : ℕ). option_map (λ size. key_of a (number_of_size size))
        (class_in k.classes page)) arena
        ∙ ap (option_map (λ size. key_of one.arena (number_of_size size))) class

    arena_kept : after.arena ≡ one.arena
    arena_kept = ap (λ (k : Kind). k.arena) h.kind

    pub key_now : key_on number new here ≡ Some key
    key_now = told_now (key_by number) ∙ key_in after arena_kept h.class

    pub key_other : (at : ℕ) → at ≢ here → key_on number new at ≡ key_on number old at
    key_other = told_other (key_by number) (λ q ne.
        ap (λ (a : ℕ). option_map (λ size. key_of a (number_of_size size))
        (class_in after.classes q)) arena_kept
        ∙ ap (option_map (λ size. key_of one.arena (number_of_size size))) (h.classes q ne))

    module _ (queues : List (List ℕ))
        (queued : AreQueued number (record { segments = old; queues = queues })) where
      -- it stood in no queue but its own
      pub its_own : (k : ℕ) → Contains (queue_of queues k) here → k ≡ key
      its_own k on = ⊎_elim
          (λ same. (let is : Some k ≡ Some key =
          sym (queued.only k here on).0 ∙ told_before (key_by number)
          ∙ key_in one refl same in cc))
          (λ none. absurd (let is : Some k ≡ None =
          sym (queued.only k here on).0 ∙ told_before (key_by number)
          ∙ ap (option_map (λ size. key_of one.arena (number_of_size size))) none in cc)) h.was

      -- and stands where it belongs
      abbrev after_queues : List (List ℕ)
      after_queues = requeued key here (has_place (lists_at after.lists page)) queues

      module _ (r : Requeues key here (has_place (lists_at after.lists page)) queues after_queues)
        where
          queued_at : (at : ℕ) → has_place (lists_on number new at) ≡ true
              → (k : ℕ) × (key_on number new at ≡ Some k) × Contains (queue_of after_queues k) at
          queued_at at has = elim (cases_eq at here) [
            | inl e ↦ (
              key,
              ap (key_on number new) e ∙ key_now,
              subst (Contains (queue_of after_queues key)) (sym e)
                  (r.there (sym (ap has_place lists_now)
                  ∙ ap (λ (n : ℕ). has_place (lists_on number new n)) (sym e) ∙ has)),
            )
            | inr ne ↦ (
                let was = queued.there at (sym (ap has_place (lists_other at ne)) ∙ has) in
                (was.0, key_other at ne ∙ was.1, r.others was.0 at ne was.2))
          ]

          queued_only : (k at : ℕ) → Contains (queue_of after_queues k) at
              → (key_on number new at ≡ Some k) × (has_place (lists_on number new at) ≡ true)
          queued_only k at on = ⊎_elim
              (λ was. (
                key_other at was.0
                    ∙ (queued.only k at was.1).0,
                ap has_place (lists_other at was.0)
                    ∙ (queued.only k at was.1).1,
              ))
              (λ is. (
                ap (key_on number new) is.0 ∙ key_now ∙ ap Some (sym is.2),
                ap (λ (n : ℕ). has_place (lists_on number new n)) is.0 ∙ ap has_place lists_now
                    ∙ is.1,
              ))
              (r.only k at on)

          queued_by : AreQueued number (record { segments = new; queues = after_queues })
          queued_by = record { queues = r.queues; there = queued_at; only = queued_only }

      pub queued_now : key < length queues → here < PAGES
          → AreQueued number (record { segments = new; queues = after_queues })
      queued_now inside below = queued_by
          (requeues queues key here queued.queues inside below its_own
          (has_place (lists_at after.lists page)))
