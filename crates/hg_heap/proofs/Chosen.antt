-- What is known of the page and the place that the order of choice takes.
use Rattle.std.proofs.Common.{◌≡◌, ℕ, zero, suc, ◌+◌, ◌*◌, ◌%◌, ◌<◌, ◌≤◌, ◌==◌, ◌⊎◌}
use Rattle.std.proofs.Common.{inl, inr, Bool, true, false, cond, ◌∷◌, [], ◌++◌, List}
use Rattle.std.proofs.Common.{Option, Some, None, refl, sym, ap, subst, ◌∙◌, arith}
use Rattle.std.proofs.Common.{slice_get, option_map, option_and_then}
use Rattle.std.proofs.Common.{Contains, filter}
use Rattle.std.specs.List.{range_with_len}
use Rattle.std.specs.Option.{option_or}
use Rattle.std.proofs.lemmas.Bool.{true≢false, eqb-true, ltb-true, and_parts}
use Rattle.hg_lists.proofs.Listed.{Contains-first, no_first}
use Rattle.hg_lists.proofs.RepeatsLemmas.{Contains-cons_cases}
use Rattle.hg_place.specs.declared.standing.Standing.{Standing}
use Rattle.hg_place.specs.Places.{segment_of_page}
use Rattle.hg_place.specs.Standings.{standing_at}
use Rattle.hg_size.specs.Sizes.{sizes, places_of, number_of_size}
use Rattle.hg_size.specs.SizeLaws.{key_of}
use Rattle.std.proofs.lemmas.Option.{none-some}
use Rattle.hg_size.specs.Runs.{may_begin}
use Rattle.hg_size.proofs.Table.{number_below, numbers_apart}
use Rattle.hg_size.proofs.Covers.{begins_not}
use Rattle.hg_machine.specs.Room.{suits}
use Rattle.hg_machine.proofs.Suits.{number_some, number_has}
use Rattle.hg_page.specs.PageLists.{PageLists, listed}
use Rattle.hg_queue.specs.Queues.{queue_of}
use Rattle.hg_segment.specs.Kept.{Kept, slot, class_at, lists_at, refilled_by}
use Rattle.hg_segment.specs.Right.{is_vacant, vacant_in, HasVacant}
use Rattle.hg_heap.specs.Held.{Held, segment_in, lists_on, lists_by, has_place}
use Rattle.hg_heap.specs.Held.{is_some_place}
use Rattle.hg_heap.specs.Queues.{AreQueued, key_by}
use Rattle.hg_heap.specs.Choice.{next_index, blank_of, blank_by, blank_on, front_page, blank_page}
use Rattle.hg_heap.specs.Choice.{chosen_place, lists_for, begun_or}
use Rattle.hg_heap.specs.Settled.{IsSettled}
use Rattle.hg_heap.proofs.ViewRoom.{open_by, found_one}

-- a list that has something has a place
place_there : (xs : List ℕ) (x : ℕ) → Contains xs x → is_some_place xs ≡ true
place_there [] x c = absurd (omega (arith, c.1))
place_there (y ∷ ys) x c = refl

-- the places of a filtered range
kept : (b : Bool) (x y : ℕ) (xs : List ℕ) → Contains (cond b (x ∷ xs) xs) y
    → ((y ≡ x) × (b ≡ true)) ⊎ Contains xs y
kept true x y xs c = elim (Contains-cons_cases x y xs c) [ inl e ↦ inl (e, refl) | inr r ↦ inr r ]
kept false x y xs c = inr c

pub in_range : (p : ℕ → Bool) (from count x : ℕ) → Contains (filter p (range_with_len from count)) x
    → (from ≤ x) × (x < from + count) × (p x ≡ true)
in_range p from zero x c = absurd (omega (arith, c.1))
in_range p from (suc n) x c =
    elim (kept (p from) from x (filter p (range_with_len (from + 1) n)) c) [
      | inl e ↦ (omega (arith, e.0), omega (arith, e.0), ap p e.0 ∙ e.1)
      | inr r ↦ (let rest = in_range p (from + 1) n x r in (
        omega (arith, rest.0),
        omega
            (arith, rest.1),
        rest.2,
      ))
    ]

-- a page whose lists have a place gives one of them out next
pub next_there : (lists : PageLists) → has_place lists ≡ true
    → (index : ℕ) × (next_index lists ≡ Some index) × Contains (listed lists) index
next_there lists has = go lists.free lists.local_free lists refl refl has
  where
    go : (free others : List ℕ) (l : PageLists) → l.free ≡ free → l.local_free ≡ others
        → has_place l ≡ true → (index : ℕ) × (slice_get (refilled_by l.free l).free 0 ≡ Some index)
        × Contains (listed l) index
    go [] [] l e f h =
        absurd (true≢false (sym h ∙ (ap (λ (xs : List ℕ). is_some_place (xs ++ l.local_free)) e
        ∙ ap is_some_place f)))
    go [] (y ∷ ys) l e f h = (
      y,
      (ap (λ (xs : List ℕ). slice_get (refilled_by xs l).free 0) e
          ∙ ap (λ (xs : List ℕ). slice_get (xs ++ l.local_free) 0) e
          ∙ ap (λ (xs : List ℕ). slice_get xs 0) f),
      subst (λ (xs : List ℕ). Contains (xs ++ l.local_free) y) (sym e)
          (subst (λ (xs : List ℕ). Contains xs y) (sym f) (0, omega arith, refl)),
    )
    go (x ∷ xs) others l e f h = (
      x,
      (ap (λ (fs : List ℕ). slice_get (refilled_by fs l).free 0) e
          ∙ ap (λ (fs : List ℕ). slice_get fs 0) e),
      subst (λ (fs : List ℕ). Contains (fs ++ l.local_free) x) (sym e) (0, omega arith, refl),
    )

module _ {S : Type 0} (number : S → ℕ) (records : S → List Standing) where
  -- a place of a page that is open to a block of the size
  pub record IsOpenOn (arena size : ℕ) (wanted : Option ℕ) (o : Option (Kept S)) (page index : ℕ)
      : Type 0 where
    pub k : Kept S
    pub is : o ≡ Some k
    pub arena_is : k.arena ≡ arena
    pub class : suits (class_at k.classes) size wanted page ≡ true
    pub below : index < places_of size
    pub vacant : is_vacant k.greatest (standing_at (records k.slots) (slot page index)) ≡ true

  pub opened_on : (arena size : ℕ) (wanted : Option ℕ) (o : Option (Kept S)) (page index : ℕ)
      → open_by number records arena size wanted o page index ≡ true
      → IsOpenOn arena size wanted o page index
  opened_on arena size wanted None page index e = absurd (true≢false (sym e))
  opened_on arena size wanted (Some k) page index e =
      let a = and_parts _ _ e in
      let b = and_parts _ _ a.1 in
      let c = and_parts _ _ b.1 in
      record {
        k = k;
        is = refl;
        arena_is = eqb-true k.arena arena a.0;
        class = b.0;
        below = ltb-true index (places_of size) c.0;
        vacant = c.1;
      }

  module _ (held : Held S) (queued : AreQueued number held) (settled : (k : Kept S)
      → Contains held.segments k → IsSettled records k) (arena size : ℕ) where
    abbrev pub key : ℕ
    key = key_of arena (number_of_size size)

    key_is : (k : Kept S) (page : ℕ) → k.arena ≡ arena → class_at k.classes page ≡ Some size
        → key_by number (Some k) page ≡ Some key
    key_is k page a c = ap (option_map (λ (n : ℕ). key_of k.arena (number_of_size n))) c
        ∙ ap (λ (n : ℕ). Some (key_of n (number_of_size size))) a

    listed_all : (k : Kept S) (page index : ℕ) → (o : Option ℕ) → o ≡ Some size
        → HasVacant k.greatest (records k.slots) page (lists_at k.lists page) o
        → index < places_of size
        → is_vacant k.greatest (standing_at (records k.slots) (slot page index)) ≡ true
        → Contains (listed (lists_at k.lists page)) index
    listed_all k page index None e h lt v = absurd (cc)
    listed_all k page index (Some n) e h lt v = let same : n ≡ size = cc in h index (rw same lt) v

    -- while the queue is empty no page of the class has a place
    pub none_of_class : front_page number records held arena size ≡ None → (page index : ℕ)
        → page < 1024 → IsOpenOn arena size (Some size)
        (segment_in number held.segments (segment_of_page page)) (page % 16) index → ⊥
    none_of_class empty page index below on =
        let k = on.k in
        let f = found_one number records held.segments (segment_of_page page) k on.is in
        let s = settled k f.0 in
        let low : page % 16 < 16 = omega arith in
        let here = listed_all k (page % 16) index (class_at k.classes (page % 16))
        (number_some size _ on.class)
        (s.lists (page % 16) low).all on.below on.vacant in
        let lists : lists_on number held.segments page ≡ lists_at k.lists (page % 16) =
        ap (λ (o : Option (Kept S)). lists_by number o (page % 16)) on.is in
        let has : has_place (lists_on number held.segments page) ≡ true =
        ap has_place lists ∙ place_there (listed (lists_at k.lists (page % 16))) index here in
        let t = queued.there page has in
        let same : Some t.0 ≡ Some key =
        sym t.1 ∙ ap (λ (o : Option (Kept S)). key_by number o (page % 16)) on.is
        ∙ key_is k (page % 16) on.arena_is (number_some size _ on.class) in
        let is : t.0 ≡ key = cc in
        let none : queue_of held.queues key ≡ [] =
        no_first (queue_of held.queues key) (sym empty) in
        let c : Contains [] page =
        subst (λ (xs : List ℕ). Contains xs page) (ap (queue_of held.queues) is ∙ none) t.2 in
        absurd (omega (arith, c.1))

    -- the page at the front gives out the head of its lists
    pub record IsFront (page : ℕ) : Type 0 where
      pub index : ℕ
      pub next : next_index (lists_on number held.segments page) ≡ Some index
      pub class_there : IsOpenOn arena size (Some size)
          (segment_in number held.segments (segment_of_page page)) (page % 16) index

    class_by_key : (k : Kept S) (page : ℕ) (o : Option ℕ) → o ≡ class_at k.classes page
        → ((n : ℕ) → o ≡ Some n → Contains sizes n) → Contains sizes size
        → option_map (λ (n : ℕ). key_of k.arena (number_of_size n)) o ≡ Some key
        → (k.arena ≡ arena) × (o ≡ Some size)
    class_by_key k page None e of sized same = absurd (cc)
    class_by_key k page (Some n) e of sized same =
        let keys : key_of k.arena (number_of_size n) ≡ key = cc in
        let a = number_below n (of n refl) in
        let b = number_below size sized in
        let arenas : k.arena ≡ arena = omega (arith, keys, a, b) in
        let numbers : number_of_size n ≡ number_of_size size = omega (arith, keys, a, b, arenas) in
        (arenas, ap Some (numbers_apart n size (of n refl) sized numbers))

    placed_below : (o : Option ℕ) (index : ℕ) → o ≡ Some size
        → Rattle.hg_segment.specs.Right.IsBlockPlace o index → index < places_of size
    placed_below None index e on = absurd on
    placed_below (Some n) index e on = let same : n ≡ size = cc in rw (sym same) on

    front_by : (page : ℕ) (o : Option (Kept S)) → segment_in number held.segments
        (segment_of_page page) ≡ o → Contains sizes size → key_by number o (page % 16) ≡ Some key
        → has_place (lists_by number o (page % 16)) ≡ true → IsFront page
    front_by page None e sized keyed has = absurd (cc)
    front_by page (Some k) e sized keyed has =
        let f = found_one number records held.segments (segment_of_page page) k e in
        let s = settled k f.0 in
        let low : page % 16 < 16 = omega arith in
        let c = class_by_key k (page % 16) (class_at k.classes (page % 16)) refl
        (s.sizes (page % 16)) sized keyed in
        let n = next_there (lists_at k.lists (page % 16)) has in
        let v = (s.lists (page % 16) low).vacant n.0 n.2 in
        record {
          index = n.0;
          next = ap (λ (o : Option (Kept S)). next_index (lists_by number o (page % 16))) e ∙ n.1;
          class_there = record {
            k = k;
            is = e;
            arena_is = c.0;
            class = number_has size _ c.1;
            below = placed_below (class_at k.classes (page % 16)) n.0 c.1
                (s.listed (page % 16) n.0 low n.2);
            vacant = v.vacant;
          };
        }

    pub front_there : (page : ℕ) → Contains sizes size → front_page number records held arena size
        ≡ Some page → IsFront page
    front_there page sized front =
        let q = queued.only key page (Contains-first page (queue_of held.queues key) (sym front)) in
        front_by page (segment_in number held.segments (segment_of_page page)) refl sized q.0 q.1

    -- a page without a class that has places for the size
    pub blank_there : (page x : ℕ) (o : Option (Kept S))
        → Contains (blank_by number records arena size o page) x → IsOpenOn arena size None o page x
    blank_there page x None c = absurd (omega (arith, c.1))
    blank_there page x (Some k) c = go (may_begin (class_at k.classes) size page) refl c
      where
        fits : (b : Bool) → (k.arena == arena) ≡ b → may_begin (class_at k.classes) size page ≡ true
            → Contains (cond b (vacant_in k.greatest (records k.slots) page (places_of size)) []) x
            → IsOpenOn arena size None (Some k) page x
        fits true e none d =
            let r = in_range
            (λ index. is_vacant k.greatest (standing_at (records k.slots) (slot page index))) 0
            (places_of size) x d in
            record {
              k = k;
              is = refl;
              arena_is = eqb-true k.arena arena e;
              class = none;
              below =
                  omega (arith, r.1);
              vacant = r.2;
            }
        fits false e none d = absurd (omega (arith, d.1))

        go : (m : Bool) → may_begin (class_at k.classes) size page ≡ m
            → Contains (blank_of number records arena size page k m) x
            → IsOpenOn arena size None (Some k) page x
        go true e d = fits (k.arena == arena) refl e d
        go false e d = absurd (omega (arith, d.1))

    -- which place that is: of the page at the front
    class_lists : (page : ℕ) (o : Option (Kept S)) (k : Kept S) (lists : PageLists) → o ≡ Some k
        → class_at k.classes page ≡ Some size
        → begun_or (blank_by number records arena size o page) lists ≡ lists
    class_lists page o k lists is class =
        ap (λ (p : Option (Kept S)). begun_or (blank_by number records arena size p page) lists) is
        ∙ ap (λ (m : Bool). begun_or (blank_of number records arena size page k m) lists)
        (begins_not (class_at k.classes) size page
        (λ m. none-some size (sym (m.none page (omega arith) (omega arith)) ∙ class)))

    pub chosen_front : (page : ℕ) → front_page number records held arena size ≡ Some page
        → (f : IsFront page) → chosen_place number records held arena size ≡ Some
        (page * 512 + f.index)
    chosen_front page front f =
        let on = f.class_there in
        ap (λ (o : Option ℕ). option_and_then
        (λ (p : ℕ). option_map (λ (index : ℕ). p * 512 + index)
        (next_index (lists_for number records held.segments arena size p)))
        (option_or o (blank_page number records held arena size))) front
        ∙ ap (λ (l : PageLists). option_map (λ (index : ℕ). page * 512 + index) (next_index l))
        (class_lists (page % 16) (segment_in number held.segments (segment_of_page page)) on.k
        (lists_on number held.segments page) on.is (number_some size _ on.class))
        ∙ ap (option_map (λ (index : ℕ). page * 512 + index)) f.next

    -- or of the first blank page
    pub chosen_blank : (page x : ℕ) (xs : List ℕ) → front_page number records held arena size ≡ None
        → blank_page number records held arena size ≡ Some page
        → blank_on number records held.segments arena size page ≡ x ∷ xs
        → chosen_place number records held arena size ≡ Some (page * 512 + x)
    chosen_blank page x xs empty blank first =
        ap (λ (o : Option ℕ). option_and_then
        (λ (p : ℕ). option_map (λ (index : ℕ). p * 512 + index)
        (next_index (lists_for number records held.segments arena size p)))
        (option_or o (blank_page number records held arena size))) empty
        ∙ ap (option_and_then (λ (p : ℕ). option_map (λ (index : ℕ). p * 512 + index)
        (next_index (lists_for number records held.segments arena size p)))) blank
        ∙ ap (λ (ys : List ℕ). option_map (λ (index : ℕ). page * 512 + index)
        (next_index (begun_or ys (lists_on number held.segments page)))) first

    -- or of none
    pub chosen_none : front_page number records held arena size ≡ None
        → blank_page number records held arena size ≡ None
        → chosen_place number records held arena size ≡ None
    chosen_none empty blank =
        ap (λ (o : Option ℕ). option_and_then
        (λ (p : ℕ). option_map (λ (index : ℕ). p * 512 + index)
        (next_index (lists_for number records held.segments arena size p)))
        (option_or o (blank_page number records held arena size))) empty
        ∙ ap (option_and_then (λ (p : ℕ). option_map (λ (index : ℕ). p * 512 + index)
        (next_index (lists_for number records held.segments arena size p)))) blank
