-- The place that was given out is the one of the order of choice, and its page the one chosen.
use Rattle.std.proofs.Common.{◌≡◌, ℕ, zero, suc, ◌+◌, ◌*◌, ◌%◌, ◌<◌, Bool, true}
use Rattle.std.proofs.Common.{not, cond, [], ◌∷◌, List, length, Option, Some, None}
use Rattle.std.proofs.Common.{refl, sym, ap, subst, ◌∙◌, arith, find, slice_get}
use Rattle.std.proofs.Common.{option_map, option_and_then, inl, inr, Contains}
use Rattle.std.specs.List.{position_or_len}
use Rattle.std.specs.Option.{option_or}
use Rattle.std.proofs.lemmas.Bool.{cases_Bool, true≢false, eq-eqb, ne_eqb}
use Rattle.hg_lists.specs.Repeats.{HasNoRepeats}
use Rattle.hg_lists.proofs.RepeatsLemmas.{Lacks-not}
use Rattle.hg_place.specs.declared.standing.Standing.{Standing}
use Rattle.hg_place.specs.declared.Handle.{Handle}
use Rattle.hg_place.specs.Places.{segment_of_page}
use Rattle.hg_place.specs.Standings.{standing_at, is_home}
use Rattle.hg_size.specs.Sizes.{sizes, number_of_size}
use Rattle.hg_size.specs.SizeLaws.{key_of}
use Rattle.hg_size.proofs.Table.{number_below}
use Rattle.hg_page.specs.PageLists.{PageLists, Pops, fresh}
use Rattle.hg_queue.specs.Queues.{queue_of}
use Rattle.hg_segment.specs.Kept.{Kept, class_at, refilled}
use Rattle.hg_segment.specs.Right.{IsBlockPlace}
use Rattle.hg_heap.specs.Held.{Held, is_of, segment_in, class_by, class_on, lists_on, is_some_place}
use Rattle.hg_heap.proofs.Blanks.{blank_classed}
use Rattle.hg_heap.specs.Choice.{next_index, blank_by, blank_on, begun_or, front_page}
use Rattle.hg_heap.specs.Choice.{blank_page, chosen_page, chosen_place, lists_for}
use Rattle.hg_heap.specs.Queues.{AreQueued, key_by}
use Rattle.hg_heap.specs.Requeued.{requeued}
use Rattle.hg_heap.specs.Settled.{IsSettled}
use Rattle.hg_heap.specs.Opened.{Opened}
use Rattle.hg_heap.specs.Allotted.{IsAllotted}
use Rattle.hg_heap.specs.Begun.{Begun}
use Rattle.hg_heap.specs.Lists.{GivenOut}
use Rattle.hg_heap.specs.Ready.{IsBegun, IsReady}
use Rattle.hg_heap.proofs.Founds.{numbers, Contains-get, numbers_same}
use Rattle.hg_heap.proofs.Allotted.{in_list, from_opened, from_begun}
use Rattle.hg_heap.proofs.Requeuing.{requeued_twice}

pub begun_is : (xs : List ℕ) (lists : PageLists) → is_some_place xs ≡ true
    → begun_or xs lists ≡ fresh xs
begun_is [] lists e = absurd (true≢false (sym e))
begun_is (x ∷ xs) lists e = refl

-- the head of a list that was popped
popped_next : (index : ℕ) (old new : PageLists) → Pops index (refilled old) new
    → next_index old ≡ Some index
popped_next index old new h = ap (λ (xs : List ℕ). slice_get xs 0) h.free

module _ {S : Type 0} (number : S → ℕ) (records : S → List Standing) where
  pub chosen_popped : (held : Held S) (arena size page index : ℕ) (new : PageLists)
      → chosen_page number records held arena size ≡ Some page
      → Pops index (refilled (lists_for number records held.segments arena size page)) new
      → chosen_place number records held arena size ≡ Some (page * 512 + index)
  chosen_popped held arena size page index new chosen h =
      ap (option_and_then (λ (p : ℕ). option_map (λ (i : ℕ). p * 512 + i)
      (next_index (lists_for number records held.segments arena size p)))) chosen
      ∙ ap (option_map (λ (i : ℕ). page * 512 + i))
      (popped_next index (lists_for number records held.segments arena size page) new h)

  -- the page was chosen
  pub chosen_front : (held : Held S) (arena size page : ℕ)
      → front_page number records held arena size ≡ Some page
      → chosen_page number records held arena size ≡ Some page
  chosen_front held arena size page front =
      ap (λ (o : Option ℕ). option_or o (blank_page number records held arena size)) front

  pub chosen_blank : (held : Held S) (arena size page : ℕ)
      → front_page number records held arena size ≡ None → blank_page number records held arena size
      ≡ Some page → chosen_page number records held arena size ≡ Some page
  chosen_blank held arena size page empty blank =
      ap (λ (o : Option ℕ). option_or o (blank_page number records held arena size)) empty ∙ blank

  -- a page with a class isn't blank
  blank_none_by : (arena size page n : ℕ) (o : Option (Kept S)) → class_by number o page ≡ Some n
      → blank_by number records arena size o page ≡ []
  blank_none_by arena size page n None e = absurd (cc)
  blank_none_by arena size page n (Some k) e = blank_classed number records arena size page n k e

  pub lists_for_classed : (segments : List (Kept S)) (arena size page n : ℕ)
      → class_on number segments page ≡ Some n → lists_for number records segments arena size page
      ≡ lists_on number segments page
  lists_for_classed segments arena size page n e =
      ap (λ (xs : List ℕ). begun_or xs (lists_on number segments page))
      (blank_none_by arena size (page % 16) n (segment_in number segments (segment_of_page page)) e)

  -- what was given out on a page that began is given out on the heap before
  pub given_begun : (old mid : Held S) (new : List (Kept S)) (arena size page index : ℕ)
      → IsBegun number records arena size page old mid
      → GivenOut number records arena size page index mid.segments new
      → GivenOut number records arena size page index old.segments new
  given_begun old mid new arena size page index b h = record {
    popped = subst (λ (l : PageLists). Pops index (refilled l) (lists_on number new page))
        (lists_for_classed mid.segments arena size page size b.class ∙ b.lists
        ∙ sym (begun_is (blank_on number records old.segments arena size page)
        (lists_on number old.segments page) b.blank)) h.popped;
    others = λ other ne. h.others other ne ∙ b.others other ne;
  }

  -- of segments with different numbers the one at an index is found by its number
  pub found_once : (xs : List (Kept S)) (i : ℕ) (k : Kept S) → HasNoRepeats (numbers number xs)
      → slice_get xs i ≡ Some k → segment_in number xs (number k.slots) ≡ Some k
  found_once [] i k once e = absurd (cc)
  found_once (x ∷ xs) zero k once e =
      (let is : x ≡ k = cc in ap
      (λ (b : Bool). cond b (Some x) (find (is_of number (number k.slots)) xs))
      (eq-eqb (number x.slots) (number k.slots) (ap (λ (j : Kept S). number j.slots) is))
      ∙ ap Some is)
  found_once (x ∷ xs) (suc i) k once e =
      ap (λ (b : Bool). cond b (Some x) (find (is_of number (number k.slots)) xs))
      (ne_eqb (number x.slots) (number k.slots)
      (λ same. Lacks-not (number x.slots) (numbers number xs) once.0
      (in_list number (number x.slots) xs i k e (sym same))))
      ∙ found_once xs i k once.1 e

  pub found_first : (xs : List (Kept S)) (i : ℕ) (k : Kept S) (segment : ℕ)
      → HasNoRepeats (numbers number xs) → slice_get xs i ≡ Some k → number k.slots ≡ segment
      → i ≡ position_or_len (is_of number segment) xs
  found_first [] i k segment once e same = absurd (cc)
  found_first (x ∷ xs) zero k segment once e same =
      (let is : x ≡ k = cc in sym
      (ap (λ (b : Bool). cond (not b) (1 + position_or_len (is_of number segment) xs) 0)
      (eq-eqb (number x.slots) segment (ap (λ (j : Kept S). number j.slots) is ∙ same))))
  found_first (x ∷ xs) (suc i) k segment once e same =
      (let more : suc i ≡ 1 + i = omega arith in more)
      ∙ ap (λ (n : ℕ). 1 + n) (found_first xs i k segment once.1 e same)
      ∙ sym (ap (λ (b : Bool). cond (not b) (1 + position_or_len (is_of number segment) xs) 0)
      (ne_eqb (number x.slots) segment (λ equal. Lacks-not (number x.slots) (numbers number xs)
      once.0 (in_list number (number x.slots) xs i k e (same ∙ sym equal)))))

  -- a page that is blank has no open place
  blank_class : (arena size page : ℕ) (o : Option (Kept S)) (k : Kept S) → o ≡ Some k
      → is_some_place (blank_by number records arena size o page) ≡ true
      → class_at k.classes page ≡ None
  blank_class arena size page None k e b = absurd (cc)
  blank_class arena size page (Some j) k e b =
      (let same : j ≡ k = cc in ap (λ (m : Kept S). class_at m.classes page) (sym same)
      ∙ go (class_at j.classes page) refl)
    where
      go : (c : Option ℕ) → class_at j.classes page ≡ c → class_at j.classes page ≡ None
      go None is = is
      go (Some n) is =
          absurd (true≢false (sym b
          ∙ ap is_some_place (blank_classed number records arena size page n j is)))

  no_block : (class : Option ℕ) (index : ℕ) → class ≡ None → IsBlockPlace class index → ⊥
  no_block None index e on = on
  no_block (Some n) index e on = absurd (cc)

  pub blank_idle : (segments : List (Kept S)) (arena size page : ℕ) (new : List (Kept S))
      (b : Begun number records size page segments new) → HasNoRepeats (numbers number segments)
      → ((k : Kept S) → Contains segments k → IsSettled records k)
      → is_some_place (blank_on number records segments arena size page) ≡ true
      → (i : ℕ) → i < 512 → is_home (standing_at (records b.before.slots) (page % 16 * 512 + i))
      ≡ true
  blank_idle segments arena size page new b once settled blank i lt =
      let at : segment_in number segments (segment_of_page page) ≡ Some b.before =
      ap (segment_in number segments) (sym b.segment)
      ∙ found_once segments b.found b.before once b.at in
      let none = blank_class arena size (page % 16)
      (segment_in number segments (segment_of_page page)) b.before at blank in
      let s = settled b.before (Contains-get segments b.found b.before b.at) in
      elim (cases_Bool (is_home (standing_at (records b.before.slots) (page % 16 * 512 + i))))
      as (λ _. is_home (standing_at (records b.before.slots) (page % 16 * 512 + i)) ≡ true) [
        | inl home ↦ home
        | inr away ↦ absurd (no_block (class_at b.before.classes (page % 16)) i none
            (s.opened (page % 16) i (omega arith) lt away))
      ]

  -- numbers stay
  pub begun_once : (size page : ℕ) (old new : List (Kept S))
      → Begun number records size page old new → HasNoRepeats (numbers number old)
      → HasNoRepeats (numbers number new)
  begun_once size page old new b once =
      subst HasNoRepeats
      (sym (ap (numbers number) b.now ∙ numbers_same number old b.found b.before b.after b.at
      (ap (λ (k : Kept S). number k.slots) b.changed))) once

  key_none_by : (arena size page : ℕ) (o : Option (Kept S))
      → is_some_place (blank_by number records arena size o page) ≡ true
      → key_by number o page ≡ None
  key_none_by arena size page None b = absurd (true≢false (sym b))
  key_none_by arena size page (Some k) b =
      ap (option_map (λ (n : ℕ). key_of k.arena (number_of_size n)))
      (blank_class arena size page (Some k) k refl b)

  -- a blank page stands in no queue
  blank_away : (old : Held S) → AreQueued number old → (arena size page : ℕ)
      → is_some_place (blank_on number records old.segments arena size page) ≡ true → (key : ℕ)
      → Contains (queue_of old.queues key) page → ⊥
  blank_away old queued arena size page blank key c =
      let has = (queued.only key page c).0 in
      let none = key_none_by arena size (page % 16)
      (segment_in number old.segments (segment_of_page page)) blank in
      let same : Some key ≡ None = sym has ∙ none in
      absurd (cc)

  pub queues_begun : (old mid : Held S) (arena size page : ℕ) (b : Bool) (queues : List (List ℕ))
      → AreQueued number old → arena < 16 → Contains sizes size
      → IsBegun number records arena size page old mid
      → queues ≡ requeued (key_of arena (number_of_size size)) page b mid.queues
      → queues ≡ requeued (key_of arena (number_of_size size)) page b old.queues
  queues_begun old mid arena size page b queues queued few sized begun e =
      let n = number_below size sized in
      e ∙ ap (requeued (key_of arena (number_of_size size)) page b) begun.queues
      ∙ requeued_twice old.queues (key_of arena (number_of_size size)) page
      (omega (arith, queued.queues.all, few, n)) (blank_away old queued arena size page begun.blank)
      b

  -- what is known of the page that is ready
  pub chosen_ready : (old mid : Held S) (arena size page : ℕ)
      → IsReady number records arena size page old mid → chosen_page number records old arena size
      ≡ Some page
  chosen_ready old mid arena size page (inl f) = chosen_front old arena size page f.front
  chosen_ready old mid arena size page (inr b) = chosen_blank old arena size page b.empty b.first

  pub given_ready : (old mid : Held S) (new : List (Kept S)) (arena size page index : ℕ)
      → IsReady number records arena size page old mid
      → GivenOut number records arena size page index mid.segments new
      → GivenOut number records arena size page index old.segments new
  given_ready old mid new arena size page index (inl f) h =
      subst (λ (held : Held S). GivenOut number records arena size page index held.segments new)
      f.same h
  given_ready old mid new arena size page index (inr b) h =
      given_begun old mid new arena size page index b h

  pub queues_ready : (old mid : Held S) (arena size page : ℕ) (b : Bool) (queues : List (List ℕ))
      → AreQueued number old → arena < 16 → Contains sizes size
      → IsReady number records arena size page old mid
      → queues ≡ requeued (key_of arena (number_of_size size)) page b mid.queues
      → queues ≡ requeued (key_of arena (number_of_size size)) page b old.queues
  queues_ready old mid arena size page b queues queued few sized (inl f) e =
      e ∙ ap (λ (held : Held S). requeued (key_of arena (number_of_size size)) page b held.queues)
      f.same
  queues_ready old mid arena size page b queues queued few sized (inr begun) e =
      queues_begun old mid arena size page b queues queued few sized begun e

  pub allotted_ready : (shows : S → ℕ → ℕ → Type 0) (steps : S → ℕ → ℕ → ℕ → S → Type 0)
      → ((s : S) → length (records s) ≡ 8192) → (old mid : Held S) (new : List (Kept S))
      (arena size owner page : ℕ) (handle : Handle)
      → HasNoRepeats (numbers number old.segments) → ((k : Kept S) → Contains old.segments k
      → IsSettled records k) → IsReady number records arena size page old mid
      → Opened number records shows steps page size owner handle mid.segments new
      → IsAllotted number records shows steps size owner handle old.segments new
  allotted_ready shows steps sized old mid new arena size owner page handle once settled (inl f) o =
      subst (λ (held : Held S). IsAllotted number records shows steps size owner handle
      held.segments new) f.same (from_opened number records shows steps sized size owner page
      handle mid.segments new o)
  allotted_ready shows steps sized old mid new arena size owner page handle once settled (inr b) o =
      from_begun number records shows steps sized size owner page handle mid.segments new o
      old.segments b.begun (begun_once size page old.segments mid.segments b.begun once)
      (blank_idle old.segments arena size page mid.segments b.begun once settled b.blank)
