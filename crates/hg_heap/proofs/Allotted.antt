-- A place that a heap gave out, at the front of its queue or on a page that got its class for it.
use Rattle.std.proofs.Common.{◌≡◌, ◌≢◌, ℕ, zero, suc, ◌+◌, ◌-◌, ◌*◌, ◌%◌, ◌<◌, true, false, []}
use Rattle.std.proofs.Common.{◌∷◌, List, length, Option, Some, None, refl, sym, ap, subst, ◌∙◌}
use Rattle.std.proofs.Common.{arith, slice_get, slice_set, inl}
use Rattle.std.proofs.Common.{inr, ◌⊎◌, Contains}
use Rattle.std.proofs.lemmas.Bool.{cases_eq, true≢false}
use Rattle.std.proofs.lemmas.List.{set-set, get_or-set_other, length-set}
use Rattle.std.proofs.lemmas.Grind.{get_or-set_at}
use Rattle.std.proofs.lemmas.Option.{slice_get-get_or}
use Rattle.hg_lists.specs.Repeats.{HasNoRepeats, IsIn}
use Rattle.hg_lists.proofs.RepeatsLemmas.{Lacks-not, in_contains}
use Rattle.hg_place.specs.declared.Handle.{Handle}
use Rattle.hg_place.specs.declared.Place.{Place}
use Rattle.hg_place.specs.declared.standing.Standing.{Standing}
use Rattle.hg_place.specs.declared.standing.Standing.TheVariants.{Open, Home}
use Rattle.hg_place.specs.Lives.{live_word}
use Rattle.hg_place.specs.Places.{segment_of_page}
use Rattle.hg_place.specs.Standings.{slot_of, standing_at, is_home, standing_generation}
use Rattle.hg_segment.specs.Kept.{Kept, class_at}
use Rattle.hg_segment.specs.Blocks.{block_at, block_of_class}
use Rattle.hg_segment.specs.Right.{is_vacant}
use Rattle.hg_heap.specs.Held.{kind_of}
use Rattle.hg_heap.specs.Allotted.{IsAllotted}
use Rattle.hg_heap.specs.Begun.{Begun}
use Rattle.hg_heap.specs.Opened.{Opened}
use Rattle.hg_heap.specs.Ties.{Stepped}
use Rattle.hg_heap.proofs.Founds.{numbers, Contains-get, get-map, inside_of}

slot_below : (place : Place) → slot_of place < 8192
slot_below place = let a = place.page_below in let b = place.index_below in omega arith

-- a place that isn't this one is on another page, or has another index
apart : (page index : ℕ) (place : Place) → page * 512 + index ≢ slot_of place
    → (page ≢ place.page) ⊎ (index ≢ place.index)
apart page index place ne = elim (cases_eq page place.page) [
  | inl e ↦ inr (λ same. ne (omega (arith, e, same)))
  | inr other ↦ inl other
]

module _ {S : Type 0} (number : S → ℕ) where
  pub in_list : (n : ℕ) (xs : List (Kept S)) (i : ℕ) (k : Kept S) → slice_get xs i ≡ Some k
      → number k.slots ≡ n → IsIn n (numbers number xs)
  in_list n xs i k at e =
      in_contains n (numbers number xs) (subst (λ (m : ℕ). Contains (numbers number xs) m) e
      (Contains-get (numbers number xs) i (number k.slots)
      (get-map (λ (k : Kept S). number k.slots) xs i k at)))

  -- of segments with different numbers two of one number are one
  pub same_index : (xs : List (Kept S)) (i j : ℕ) (a b : Kept S) → HasNoRepeats (numbers number xs)
      → slice_get xs i ≡ Some a → slice_get xs j ≡ Some b → number a.slots ≡ number b.slots → i ≡ j
  same_index [] i j a b once at there e = absurd (cc)
  same_index (x ∷ xs) zero zero a b once at there e = refl
  same_index (x ∷ xs) zero (suc j) a b once at there e =
      absurd (let is : x ≡ a = cc in Lacks-not (number x.slots) (numbers number xs) once.0
      (in_list (number x.slots) xs j b there (sym e
      ∙ ap (λ (k : Kept S). number k.slots) (sym is))))
  same_index (x ∷ xs) (suc i) zero a b once at there e =
      absurd (let is : x ≡ b = cc in Lacks-not (number x.slots) (numbers number xs) once.0
      (in_list (number x.slots) xs i a at (e ∙ ap (λ (k : Kept S). number k.slots) (sym is))))
  same_index (x ∷ xs) (suc i) (suc j) a b once at there e =
      ap suc (same_index xs i j a b once.1 at there e)

module _ {S : Type 0} (number : S → ℕ) (records : S → List Standing) (shows : S → ℕ → ℕ → Type 0)
    (steps : S → ℕ → ℕ → ℕ → S → Type 0) (sized : (s : S) → length (records s) ≡ 8192) where
  vacant_home : (standing : Standing) (greatest generation : ℕ) → is_vacant greatest standing ≡ true
      → generation ≡ standing_generation standing + 1 → standing ≡ Home (generation - 1)
  vacant_home (Home g) greatest generation v e = ap Home (omega (arith, e))
  vacant_home (Open g o) greatest generation v e = absurd (cc)

  module _ (size owner page : ℕ) (handle : Handle) (old new : List (Kept S))
      (o : Opened number records shows steps page size owner handle old new) where
    one : Kept S
    one = o.stepped.before

    last : Kept S
    last = o.stepped.after

    standing_other : (other : ℕ) → other ≢ slot_of handle.place
        → standing_at (records o.stepped.after.slots) other ≡ standing_at
        (records o.stepped.before.slots) other
    standing_other other ne = ap (λ (rs : List Standing). standing_at rs other) o.standings
        ∙ get_or-set_other (records o.stepped.before.slots) (slot_of handle.place) other
        (Open handle.generation owner) (Home 0) ne

    standing_here : standing_at (records o.stepped.after.slots) (slot_of handle.place)
        ≡ Open handle.generation owner
    standing_here = ap (λ (rs : List Standing). standing_at rs (slot_of handle.place)) o.standings
        ∙ get_or-set_at (records o.stepped.before.slots) (slot_of handle.place)
        (slot_of handle.place) (Open handle.generation owner) (Home 0) refl
        (subst (λ (n : ℕ). slot_of handle.place < n) (sym (sized o.stepped.before.slots))
        (slot_below handle.place))

    home_here : standing_at (records o.stepped.before.slots) (slot_of handle.place) ≡ Home
        (handle.generation - 1)
    home_here = vacant_home (standing_at (records o.stepped.before.slots) (slot_of handle.place))
        o.stepped.before.greatest handle.generation o.vacant o.generation

    -- on a page that had the class
    pub from_opened : IsAllotted number records shows steps size owner handle old new
    from_opened = record {
      word = o.word;
      stepped = o.stepped;
      given = record {
        number_kept = ap (λ k. k.number) o.stepped.kind;
        standings = λ other below ne. standing_other other ne;
        standing = standing_here;
        classes = λ p ne. ap (λ (cs : List (Option ℕ)). class_at cs p) o.classes;
        class = ap (λ (cs : List (Option ℕ)). class_at cs handle.place.page) o.classes ∙ o.class;
        blocks = λ p i low small ne away.
            ap (λ (cs : List (Option ℕ)). block_at o.stepped.after.words cs p i) o.classes
            ∙ o.blocks p i low small away (apart p i handle.place ne);
        zeroed = ap (λ (cs : List (Option ℕ)). block_at o.stepped.after.words cs handle.place.page
            handle.place.index) o.classes ∙ o.zeroed;
      };
      home = home_here;
    }

    -- on one that got it first
    module _ (first : List (Kept S)) (b : Begun number records size page first old)
        (once : HasNoRepeats (numbers number old))
        (idle : (i : ℕ) → i < 512
        → is_home (standing_at (records b.before.slots) (page % 16 * 512 + i)) ≡ true) where
      after_there : slice_get old b.found ≡ Some b.after
      after_there = ap (λ (xs : List (Kept S)). slice_get xs b.found) b.now
          ∙ slice_get-get_or (slice_set first b.found b.after) b.found b.after
          (omega (arith, inside_of first b.found b.before b.at, length-set first b.found b.after))
          ∙ ap Some (get_or-set_at first b.found b.found b.after b.after refl
          (inside_of first b.found b.before b.at))

      slots_kept : b.after.slots ≡ b.before.slots
      slots_kept = ap (λ (k : Kept S). k.slots) b.changed

      page_here : segment_of_page page ≡ handle.place.segment
      page_here = let e = o.on in let p = handle.place.page_below in omega (arith, e, p)

      in_page : page % 16 ≡ handle.place.page
      in_page = let e = o.on in let p = handle.place.page_below in omega (arith, e, p)

      found_same : o.stepped.found ≡ b.found
      found_same = same_index number old o.stepped.found b.found o.stepped.before b.after once
          o.stepped.at after_there
          (o.stepped.segment ∙ sym page_here ∙ sym b.segment ∙ ap number (sym slots_kept))

      before_same : o.stepped.before ≡ b.after
      before_same = let e : Some o.stepped.before ≡ Some b.after =
          sym o.stepped.at ∙ ap (slice_get old) found_same ∙ after_there in cc

      now_is : new ≡ slice_set first b.found o.stepped.after
      now_is = o.stepped.now ∙ ap (λ (n : ℕ). slice_set old n o.stepped.after) found_same
          ∙ ap (λ (xs : List (Kept S)). slice_set xs b.found o.stepped.after) b.now
          ∙ set-set first b.found b.after o.stepped.after

      slots_same : o.stepped.before.slots ≡ b.before.slots
      slots_same = ap (λ (k : Kept S). k.slots) before_same ∙ slots_kept

      abbrev stepped : Stepped number shows steps handle.place o.word
          (live_word handle.generation owner) first new
      stepped = record {
        found = b.found;
        before = b.before;
        after = o.stepped.after;
        at = b.at;
        now = now_is;
        segment = b.segment ∙ page_here;
        kind = o.stepped.kind ∙ ap (kind_of number) before_same ∙ ap (kind_of number) b.changed;
        shown = subst (λ (s : S). shows s (slot_of handle.place) o.word) slots_same o.stepped.shown;
        stepped = subst (λ (s : S). steps s (slot_of handle.place) o.word
            (live_word handle.generation owner) o.stepped.after.slots) slots_same o.stepped.stepped;
      }

      classes_before : o.stepped.before.classes ≡ slice_set b.before.classes handle.place.page
          (Some size)
      classes_before =
          ap (λ (k : Kept S). k.classes) before_same ∙ ap (λ (k : Kept S). k.classes) b.changed
          ∙ ap (λ (n : ℕ). slice_set b.before.classes n (Some size)) in_page

      -- the open blocks of the other places have their words
      block_kept : (p i : ℕ) → p < 16 → i < 512 → p * 512 + i ≢ slot_of handle.place
          → is_home (standing_at (records o.stepped.after.slots) (p * 512 + i)) ≡ false
          → block_at o.stepped.after.words o.stepped.after.classes p i ≡ block_at b.before.words
          b.before.classes p i
      block_kept p i low small ne away =
          let was : is_home (standing_at (records b.before.slots) (p * 512 + i)) ≡ false =
          ap is_home (sym (standing_other (p * 512 + i) ne
          ∙ ap (λ (s : S). standing_at (records s) (p * 512 + i)) slots_same)) ∙ away in
          ap (λ (cs : List (Option ℕ)). block_at o.stepped.after.words cs p i) o.classes
          ∙ o.blocks p i low small away (apart p i handle.place ne)
          ∙ ap (λ (k : Kept S). block_at k.words k.classes p i) before_same
          ∙ elim (cases_eq p handle.place.page) as (λ _. block_at b.after.words b.after.classes p i
          ≡ block_at b.before.words b.before.classes p i) [
            | inl e ↦ absurd (let home = idle i small in let at : page % 16 * 512 + i ≡ p * 512 + i
                = omega (arith, in_page, e) in true≢false
                (sym (sym (ap (λ (n : ℕ). is_home (standing_at (records b.before.slots) n)) at)
                ∙ home) ∙ was))
            | inr other ↦
                ap (block_of_class b.after.words p i)
                (ap (λ (k : Kept S). class_at k.classes p) b.changed
                ∙ ap (λ (n : ℕ). class_at (slice_set b.before.classes n (Some size)) p) in_page
                ∙ get_or-set_other b.before.classes handle.place.page p (Some size) None other)
                ∙ b.blocks p i low small was
          ]

      pub from_begun : IsAllotted number records shows steps size owner handle first new
      from_begun = record {
        word = o.word;
        stepped = stepped;
        given = record {
          number_kept = ap (λ k. k.number) stepped.kind;
          standings = λ other below ne. standing_other other ne
              ∙ ap (λ (s : S). standing_at (records s) other) slots_same;
          standing = standing_here;
          classes = λ p ne. ap (λ (cs : List (Option ℕ)). class_at cs p) (o.classes
              ∙ classes_before) ∙ get_or-set_other b.before.classes handle.place.page p (Some size)
              None ne;
          class = ap (λ (cs : List (Option ℕ)). class_at cs handle.place.page) o.classes ∙ o.class;
          blocks = block_kept;
          zeroed = ap (λ (cs : List (Option ℕ)). block_at o.stepped.after.words cs handle.place.page
              handle.place.index) o.classes ∙ o.zeroed;
        };
        home = ap (λ (s : S). standing_at (records s) (slot_of handle.place)) (sym slots_same)
            ∙ home_here;
      }
