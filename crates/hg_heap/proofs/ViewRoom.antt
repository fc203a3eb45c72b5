-- Where the view of a heap has room, by its queues and its pages without a class.
use Rattle.std.proofs.Common.{◌≡◌, ℕ, suc, ◌+◌, ◌*◌, ◌%◌, ◌==◌, ◌&&◌, inl, inr}
use Rattle.std.proofs.Common.{Bool, false, not, cond, nat_lt, ◌∷◌, [], List, map}
use Rattle.std.proofs.Common.{Option, Some, None, refl, sym, ap, subst, ◌∙◌, arith, find, is_some}
use Rattle.std.proofs.Common.{option_map, Contains}
use Rattle.std.proofs.lemmas.Bool.{cases_Bool, eqb-true}
use Rattle.hg_place.specs.declared.standing.Standing.{Standing}
use Rattle.hg_place.specs.declared.standing.Standing.TheVariants.{Home, Open}
use Rattle.hg_place.specs.Places.{segment_of, segment_of_page, page_of, index_of}
use Rattle.hg_place.specs.Standings.{standing_at, is_home, standing_generation}
use Rattle.hg_size.specs.Sizes.{places_of}
use Rattle.hg_machine.specs.Policy.{Policy, arena_of}
use Rattle.hg_machine.specs.Holders.{is_number}
use Rattle.hg_machine.specs.Room.{suits}
use Rattle.hg_machine.proofs.Suits.{suits_within}
use Rattle.hg_segment.specs.Kept.{Kept, slot, class_at}
use Rattle.hg_segment.specs.Right.{is_vacant}
use Rattle.hg_agreement.specs.Holdings.{Holding, holding_of, class_told, standing_told, has}
use Rattle.hg_agreement.specs.Seen.{is_open_to_in}
use Rattle.hg_heap.specs.Held.{is_of, is_held, segment_in}
use Rattle.hg_heap.specs.Policies.{AreOf}
use Rattle.hg_heap.specs.Ties.{holding, heap_view}
use Rattle.hg_heap.proofs.Options.{is_some_map}

module _ {S : Type 0} (number : S → ℕ) (records : S → List Standing) where
  -- the holding of a number is that of the segment
  pub holding_in : (segments : List (Kept S)) (segment : ℕ)
      → holding_of (map (holding number records) segments) segment ≡ option_map
      (holding number records) (segment_in number segments segment)
  holding_in [] segment = refl
  holding_in (x ∷ xs) segment =
      elim (cases_Bool (number x.slots == segment))
      as (λ _. holding_of (map (holding number records) (x ∷ xs)) segment ≡ option_map
      (holding number records) (segment_in number (x ∷ xs) segment)) [
        | inl t ↦ rw t refl
        | inr f ↦ rw f (holding_in xs segment)
      ]

  -- and the view holds what the heap holds
  pub view_holds : (segments : List (Kept S)) (segment : ℕ)
      → has (map (holding number records) segments) segment ≡ is_held number segments segment
  view_holds segments segment =
      ap is_some (holding_in segments segment)
      ∙ is_some_map (holding number records) (segment_in number segments segment)

  -- a segment that is found is one of them, and has the number
  pub found_one : (segments : List (Kept S)) (segment : ℕ) (k : Kept S)
      → segment_in number segments segment ≡ Some k
      → Contains segments k × (number k.slots ≡ segment)
  found_one [] segment k e = absurd (cc)
  found_one (x ∷ xs) segment k e =
      elim (cases_Bool (number x.slots == segment)) as (λ _. Contains (x ∷ xs) k
      × (number k.slots ≡ segment)) [
        | inl t ↦
            let same : Some x ≡ Some k =
            sym (ap (λ b. cond b (Some x) (find (is_of number segment) xs)) t) ∙ e in
            let is : x ≡ k = cc in (
              subst (λ (j : Kept S). Contains (x ∷ xs) j) is (0, omega arith, refl),
              ap
                  (λ j. number j.slots) (sym is) ∙ eqb-true (number x.slots) segment t,
            )
        | inr f ↦
            let rest = found_one xs segment k
            (sym (ap (λ b. cond b (Some x) (find (is_of number segment) xs)) f) ∙ e) in
            ((suc rest.0.0, omega (arith, rest.0.1), rest.0.2), rest.1)
      ]

  -- a place could have a block of the size, on a page of the wanted class
  abbrev pub open_by : ℕ → ℕ → Option ℕ → Option (Kept S) → ℕ → ℕ → Bool
  open_by arena size wanted None page index = false
  open_by arena size wanted (Some k) page index =
      (k.arena == arena) && (suits (class_at k.classes) size wanted page
      && (nat_lt index (places_of size) && is_vacant k.greatest
      (standing_at (records k.slots) (slot page index))))

  vacant_is : (st : Standing) (greatest : ℕ)
      → (is_home st && not (standing_generation st == greatest)) ≡ is_vacant greatest st
  vacant_is (Home g) greatest = refl
  vacant_is (Open g o) greatest = refl

  abbrev told : Policy → ℕ → ℕ → Option ℕ → Option Holding → ℕ → ℕ → Bool
  told policy arena size wanted o place segment =
      is_some o
      && (is_number arena (arena_of policy segment)
      && (suits (class_told o) size wanted (page_of place % 16)
      && (nat_lt (index_of place) (places_of size)
      && (is_home (standing_told o (place % 8192))
      && not (standing_generation (standing_told o (place % 8192)) == policy.max_generation)))))

  told_by : (policy : Policy) (segments : List (Kept S)) (arena size : ℕ) (wanted : Option ℕ)
      (place : ℕ) (o : Option (Kept S)) → AreOf number policy segments
      → segment_in number segments (segment_of place) ≡ o
      → told policy arena size wanted (option_map (holding number records) o) place
      (segment_of place) ≡ open_by arena size wanted o (page_of place % 16) (index_of place)
  told_by policy segments arena size wanted place None of e = refl
  told_by policy segments arena size wanted place (Some k) of e =
      let f = found_one segments (segment_of place) k e in
      let a : arena_of policy (segment_of place) ≡ Some k.arena =
      ap (arena_of policy) (sym f.1) ∙ of.arena k f.0 in
      let g = of.greatest k f.0 in
      let at : place % 8192 ≡ page_of place % 16 * 512 + index_of place = omega arith in
      ap (λ (o : Option ℕ). is_number arena o && (suits (class_at k.classes) size wanted (page_of place % 16)
      && (nat_lt (index_of place)
      (places_of size) && (is_home (standing_at (records k.slots) (place % 8192)) && not
      (standing_generation (standing_at (records k.slots) (place % 8192))
      == policy.max_generation))))) a
      ∙ ap (λ (n : ℕ). (k.arena == arena) && (suits (class_at k.classes) size wanted (page_of place % 16)
      && (nat_lt (index_of place)
      (places_of size) && (is_home (standing_at (records k.slots) (place % 8192)) && not
      (standing_generation (standing_at (records k.slots) (place % 8192)) == n))))) (sym g)
      ∙ ap (λ (b : Bool). (k.arena == arena) && (suits (class_at k.classes) size wanted (page_of place % 16)
      && (nat_lt (index_of place) (places_of size) && b)))
      (vacant_is (standing_at (records k.slots) (place % 8192)) k.greatest)
      ∙ ap (λ (n : ℕ). (k.arena == arena) && (suits (class_at k.classes) size wanted (page_of place % 16)
      && (nat_lt (index_of place) (places_of size) && is_vacant k.greatest
      (standing_at (records k.slots) n)))) at

  -- what the view tells of it
  pub open_is : (policy : Policy) (worker : ℕ) (hand : Option ℕ) (generation : ℕ)
      (segments : List (Kept S)) (arena size : ℕ) (wanted : Option ℕ) (place : ℕ)
      → AreOf number policy segments
      → is_open_to_in (heap_view number records policy worker hand generation segments) arena size
      wanted place
      ≡ open_by arena size wanted (segment_in number segments (segment_of place))
      (page_of place % 16) (index_of place)
  open_is policy worker hand generation segments arena size wanted place of =
      let same : segment_of_page (page_of place) ≡ segment_of place = omega arith in
      let hs = map (holding number records) segments in
      ap (λ (b : Bool). has hs
      (segment_of place) && (is_number arena (arena_of policy (segment_of place)) && (b
      && (nat_lt (index_of place)
      (places_of size) && (is_home (standing_told (holding_of hs (segment_of place)) (place % 8192))
      && not (standing_generation (standing_told (holding_of hs (segment_of place)) (place % 8192))
      == policy.max_generation))))))
      (suits_within (class_told (holding_of hs (segment_of place)))
      (λ page. class_told (holding_of hs (segment_of_page page)) (page % 16)) size wanted
      (page_of place)
      (λ q e. ap (λ s. class_told (holding_of hs s) (q % 16)) (e ∙ same)))
      ∙ ap (λ (o : Option Holding). told policy arena size wanted o place (segment_of place))
      (holding_in segments (segment_of place))
      ∙ told_by policy segments arena size wanted place
      (segment_in number segments (segment_of place)) of refl
