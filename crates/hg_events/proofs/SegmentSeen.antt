-- What a state that agrees with a heap has of a segment of it.
use Rattle.std.proofs.Common.{◌≡◌, ℕ, ◌+◌, ◌*◌, ◌%◌, ◌==◌, ◌<◌, true, false, cond, List, [], ◌∷◌}
use Rattle.std.proofs.Common.{map, refl, ap, ◌∙◌, arith, is_some}
use Rattle.std.specs.Prelude.{Option, Some, option_map}
use Rattle.hg_place.specs.declared.plain.PlainWords.{PlainWords}
use Rattle.hg_place.specs.Places.{segment_of, segment_of_page}
use Rattle.hg_place.specs.Plain.{plain_records}
use Rattle.hg_place.specs.Standings.{standing_at}
use Rattle.hg_segment.specs.Kept.{Kept}
use Rattle.hg_segment.specs.Parted.{plain_number}
use Rattle.hg_machine.specs.Life.{contents_of}
use Rattle.hg_machine.specs.Policy.{Policy}
use Rattle.hg_machine.specs.State.{State, record_at, class_at}
use Rattle.hg_heap.specs.Held.{segment_in}
use Rattle.hg_heap.specs.Ties.{holding, heap_view}
use Rattle.hg_agreement.specs.Agreement.{standing_of, Agrees}
use Rattle.hg_agreement.specs.Holdings.{Holding, block_of, class_of, holding_of, has, class_told}
use Rattle.hg_agreement.specs.Holdings.{standing_told, block_told}
use Rattle.hg_agreement.specs.Views.{Shown}

-- what is kept of a segment
abbrev pub kept : Kept PlainWords → Holding
kept = holding plain_number plain_records

-- what is told of the segment of a number
held_told : (xs : List (Kept PlainWords)) (n : ℕ) → holding_of (map kept xs) n
    ≡ option_map kept (segment_in plain_number xs n)
held_told [] n = refl
held_told (x ∷ xs) n = elim (x.slots.segment == n) as (λ b. cond b (Some (kept x))
    (holding_of (map kept xs) n)
    ≡ option_map kept (cond b (Some x) (segment_in plain_number xs n))) [
      | true ↦ refl
      | false ↦ held_told xs n
    ]

-- a state has the standings and blocks of a segment's places and the classes of its pages
pub record AreSeen (m : State) (one : Kept PlainWords) : Type 0 where
  pub standings :
      (at : ℕ) → at < 8192
      → standing_of (record_at m (plain_number one.slots * 8192 + at))
      ≡ standing_at (plain_records one.slots) at
  pub blocks :
      (at : ℕ) → at < 8192
      → contents_of (record_at m (plain_number one.slots * 8192 + at)).life
      ≡ block_of (kept one) at
  pub classes :
      (page : ℕ) → page < 16
      → class_at m (plain_number one.slots * 16 + page) ≡ class_of (kept one) page

-- so it is of a segment of a heap with which the state agrees
module _ {m : State} (policy : Policy) (worker : ℕ) (hand : Option ℕ)
    (segments : List (Kept PlainWords)) {shown : Option Shown}
    (agrees :
    Agrees m (heap_view plain_number plain_records policy worker hand 0 segments) shown)
    {one : Kept PlainWords}
    (there : segment_in plain_number segments (plain_number one.slots) ≡ Some one) where
  abbrev its : ℕ
  its = plain_number one.slots

  held : holding_of (map kept segments) its ≡ Some (kept one)
  held = held_told segments its ∙ ap (option_map kept) there

  is_there : (segment : ℕ) → segment ≡ its → has (map kept segments) segment ≡ true
  is_there segment e = ap (has (map kept segments)) e ∙ ap is_some held

  pub seen : AreSeen m one
  seen = record {
    standings = λ at low.
        let place = its * 8192 + at in
        let s : segment_of place ≡ its = omega (arith, low) in
        let r : place % 8192 ≡ at = omega (arith, low) in
        agrees.standings place (is_there (segment_of place) s)
        ∙ ap (λ n. standing_told (holding_of (map kept segments) n) (place % 8192)) s
        ∙ ap (λ o. standing_told o (place % 8192)) held
        ∙ ap (standing_at (plain_records one.slots)) r;
    blocks = λ at low.
        let place = its * 8192 + at in
        let s : segment_of place ≡ its = omega (arith, low) in
        let r : place % 8192 ≡ at = omega (arith, low) in
        agrees.blocks place (is_there (segment_of place) s)
        ∙ ap (λ n. block_told (holding_of (map kept segments) n) (place % 8192)) s
        ∙ ap (λ o. block_told o (place % 8192)) held
        ∙ ap (block_of (kept one)) r;
    classes = λ page low.
        let number = its * 16 + page in
        let s : segment_of_page number ≡ its = omega (arith, low) in
        let r : number % 16 ≡ page = omega (arith, low) in
        agrees.classes number (is_there (segment_of_page number) s)
        ∙ ap (λ n. class_told (holding_of (map kept segments) n) (number % 16)) s
        ∙ ap (λ o. class_told o (number % 16)) held
        ∙ ap (class_of (kept one)) r;
  }
