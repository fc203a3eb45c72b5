-- A live block of a segment is parted: the slot word of its place is one less.
use Rattle.std.proofs.Common.{◌≡◌, ◌≢◌, ℕ, ◌-◌, ◌<◌, true, false, not, List, length, slice_set}
use Rattle.std.proofs.Common.{slice_index_or, refl, sym, ap, ◌∙◌, inl, inr}
use Rattle.std.specs.Prelude.{Some, slice_index}
use Rattle.std.proofs.lemmas.Bool.{cases_Bool, true≢false}
use Rattle.std.proofs.lemmas.List.{get_or-set_same, get_or-set_other}
use Rattle.hg_place.specs.declared.standing.Standing.{Standing}
use Rattle.hg_place.specs.declared.standing.Standing.TheVariants.{Home, Open}
use Rattle.hg_place.specs.Lives.{IsSlotWord}
use Rattle.hg_place.specs.Slots.{slot_in}
use Rattle.hg_place.specs.Standings.{Fits, standing_at, standing_generation, is_home as is_at_home}
use Rattle.hg_machine.specs.Changes.{part}
use Rattle.hg_machine.specs.Life.{Life, Record, is_live, is_parted}
use Rattle.hg_machine.specs.Policy.{Policy}
use Rattle.hg_agreement.specs.Holdings.{block_of}
use Rattle.hg_agreement.specs.Parts.{Plain, record_by}
use Rattle.hg_agreement.specs.Witness.{held_life}
use Rattle.hg_agreement.proofs.Closes.{closed}
use Rattle.hg_agreement.proofs.FitWords.{fit_word}
use Rattle.hg_parts.specs.Rights.{IsSegmentRight}
use Rattle.hg_parts.proofs.Links.{lives_told}

-- the segment with the word before that of this place
abbrev pub parted_at : Plain → ℕ → Plain
parted_at one at =
    record one { slots = slice_set one.slots at (slice_index_or one.slots at 0 - 1) }

-- each of its slot words is one that fits the record of its place
abbrev pub Fit : Plain → ℕ → Type 0
Fit one at =
    IsSlotWord (slice_index one.slots at)
    × Fits (standing_at one.holding.standings at) (slice_index one.slots at)

-- it is right
pub parted_right : (policy : Policy) (one : Plain) (at : ℕ) → IsSegmentRight policy one
    → ((other : ℕ) → other < 8192 → Fit (parted_at one at) other)
    → IsSegmentRight policy (parted_at one at)
parted_right policy one at right fits = record {
  arena = right.arena;
  greatest = right.greatest;
  holding = right.holding;
  lists = right.lists;
  listed = right.listed;
  fits = fits;
}

-- what is told of a place, by its slot word
abbrev told : Plain → ℕ → ℕ → Record
told one at word = record {
  generation = standing_generation (standing_at one.holding.standings at);
  life = held_life (not (slot_in word).live) (standing_at one.holding.standings at)
      (block_of one.holding at);
}

-- of the other places it tells the same
pub parted_others : (one : Plain) (at other : ℕ) → other ≢ at
    → record_by (Some (parted_at one at)) other ≡ record_by (Some one) other
parted_others one at other ne =
    ap (told one other)
    (get_or-set_other one.slots at other (slice_index_or one.slots at 0 - 1) 0 ne)

open_live : (st : Standing) (words : List ℕ) → is_at_home st ≡ false
    → held_life true st words ≡ part (held_life false st words)
open_live (Home g) words out = absurd (true≢false out)
open_live (Open g o) words out = refl

module _ (policy : Policy) (one : Plain) (at : ℕ) (right : IsSegmentRight policy one)
    (low : at < 8192) (inside : at < length one.slots)
    (alive : (slot_in (slice_index_or one.slots at 0)).live ≡ true) where
  abbrev st : Standing
  st = standing_at one.holding.standings at

  -- the place of a live word is open
  is_open : is_at_home st ≡ false
  is_open = elim (cases_Bool (is_at_home st)) [
    | inl home ↦ absurd (true≢false
        (sym alive ∙ (fit_word st (slice_index_or one.slots at 0) (right.fits at low)).freed home))
    | inr away ↦ away
  ]

  word_now : slice_index_or (parted_at one at).slots at 0 ≡ slice_index_or one.slots at 0 - 1
  word_now = get_or-set_same one.slots at (slice_index_or one.slots at 0 - 1) 0 inside

  dead : (slot_in (slice_index_or (parted_at one at).slots at 0)).live ≡ false
  dead =
      ap (λ w. (slot_in w).live) word_now
      ∙ ap (λ s. s.live) (closed (slice_index_or one.slots at 0) alive)

  -- its block was live, and is parted
  pub was_live : is_live (record_by (Some one) at).life ≡ true
  was_live = (lives_told one at).live is_open alive

  pub now_parted : is_parted (record_by (Some (parted_at one at)) at).life ≡ true
  now_parted = (lives_told (parted_at one at) at).parted is_open dead

  -- in the same life
  pub parted_record : record_by (Some (parted_at one at)) at
      ≡ record {
        generation = (record_by (Some one) at).generation;
        life = part (record_by (Some one) at).life;
      }
  parted_record =
      let words = block_of one.holding at in
      let build : Life → Record = λ life. record {
        generation = standing_generation st;
        life = life;
      } in
      ap (λ b. build (held_life (not b) st words)) dead
      ∙ ap build (open_live st words is_open)
      ∙ sym (ap (λ b. build (part (held_life (not b) st words))) alive)
