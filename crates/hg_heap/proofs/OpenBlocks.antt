-- What is told of a block by the records, words and classes of a segment, and by the word of its
-- place.
use Rattle.std.proofs.Common.{◌≡◌, ℕ, ◌+◌, ◌*◌, ◌/◌, ◌%◌, ◌<◌, true, false, List, []}
use Rattle.std.proofs.Common.{refl, sym, ap, subst, ◌∙◌, arith, Option, Some}
use Rattle.std.proofs.Common.{inl, inr}
use Rattle.std.proofs.lemmas.Bool.{true≢false, cases_Bool}
use Rattle.hg_place.specs.declared.standing.Standing.{Standing}
use Rattle.hg_place.specs.declared.standing.Standing.TheVariants.{Home, Open}
use Rattle.hg_place.specs.Standings.{standing_at, is_home, Fits}
use Rattle.hg_place.specs.Slots.{slot_in}
use Rattle.hg_place.specs.Lives.{IsSlotWord, word_generation, word_owner}
use Rattle.hg_segment.specs.Kept.{Kept}
use Rattle.hg_segment.specs.Blocks.{block_at}
use Rattle.hg_agreement.specs.Holdings.{block_by, block_of}
use Rattle.hg_agreement.proofs.FitWords.{fit_word}
use Rattle.hg_heap.specs.Ties.{holding}

-- a home place has no words
home_block : (standing : Standing) (words : List ℕ) → is_home standing ≡ true
    → block_by standing words ≡ []
home_block (Home g) words e = refl
home_block (Open g o) words e = absurd (true≢false (sym e))

-- an open place has those of its block
open_block : (standing : Standing) (words : List ℕ) → is_home standing ≡ false
    → block_by standing words ≡ words
open_block (Home g) words e = absurd (true≢false e)
open_block (Open g o) words e = refl

module _ {S : Type 0} (number : S → ℕ) (records : S → List Standing) (k : Kept S) (page index : ℕ)
    (small : index < 512) where
  page_is : (page * 512 + index) / 512 ≡ page
  page_is = omega (arith, small)

  index_is : (page * 512 + index) % 512 ≡ index
  index_is = omega (arith, small)

  -- the block of an open place
  pub block_is : is_home (standing_at (records k.slots) (page * 512 + index)) ≡ false
      → block_of (holding number records k)
      (page * 512 + index) ≡ block_at k.words k.classes page index
  block_is away =
      open_block (standing_at (records k.slots) (page * 512 + index))
      (block_at k.words k.classes ((page * 512 + index) / 512) ((page * 512 + index) % 512))
      away
      ∙ ap (λ (n : ℕ). block_at k.words k.classes n ((page * 512 + index) % 512)) page_is
      ∙ ap (λ (n : ℕ). block_at k.words k.classes page n) index_is

  pub none_at_home : is_home (standing_at (records k.slots) (page * 512 + index)) ≡ true
      → block_of (holding number records k) (page * 512 + index) ≡ []
  none_at_home home = home_block (standing_at (records k.slots) (page * 512 + index))
      (block_at k.words k.classes ((page * 512 + index) / 512) ((page * 512 + index) % 512)) home

-- a live word that fits its record is of an open place
pub live_open : (standing : Standing) (word : ℕ) → IsSlotWord word → Fits standing word
    → (slot_in word).live ≡ true → is_home standing ≡ false
live_open standing word slot fits alive =
    elim (cases_Bool (is_home standing)) as (λ _. is_home standing ≡ false) [
      | inl home ↦ absurd (true≢false (sym alive ∙
          (fit_word standing word (slot, fits)).freed home))
      | inr away ↦ away
    ]

-- what such a word says is what its parts are
pub generation_read : (standing : Standing) (word : ℕ) → IsSlotWord word → Fits standing word
    → (slot_in word).generation ≡ word_generation word
generation_read standing word slot fits = (fit_word standing word (slot, fits)).generation
    ∙ sym fits.generation

pub owner_read : (standing : Standing) (word : ℕ) → IsSlotWord word → Fits standing word
    → is_home standing ≡ false → (slot_in word).owner ≡ word_owner word
owner_read standing word slot fits away = (fit_word standing word (slot, fits)).owner away
    ∙ sym (fits.owner away)

-- a class is one
pub same_size : (class : Option ℕ) (size other index : ℕ) → class ≡ Some size → index < size
    → class ≡ Some other → index < other
same_size class size other index one lt two =
    let e : Some size ≡ Some other = sym one ∙ two in
    let same : size ≡ other = cc in
    subst (λ (n : ℕ). index < n) same lt
