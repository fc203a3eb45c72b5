-- Laws of slot words, and of the order of the lives of a place.
use Rattle.std.specs.Prelude.{◌≡◌, ℕ, ◌+◌, ◌<◌, ◌^◌, ◌↔◌, Bool, true, false}
use Rattle.hg_place.specs.Words.{IsSlot, word_of}
use Rattle.hg_place.specs.Lives.{IsSlotWord, IsAtOrBefore}

-- a word is a slot's exactly where it is made of a generation of 32 bits, an owner and a life
abbrev pub SlotWordsArePacked : Type 0
SlotWordsArePacked =
    (word : ℕ)
    → IsSlotWord word
    ↔ ((generation : ℕ) × (owner : ℕ) × (live : Bool) × IsSlot generation owner live
    × (generation < 2 ^ 32) × (word ≡ word_of generation owner live))

-- the order of lives is one: each word is at or before itself, of three the first is before the
-- last where the second is between them, and two slot words that are before one another are one
pub record LivesAreOrdered : Type 0 where
  pub itself : (word : ℕ) → IsAtOrBefore word word
  pub between :
      (one other last : ℕ) → IsAtOrBefore one other → IsAtOrBefore other last
      → IsAtOrBefore one last
  pub apart :
      (one other : ℕ) → IsSlotWord one → IsSlotWord other → IsAtOrBefore one other
      → IsAtOrBefore other one → one ≡ other

-- the one is before the other, and the other not before the one
abbrev pub IsBefore : ℕ → ℕ → Type 0
IsBefore one other = IsAtOrBefore one other × ¬ IsAtOrBefore other one

-- a place goes forward from never given out to a first life, from a life to its end, and from there
-- to the next life, whoever owns it
pub record LivesGoForward : Type 0 where
  pub begins : (owner : ℕ) → owner < 64 → IsBefore 0 (word_of 1 owner true)
  pub ends :
      (generation owner : ℕ) → owner < 64
      → IsBefore (word_of generation owner true) (word_of generation owner false)
  pub begins_again :
      (generation owner next : ℕ) → owner < 64 → next < 64
      → IsBefore (word_of generation owner false) (word_of (generation + 1) next true)
