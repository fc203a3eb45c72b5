-- What a slot word says of the life at its place, by arithmetic, and the order of the lives of one
-- place: never given out, first live, first freed, second live, and so on.
use Rattle.std.specs.Prelude.{◌≡◌, ℕ, ◌/◌, ◌%◌, ◌<◌, ◌≤◌, ◌^◌, true}
use Rattle.hg_place.specs.Words.{word_of}

-- the generation, the owner, and 1 where the block lives
abbrev pub word_generation : ℕ → ℕ
word_generation word = word / 2 ^ 32

abbrev pub word_owner : ℕ → ℕ
word_owner word = word % 2 ^ 32 / 2

abbrev pub word_life : ℕ → ℕ
word_life word = word % 2

-- a word of 64 bits with nothing between the generation and the owner; without a generation it is 0
abbrev pub IsSlotWord : ℕ → Type 0
IsSlotWord word = (word < 2 ^ 64) × (word % 2 ^ 32 < 128) × (word < 2 ^ 32 → word ≡ 0)

-- the word of a live block
abbrev pub IsLiveWord : ℕ → Type 0
IsLiveWord word = IsSlotWord word × (word_life word ≡ 1)

abbrev pub live_word : ℕ → ℕ → ℕ
live_word generation owner = word_of generation owner true

-- of two words of one place the first is at or before the second: its generation is less, or both
-- are of one life, which isn't over in the first and alive in the second
abbrev pub IsAtOrBefore : ℕ → ℕ → Type 0
IsAtOrBefore one other =
    (word_generation one ≤ word_generation other)
    × (word_generation one ≡ word_generation other
    → (word_owner one ≡ word_owner other) × (word_life other ≤ word_life one))
