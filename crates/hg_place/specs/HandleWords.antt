-- A handle as one word, and a place as one number.
use Rattle.std.specs.Prelude.{◌≡◌, ℕ, ◌+◌, ◌*◌, ◌/◌, ◌%◌, ◌^◌, ◌<◌, ◌&&◌, ◌↔◌, Bool, nat_lt}
use Rattle.std.specs.Prelude.{Option, Some}
use Rattle.hg_place.specs.declared.Handle.{Handle}
use Rattle.hg_place.specs.declared.geometry.TheConstants.{MAX_SEGMENTS, SEGMENT_PLACES}
use Rattle.hg_place.specs.Places.{number_of}

-- the number of the place in the upper 32 bits, the generation in the lower
abbrev pub handle_word : Handle → ℕ
handle_word handle = number_of handle.place * 2 ^ 32 + handle.generation

-- some place has this number
abbrev pub is_place : ℕ → Bool
is_place number = nat_lt number (MAX_SEGMENTS * SEGMENT_PLACES)

-- some handle has this word: no generation is 0
abbrev pub is_handle : ℕ → Bool
is_handle word = is_place (word / 2 ^ 32) && nat_lt 0 (word % 2 ^ 32)

-- a handle whose generation has 32 bits is read exactly where the word is its word
abbrev pub ReadsWord : ℕ → Option Handle → Type 0
ReadsWord word result =
    (handle : Handle) → handle.generation < 2 ^ 32
    → (result ≡ Some handle) ↔ (word ≡ handle_word handle)
