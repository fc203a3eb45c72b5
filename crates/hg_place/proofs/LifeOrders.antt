-- Slot words and the order of lives, by arithmetic.
use Rattle.std.proofs.Common.{◌≡◌, ℕ, ◌+◌, ◌*◌, ◌/◌, ◌%◌, ◌<◌, ◌≤◌, ◌^◌, Bool, true, false, arith, refl, sym, ◌∙◌, zero, suc}
use Rattle.std.proofs.lemmas.Bool.{true≢false}
use Rattle.hg_place.specs.Words.{IsSlot, word_of, bit_of}
use Rattle.hg_place.specs.Lives.{IsSlotWord, IsAtOrBefore, word_generation, word_owner, word_life}
use Rattle.hg_place.specs.LifeOrderLaws.{LivesAreOrdered, LivesGoForward, IsBefore}

-- a live slot has a generation
some_generation : (generation : ℕ) → (generation ≡ 0 → true ≡ false) → 1 ≤ generation
some_generation zero dead = absurd (true≢false (dead refl))
some_generation (suc n) dead = omega arith

-- a slot's word
packed_live : (generation owner word : ℕ) → 1 ≤ generation → owner < 64 → generation < 2 ^ 32 → word ≡ generation * 2 ^ 32 + owner * 2 + 1 → IsSlotWord word
packed_live generation owner word g o f e = (omega arith, omega arith, λ h. omega arith)

packed_freed : (generation owner word : ℕ) → (generation ≡ 0 → owner ≡ 0) → owner < 64 → generation < 2 ^ 32 → word ≡ generation * 2 ^ 32 + owner * 2 + 0 → IsSlotWord word
packed_freed generation owner word z o f e = (omega arith, omega arith, λ h. omega arith)

pub packed : (generation owner : ℕ) (live : Bool) (word : ℕ) → IsSlot generation owner live → generation < 2 ^ 32 → word ≡ word_of generation owner live → IsSlotWord word
packed generation owner true word s f e =
    let some : 1 ≤ generation = some_generation generation s.no_life in
    packed_live generation owner word some s.owner_below f e
packed generation owner false word s f e = packed_freed generation owner word s.no_owner s.owner_below f e

-- a slot word's parts make it: its low bit is its life
made : (word : ℕ) → word ≡ word / 2 ^ 32 * 2 ^ 32 + word % 2 ^ 32 / 2 * 2 + word % 2
made word = omega arith

between : (one other last : ℕ) → IsAtOrBefore one other → IsAtOrBefore other last → word_generation one ≡ word_generation last → (word_owner one ≡ word_owner last) × (word_life last ≤ word_life one)
between one other last a b same =
    let first : word_generation one ≡ word_generation other = omega arith in
    let second : word_generation other ≡ word_generation last = omega arith in
    let x = a.1 first in
    let y = b.1 second in
    (omega arith, omega arith)

apart : (one other : ℕ) → IsSlotWord one → IsSlotWord other → IsAtOrBefore one other → IsAtOrBefore other one → one ≡ other
apart one other s t a b =
    let first : word_generation one ≡ word_generation other = omega arith in
    let second : word_generation other ≡ word_generation one = omega arith in
    let x = a.1 first in
    let y = b.1 second in
    let u = made one in
    let v = made other in
    omega arith

pub ordered : LivesAreOrdered
ordered = record {
  itself = λ word. (omega arith, λ _. (refl, omega arith));
  between = λ one other last a b. (omega arith, λ same. between one other last a b same);
  apart = λ one other s t a b. apart one other s t a b;
}

-- the parts of a slot word are a slot's
life_bit : (n : ℕ) → n < 2 → (b : Bool) × (bit_of b ≡ n)
life_bit zero below = (false, refl)
life_bit (suc zero) below = (true, refl)
life_bit (suc (suc n)) below = absurd (omega arith)

no_life_at_0 : (live : Bool) (word : ℕ) → bit_of live ≡ word % 2 → (word < 2 ^ 32 → word ≡ 0) → word / 2 ^ 32 ≡ 0 → live ≡ false
no_life_at_0 true word e zero_word none = absurd (let none_at : word ≡ 0 = zero_word (omega arith) in omega arith)
no_life_at_0 false word e zero_word none = refl

pub unpacked : (word : ℕ) → IsSlotWord word → (generation : ℕ) × (owner : ℕ) × (live : Bool) × IsSlot generation owner live × (generation < 2 ^ 32) × (word ≡ word_of generation owner live)
unpacked word s =
    let bit = life_bit (word % 2) (omega arith) in
    let low = s.1 in
    let zero_word = s.2 in
    let m = made word in
    let e = bit.1 in (
      word / 2 ^ 32,
      word % 2 ^ 32 / 2,
      bit.0,
      record {
        owner_below = omega arith;
        no_owner = λ none. (let none_at : word ≡ 0 = zero_word (omega arith) in omega arith);
        no_life = λ none. no_life_at_0 bit.0 word bit.1 zero_word none;
      },
      omega arith,
      omega arith,
    )

-- goes forward: the generation is less, or a life is over that wasn't
up : (one other : ℕ) → word_generation one < word_generation other → IsBefore one other
up one other h = ((omega arith, λ same. absurd (omega arith)), λ back. absurd (let b = back.0 in omega arith))

over : (one other : ℕ) → word_generation one ≡ word_generation other → word_owner one ≡ word_owner other → word_life one ≡ 1 → word_life other ≡ 0 → IsBefore one other
over one other g o l d =
    ((omega arith, λ same. (o, omega arith)), λ back. absurd (let x = back.1 (omega arith) in let y = x.1 in omega arith))

generation_is : (generation owner life : ℕ) → owner < 64 → life < 2 → (generation * 2 ^ 32 + owner * 2 + life) / 2 ^ 32 ≡ generation
generation_is generation owner life o l = omega arith

owner_is : (generation owner life : ℕ) → owner < 64 → life < 2 → (generation * 2 ^ 32 + owner * 2 + life) % 2 ^ 32 / 2 ≡ owner
owner_is generation owner life o l = omega arith

life_is : (generation owner life : ℕ) → owner < 64 → life < 2 → (generation * 2 ^ 32 + owner * 2 + life) % 2 ≡ life
life_is generation owner life o l = omega arith

pub forward : LivesGoForward
forward = record {
  begins = λ owner o. up 0 (word_of 1 owner true) (let g = generation_is 1 owner 1 o (omega arith) in omega arith);
  ends = λ generation owner o. over (word_of generation owner true) (word_of generation owner false)
      (generation_is generation owner 1 o (omega arith) ∙ sym (generation_is generation owner 0 o (omega arith)))
      (owner_is generation owner 1 o (omega arith) ∙ sym (owner_is generation owner 0 o (omega arith)))
      (life_is generation owner 1 o (omega arith))
      (life_is generation owner 0 o (omega arith));
  begins_again = λ generation owner next o n. up (word_of generation owner false) (word_of (generation + 1) next true)
      (let a = generation_is generation owner 0 o (omega arith) in let b = generation_is (generation + 1) next 1 n (omega arith) in omega arith);
}
