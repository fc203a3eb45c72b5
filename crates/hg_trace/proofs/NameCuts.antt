-- Names at the front of a text.
use Rattle.std.proofs.Common.{◌≡◌, ℕ, ◌+◌, suc, not, Bool, true, false, ◌&&◌, Option, Some, Ok, Err, List, [], ◌∷◌, length, take, drop, ltb, refl, sym, ap, ◌∙◌, inl, inr, arith}
use Rattle.std.specs.Prelude.{position, unwrap_or}
use Rattle.std.specs.List.{list_all, position_or_len, before_first}
use Rattle.std.proofs.lemmas.Bool.{cases_Bool}
use Rattle.std.proofs.lemmas.Bool.Decides.{nat_tests}
use Rattle.std.proofs.lemmas.List.{take_rest}
use Rattle.std.proofs.lemmas.List.Folds.{length-prefix_len}
use Rattle.hg_policy_text.specs.NameForm.{is_lower, is_name_byte, is_name}
use Rattle.hg_trace.specs.declared.fault.LineFault.TheVariants as fault
use Rattle.hg_trace.specs.Lines.{is_blank, split_words}
use Rattle.hg_trace.specs.NameFront.{ends_word, fits_name}
use Rattle.hg_trace.specs.Operands.{name_operand}
use Rattle.hg_trace.proofs.Firsts.{unwrap_or_position}
use Rattle.hg_trace.proofs.WordCuts.{word_len, split_words-next}

one_more : (n : ℕ) → 1 + n ≡ suc n
one_more n = omega arith

-- how many bytes of a name stand in front
abbrev pub name_len : List ℕ → ℕ
name_len bs = position_or_len (λ b. not (is_name_byte b)) bs

no_blank : (b : ℕ) → is_name_byte b ≡ true → is_blank b ≡ false
no_blank b h = grind (arith, nat_tests)

-- where a word ends behind them, they are all of it
pub whole_word : (bs : List ℕ) → ends_word (drop (name_len bs) bs) ≡ true → name_len bs ≡ word_len bs
whole_word [] h = refl
whole_word (b ∷ bs) h =
    elim (cases_Bool (is_name_byte b)) [
      | inl e ↦
          let more = rw (e, one_more (name_len bs)) at h in
          rw (e, no_blank b e) (ap (λ n. 1 + n) (whole_word bs more))
      | inr e ↦ let blank = rw e at h in rw (e, blank) refl
    ]

pub all_of_name : (bs : List ℕ) → list_all is_name_byte (take (name_len bs) bs) ≡ true
all_of_name [] = refl
all_of_name (b ∷ bs) =
    elim (cases_Bool (is_name_byte b)) [
      | inl e ↦ rw (e, one_more (name_len bs)) (rw e (all_of_name bs))
      | inr e ↦ rw e refl
    ]

-- and else the word has another byte
pub other_byte : (bs : List ℕ) → ends_word (drop (name_len bs) bs) ≡ false → list_all is_name_byte (take (word_len bs) bs) ≡ false
other_byte [] h = absurd (cc)
other_byte (b ∷ bs) h =
    elim (cases_Bool (is_name_byte b)) [
      | inl e ↦
          let more = rw (e, one_more (name_len bs)) at h in
          rw (no_blank b e, one_more (word_len bs)) (rw e (other_byte bs more))
      | inr e ↦
          let here = rw e at h in
          rw (here, one_more (word_len bs)) (rw e refl)
    ]

lower_is_byte : (b : ℕ) → is_name_byte b ≡ false → is_lower b ≡ false
lower_is_byte b h = grind (arith, nat_tests)

-- a name is what fits, of a name's bytes alone
pub is_name-fits : (word : List ℕ) → list_all is_name_byte word ≡ true → is_name word ≡ fits_name word
is_name-fits [] h = refl
is_name-fits (b ∷ bs) h =
    elim (cases_Bool (is_name_byte b)) [
      | inl e ↦ let all = rw e at h in rw all (drop_true (is_lower b) (ltb (length bs) 16))
      | inr e ↦ let no = rw e at h in absurd (cc)
    ]
  where
    drop_true : (a c : Bool) → a && (c && true) ≡ a && c
    drop_true true true = refl
    drop_true true false = refl
    drop_true false c = refl

pub is_name-other : (word : List ℕ) → list_all is_name_byte word ≡ false → is_name word ≡ false
is_name-other [] h = absurd (cc)
is_name-other (b ∷ bs) h =
    elim (cases_Bool (is_name_byte b)) [
      | inl e ↦ let all = rw e at h in rw all (none (is_lower b) (ltb (length bs) 16))
      | inr e ↦ rw (lower_is_byte b e) refl
    ]
  where
    none : (a c : Bool) → a && (c && false) ≡ false
    none true true = refl
    none true false = refl
    none false c = refl

-- bytes up to the first that no name has, where a word ends behind them
pub front_is : (text : List ℕ) → ends_word (drop (name_len text) text) ≡ true → fits_name (take (name_len text) text) ≡ true
    → (is_name (take (name_len text) text) ≡ true) × (take (name_len text) text ≡ before_first is_blank text)
front_is text ends fits = (is_name-fits (take (name_len text) text) (all_of_name text) ∙ fits, ap (λ n. take n text) (whole_word text ends))

pub front_not_fits : (text : List ℕ) → ends_word (drop (name_len text) text) ≡ true → fits_name (take (name_len text) text) ≡ false
    → is_name (before_first is_blank text) ≡ false
front_not_fits text ends other =
    ap (λ n. is_name (take n text)) (sym (whole_word text ends)) ∙ is_name-fits (take (name_len text) text) (all_of_name text) ∙ other

-- or where it goes on
pub front_goes_on : (text : List ℕ) → ends_word (drop (name_len text) text) ≡ false → is_name (before_first is_blank text) ≡ false
front_goes_on text on = is_name-other (take (word_len text) text) (other_byte text on)

-- a text cut there
pub cut_there : (text front back : List ℕ) (place : Option ℕ) (end : ℕ) → place ≡ position (λ b. not (is_name_byte b)) text → end ≡ unwrap_or place (length text)
    → front ≡ take end text → back ≡ drop end text → (front ≡ take (name_len text) text) × (back ≡ drop (name_len text) text)
cut_there text front back place end found ends cut left =
    let is : end ≡ name_len text = ends ∙ ap (λ p. unwrap_or p (length text)) found ∙ unwrap_or_position (λ b. not (is_name_byte b)) text in
    (cut ∙ ap (λ n. take n text) is, left ∙ ap (λ n. drop n text) is)

-- the first word of a text, and the words of what follows it
pub split_words-front : (rest word : List ℕ) (start : ℕ) → Some start ≡ position (λ b. not (is_blank b)) rest → word ≡ drop start rest
    → split_words rest ≡ before_first is_blank word ∷ split_words (drop (word_len word) word)
split_words-front rest word start found cut =
    rw (take_rest word (word_len word)) at (split_words-next rest word start (word_len word) found cut (sym (unwrap_or_position is_blank word)))

-- as an operand
module _ (rest word : List ℕ) (start : ℕ) (found : Some start ≡ position (λ b. not (is_blank b)) rest) (cut : word ≡ drop start rest) where
  pub name_in_front : (name left : List ℕ) → is_name name ≡ true → name ≡ before_first is_blank word → left ≡ drop (length name) word
      → name_operand (split_words rest) ≡ Ok (name, split_words left)
  name_in_front name left is front behind =
      let len : length name ≡ word_len word = ap length front ∙ length-prefix_len (λ b. not (is_blank b)) word in
      let words : split_words rest ≡ name ∷ split_words left =
      split_words-front rest word start found cut ∙ ap (λ w. w ∷ split_words (drop (word_len word) word)) (sym front)
      ∙ ap (λ t. name ∷ split_words t) (sym (behind ∙ ap (λ n. drop n word) len)) in
      ap name_operand words ∙ rw is refl

  pub no_name_in_front : is_name (before_first is_blank word) ≡ false → name_operand (split_words rest) ≡ Err fault.Operand
  no_name_in_front other = ap name_operand (split_words-front rest word start found cut) ∙ rw other refl
