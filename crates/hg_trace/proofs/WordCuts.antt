-- Where words are cut.
use Rattle.std.proofs.Common.{◌≡◌, ℕ, ◌+◌, ◌<◌, suc, not, Some, ◌-◌, List, [], ◌∷◌, length, take, drop, refl, ap, sym, ◌∙◌, inl, inr, arith}
use Rattle.std.specs.List.{filter, slice_split, onto_first, position_or_len}
use Rattle.std.specs.Prelude.{position, unwrap_or}
use Rattle.std.proofs.lemmas.List.{take_rest}
use Rattle.std.proofs.lemmas.Bool.{cases_Bool}
use Rattle.std.proofs.lemmas.List.Folds.{length-prefix_len}
use Rattle.hg_trace.proofs.Firsts.{position_some, unwrap_or_position}
use Rattle.hg_trace.specs.Lines.{split_words, is_blank, is_some_word}

one_more : (n : ℕ) → 1 + n ≡ suc n
one_more n = omega arith

-- how many blanks stand in front, and how many bytes before the first blank
abbrev pub blanks : List ℕ → ℕ
blanks bs = position_or_len (λ b. not (is_blank b)) bs

abbrev pub word_len : List ℕ → ℕ
word_len bs = position_or_len is_blank bs

-- blanks before the words mean nothing
pub split_words-start : (bs : List ℕ) → split_words bs ≡ split_words (drop (blanks bs) bs)
split_words-start [] = refl
split_words-start (b ∷ bs) =
    elim (cases_Bool (is_blank b)) [
      | inl e ↦ rw (e, one_more (blanks bs)) (split_words-start bs)
      | inr e ↦ let here : 0 ≡ blanks (b ∷ bs) = rw e refl in ap (λ n. split_words (drop n (b ∷ bs))) here
    ]

-- behind them stands a word
pub starts_word : (bs : List ℕ) → blanks bs < length bs → 0 < word_len (drop (blanks bs) bs)
starts_word [] h = absurd (omega arith)
starts_word (b ∷ bs) h =
    let rest = starts_word bs in
    elim (cases_Bool (is_blank b)) [
      | inl e ↦ let within = rw e at h in rw (e, one_more (blanks bs)) (rest (omega arith))
      | inr e ↦
          let here : 0 ≡ blanks (b ∷ bs) = rw e refl in
          let word : 0 < word_len (b ∷ bs) = rw e (omega arith) in
          rw (← here) word
    ]

-- the first piece, and the words of what follows
pub split_at_word : (bs : List ℕ) → (parts : List (List ℕ)) × (slice_split is_blank bs ≡ take (word_len bs) bs ∷ parts)
    × (filter is_some_word parts ≡ split_words (drop (word_len bs) bs))
split_at_word [] = ([], refl, refl)
split_at_word (b ∷ bs) =
    let (parts, cut, words) = split_at_word bs in
    elim (cases_Bool (is_blank b)) [
      | inl e ↦
          let here : 0 ≡ word_len (b ∷ bs) = rw e refl in
          let blank : split_words (b ∷ bs) ≡ split_words bs = rw e refl in
          (slice_split is_blank bs, rw e refl, sym blank ∙ ap (λ n. split_words (drop n (b ∷ bs))) here)
      | inr e ↦ (parts, rw (e, one_more (word_len bs)) (ap (onto_first b) cut), rw (e, one_more (word_len bs)) words)
    ]

kept : (word : List ℕ) (parts : List (List ℕ)) → 0 < length word → filter is_some_word (word ∷ parts) ≡ word ∷ filter is_some_word parts
kept [] parts some = absurd (omega arith)
kept (b ∷ bs) parts some = refl

-- a word at the front is the first, and the others are those of what follows
pub split_words-word : (bs : List ℕ) → 0 < word_len bs → split_words bs ≡ take (word_len bs) bs ∷ split_words (drop (word_len bs) bs)
split_words-word bs some =
    let (parts, cut, words) = split_at_word bs in
    let long : 0 < length (take (word_len bs) bs) = omega (arith, length-prefix_len (λ b. not (is_blank b)) bs) in
    ap (filter is_some_word) cut ∙ kept (take (word_len bs) bs) parts long ∙ ap (λ ws. take (word_len bs) bs ∷ ws) words

-- where all are blanks there are none
pub split_words-blanks : (bs : List ℕ) → blanks bs ≡ length bs → split_words bs ≡ []
split_words-blanks [] h = refl
split_words-blanks (b ∷ bs) h =
    let rest = split_words-blanks bs in
    elim (cases_Bool (is_blank b)) [
      | inl e ↦ let here = rw e at h in rw e (rest (omega arith))
      | inr e ↦ let here = rw e at h in absurd (omega arith)
    ]

-- the next word, and the words that are left
pub split_words-next : (rest word : List ℕ) (start end : ℕ) → Some start ≡ position (λ b. not (is_blank b)) rest → word ≡ drop start rest
    → end ≡ unwrap_or (position is_blank word) (length word) → split_words rest ≡ take end word ∷ split_words (take (length word - end) (drop end word))
split_words-next rest word start end found cut ends =
    let first = position_some (λ b. not (is_blank b)) rest start found in
    let here : word ≡ drop (blanks rest) rest = cut ∙ ap (λ n. drop n rest) first.0 in
    let len : end ≡ word_len word = ends ∙ unwrap_or_position is_blank word in
    let some : 0 < word_len word = rw here (starts_word rest first.1) in
    split_words-start rest ∙ ap split_words (sym here) ∙ rw (take_rest word end, len) (split_words-word word some)
