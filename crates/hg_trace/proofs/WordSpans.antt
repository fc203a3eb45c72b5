-- Where words stand in a text.
use Rattle.std.proofs.Common.{◌≡◌, ℕ, zero, suc, ◌+◌, ◌<◌, ◌≤◌, true, not, List, [], ◌∷◌, ◌++◌, length, take, drop, ◌-◌, refl, ap, sym, ◌∙◌, inl, inr, arith, append-nil, append_assoc, add-zero}
use Rattle.std.proofs.Math.Seq.{take-add}
use Rattle.std.proofs.lemmas.List.{take-take, take_rest, drop-take, drop-drop, drop_all, take_all, length-drop}
use Rattle.std.proofs.lemmas.List.Sums.{prefix_len-le-length}
use Rattle.std.proofs.lemmas.Bool.{cases_Bool, cases_lt}
use Rattle.hg_trace.specs.Lines.{split_words, is_blank}
use Rattle.hg_trace.specs.Stored.{named}
use Rattle.hg_trace.specs.Spans.{StandsAt}
use Rattle.hg_trace.proofs.WordCuts.{blanks, word_len, split_words-start, starts_word, split_words-word}

one_more : (n : ℕ) → 1 + n ≡ suc n
one_more n = omega arith

more_of : (n m : ℕ) → suc n + m ≡ suc (n + m)
more_of n m = omega arith

none_of : (n : ℕ) → 0 + n ≡ n
none_of n = omega arith

no_bytes : (n : ℕ) → take {A = ℕ} n [] ≡ []
no_bytes n = take_all n [] (omega arith)

-- the blanks in front mean nothing, also where a text is cut behind them
split_words-front : (bs : List ℕ) (n : ℕ) → split_words (take (blanks bs + n) bs) ≡ split_words (take n (drop (blanks bs) bs))
split_words-front [] n = ap (λ m. split_words (take m [])) (none_of n)
split_words-front (b ∷ bs) n =
    elim (cases_Bool (is_blank b)) [
      | inl e ↦ rw (e, one_more (blanks bs), more_of (blanks bs) n, e) (split_words-front bs n)
      | inr e ↦ rw (e, none_of n) refl
    ]

word_len-blank : (b : ℕ) (bs : List ℕ) (n : ℕ) → is_blank b ≡ true → word_len (take n (b ∷ bs)) ≡ 0
word_len-blank b bs zero e = refl
word_len-blank b bs (suc n) e = rw e refl

-- a word ends where it did, where a text is cut behind it
word_len-take : (bs : List ℕ) (n : ℕ) → word_len (take (word_len bs + n) bs) ≡ word_len bs
word_len-take [] n = ap word_len (no_bytes (0 + n))
word_len-take (b ∷ bs) n =
    elim (cases_Bool (is_blank b)) [
      | inl e ↦ let none : word_len (b ∷ bs) ≡ 0 = rw e refl in rw (none, none_of n) (word_len-blank b bs n e)
      | inr e ↦ rw (e, one_more (word_len bs), more_of (word_len bs) n, e) (ap (λ k. 1 + k) (word_len-take bs n) ∙ one_more (word_len bs))
    ]

-- a text with a word in front, or none, cut behind the word
module _ (bs : List ℕ) where
  word-joined : (n : ℕ) → 0 < word_len bs → split_words (take (word_len bs + n) bs) ≡ take 1 (split_words bs) ++ split_words (take n (drop (word_len bs) bs))
  word-joined n some =
      let cut = take (word_len bs + n) bs in
      let same : word_len cut ≡ word_len bs = word_len-take bs n in
      let first : take (word_len cut) cut ≡ take (word_len bs) bs = ap (λ k. take k cut) same ∙ take-take (word_len bs) (word_len bs + n) bs (omega arith) in
      let behind : drop (word_len cut) cut ≡ take n (drop (word_len bs) bs) = ap (λ k. drop k cut) same ∙ drop-take (word_len bs) n bs in
      split_words-word cut (omega (arith, same)) ∙ rw (first, behind, split_words-word bs some) refl

  word-rest : 0 < word_len bs → split_words (drop (word_len bs) bs) ≡ drop 1 (split_words bs)
  word-rest some = rw (split_words-word bs some) refl

  word-named : 0 < word_len bs → take (word_len bs) bs ≡ named (split_words bs) 0
  word-named some = rw (split_words-word bs some) refl

-- behind the blanks stands a word, or nothing
module _ (bs : List ℕ) where
  pub first-joined : (n : ℕ) → split_words (take (blanks bs + (word_len (drop (blanks bs) bs) + n)) bs) ≡ take 1 (split_words bs) ++ split_words (take n (drop (blanks bs + word_len (drop (blanks bs) bs)) bs))
  first-joined n =
      let cut : split_words (take (blanks bs + (word_len (drop (blanks bs) bs) + n)) bs) ≡ split_words (take (word_len (drop (blanks bs) bs) + n) (drop (blanks bs) bs)) = split_words-front bs (word_len (drop (blanks bs) bs) + n) in
      let behind : drop (word_len (drop (blanks bs) bs)) (drop (blanks bs) bs) ≡ drop (blanks bs + word_len (drop (blanks bs) bs)) bs = drop-drop (word_len (drop (blanks bs) bs)) (blanks bs) bs in
      elim (cases_lt (blanks bs) (length bs)) [
        | inl within ↦
            cut ∙ word-joined (drop (blanks bs) bs) n (starts_word bs within)
            ∙ ap (λ ws. take 1 ws ++ split_words (take n (drop (word_len (drop (blanks bs) bs)) (drop (blanks bs) bs)))) (sym (split_words-start bs))
            ∙ ap (λ rest. take 1 (split_words bs) ++ split_words (take n rest)) behind
        | inr past ↦
            let gone : drop (blanks bs) bs ≡ [] = drop_all (blanks bs) bs past in
            let none : split_words bs ≡ [] = split_words-start bs ∙ ap split_words gone in
            let left : split_words (take n (drop (blanks bs + word_len (drop (blanks bs) bs)) bs)) ≡ [] = ap (λ rest. split_words (take n rest)) (drop_all (blanks bs + word_len (drop (blanks bs) bs)) bs (omega arith)) ∙ ap split_words (no_bytes n) in
            cut ∙ ap (λ rest. split_words (take (word_len rest + n) rest)) gone ∙ ap split_words (no_bytes (0 + n)) ∙ rw (none, left) refl
      ]

  pub first-rest : split_words (drop (blanks bs + word_len (drop (blanks bs) bs)) bs) ≡ drop 1 (split_words bs)
  first-rest =
      let behind : drop (word_len (drop (blanks bs) bs)) (drop (blanks bs) bs) ≡ drop (blanks bs + word_len (drop (blanks bs) bs)) bs = drop-drop (word_len (drop (blanks bs) bs)) (blanks bs) bs in
      elim (cases_lt (blanks bs) (length bs)) [
        | inl within ↦ ap split_words (sym behind) ∙ word-rest (drop (blanks bs) bs) (starts_word bs within) ∙ ap (drop 1) (sym (split_words-start bs))
        | inr past ↦
            let none : split_words bs ≡ [] = split_words-start bs ∙ ap split_words (drop_all (blanks bs) bs past) in
            ap split_words (drop_all (blanks bs + word_len (drop (blanks bs) bs)) bs (omega arith)) ∙ rw none refl
      ]

  first-named : take (word_len (drop (blanks bs) bs)) (drop (blanks bs) bs) ≡ named (split_words bs) 0
  first-named =
      elim (cases_lt (blanks bs) (length bs)) [
        | inl within ↦ word-named (drop (blanks bs) bs) (starts_word bs within) ∙ ap (λ ws. named ws 0) (sym (split_words-start bs))
        | inr past ↦
            let gone : drop (blanks bs) bs ≡ [] = drop_all (blanks bs) bs past in
            let none : split_words bs ≡ [] = split_words-start bs ∙ ap split_words gone in
            ap (λ rest. take (word_len rest) rest) gone ∙ rw none refl
      ]

  no_word : split_words bs ≡ [] → blanks bs ≡ length bs
  no_word none =
      elim (cases_lt (blanks bs) (length bs)) [
        | inl within ↦ let some = split_words-word (drop (blanks bs) bs) (starts_word bs within) in let all : split_words (drop (blanks bs) bs) ≡ [] = sym (split_words-start bs) ∙ none in cc
        | inr past ↦ omega (arith, prefix_len-le-length (λ b. not (not (is_blank b))) bs)
      ]

named-drop : (ws : List (List ℕ)) (i : ℕ) → named (drop i ws) 0 ≡ named ws i
named-drop [] i = ap (λ rest. named rest 0) (drop_all i [] (omega arith))
named-drop (w ∷ ws) zero = refl
named-drop (w ∷ ws) (suc i) = named-drop ws i

-- so many words stand before these bytes, and the others behind them
module _ (text : List ℕ) (i behind : ℕ) (rest : split_words (drop behind text) ≡ drop i (split_words text)) (joined : (n : ℕ) → split_words (take (behind + n) text) ≡ take i (split_words text) ++ split_words (take n (drop behind text))) where
  pub rest-more : split_words (drop (behind + (blanks (drop behind text) + word_len (drop (blanks (drop behind text)) (drop behind text)))) text) ≡ drop (i + 1) (split_words text)
  rest-more =
      ap split_words (sym (drop-drop (blanks (drop behind text) + word_len (drop (blanks (drop behind text)) (drop behind text))) behind text))
      ∙ first-rest (drop behind text) ∙ ap (drop 1) rest ∙ drop-drop 1 i (split_words text)

  pub joined-more : (n : ℕ) → split_words (take (behind + (blanks (drop behind text) + word_len (drop (blanks (drop behind text)) (drop behind text))) + n) text) ≡ take (i + 1) (split_words text) ++ split_words (take n (drop (behind + (blanks (drop behind text) + word_len (drop (blanks (drop behind text)) (drop behind text)))) text))
  joined-more n =
      let left = drop behind text in
      let start = blanks left in
      let width = word_len (drop start left) in
      let sum : behind + (start + width) + n ≡ behind + (start + (width + n)) = omega arith in
      let after = split_words (take n (drop (start + width) left)) in
      let joins : take i (split_words text) ++ (take 1 (drop i (split_words text)) ++ after) ≡ take i (split_words text) ++ take 1 (drop i (split_words text)) ++ after = rw append_assoc refl in
      let one : take (i + 1) (split_words text) ≡ take i (split_words text) ++ take 1 (drop i (split_words text)) = take-add i 1 (split_words text) in
      ap (λ k. split_words (take k text)) sum
      ∙ joined (start + (width + n))
      ∙ ap (λ ws. take i (split_words text) ++ ws) (first-joined left n ∙ ap (λ ws. take 1 ws ++ split_words (take n (drop (start + width) left))) rest)
      ∙ joins
      ∙ ap (λ ws. ws ++ split_words (take n (drop (start + width) left))) (sym one)
      ∙ ap (λ bs. take (i + 1) (split_words text) ++ split_words (take n bs)) (drop-drop (start + width) behind text)

  pub stands_here : behind ≤ length text → StandsAt text i (behind + blanks (drop behind text)) (word_len (drop (blanks (drop behind text)) (drop behind text)))
  stands_here within =
      let left = drop behind text in
      let long : length left ≡ length text - behind = length-drop behind text in
      let start_fits : blanks left ≤ length left = prefix_len-le-length (λ b. not (not (is_blank b))) left in
      let width_fits : word_len (drop (blanks left) left) ≤ length (drop (blanks left) left) = prefix_len-le-length (λ b. not (is_blank b)) (drop (blanks left) left) in
      let rest_long : length (drop (blanks left) left) ≡ length left - blanks left = length-drop (blanks left) left in
      record {
        within = omega arith;
        before =
            let none : split_words (take (blanks left) left) ≡ [] = ap (λ k. split_words (take k left)) (sym (add-zero (blanks left))) ∙ split_words-front left 0 in
            joined (blanks left) ∙ ap (λ ws. take i (split_words text) ++ ws) none ∙ append-nil (take i (split_words text));
        word = ap (take (word_len (drop (blanks left) left))) (sym (drop-drop (blanks left) behind text)) ∙ first-named left ∙ ap (λ ws. named ws 0) rest ∙ named-drop (split_words text) i;
        missing = λ past. let none : split_words left ≡ [] = rest ∙ drop_all i (split_words text) past in let all : blanks left ≡ length left = no_word left none in omega arith;
      }

-- so many bytes further begins the next word, which has so many
pub record IsNext (text : List ℕ) (i behind start width : ℕ) : Type 0 where
  pub stands : StandsAt text i (behind + start) width
  pub within : behind + (start + width) ≤ length text
  pub rest : split_words (drop (behind + (start + width)) text) ≡ drop (i + 1) (split_words text)
  pub joined : (n : ℕ) → split_words (take (behind + (start + width) + n) text) ≡ take (i + 1) (split_words text) ++ split_words (take n (drop (behind + (start + width)) text))

pub is_next : (text : List ℕ) (i behind start width : ℕ) → behind ≤ length text → split_words (drop behind text) ≡ drop i (split_words text) → ((n : ℕ) → split_words (take (behind + n) text) ≡ take i (split_words text) ++ split_words (take n (drop behind text)))
    → start ≡ blanks (take (length text - behind) (drop behind text)) → width ≡ word_len (drop start (take (length text - behind) (drop behind text))) → IsNext text i behind start width
is_next text i behind start width within rest joined starts ends =
    let left = drop behind text in
    let first : start ≡ blanks left = starts ∙ ap blanks (take_rest text behind) in
    let last : width ≡ word_len (drop (blanks left) left) = ends ∙ ap (λ bs. word_len (drop start bs)) (take_rest text behind) ∙ ap (λ k. word_len (drop k left)) first in
    let here = stands_here text i behind rest joined within in
    rw (first, last) record {
      stands = here;
      within = omega (arith, here.within);
      rest = rest-more text i behind rest joined;
      joined = joined-more text i behind rest joined;
    }
