-- Bytes of words as one list, and what is laid into it.
use Rattle.std.proofs.Common.{◌≡◌, ℕ, zero, suc, ◌+◌, ◌-◌, ◌*◌, ◌<◌, ◌≤◌, min, List, [], ◌∷◌, ◌++◌, length, take, drop, arith, refl, sym, ap, ◌∙◌, slice_index, slice_set, length-append, append_assoc, rules}
use Rattle.std.proofs.lemmas.List.{length-take, length-drop, length-take-le, take-take, take_at, drop_at, drop-take, drop-drop, drop_more, set_split, take-append-drop, same_lists, places, get_or-take, get_or-drop}
use Rattle.std.proofs.lemmas.List.Concat.{flat_map-append}
use Rattle.std.specs.Int.{to_le_bytes, w64}
use Rattle.hg_bytes.specs.Blocks.{AreBytes, bytes_in}
use Rattle.hg_bytes.specs.Pieces.{laid}

pub length-bytes : (words : List ℕ) → length (bytes_in words) ≡ 8 * length words
length-bytes [] = refl
length-bytes (w ∷ ws) =
    let rest = length-bytes ws in
    omega (arith, rest, length-append (to_le_bytes w64 w) (bytes_in ws))

pub drop_words : (i : ℕ) (words : List ℕ) → i ≤ length words → drop (8 * i) (bytes_in words) ≡ bytes_in (drop i words)
drop_words zero words few = refl
drop_words (suc i) [] few = absurd (omega arith)
drop_words (suc i) (w ∷ ws) few =
    ap (λ n. drop n (bytes_in (w ∷ ws))) {y = 8 + 8 * i} (omega arith)
    ∙ sym (drop-drop (8 * i) 8 (bytes_in (w ∷ ws)))
    ∙ ap (drop (8 * i)) (drop_at (to_le_bytes w64 w) (bytes_in ws) 8 refl)
    ∙ drop_words i ws (omega arith)

pub take_words : (i : ℕ) (words : List ℕ) → i ≤ length words → take (8 * i) (bytes_in words) ≡ bytes_in (take i words)
take_words i words few =
    ap (λ ws. take (8 * i) (bytes_in ws)) (sym (take-append-drop i words))
    ∙ ap (take (8 * i)) (flat_map-append (to_le_bytes w64) (take i words) (drop i words))
    ∙ take_at (bytes_in (take i words)) (bytes_in (drop i words)) (8 * i)
    (length-bytes (take i words) ∙ ap (λ n. 8 * n) (length-take-le i words few))

pub word_at : (i : ℕ) (words : List ℕ) → i < length words
    → take 8 (drop (8 * i) (bytes_in words)) ≡ to_le_bytes w64 (slice_index words i)
word_at i words lt =
    ap (take 8) (drop_words i words (omega arith) ∙ ap bytes_in (drop_more words i 0 lt))
    ∙ take_at (to_le_bytes w64 (slice_index words i)) (bytes_in (drop (i + 1) words)) 8 refl

-- a word is set
pub set_word : (i value : ℕ) (words : List ℕ) → i < length words
    → bytes_in (slice_set words i value) ≡ laid (8 * i) (to_le_bytes w64 value) (bytes_in words)
set_word i value words lt =
    ap bytes_in (set_split words i value lt)
    ∙ flat_map-append (to_le_bytes w64) (take i words) (value ∷ drop (suc i) words)
    ∙ sym (append_assoc (bytes_in (take i words)) (to_le_bytes w64 value) (bytes_in (drop (suc i) words)))
    ∙ ap (λ front. front ++ to_le_bytes w64 value ++ bytes_in (drop (suc i) words)) (sym (take_words i words (omega arith)))
    ∙ ap (λ back. take (8 * i) (bytes_in words) ++ to_le_bytes w64 value ++ back)
    (sym (drop_words (suc i) words (omega arith)) ∙ ap (λ n. drop n (bytes_in words)) {y = 8 * i + 8} (omega arith))

-- what is laid into a part of a list that is laid back is laid into the list
pub laid_in : (at start long : ℕ) (piece bytes : List ℕ) → start + length piece ≤ long → at + long ≤ length bytes
    → laid at (laid start piece (take long (drop at bytes))) bytes ≡ laid (at + start) piece bytes
laid_in at start long piece bytes few inside =
    same_lists _ _ (search (rules, places)) (λ k d h. grind (arith, places))

-- one behind another
pub laid_more : (at : ℕ) (front piece bytes : List ℕ) → at + length front + length piece ≤ length bytes
    → laid (at + length front) piece (laid at front bytes) ≡ laid at (front ++ piece) bytes
laid_more at front piece bytes inside =
    same_lists _ _ (search (rules, places)) (λ k d h. grind (arith, places))

inner : (start n long : ℕ) (xs : List ℕ) → start + n ≤ long → take n (drop start (take long xs)) ≡ take n (drop start xs)
inner start n long xs few = same_lists _ _ (search (rules, places)) (λ k d h. grind (arith, places))

-- what lies so far into a word lies there in the block
pub shown_at : (i start n : ℕ) (words : List ℕ) → i < length words → start + n ≤ 8
    → take n (drop start (to_le_bytes w64 (slice_index words i))) ≡ take n (drop (8 * i + start) (bytes_in words))
shown_at i start n words lt few =
    ap (λ b. take n (drop start b)) (sym (word_at i words lt))
    ∙ inner start n 8 (drop (8 * i) (bytes_in words)) few
    ∙ ap (take n) (drop-drop start (8 * i) (bytes_in words))

-- so many, and so many behind them
pub both : (a c : ℕ) (xs : List ℕ) → take (a + c) xs ≡ take a xs ++ take c (drop a xs)
both a c xs =
    sym (take-append-drop a (take (a + c) xs))
    ∙ ap (λ front. front ++ drop a (take (a + c) xs)) (take-take a (a + c) xs (omega arith))
    ∙ ap (λ back. take a xs ++ back) (drop-take a c xs)

pub joined : (a c : ℕ) (xs ys : List ℕ) → take a xs ≡ take a ys → take c (drop a xs) ≡ take c (drop a ys)
    → take (a + c) xs ≡ take (a + c) ys
joined a c xs ys front back =
    both a c xs ∙ ap (λ f. f ++ take c (drop a xs)) front ∙ ap (λ b. take a ys ++ b) back ∙ sym (both a c ys)

pub word-bytes : (n : ℕ) → AreBytes (to_le_bytes w64 n)
word-bytes n zero = omega arith
word-bytes n (suc zero) = omega arith
word-bytes n (suc (suc zero)) = omega arith
word-bytes n (suc (suc (suc zero))) = omega arith
word-bytes n (suc (suc (suc (suc zero)))) = omega arith
word-bytes n (suc (suc (suc (suc (suc zero))))) = omega arith
word-bytes n (suc (suc (suc (suc (suc (suc zero)))))) = omega arith
word-bytes n (suc (suc (suc (suc (suc (suc (suc zero))))))) = omega arith
word-bytes n (suc (suc (suc (suc (suc (suc (suc (suc i)))))))) = omega arith

pub laid-bytes : (start : ℕ) (piece bytes : List ℕ) → AreBytes piece → AreBytes bytes → AreBytes (laid start piece bytes)
laid-bytes start piece bytes small below i =
    let one = small (i - start) in
    let two = below i in
    grind (arith, places)
