-- Reads and Writes of the words of bytes, one after another, of a store whose words they are.
use Rattle.std.proofs.Common.{◌≡◌, ◌⊎◌, ℕ, zero, suc, ◌+◌, ◌-◌, ◌*◌, ◌/◌, ◌%◌, ◌<◌, ◌≤◌, min, List, ◌++◌, length, take, drop, arith, refl, sym, ap, subst, inl, inr, ◌∙◌, slice_index, slice_set, append-nil}
use Rattle.std.proofs.lemmas.List.{length-take, length-drop, length-take-le, length-set, take-append-drop, take_min, drop-drop, places}
use Rattle.std.proofs.lemmas.Nat.{le_bytes_8}
use Rattle.std.proofs.lemmas.Bool.{cases_lt}
use Rattle.std.specs.Int.{to_le_bytes, from_le_bytes, w64}
use Rattle.hg_machine.specs.declared.Answer.{Answer}
use Rattle.hg_machine.specs.declared.Answer.TheVariants as answer
use Rattle.hg_bytes.specs.Blocks.{AreBytes, bytes_in}
use Rattle.hg_bytes.specs.Bytes.{ReadsEach, Puts, PutsEach, word_index}
use Rattle.hg_bytes.specs.Pieces.{start_in, before, words_for, piece, laid}
use Rattle.hg_bytes.proofs.PieceLemmas.{reached, piece_end, length-laid}
use Rattle.hg_bytes.proofs.LaidLemmas.{both, joined, laid_in, laid_more, laid-bytes, length-bytes, set_word, shown_at, word-bytes, word_at}

-- a piece is no longer than a word from there on, and where it is all that lies there
few_in : (into : ℕ) (xs : List ℕ) (k : ℕ) → length (piece into xs k) ≤ 8 - start_in into k
few_in into xs k =
    let few = length-take (8 - start_in into k) (drop (before into k) xs) in
    omega (arith, few)

pub short_piece : (into : ℕ) (xs : List ℕ) (k : ℕ) → length (piece into xs k) ≤ 8
short_piece into xs k = let few = few_in into xs k in omega (arith, few)

piece_is : (into : ℕ) (xs : List ℕ) (k : ℕ) → take (length (piece into xs k)) (drop (before into k) xs) ≡ piece into xs k
piece_is into xs k =
    ap (λ n. take n (drop (before into k) xs)) (length-take (8 - start_in into k) (drop (before into k) xs))
    ∙ take_min (8 - start_in into k) (drop (before into k) xs)

piece-bytes : (into : ℕ) (xs : List ℕ) (k : ℕ) → AreBytes xs → AreBytes (piece into xs k)
piece-bytes into xs k small i =
    let one = small (before into k + i) in
    grind (arith, places)

module _ {S By : Type 0} (reads : By → ℕ → Answer → S → S → Type 0)
    (writes : By → ℕ → ℕ → Answer → S → S → Type 0) (by : By) (first : ℕ) (words : S → List ℕ)
    (is_word : (index word : ℕ) (old new : S) → reads by index (answer.Value word) old new
    → (new ≡ old) × (index < length (words old)) × (word ≡ slice_index (words old) index)) where
  -- what was told of words is what lies there
  pub reads_show :
      (told : List ℕ) (k : ℕ) (old new : S) → length (words old) ≤ 4294967295
      → k ≤ words_for (first % 8) (length told) → ReadsEach reads writes by first told k old new
      → (new ≡ old)
      × (take (min (length told) (before (first % 8) k)) told
      ≡ take (min (length told) (before (first % 8) k)) (drop first (bytes_in (words old))))
  reads_show told zero old new few le each = (
    each,
    ap (λ n. take n told) {y = 0} (omega arith)
        ∙ ap (λ n. take n (drop first (bytes_in (words old)))) {x = 0} (omega arith),
  )
  reads_show told (suc k) old new few le each =
      let into = first % 8 in
      let a = before into k in
      let mid = each.0 in
      let word = each.1 in
      let part = piece into told k in
      let c = length part in
      let start = start_in into k in
      let inside = reached into (length told) k (omega arith) (omega arith) in
      let end = piece_end into told k (omega arith) inside in
      let got = reads_show told k old mid few (omega arith) each.2 in
      let one = is_word (word_index first k) word mid new each.3 in
      let same : words mid ≡ words old = ap words got.0 in
      let many : length (words mid) ≡ length (words old) = ap length same in
      let below = one.1 in
      let index : word_index first k ≡ first / 8 + k = omega (arith, below, few, many) in
      let at : word ≡ slice_index (words old) (first / 8 + k) =
      one.2 ∙ ap (λ ws. slice_index ws (word_index first k)) same ∙ ap (slice_index (words old)) index in
      let short = few_in into told k in
      let front : take a told ≡ take a (drop first (bytes_in (words old))) =
      subst (λ n. take n told ≡ take n (drop first (bytes_in (words old)))) {x = min (length told) a} (omega arith) got.1 in
      let back : take c (drop a told) ≡ take c (drop a (drop first (bytes_in (words old)))) =
      piece_is into told k ∙ each.4 ∙ ap (λ w. take c (drop start (to_le_bytes w64 w))) at
      ∙ shown_at (first / 8 + k) start c (words old) (omega (arith, below, many, index)) (omega (arith, short))
      ∙ ap (λ n. take c (drop n (bytes_in (words old)))) {y = first + a} (omega arith)
      ∙ ap (take c) (sym (drop-drop a first (bytes_in (words old)))) in (
        one.0 ∙ got.0,
        subst (λ n. take n told ≡ take n (drop first (bytes_in (words old)))) {x = a + c} (omega (arith, end))
            (joined a c told (drop first (bytes_in (words old))) front back),
      )

  module _ (Stays : S → S → Type 0) (stays_refl : (s : S) → Stays s s)
      (stays_trans : (s t u : S) → Stays s t → Stays t u → Stays s u)
      (is_set : (index value : ℕ) (old new : S) → writes by index value answer.Done old new
      → (index < length (words old)) × (words new ≡ slice_set (words old) index value) × Stays old new) where
    -- Bytes that are put into a word are laid into the block
    put_laid :
        (bytes : List ℕ) (k : ℕ) (old new : S) → AreBytes bytes → length (words old) ≤ 4294967295
        → k < words_for (first % 8) (length bytes)
        → Puts reads writes by (word_index first k) (start_in (first % 8) k) (piece (first % 8) bytes k) old new
        → (bytes_in (words new) ≡ laid (first + before (first % 8) k) (piece (first % 8) bytes k) (bytes_in (words old)))
        × Stays old new × (length (words new) ≡ length (words old))
        × (first / 8 + k < length (words old))
    put_laid bytes k old new small few lt put =
        let into = first % 8 in
        let start = start_in into k in
        let part = piece into bytes k in
        let short = few_in into bytes k in
        let small_part : AreBytes part = piece-bytes into bytes k small in
        elim (cases_lt (length part) 8) [
          | inl less ↦
              let did = put.part less in
              let word = did.0 in
              let mid = did.1 in
              let read = is_word (word_index first k) word old mid did.2 in
              let wrote = is_set (word_index first k) _ mid new did.3 in
              let same : words mid ≡ words old = ap words read.0 in
              let many : length (words mid) ≡ length (words old) = ap length same in
              let below = read.1 in
              let index : word_index first k ≡ first / 8 + k = omega (arith, below, few) in
              let i = first / 8 + k in
              let in_block : i < length (words old) = omega (arith, below, index) in
              let all = laid start part (to_le_bytes w64 word) in
              let eight : length all ≡ 8 = length-laid start part (to_le_bytes w64 word) (omega (arith, short)) in
              let back : to_le_bytes w64 (from_le_bytes w64 all) ≡ all =
              le_bytes_8 all _ eight (laid-bytes start part (to_le_bytes w64 word) small_part (word-bytes word)) refl in
              let after : words new ≡ slice_set (words old) i (from_le_bytes w64 all) =
              wrote.1 ∙ ap (λ ws. slice_set ws (word_index first k) (from_le_bytes w64 all)) same
              ∙ ap (λ n. slice_set (words old) n (from_le_bytes w64 all)) index in
              let there : to_le_bytes w64 word ≡ take 8 (drop (8 * i) (bytes_in (words old))) =
              ap (to_le_bytes w64) (read.2 ∙ ap (slice_index (words old)) index) ∙ sym (word_at i (words old) in_block) in
              let long = length-bytes (words old) in (
                ap bytes_in after ∙ set_word i (from_le_bytes w64 all) (words old) in_block
                    ∙ ap (λ bs. laid (8 * i) bs (bytes_in (words old))) (back ∙ ap (laid start part) there)
                    ∙ laid_in (8 * i) start 8 part (bytes_in (words old)) (omega (arith, short)) (omega (arith, long, in_block))
                    ∙ ap (λ n. laid n part (bytes_in (words old))) {y = first + before into k} (omega arith),
                subst (λ s. Stays s new) read.0 wrote.2,
                ap length after ∙ length-set (words old) i (from_le_bytes w64 all),
                in_block,
              )
          | inr more ↦
              let eight : length part ≡ 8 = omega (arith, short, more) in
              let did = put.whole eight in
              let wrote = is_set (word_index first k) _ old new did in
              let below = wrote.0 in
              let index : word_index first k ≡ first / 8 + k = omega (arith, below, few) in
              let i = first / 8 + k in
              let in_block : i < length (words old) = omega (arith, below, index) in
              let back : to_le_bytes w64 (from_le_bytes w64 part) ≡ part = le_bytes_8 part _ eight small_part refl in
              let after : words new ≡ slice_set (words old) i (from_le_bytes w64 part) =
              wrote.1 ∙ ap (λ n. slice_set (words old) n (from_le_bytes w64 part)) index in (
                ap bytes_in after ∙ set_word i (from_le_bytes w64 part) (words old) in_block
                    ∙ ap (λ bs. laid (8 * i) bs (bytes_in (words old))) back
                    ∙ ap (λ n. laid n part (bytes_in (words old))) {y = first + before into k} (omega (arith, short, eight)),
                wrote.2,
                ap length after ∙ length-set (words old) i (from_le_bytes w64 part),
                in_block,
              )
        ]

    -- so are those that are put into words one after another
    pub puts_laid :
        (bytes : List ℕ) (k : ℕ) (old new : S) → AreBytes bytes → length (words old) ≤ 4294967295
        → k ≤ words_for (first % 8) (length bytes) → PutsEach reads writes by first bytes k old new
        → (bytes_in (words new)
        ≡ laid first (take (min (length bytes) (before (first % 8) k)) bytes) (bytes_in (words old)))
        × Stays old new × (length (words new) ≡ length (words old))
    puts_laid bytes zero old new small few le each =
        let none : take (min (length bytes) (before (first % 8) zero)) bytes ≡ take 0 bytes =
        ap (λ n. take n bytes) {y = 0} (omega arith) in (
          ap (λ s. bytes_in (words s)) each
              ∙ sym (ap (λ front. front ++ drop (first + 0) (bytes_in (words old))) (append-nil (take first (bytes_in (words old))))
              ∙ ap (λ n. take first (bytes_in (words old)) ++ drop n (bytes_in (words old))) {y = first} (omega arith)
              ∙ take-append-drop first (bytes_in (words old)))
              ∙ ap (λ front. laid first front (bytes_in (words old))) (sym none),
          subst (Stays old) (sym each) (stays_refl old),
          ap (λ s. length (words s)) each,
        )
    puts_laid bytes (suc k) old new small few le each =
        let into = first % 8 in
        let a = before into k in
        let mid = each.0 in
        let part = piece into bytes k in
        let c = length part in
        let inside = reached into (length bytes) k (omega arith) (omega arith) in
        let end = piece_end into bytes k (omega arith) inside in
        let got = puts_laid bytes k old mid small few (omega arith) each.1 in
        let many = got.2 in
        let one = put_laid bytes k mid new small (omega (arith, few, many)) (omega arith) each.2 in
        let block = bytes_in (words old) in
        let front : bytes_in (words mid) ≡ laid first (take a bytes) block =
        got.0 ∙ ap (λ n. laid first (take n bytes) block) {x = min (length bytes) a} (omega arith) in
        let long : length (take a bytes) ≡ a = length-take-le a bytes (omega arith) in
        let size = length-bytes (words old) in
        let below = one.3 in
        let short = few_in into bytes k in
        let all : take a bytes ++ part ≡ take (min (length bytes) (before into (suc k))) bytes =
        ap (λ b. take a bytes ++ b) (sym (piece_is into bytes k)) ∙ sym (both a c bytes)
        ∙ ap (λ n. take n bytes) (sym end) in (
          one.0 ∙ ap (laid (first + a) part) front
              ∙ ap (λ n. laid n part (laid first (take a bytes) block)) {y = first + length (take a bytes)} (omega (arith, long))
              ∙ laid_more first (take a bytes) part block (omega (arith, long, size, below, many, short))
              ∙ ap (λ bs. laid first bs block) all,
          stays_trans old mid new got.1 one.1,
          one.2 ∙ many,
        )
