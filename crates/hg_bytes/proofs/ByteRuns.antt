-- Reads and Writes of the words of bytes, one after another.
use Rattle.std.proofs.Common.{◌≡◌, ℕ, zero, suc, ◌+◌, ◌-◌, ◌%◌, ◌<◌, ◌≤◌, List, length, take, drop, arith, refl, sym, ap, subst, ◌∙◌}
use Rattle.std.proofs.lemmas.List.{take-take}
use Rattle.hg_machine.specs.declared.Answer.{Answer}
use Rattle.hg_machine.specs.declared.Answer.TheVariants as answer
use Rattle.hg_bytes.specs.Pieces.{start_in, before, words_for, piece, laid}
use Rattle.hg_bytes.specs.Bytes.{ReadsEach, word_index}
use Rattle.std.specs.Int.{to_le_bytes, w64}
use Rattle.hg_bytes.proofs.PieceLemmas.{piece_like, take-laid, piece-laid, length-shown, reached}

module _ {S By : Type 0} (reads : By → ℕ → Answer → S → S → Type 0)
    (writes : By → ℕ → ℕ → Answer → S → S → Type 0) (by : By) (first : ℕ) where
  -- what is told of words is in front of the next
  pub reads_like :
      (k : ℕ) (xs ys : List ℕ) (old new : S)
      → take (before (first % 8) k) xs ≡ take (before (first % 8) k) ys
      → ReadsEach reads writes by first xs k old new → ReadsEach reads writes by first ys k old new
  reads_like zero xs ys old new same each = each
  reads_like (suc k) xs ys old new same each =
      let low : before (first % 8) k ≤ before (first % 8) (suc k) = omega arith in
      let one : piece (first % 8) xs k ≡ piece (first % 8) ys k = piece_like (first % 8) xs ys k (omega arith) same in (
        each.0,
        each.1,
        reads_like k xs ys old each.0
            (sym (take-take _ _ xs low) ∙ ap (take (before (first % 8) k)) same ∙ take-take _ _ ys low) each.2,
        each.3,
        subst (λ p. p ≡ take (length p) (drop (start_in (first % 8) k) (to_le_bytes w64 each.1))) one each.4,
      )

  -- one word more is read, and what lies in it is laid into the room
  pub reads_more :
      (k word : ℕ) (room told : List ℕ) (old mid new : S)
      → told ≡ laid (before (first % 8) k) (take (length (piece (first % 8) room k)) (drop (start_in (first % 8) k) (to_le_bytes w64 word))) room
      → k < words_for (first % 8) (length room)
      → ReadsEach reads writes by first room k old mid
      → reads by (word_index first k) (answer.Value word) mid new
      → ReadsEach reads writes by first told (k + 1) old new
  reads_more k word room told old mid new is lt each read =
      let into = first % 8 in
      let low : into < 8 = omega arith in
      let bytes = to_le_bytes w64 word in
      let part = take (length (piece into room k)) (drop (start_in into k) bytes) in
      let inside = reached into (length room) k low lt in
      let long = length-shown into room k bytes refl in
      let own : piece into (laid (before into k) part room) k ≡ part =
      piece-laid (before into k) part room (8 - start_in into k) (omega arith) long in
      let all : ReadsEach reads writes by first (laid (before into k) part room) (suc k) old new = (
        mid,
        word,
        reads_like k room (laid (before into k) part room) old mid
            (sym (take-laid (before into k) part room (before into k) (omega arith) (omega arith))) each,
        read,
        own ∙ ap (λ n. take n (drop (start_in into k) bytes)) (sym long ∙ ap length (sym own)),
      ) in
      subst (λ n. ReadsEach reads writes by first told n old new) {x = suc k} (omega arith)
      (subst (λ xs. ReadsEach reads writes by first xs (suc k) old new) (sym is) all)
