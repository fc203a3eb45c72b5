-- How a call for bytes of a core ends.
use Rattle.std.proofs.Common.{◌≡◌, ◌≢◌, ◌⊎◌, ℕ, zero, suc, ◌+◌, ◌-◌, ◌*◌, ◌/◌, ◌%◌, ◌<◌, ◌≤◌, min, List, length, Option, Some, None, MatchOption, take, drop, arith, refl, sym, ap, subst, inl, inr, ◌∙◌}
use Rattle.std.proofs.lemmas.Bool.{cases_lt}
use Rattle.std.proofs.lemmas.List.{length-take, length-drop}
use Rattle.std.specs.Int.{to_le_bytes, from_le_bytes, w64}
use Rattle.hg_machine.specs.declared.Answer.{Answer}
use Rattle.hg_machine.specs.declared.Answer.TheVariants as answer
use Rattle.hg_machine.specs.Lists.{Kept}
use Rattle.hg_bytes.specs.Bytes.{PutsNot, word_index}
use Rattle.hg_bytes.specs.Ends.{IsReadTo, IsWrittenTo, ReadsEnd, WritesEnd, index_at}
use Rattle.hg_bytes.specs.Pieces.{before, laid, piece, start_in, words_for}
use Rattle.hg_bytes.specs.OfCore.{core_reads, core_writes}
use Rattle.hg_bytes.specs.declared.of_core.CoreBlock.{CoreBlock}
use Rattle.hg_bytes.specs.declared.progress.Progress.{Progress}
use Rattle.hg_bytes.proofs.BlockRuns.{short_piece}
use Rattle.hg_bytes.proofs.CoreWords.{read_is, unread, unwritten}
use Rattle.hg_bytes.proofs.PieceLemmas.{all_before, reached}

next_at : (first n done many : ℕ) → done ≡ min n (before (first % 8) many)
    → many < words_for (first % 8) n
    → (done < n) × (1 ≤ done → (first + done) % 8 ≡ 0) × (word_index first many ≡ index_at (first + done))
next_at first n done many is lt =
    let inside = reached (first % 8) n many (omega arith) lt in
    (omega (arith, is, inside), λ some. omega (arith, is, inside, some), omega (arith, is, inside))

-- a word that the bytes don't fill begins within, or they end in it
unfilled : (first done many : ℕ) (bytes : List ℕ) → done ≡ min (length bytes) (before (first % 8) many)
    → many < words_for (first % 8) (length bytes) → length (piece (first % 8) bytes many) < 8
    → (first + done) % 8 ≡ 0 → length bytes < done + 8
unfilled first done many bytes is lt less begins =
    let few = length-take (8 - start_in (first % 8) many) (drop (before (first % 8) many) bytes) in
    let left = length-drop (before (first % 8) many) bytes in
    let inside = reached (first % 8) (length bytes) many (omega arith) lt in
    omega (arith, few, left, inside, is, less, begins)

module _ (by : CoreBlock) (first n done many : ℕ) (mid new : Kept) (is : done ≡ min n (before (first % 8) many)) where
  read_next : (o : Option Answer)
      → MatchOption o ((many ≡ words_for (first % 8) n) × (new ≡ mid))
      (λ said. (many < words_for (first % 8) n) × ((word : ℕ) → said ≢ answer.Value word)
      × core_reads by (word_index first many) said mid new)
      → IsReadTo by first n done o new
  read_next None end = is ∙ ap (λ k. min n (before (first % 8) k)) end.0 ∙ all_before (first % 8) n (omega arith)
  read_next (Some said) end =
      let next = next_at first n done many is end.0 in
      let same = unread by (word_index first many) said mid new end.2 end.1 in (
        next.0,
        next.1,
        end.1,
        subst (λ k. core_reads by (index_at (first + done)) said k new) (sym same)
            (subst (λ i. core_reads by i said mid new) next.2 end.2),
      )

  write_next : (start : ℕ) (part : List ℕ) (o : Option Answer) → length part ≤ 8
      → (many < words_for (first % 8) n → length part < 8 → (first + done) % 8 ≡ 0 → n < done + 8)
      → MatchOption o ((many ≡ words_for (first % 8) n) × (new ≡ mid))
      (λ said. (many < words_for (first % 8) n)
      × PutsNot core_reads core_writes by (word_index first many) start part said mid new)
      → IsWrittenTo by first n done o new
  write_next start part None short partly end = is ∙ ap (λ k. min n (before (first % 8) k)) end.0 ∙ all_before (first % 8) n (omega arith)
  write_next start part (Some said) short partly end =
      let next = next_at first n done many is end.0 in (
        next.0,
        next.1,
        elim (cases_lt (length part) 8) [
          | inl less ↦ elim (end.1.part less) [
            | inl unseen ↦
                let same = unread by (word_index first many) said mid new unseen.1 unseen.0 in
                inl (
                  unseen.0,
                  partly end.0 less,
                  subst (λ k. core_reads by (index_at (first + done)) said k new) (sym same)
                      (subst (λ i. core_reads by i said mid new) next.2 unseen.1),
                )
            | inr seen ↦
                let value = from_le_bytes w64 (laid start part (to_le_bytes w64 seen.0)) in
                let same = unwritten by (word_index first many) value said seen.1 new seen.4 seen.2 in
                inr (
                  value,
                  seen.2,
                  subst (λ k. core_writes by (index_at (first + done)) value said k new) (sym same)
                      (subst (λ i. core_writes by i value said seen.1 new) next.2 seen.4),
                )
          ]
          | inr more ↦
              let whole = end.1.whole (omega (arith, short, more)) in
              let value = from_le_bytes w64 part in
              let same = unwritten by (word_index first many) value said mid new whole.1 whole.0 in
              inr (
                value,
                whole.0,
                subst (λ k. core_writes by (index_at (first + done)) value said k new) (sym same)
                    (subst (λ i. core_writes by i value said mid new) next.2 whole.1),
              )
        ],
      )

pub reads_end : ReadsEnd
reads_end by first room told made old new did =
    read_next by first (length room) made.done did.many did.mid new did.done made.refused did.end

pub writes_end : WritesEnd
writes_end by first bytes made old new did =
    write_next by first (length bytes) made.done did.many did.mid new did.done (start_in (first % 8) did.many)
    (piece (first % 8) bytes did.many) made.refused
    (short_piece (first % 8) bytes did.many) (unfilled first made.done did.many bytes did.done) did.end
