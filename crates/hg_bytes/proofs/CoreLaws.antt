-- Bytes of a core's block.
use Rattle.std.proofs.Common.{◌≡◌, ◌≢◌, ◌⊎◌, ℕ, zero, suc, ◌+◌, ◌-◌, ◌*◌, ◌/◌, ◌%◌, ◌<◌, ◌≤◌, min, List, [], ◌∷◌, ◌++◌, length, take, drop, Option, Some, None, MatchOption, arith, refl, sym, ap, subst, inl, inr, ◌∙◌}
use Rattle.std.proofs.lemmas.Bool.{cases_lt}
use Rattle.std.proofs.lemmas.List.{length-take, length-drop, length-append, take_all, take_at, nil_from_length}
use Rattle.std.specs.Int.{to_le_bytes, from_le_bytes, w64}
use Rattle.hg_place.specs.Places.{number_of}
use Rattle.hg_machine.specs.declared.Answer.{Answer}
use Rattle.hg_machine.specs.declared.Answer.TheVariants as answer
use Rattle.hg_machine.specs.Lists.{Kept}
use Rattle.hg_machine.specs.Soundness.{IsSound}
use Rattle.hg_bytes.specs.Blocks.{AreBytes, HasPut, IsSameBeside, block_bytes, block_words, bytes_in}
use Rattle.hg_bytes.specs.Bytes.{ReadsBytes, WritesBytes, PutsNot, word_index}
use Rattle.hg_bytes.specs.Laws.{EachWordHasBytes, ReadsShowBytes, WritesPutBytes, WrittenIsRead}
use Rattle.hg_bytes.specs.OfCore.{core_reads, core_writes}
use Rattle.hg_bytes.specs.Pieces.{before, laid, piece, start_in, words_for}
use Rattle.hg_bytes.specs.declared.of_core.CoreBlock.{CoreBlock}
use Rattle.hg_bytes.specs.declared.progress.Progress.{Progress}
use Rattle.hg_bytes.proofs.BlockRuns.{puts_laid, reads_show, short_piece}
use Rattle.hg_bytes.proofs.CoreWords.{beside_both, few, read_is, same_beside, unread, unwritten, write_is}
use Rattle.hg_bytes.proofs.PieceLemmas.{all_before, from-laid, reached}

reached_by : (into n k : ℕ) → into < 8 → before into k < n → k < words_for into n
reached_by into zero k low lt = absurd (omega arith)
reached_by into (suc m) k low lt = omega arith

pub each_word_has_bytes : EachWordHasBytes
each_word_has_bytes into bytes k low =
    let many = length-take (8 - start_in into k) (drop (before into k) bytes) in
    let left = length-drop (before into k) bytes in (
      λ lt. let inside = reached into (length bytes) k low lt in omega (arith, many, left, inside),
      λ some. reached_by into (length bytes) k low (omega (arith, many, left, some)),
    )

module _ (by : CoreBlock) (first : ℕ) where
  read_end : (index many most : ℕ) (mid new : Kept) (o : Option Answer)
      → MatchOption o ((many ≡ most) × (new ≡ mid))
      (λ said. (many < most) × ((word : ℕ) → said ≢ answer.Value word) × core_reads by index said mid new)
      → (many ≤ most) × (new ≡ mid)
  read_end index many most mid new None end = (omega (arith, end.0), end.1)
  read_end index many most mid new (Some said) end = (omega (arith, end.0), unread by index said mid new end.2 end.1)

  put_not : (index start : ℕ) (bytes : List ℕ) (said : Answer) (mid new : Kept) → length bytes ≤ 8
      → PutsNot core_reads core_writes by index start bytes said mid new → new ≡ mid
  put_not index start bytes said mid new short not_put =
      elim (cases_lt (length bytes) 8) as (λ _. new ≡ mid) [
        | inl less ↦ elim (not_put.part less) as (λ _. new ≡ mid) [
          | inl unseen ↦ unread by index said mid new unseen.1 unseen.0
          | inr seen ↦
              unwritten by index _ said seen.1 new seen.4 seen.2 ∙ (read_is by index seen.0 mid seen.1 seen.3).0
        ]
        | inr more ↦ let whole = not_put.whole (omega (arith, short, more)) in unwritten by index _ said mid new whole.1 whole.0
      ]

  write_end : (index start many most : ℕ) (bytes : List ℕ) (mid new : Kept) (o : Option Answer) → length bytes ≤ 8
      → MatchOption o ((many ≡ most) × (new ≡ mid))
      (λ said. (many < most) × PutsNot core_reads core_writes by index start bytes said mid new)
      → (many ≤ most) × (new ≡ mid)
  write_end index start many most bytes mid new None short end = (omega (arith, end.0), end.1)
  write_end index start many most bytes mid new (Some said) short end =
      (omega (arith, end.0), put_not index start bytes said mid new short end.1)

  -- of a block that has no more words than 32 bits count
  read_shows : (room told : List ℕ) (made : Progress) (old new : Kept)
      → length (block_words old by.handle) ≤ 4294967295
      → ReadsBytes core_reads core_writes by first room made told old new
      → (new ≡ old)
      × (take made.done told ≡ take made.done (drop first (block_bytes old by.handle)))
  read_shows room told made old new short did =
      let ended = read_end (word_index first did.many) did.many (words_for (first % 8) (length room)) did.mid new made.refused did.end in
      let all = did.all in
      let got = reads_show core_reads core_writes by first (λ k. block_words k by.handle) (read_is by)
      told did.many old did.mid short
      (subst (λ n. did.many ≤ words_for (first % 8) n) (sym all) ended.0) did.each in
      let done : made.done ≡ min (length told) (before (first % 8) did.many) =
      did.done ∙ ap (λ n. min n (before (first % 8) did.many)) (sym all) in (
        ended.1 ∙ got.0,
        subst (λ n. take n told ≡ take n (drop first (block_bytes old by.handle))) (sym done) got.1,
      )

  write_puts : (bytes : List ℕ) (made : Progress) (old new : Kept)
      → length (block_words old by.handle) ≤ 4294967295 → AreBytes bytes
      → WritesBytes core_reads core_writes by first bytes made old new
      → HasPut by.handle first (take made.done bytes) old new
  write_puts bytes made old new short small did =
      let ended = write_end (word_index first did.many) (start_in (first % 8) did.many) did.many (words_for (first % 8) (length bytes))
      (piece (first % 8) bytes did.many) did.mid new made.refused (short_piece (first % 8) bytes did.many) did.end in
      let got = puts_laid core_reads core_writes by first (λ k. block_words k by.handle) (read_is by)
      (IsSameBeside (number_of by.handle.place)) (same_beside (number_of by.handle.place)) (beside_both (number_of by.handle.place)) (write_is by)
      bytes did.many old did.mid small short ended.0 did.each in
      subst (λ k. HasPut by.handle first (take made.done bytes) old k) (sym ended.1) (record {
        block = got.0 ∙ ap (λ n. laid first (take n bytes) (block_bytes old by.handle)) (sym did.done);
        size = got.2;
        rest = got.1;
      })

pub reads_show_bytes : ReadsShowBytes
reads_show_bytes by first room told made old new sound did =
    read_shows by first room told made old new (few old by.handle sound) did

pub writes_put_bytes : WritesPutBytes
writes_put_bytes by first bytes made old new sound small did =
    write_puts by first bytes made old new (few old by.handle sound) small did

-- where nothing refused, all are done
all_done : (many most : ℕ) (o : Option Answer) (P : Type 0) (Q : Answer → Type 0) → o ≡ None
    → MatchOption o ((many ≡ most) × P) Q → many ≡ most
all_done many most None P Q none end = end.0
all_done many most (Some said) P Q none end = absurd (cc)

-- what is laid into a list is there
laid_there : (first : ℕ) (bytes told block : List ℕ) → length told ≡ length bytes
    → take (length bytes) told ≡ take (length bytes) (drop first (laid first bytes block)) → told ≡ bytes
laid_there first [] told block long same = nil_from_length told long
laid_there first (b ∷ bs) told block long same =
    let n = length (b ∷ bs) in
    let whole : take n told ≡ told = take_all n told (omega (arith, long)) in
    let size : length told ≡ length (take n (drop first (laid first (b ∷ bs) block))) = ap length (sym whole ∙ same) in
    let cut = length-take n (drop first (laid first (b ∷ bs) block)) in
    let left = length-drop first (laid first (b ∷ bs) block) in
    let all = length-append (take first block ++ b ∷ bs) (drop (first + n) block) in
    let front = length-append (take first block) (b ∷ bs) in
    let one = length-take first block in
    let two = length-drop (first + n) block in
    let inside : first ≤ length block = omega (arith, size, cut, left, all, front, one, two, long) in
    sym whole ∙ same ∙ ap (take n) (from-laid first (b ∷ bs) block inside)
    ∙ take_at (b ∷ bs) (drop (first + n) block) n refl

pub written_is_read : WrittenIsRead
written_is_read by other first bytes room told made seen old mid new sound small same long wrote none read no_more =
    let put = writes_put_bytes by first bytes made old mid sound small wrote in
    let low : first % 8 < 8 = omega arith in
    let put_all : made.done ≡ length bytes =
    wrote.done
    ∙ ap (λ n. min (length bytes) (before (first % 8) n)) (all_done wrote.many _ made.refused _ _ none wrote.end)
    ∙ all_before (first % 8) (length bytes) low in
    let see_all : seen.done ≡ length bytes =
    read.done
    ∙ ap (λ n. min (length room) (before (first % 8) n)) (all_done read.many _ seen.refused _ _ no_more read.end)
    ∙ all_before (first % 8) (length room) low ∙ long in
    let words : block_words mid other.handle ≡ block_words mid by.handle = ap (block_words mid) same in
    let size = put.size in
    let most = few old by.handle sound in
    let long_words : length (block_words mid other.handle) ≡ length (block_words mid by.handle) = ap length words in
    let shown = read_shows other first room told seen mid new (omega (arith, long_words, size, most)) read in
    let block : block_bytes mid other.handle ≡ laid first bytes (block_bytes old by.handle) =
    ap bytes_in words ∙ put.block
    ∙ ap (λ bs. laid first bs (block_bytes old by.handle)) (ap (λ n. take n bytes) put_all ∙ take_all (length bytes) bytes (omega arith)) in
    laid_there first bytes told (block_bytes old by.handle) (read.all ∙ long)
    (subst (λ n. take n told ≡ take n (drop first (block_bytes mid other.handle))) see_all shown.1
    ∙ ap (λ b. take (length bytes) (drop first b)) block)
