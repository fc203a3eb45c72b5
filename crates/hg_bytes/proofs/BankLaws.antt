-- Bytes of a bank's block are those of its core's.
use Rattle.std.proofs.Common.{◌≡◌, ◌≢◌, ◌⊎◌, ℕ, zero, suc, ◌+◌, ◌%◌, ◌<◌, ◌≤◌, Bool, true, ◌&&◌, nat_lt, if◌then◌else◌, List, length, drop, Option, Some, None, MatchOption, arith, refl, sym, ap, subst, inl, inr, ◌∙◌}
use Rattle.std.specs.Prelude.{slice_get}
use Rattle.std.specs.Int.{to_le_bytes, from_le_bytes, w64}
use Rattle.std.proofs.lemmas.Bool.{cases_lt, lt-ltb}
use Rattle.std.proofs.lemmas.List.{get_or-set_same, length-set, set-get_or, set-set}
use Rattle.std.proofs.lemmas.Option.{MatchOption-at_some, get_or_from_slice_get, same_Some, slice_get-get_or, slice_get_within}
use Rattle.hg_machine.specs.declared.Answer.{Answer}
use Rattle.hg_machine.specs.declared.Answer.TheVariants as answer
use Rattle.hg_machine.specs.declared.Event.{Event}
use Rattle.hg_machine.specs.declared.Event.TheVariants as event
use Rattle.hg_machine.specs.Lists.{Kept}
use Rattle.hg_choice.specs.ChosenSteps.{ChosenStep}
use Rattle.hg_bank.specs.Requests.{named, names_core, server}
use Rattle.hg_bank.specs.State.{BankState, with_core}
use Rattle.hg_bank.specs.Steps.{BankStep, IsServedBy}
use Rattle.hg_bytes.specs.Bytes.{Puts, PutsEach, PutsNot, ReadsBytes, ReadsEach, WritesBytes, word_index}
use Rattle.hg_bytes.specs.Laws.{BankReadsAreACores, BankWritesAreACores, in_core}
use Rattle.hg_bytes.specs.OfBank.{bank_reads, bank_writes}
use Rattle.hg_bytes.specs.OfCore.{core_reads, core_writes}
use Rattle.hg_bytes.specs.Pieces.{laid, piece, start_in, words_for}
use Rattle.hg_bytes.specs.declared.of_bank.BankBlock.{BankBlock}
use Rattle.hg_bytes.specs.declared.of_core.CoreBlock.{CoreBlock}
use Rattle.hg_bytes.specs.declared.progress.Progress.{Progress}
use Rattle.hg_bytes.proofs.BlockRuns.{short_piece}

module _ (by : BankBlock) (old : BankState) (was : Kept)
    (there : slice_get old.cores by.block.core ≡ Some was) where
  abbrev at : ℕ
  at = by.block.core

  abbrev with_cores : List Kept → BankState
  with_cores cores =
      record { policy = old.policy; room = old.room; cores = cores; currents = old.currents }

  stays : with_core old at was ≡ old
  stays =
      ap (λ k. with_core old at k) (sym (get_or_from_slice_get old.cores at was was there))
      ∙ ap with_cores (set-get_or old.cores at was)

  -- a step of the bank is a step of the core that it names
  core_step : (k : Kept) (e : Event) (said : Answer) (new : BankState) → names_core e ≡ true
      → BankStep (with_core old at k) by.worker (named at e) said new
      → (next : Kept) × ChosenStep k by.worker e said next × (new ≡ with_core old at next)
  core_step k e said new names step =
      let b = with_core old at k in
      let below = slice_get_within old.cores at was there in
      let long : length b.cores ≡ length old.cores = length-set old.cores at k in
      let inside : at < length b.cores = omega (arith, below, long) in
      let is : server b by.worker (named at e) ≡ Some at =
      ap (λ t. if t && nat_lt at (length b.cores) then Some at else None) names
      ∙ ap (λ t. if t then Some at else None) (lt-ltb at (length b.cores) inside) in
      let served = MatchOption-at_some _ (IsServedBy b by.worker (named at e) said new) at is step in
      let own : slice_get b.cores at ≡ Some k =
      slice_get-get_or b.cores at k inside ∙ ap Some (get_or-set_same old.cores at k k below) in
      let same : served.was ≡ k = same_Some _ _ (sym served.there ∙ own) in (
        served.next,
        subst (λ m. ChosenStep m by.worker e said served.next) same served.step,
        served.after ∙ ap with_cores (set-set old.cores at k served.next),
      )

  read_step : (index : ℕ) (said : Answer) (k : Kept) (mid new : BankState) → mid ≡ with_core old at k
      → bank_reads by index said mid new
      → (next : Kept) × core_reads (in_core by) index said k next × (new ≡ with_core old at next)
  read_step index said k mid new is did =
      core_step k (event.Read by.actor by.block.handle index) said new refl
      (subst (λ b. bank_reads by index said b new) is did)

  write_step : (index value : ℕ) (said : Answer) (k : Kept) (mid new : BankState) → mid ≡ with_core old at k
      → bank_writes by index value said mid new
      → (next : Kept) × core_writes (in_core by) index value said k next × (new ≡ with_core old at next)
  write_step index value said k mid new is did =
      core_step k (event.Write by.actor by.block.handle index value) said new refl
      (subst (λ b. bank_writes by index value said b new) is did)

  module _ (first : ℕ) where
    reads_each : (told : List ℕ) (n : ℕ) (new : BankState)
        → ReadsEach bank_reads bank_writes by first told n old new
        → (next : Kept) × ReadsEach core_reads core_writes (in_core by) first told n was next
        × (new ≡ with_core old at next)
    reads_each told zero new each = (was, refl, each ∙ sym stays)
    reads_each told (suc n) new each =
        let got = reads_each told n each.0 each.2 in
        let step = read_step (word_index first n) (answer.Value each.1) got.0 each.0 new got.2 each.3 in
        (step.0, (got.0, each.1, got.1, step.1, each.4), step.2)

    read_end : (many most : ℕ) (k : Kept) (mid new : BankState) (o : Option Answer) → mid ≡ with_core old at k
        → MatchOption o ((many ≡ most) × (new ≡ mid))
        (λ said. (many < most) × ((word : ℕ) → said ≢ answer.Value word)
        × bank_reads by (word_index first many) said mid new)
        → (next : Kept) × MatchOption o ((many ≡ most) × (next ≡ k))
        (λ said. (many < most) × ((word : ℕ) → said ≢ answer.Value word)
        × core_reads (in_core by) (word_index first many) said k next)
        × (new ≡ with_core old at next)
    read_end many most k mid new None is end = (k, (end.0, refl), end.1 ∙ is)
    read_end many most k mid new (Some said) is end =
        let step = read_step (word_index first many) said k mid new is end.2 in
        (step.0, (end.0, end.1, step.1), step.2)

    -- Bytes are put into a word of the bank's as into the core's. Which of both forms it is, their number says
    put_step : (index start : ℕ) (bytes : List ℕ) (k : Kept) (mid new : BankState) → mid ≡ with_core old at k
        → length bytes ≤ 8 → Puts bank_reads bank_writes by index start bytes mid new
        → (next : Kept) × Puts core_reads core_writes (in_core by) index start bytes k next
        × (new ≡ with_core old at next)
    put_step index start bytes k mid new is short put =
        elim (cases_lt (length bytes) 8) [
          | inl less ↦
              let did = put.part less in
              let seen = read_step index (answer.Value did.0) k mid did.1 is did.2 in
              let value = from_le_bytes w64 (laid start bytes (to_le_bytes w64 did.0)) in
              let set = write_step index value answer.Done seen.0 did.1 new seen.2 did.3 in (
                set.0,
                record {
                  whole = λ eight. absurd (omega (arith, less, eight));
                  part = λ _. (did.0, seen.0, seen.1, set.1);
                },
                set.2,
              )
          | inr more ↦
              let eight : length bytes ≡ 8 = omega (arith, short, more) in
              let set = write_step index (from_le_bytes w64 bytes) answer.Done k mid new is (put.whole eight) in (
                set.0,
                record { whole = λ _. set.1; part = λ less. absurd (omega (arith, less, eight)) },
                set.2,
              )
        ]

    put_not_step : (index start : ℕ) (bytes : List ℕ) (said : Answer) (k : Kept) (mid new : BankState)
        → mid ≡ with_core old at k → length bytes ≤ 8
        → PutsNot bank_reads bank_writes by index start bytes said mid new
        → (next : Kept) × PutsNot core_reads core_writes (in_core by) index start bytes said k next
        × (new ≡ with_core old at next)
    put_not_step index start bytes said k mid new is short put =
        elim (cases_lt (length bytes) 8) [
          | inl less ↦ elim (put.part less) [
            | inl unseen ↦
                let step = read_step index said k mid new is unseen.1 in (
                  step.0,
                  record {
                    whole = λ eight. absurd (omega (arith, less, eight));
                    part = λ _. inl (unseen.0, step.1);
                  },
                  step.2,
                )
            | inr seen ↦
                let step = read_step index (answer.Value seen.0) k mid seen.1 is seen.3 in
                let value = from_le_bytes w64 (laid start bytes (to_le_bytes w64 seen.0)) in
                let set = write_step index value said step.0 seen.1 new step.2 seen.4 in (
                  set.0,
                  record {
                    whole = λ eight. absurd (omega (arith, less, eight));
                    part = λ _. inr (seen.0, step.0, seen.2, step.1, set.1);
                  },
                  set.2,
                )
          ]
          | inr more ↦
              let eight : length bytes ≡ 8 = omega (arith, short, more) in
              let no = put.whole eight in
              let set = write_step index (from_le_bytes w64 bytes) said k mid new is no.1 in (
                set.0,
                record { whole = λ _. (no.0, set.1); part = λ less. absurd (omega (arith, less, eight)) },
                set.2,
              )
        ]

    puts_each : (bytes : List ℕ) (n : ℕ) (new : BankState)
        → PutsEach bank_reads bank_writes by first bytes n old new
        → (next : Kept) × PutsEach core_reads core_writes (in_core by) first bytes n was next
        × (new ≡ with_core old at next)
    puts_each bytes zero new each = (was, refl, each ∙ sym stays)
    puts_each bytes (suc n) new each =
        let got = puts_each bytes n each.0 each.1 in
        let step = put_step (word_index first n) (start_in (first % 8) n) (piece (first % 8) bytes n) got.0 each.0 new
        got.2 (short_piece (first % 8) bytes n) each.2 in
        (step.0, (got.0, got.1, step.1), step.2)

    write_end : (many most start : ℕ) (bytes : List ℕ) (k : Kept) (mid new : BankState) (o : Option Answer)
        → mid ≡ with_core old at k → length bytes ≤ 8
        → MatchOption o ((many ≡ most) × (new ≡ mid))
        (λ said. (many < most)
        × PutsNot bank_reads bank_writes by (word_index first many) start bytes said mid new)
        → (next : Kept) × MatchOption o ((many ≡ most) × (next ≡ k))
        (λ said. (many < most)
        × PutsNot core_reads core_writes (in_core by) (word_index first many) start bytes said k next)
        × (new ≡ with_core old at next)
    write_end many most start bytes k mid new None is short end = (k, (end.0, refl), end.1 ∙ is)
    write_end many most start bytes k mid new (Some said) is short end =
        let step = put_not_step (word_index first many) start bytes said k mid new is short end.1 in
        (step.0, (end.0, step.1), step.2)

pub bank_reads_are_a_cores : BankReadsAreACores
bank_reads_are_a_cores by first room told made old new was there did =
    let got = reads_each by old was there first told did.many did.mid did.each in
    let end = read_end by old was there first did.many (words_for (first % 8) (length room)) got.0 did.mid new made.refused got.2 did.end in (
      end.0,
      record { many = did.many; mid = got.0; each = got.1; done = did.done; all = did.all; rest = did.rest; end = end.1 },
      end.2,
    )

pub bank_writes_are_a_cores : BankWritesAreACores
bank_writes_are_a_cores by first bytes made old new was there did =
    let got = puts_each by old was there first bytes did.many did.mid did.each in
    let end = write_end by old was there first did.many (words_for (first % 8) (length bytes)) (start_in (first % 8) did.many)
    (piece (first % 8) bytes did.many) got.0 did.mid new made.refused got.2 (short_piece (first % 8) bytes did.many) did.end in (
      end.0,
      record { many = did.many; mid = got.0; each = got.1; done = did.done; end = end.1 },
      end.2,
    )
