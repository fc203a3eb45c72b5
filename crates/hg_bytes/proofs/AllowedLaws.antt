-- What may be read and written is.
use Rattle.std.proofs.Common.{◌≡◌, ◌≢◌, ◌⊎◌, ℕ, zero, suc, ◌+◌, ◌*◌, ◌/◌, ◌%◌, ◌<◌, ◌≤◌, min, not, nat_lt, true, List, [], ◌∷◌, length, take, Option, Some, None, arith, refl, sym, ap, subst, inl, inr, ◌∙◌}
use Rattle.std.proofs.lemmas.Bool.{lt-ltb}
use Rattle.hg_place.specs.declared.Right.{Right}
use Rattle.hg_place.specs.declared.Right.TheVariants as right
use Rattle.hg_place.specs.Places.{number_of}
use Rattle.hg_place.specs.Slots.{Slot}
use Rattle.hg_machine.specs.declared.Answer.{Answer}
use Rattle.hg_machine.specs.declared.Answer.TheVariants as answer
use Rattle.hg_machine.specs.declared.Event.TheVariants as event
use Rattle.hg_machine.specs.Denial.{denial, denial_on, slot_at}
use Rattle.hg_machine.specs.First.{first_of}
use Rattle.hg_machine.specs.Holders.{holds}
use Rattle.hg_machine.specs.Lists.{Kept}
use Rattle.hg_machine.specs.Policy.{Policy}
use Rattle.hg_machine.specs.Refusal.{denial_or, reach_refusal, refusal}
use Rattle.hg_machine.specs.Soundness.{IsSound}
use Rattle.hg_machine.specs.State.{State}
use Rattle.hg_machine.proofs.Cases.{step_cases}
use Rattle.hg_bytes.specs.Allowed.{AllowedIsRead, AllowedIsWritten, HoldsIts, MayUse}
use Rattle.hg_bytes.specs.Blocks.{AreBytes, HasPut, block_bytes, block_words}
use Rattle.hg_bytes.specs.Bytes.{ReadsBytes, WritesBytes}
use Rattle.hg_bytes.specs.Ends.{IsReadTo, IsWrittenTo, index_at}
use Rattle.hg_bytes.specs.OfCore.{core_reads, core_writes}
use Rattle.hg_bytes.specs.declared.of_core.CoreBlock.{CoreBlock}
use Rattle.hg_bytes.specs.declared.progress.Progress.{Progress}
use Rattle.hg_bytes.proofs.CoreLaws.{reads_show_bytes, writes_put_bytes}
use Rattle.hg_bytes.proofs.LaidLemmas.{length-bytes}
use Rattle.hg_bytes.proofs.EndLaws.{reads_end, writes_end}

module _ (by : CoreBlock) (k : Kept) where
  -- nothing refuses a word that lies in the block
  within_reach : (what : Right) (index : ℕ) → MayUse what by k → HoldsIts by k → index < length (block_words k by.handle)
      → reach_refusal k.state by.worker by.actor.0 what by.handle index ≡ None
  within_reach what index may held below =
      let inside = not (nat_lt index (length (block_words k by.handle))) in
      ap (λ d. denial_or d ((not (holds k.state by.worker by.handle.place.segment), answer.Elsewhere)
      ∷ (inside, answer.OutOfBlock) ∷ [])) may
      ∙ ap (λ b. first_of ((not b, answer.Elsewhere) ∷ (inside, answer.OutOfBlock) ∷ [])) held
      ∙ ap (λ b. first_of ((not true, answer.Elsewhere) ∷ (not b, answer.OutOfBlock) ∷ []))
      (lt-ltb index (length (block_words k by.handle)) below)

  is_read : (index : ℕ) (said : Answer) → MayUse right.Read by k → HoldsIts by k → index < length (block_words k by.handle)
      → core_reads by index said k k → ((word : ℕ) → said ≢ answer.Value word) → ⊥
  is_read index said may held below did none =
      elim (step_cases k.state by.worker (event.Read by.actor by.handle index) said k.state did.step) as (λ _. ⊥) [
        | inl is ↦ absurd (none _ is.serves)
        | inr is ↦
            let no : refusal k.state by.worker (event.Read by.actor by.handle index) ≡ None = within_reach right.Read index may held below in
            let yes = is.some in absurd (cc)
      ]

  is_written : (index value : ℕ) (said : Answer) → MayUse right.Write by k → HoldsIts by k → index < length (block_words k by.handle)
      → core_writes by index value said k k → said ≡ answer.Done
  is_written index value said may held below did =
      elim (step_cases k.state by.worker (event.Write by.actor by.handle index value) said k.state did.step) as (λ _. said ≡ answer.Done) [
        | inl is ↦ is.serves
        | inr is ↦
            let no : refusal k.state by.worker (event.Write by.actor by.handle index value) ≡ None = within_reach right.Write index may held below in
            let yes = is.some in absurd (cc)
      ]

  -- a byte of the block lies in one of its words
  word_of : (byte : ℕ) → byte < length (block_bytes k by.handle) → index_at byte < length (block_words k by.handle)
  word_of byte below = let long = length-bytes (block_words k by.handle) in omega (arith, below, long)

at_word : (first done : ℕ) → first % 8 ≡ 0 → (1 ≤ done → (first + done) % 8 ≡ 0) → (first + done) % 8 ≡ 0
at_word first zero is later = omega (arith, is)
at_word first (suc d) is later = later (omega arith)

module _ (by : CoreBlock) (first done n : ℕ) (k : Kept) (held : HoldsIts by k)
    (inside : first + n ≤ length (block_bytes k by.handle)) where
  read_whole : (o : Option Answer) → MayUse right.Read by k → IsReadTo by first n done o k → o ≡ None
  read_whole None may end = refl
  read_whole (Some said) may end =
      let below = end.0 in
      absurd (is_read by k (index_at (first + done)) said may held (word_of by k (first + done) (omega (arith, below))) end.3 end.2)

  written_whole : (o : Option Answer) → MayUse right.Write by k
      → MayUse right.Read by k ⊎ ((first % 8 ≡ 0) × (n % 8 ≡ 0)) → IsWrittenTo by first n done o k → o ≡ None
  written_whole None may also end = refl
  written_whole (Some said) may also end =
      let below = end.0 in
      let word = word_of by k (first + done) (omega (arith, below)) in
      elim end.2 as (λ _. Some said ≡ None) [
        | inl unread ↦ elim also as (λ _. Some said ≡ None) [
          | inl reads ↦ absurd (is_read by k (index_at (first + done)) said reads held word unread.2 unread.0)
          | inr whole ↦
              let one = whole.0 in
              let all = whole.1 in
              let begins : (first + done) % 8 ≡ 0 = at_word first done one end.1 in
              let ends = unread.1 begins in
              absurd (omega (arith, one, all, begins, ends, below))
        ]
        | inr unwritten ↦
            absurd (unwritten.1 (is_written by k (index_at (first + done)) unwritten.0 said may held word unwritten.2))
      ]

pub allowed_is_read : AllowedIsRead
allowed_is_read by first room told made old new sound may held inside did =
    let same = (reads_show_bytes by first room told made old new sound did).0 in
    read_whole by first made.done (length room) old held inside made.refused may
    (subst (IsReadTo by first (length room) made.done made.refused) same (reads_end by first room told made old new did))

-- what was allowed is so after bytes were put into the block
module _ (by : CoreBlock) (first : ℕ) (bytes : List ℕ) (old new : Kept) (put : HasPut by.handle first bytes old new) where
  may_still : (what : Right) → MayUse what by old → MayUse what by new
  may_still what may =
      let place = number_of by.handle.place in
      ap (λ (p : Policy). denial_on p by.actor.0 what by.handle.place.segment by.handle.generation (slot_at new.state place))
      (ap (λ (s : State). s.policy) put.rest.state)
      ∙ ap (λ (t : Slot). denial_on old.state.policy by.actor.0 what by.handle.place.segment by.handle.generation t) put.rest.slot
      ∙ may

  holds_still : HoldsIts by old → HoldsIts by new
  holds_still held =
      ap (λ (s : State). holds s by.worker by.handle.place.segment) put.rest.state ∙ held

  as_long : length (block_bytes new by.handle) ≡ length (block_bytes old by.handle)
  as_long =
      let one = length-bytes (block_words new by.handle) in
      let two = length-bytes (block_words old by.handle) in
      let same = put.size in
      omega (arith, one, two, same)

pub allowed_is_written : AllowedIsWritten
allowed_is_written by first bytes made old new sound small may held also inside did =
    let put = writes_put_bytes by first bytes made old new sound small did in
    let done = take made.done bytes in
    let long = as_long by first done old new put in
    written_whole by first made.done (length bytes) new (holds_still by first done old new put held)
    (omega (arith, long, inside)) made.refused (may_still by first done old new put right.Write may)
    (elim also as (λ _. MayUse right.Read by new ⊎ ((first % 8 ≡ 0) × (length bytes % 8 ≡ 0))) [
      | inl reads ↦ inl (may_still by first done old new put right.Read reads)
      | inr whole ↦ inr whole
    ])
    (writes_end by first bytes made old new did)
