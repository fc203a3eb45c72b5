-- Worked grants of one right alone.
use Rattle.std.specs.Prelude.{[], ◌∷◌, true}
use Rattle.hg_machine.specs.declared.Answer.{Answer}
use Rattle.hg_machine.specs.declared.Answer.TheVariants as answer
use Rattle.hg_machine.specs.declared.Row.{Row}
use Rattle.hg_machine.specs.declared.Rule.TheVariants as rule
use Rattle.hg_machine.specs.Policy.{Policy, Rights, no_rights}
use Rattle.hg_rows.specs.Answers.{Answers}
use Rattle.hg_rows.specs.WorkedPolicy.{worked_policy, all_rights, shortened}
use Rattle.hg_rows.specs.Shorthand.{alice, bob, refills, allocs, reads, writes, looks, frees, block}

-- alice lets bob do just this with what is hers
abbrev pub granting : Rights → Policy
granting rights = record (worked_policy 9) {
  granted = (all_rights ∷ rights ∷ []) ∷ (no_rights ∷ all_rights ∷ []) ∷ [];
}

-- under this policy bob reads, writes, looks at and frees a block of alice's, and is answered so
abbrev pub BobIsAnswered : Policy → Answer → Answer → Answer → Answer → Type 0
BobIsAnswered policy read written looked freed =
    Answers (shortened policy 1 1)
    (refills 0 0
    ∷ allocs 0 alice 8
    ∷ reads 0 bob block 0
    ∷ writes 0 bob block 0 5
    ∷ looks 0 bob block
    ∷ frees 0 bob block
    ∷ [])
    (answer.Refilled 0 ∷ answer.Block block ∷ read ∷ written ∷ looked ∷ freed ∷ [])

abbrev pub not_granted : Answer
not_granted = answer.Denied rule.NotGranted

abbrev pub row_of_eight : Row
row_of_eight = record { handle = block; owner = alice; bytes = 8 }

-- each right serves its own event, and no other
pub record EachRightServesItsOwn : Type 0 where
  pub none : BobIsAnswered (granting no_rights) not_granted not_granted not_granted not_granted
  pub to_read :
      BobIsAnswered (granting (record no_rights { read = true })) (answer.Value 0) not_granted
      not_granted
      not_granted
  pub to_write :
      BobIsAnswered (granting (record no_rights { write = true })) not_granted answer.Done
      not_granted
      not_granted
  pub to_list :
      BobIsAnswered (granting (record no_rights { list = true })) not_granted not_granted
      (answer.Listed row_of_eight)
      not_granted
  pub to_free :
      BobIsAnswered (granting (record no_rights { free = true })) not_granted not_granted
      not_granted
      answer.Done
