-- Worked denies of one right alone.
use Rattle.std.specs.Prelude.{[], ◌∷◌, true}
use Rattle.hg_machine.specs.declared.Answer.{Answer}
use Rattle.hg_machine.specs.declared.Answer.TheVariants as answer
use Rattle.hg_machine.specs.declared.Rule.TheVariants as rule
use Rattle.hg_machine.specs.Policy.{Policy, Rights, no_rights}
use Rattle.hg_rows.specs.WorkedPolicy.{all_rights}
use Rattle.hg_rows.specs.Granting.{granting, BobIsAnswered, row_of_eight}

-- alice lets bob do this with what is hers, but for what is forbidden to him
abbrev pub denying : Rights → Rights → Policy
denying granted forbidden = record (granting granted) {
  forbidden = (no_rights ∷ forbidden ∷ []) ∷ (no_rights ∷ no_rights ∷ []) ∷ [];
}

abbrev pub is_forbidden : Answer
is_forbidden = answer.Denied rule.Forbidden

-- each right that is forbidden is denied to its own event, and to no other; also where nothing is
-- granted
pub record EachDenyTakesItsOwn : Type 0 where
  pub none :
      BobIsAnswered (denying all_rights no_rights) (answer.Value 0) answer.Done
      (answer.Listed row_of_eight)
      answer.Done
  pub to_read :
      BobIsAnswered (denying all_rights (record no_rights { read = true })) is_forbidden
      answer.Done
      (answer.Listed row_of_eight)
      answer.Done
  pub to_write :
      BobIsAnswered (denying all_rights (record no_rights { write = true })) (answer.Value 0)
      is_forbidden
      (answer.Listed row_of_eight)
      answer.Done
  pub to_list :
      BobIsAnswered (denying all_rights (record no_rights { list = true })) (answer.Value 0)
      answer.Done
      is_forbidden
      answer.Done
  pub to_free :
      BobIsAnswered (denying all_rights (record no_rights { free = true })) (answer.Value 0)
      answer.Done
      (answer.Listed row_of_eight)
      is_forbidden
  pub ungranted :
      BobIsAnswered (denying no_rights all_rights) is_forbidden is_forbidden is_forbidden
      is_forbidden
