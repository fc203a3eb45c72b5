-- By which rule a use of a block is denied, by the word that a step at its place showed.
use Rattle.std.specs.Prelude.{◌≡◌, ℕ, Option, Some, None, Result, Ok, Err}
use Rattle.hg_place.specs.declared.Handle.{Handle}
use Rattle.hg_place.specs.declared.Right.{Right}
use Rattle.hg_place.specs.Lives.{IsLiveWord, word_generation}
use Rattle.hg_machine.specs.declared.Rule.{Rule}
use Rattle.hg_machine.specs.Policy.{Policy}
use Rattle.hg_heap.specs.Reading.{use_denial}
use Rattle.hg_heap.specs.declared.refused.Refused.{Refused}
use Rattle.hg_heap.specs.declared.refused.Refused.TheVariants as refused

-- the rule that a refusal names, if it is a denial
abbrev pub refused_rule : Refused → Option Rule
refused_rule (refused.Denied rule) = Some rule
refused_rule refused.TooLarge = None
refused_rule refused.NoRoom = None
refused_rule refused.Elsewhere = None
refused_rule refused.OutOfBlock = None

abbrev pub rule_in : {X : Type 0} → Result X Refused → Option Rule
rule_in (Ok value) = None
rule_in (Err refused) = refused_rule refused

-- the verdict on the word names this rule; or it names none, and then the word is live and of the
-- handle's generation
pub record IsJudged (policy : Policy) (actor : ℕ) (which : Right) (handle : Handle) (word : ℕ)
    (denial : Option Rule) : Type 0 where
  pub named : use_denial policy actor which handle word ≡ denial
  pub live : denial ≡ None → IsLiveWord word
  pub generation : denial ≡ None → word_generation word ≡ handle.generation
