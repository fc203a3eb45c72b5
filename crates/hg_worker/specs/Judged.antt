-- The word that a call found, and the rule that its answer names.
use Rattle.std.specs.Prelude.{ℕ, Option, Some, None}
use Rattle.hg_machine.specs.declared.Answer.{Answer}
use Rattle.hg_machine.specs.declared.Answer.TheVariants as answer
use Rattle.hg_machine.specs.declared.Rule.{Rule}
use Rattle.hg_agreement.specs.Views.{Shown}

-- the word; without a step that of a place which was never given out
abbrev pub found_word : Option Shown → ℕ
found_word None = 0
found_word (Some shown) = shown.word

-- the rule by which it is denied, if it is
abbrev pub rule_of : Answer → Option Rule
rule_of (answer.Denied rule) = Some rule
rule_of other = None
