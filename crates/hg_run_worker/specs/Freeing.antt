-- A Free of a block that the worker doesn't hold.
use Rattle.std.specs.Prelude.{Bool, true, false, Option, Some, None}
use Rattle.hg_machine.specs.declared.Answer.{Answer}
use Rattle.hg_machine.specs.declared.Answer.TheVariants as answer
use Rattle.hg_machine.specs.declared.Rule.{Rule}
use Rattle.hg_heap.specs.Answers.{away_answer}

-- why it is refused by a word, if it is: by the rule that denies it, or since something is in hand
abbrev pub away_refusal : Bool → Option Rule → Option Answer
away_refusal busy (Some rule) = Some (answer.Denied rule)
away_refusal true None = Some answer.Busy
away_refusal false None = None

-- and what the exchange of a word that didn't refuse it answers, where it finds this word, and where it finds
-- another, which a rule denies
abbrev pub exchange_answer : Bool → Option Rule → Answer
exchange_answer true denial = answer.Parted
exchange_answer false denial = away_answer denial
