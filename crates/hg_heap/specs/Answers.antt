-- What a worker is answered, by what its heap answers or by the verdict on a word.
use Rattle.std.specs.Prelude.{ℕ, max, Result, Ok, Err, Option, Some, None}
use Rattle.hg_place.specs.declared.Actor.{Actor}
use Rattle.hg_place.specs.declared.Handle.{Handle}
use Rattle.hg_place.specs.declared.Place.{Place}
use Rattle.hg_place.specs.declared.Right.TheVariants as right
use Rattle.hg_place.specs.Slots.{slot_in}
use Rattle.hg_machine.specs.Policy.{Policy}
use Rattle.hg_machine.specs.Denial.{denial_on}
use Rattle.hg_machine.specs.declared.Row.{Row}
use Rattle.hg_machine.specs.declared.Rule.{Rule}
use Rattle.hg_machine.specs.declared.Answer.{Answer}
use Rattle.hg_machine.specs.declared.Answer.TheVariants as answer
use Rattle.hg_heap.specs.declared.refused.Refused.{Refused}
use Rattle.hg_heap.specs.declared.refused.Refused.TheVariants as refused

abbrev pub refused_answer : Refused → Answer
refused_answer (refused.Denied rule) = answer.Denied rule
refused_answer refused.TooLarge = answer.TooLarge
refused_answer refused.NoRoom = answer.NoRoom
refused_answer refused.Elsewhere = answer.Elsewhere
refused_answer refused.OutOfBlock = answer.OutOfBlock

abbrev pub alloc_answer : Result Handle Refused → Answer
alloc_answer (Ok handle) = answer.Block handle
alloc_answer (Err refused) = refused_answer refused

abbrev pub read_answer : Result ℕ Refused → Answer
read_answer (Ok value) = answer.Value value
read_answer (Err refused) = refused_answer refused

abbrev pub done_answer : {X : Type 0} → Result X Refused → Answer
done_answer (Ok done) = answer.Done
done_answer (Err refused) = refused_answer refused

abbrev pub look_answer : Result Row Refused → Answer
look_answer (Ok row) = answer.Listed row
look_answer (Err refused) = refused_answer refused

-- by the rule that denies the use of a block; where none does, that the block is elsewhere
abbrev pub away_answer : Option Rule → Answer
away_answer (Some rule) = answer.Denied rule
away_answer None = answer.Elsewhere

-- a Look's; without a row, by the verdict on the word that was shown
abbrev pub row_answer : Option Row → Option Rule → Answer
row_answer (Some row) denial = answer.Listed row
row_answer None denial = away_answer denial

-- why a row isn't shown, by the word of its place
abbrev pub list_denial : Policy → Actor → Place → ℕ → Option Rule
list_denial policy actor place word =
    denial_on policy actor.0 right.List place.segment (max 1 (slot_in word).generation)
    (slot_in word)
