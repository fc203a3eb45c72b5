-- What a worker is answered, by what a call of the core answers.
pub use Rattle.hg_heap.specs.Answers.{alloc_answer, look_answer}
use Rattle.std.specs.Prelude.{ℕ, Result, Ok, Err}
use Rattle.hg_machine.specs.declared.Answer.{Answer}
use Rattle.hg_machine.specs.declared.Answer.TheVariants as answer
use Rattle.hg_core.specs.declared.refusals.NothingInHand.{NothingInHand}
use Rattle.hg_core.specs.declared.refusals.NotHeld.{NotHeld}
use Rattle.hg_core.specs.declared.refusals.NoSegment.{NoSegment}
use Rattle.hg_core.specs.declared.refusals.Freed.{Freed}
use Rattle.hg_core.specs.declared.refusals.Freed.TheVariants as freed
use Rattle.hg_core.specs.declared.refusals.NotFreed.{NotFreed}
use Rattle.hg_core.specs.declared.refusals.NotFreed.TheVariants as not_freed

abbrev pub free_answer : Result Freed NotFreed → Answer
free_answer (Ok freed.Here) = answer.Done
free_answer (Ok freed.InHand) = answer.Parted
free_answer (Err (not_freed.Denied rule)) = answer.Denied rule
free_answer (Err not_freed.Busy) = answer.Busy

abbrev pub deliver_answer : {X : Type 0} → Result X NothingInHand → Answer
deliver_answer (Ok done) = answer.Done
deliver_answer (Err nothing) = answer.NothingInHand

abbrev pub take_answer : Result ℕ NotHeld → Answer
take_answer (Ok count) = answer.Taken count
take_answer (Err not_held) = answer.NotHeld

abbrev pub abandon_answer : {X : Type 0} → Result X NotHeld → Answer
abandon_answer (Ok done) = answer.Done
abandon_answer (Err not_held) = answer.NotHeld

abbrev pub refill_answer : Result ℕ NoSegment → Answer
refill_answer (Ok segment) = answer.Refilled segment
refill_answer (Err none) = answer.NoSegment
