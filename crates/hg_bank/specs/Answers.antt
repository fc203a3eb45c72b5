-- What a worker is answered, by what a call of the bank tells.
use Rattle.std.specs.Prelude.{ℕ, Option, Some, None, Result, Ok, Err}
use Rattle.hg_core.specs.declared.refusals.NoSegment.{NoSegment}
use Rattle.hg_heap.specs.declared.refused.Refused.{Refused}
use Rattle.hg_heap.specs.Answers.{refused_answer}
use Rattle.hg_machine.specs.declared.Answer.{Answer}
use Rattle.hg_machine.specs.declared.Answer.TheVariants as answer
use Rattle.hg_bank.specs.declared.bank.BankHandle.{BankHandle}
use Rattle.hg_bank.specs.declared.bank.BankSegment.{BankSegment}

abbrev pub bank_alloc_answer : Result BankHandle Refused → Answer
bank_alloc_answer (Ok block) = answer.Block block.handle
bank_alloc_answer (Err refused) = refused_answer refused

abbrev pub bank_refill_answer : Result BankSegment NoSegment → Answer
bank_refill_answer (Ok segment) = answer.Refilled segment.segment
bank_refill_answer (Err none) = answer.NoSegment

-- the core that gave the block, or the segment
abbrev pub core_of : Option BankHandle → Option ℕ
core_of None = None
core_of (Some block) = Some block.core

abbrev pub core_of_segment : Option BankSegment → Option ℕ
core_of_segment None = None
core_of_segment (Some segment) = Some segment.core
