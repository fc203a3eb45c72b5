-- What reads and writes words of a bank's blocks.
use Rattle.std.specs.Prelude.{ℕ, ◌<◌}
use Rattle.hg_machine.specs.declared.Answer.{Answer}
use Rattle.hg_machine.specs.declared.Event.TheVariants as event
use Rattle.hg_bank.specs.Requests.{named}
use Rattle.hg_bank.specs.State.{BankState}
use Rattle.hg_bank.specs.Steps.{BankStep}
use Rattle.hg_bytes.specs.declared.of_bank.BankBlock.{BankBlock}

-- the worker is one of the policy's
abbrev pub bank_has : BankBlock → BankState → Type 0
bank_has by bank = by.worker < bank.policy.workers

abbrev pub bank_reads : BankBlock → ℕ → Answer → BankState → BankState → Type 0
bank_reads by index said old new =
    BankStep old by.worker (named by.block.core (event.Read by.actor by.block.handle index)) said
    new

abbrev pub bank_writes : BankBlock → ℕ → ℕ → Answer → BankState → BankState → Type 0
bank_writes by index value said old new =
    BankStep old by.worker (named by.block.core (event.Write by.actor by.block.handle index value))
    said new
