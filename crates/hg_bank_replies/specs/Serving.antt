-- What an event of a host does to a bank, and how a bank grows.
use Rattle.std.specs.Prelude.{◌≡◌, ◌≢◌, ℕ, ◌<◌, ◌≤◌, length}
use Rattle.hg_machine.specs.declared.Answer.{Answer}
use Rattle.hg_machine.specs.declared.Event.{Event}
use Rattle.hg_bank.specs.Opening.{grown}
use Rattle.hg_bank.specs.Sound.{IsSoundBank}
use Rattle.hg_bank.specs.State.{BankState}
use Rattle.hg_bank.specs.Steps.{BankStep}
use Rattle.hg_bank_replies.specs.Replies.{request_of, reply_to}
use Rattle.hg_reply.specs.declared.reply.Reply.{Reply}
use Rattle.hg_reply.specs.Replies.{full, no_memory, no_worker, valued}

-- the bank makes one step by the request that the event is, the reply stands for its answer, and the
-- bank stays sound
abbrev pub Steps : BankState → ℕ → ℕ → Event → Reply → BankState → Type 0
Steps old worker core event reply new =
    (answer : Answer) × BankStep old worker (request_of core event) answer new
    × (reply ≡ reply_to old worker (request_of core event) answer) × IsSoundBank new

-- a worker that the policy lacks is answered so, and nothing changes; else the bank steps
pub record Serves (old : BankState) (worker core : ℕ) (event : Event) (reply : Reply)
    (new : BankState) : Type 0 where
  pub unknown : old.policy.workers ≤ worker → (reply ≡ no_worker) × (new ≡ old)
  pub step : worker < old.policy.workers → Steps old worker core event reply new

-- There is one core more, and its number is told; or all are open that there may be, or memory was
-- refused, and nothing changes
pub record Grows (old : BankState) (reply : Reply) (new : BankState) : Type 0 where
  pub full : old.room ≤ length old.cores → (reply ≡ full) × (new ≡ old)
  pub grown :
      length old.cores < old.room → reply.status ≡ 4
      → (reply ≡ valued 4 (length old.cores)) × (new ≡ grown old) × IsSoundBank new
  pub refused :
      length old.cores < old.room → reply.status ≢ 4 → (reply ≡ no_memory) × (new ≡ old)
