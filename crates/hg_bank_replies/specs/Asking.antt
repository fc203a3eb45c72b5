-- What a host asks a bank, and what it is told.
use Rattle.std.specs.Prelude.{ℕ, Bool, false, Option, Some, None, length, nat_lt, slice_get}
use Rattle.std.specs.Prelude.{if◌then◌else◌}
use Rattle.hg_place.specs.Words.{bit_of}
use Rattle.hg_machine.specs.Holders.{holds}
use Rattle.hg_machine.specs.Lists.{Kept}
use Rattle.hg_machine.specs.Policy.{is_tenant}
use Rattle.hg_machine.specs.State.{holder_at}
use Rattle.hg_core.specs.Held.{worker_in}
use Rattle.hg_bank.specs.State.{BankState, charge_over}
use Rattle.hg_bank_replies.specs.declared.asking.BankQuestion.{BankQuestion}
use Rattle.hg_bank_replies.specs.declared.asking.BankQuestion.TheVariants as question
use Rattle.hg_reply.specs.declared.reply.Reply.{Reply}
use Rattle.hg_reply.specs.Holding.{holding}
use Rattle.hg_reply.specs.Naming.{nobody}
use Rattle.hg_reply.specs.Replies.{closed, no_name, no_worker, valued}

-- whether a worker holds a segment of a core; nobody does where the core isn't there
abbrev pub holds_in : Option Kept → ℕ → ℕ → Bool
holds_in None worker segment = false
holds_in (Some core) worker segment = holds core.state worker segment

-- who holds a segment of a core
abbrev pub holder_in : Option Kept → ℕ → Option ℕ
holder_in None segment = None
holder_in (Some core) segment = worker_in (holder_at core.state segment)

abbrev pub holder_told : BankState → ℕ → ℕ → Reply
holder_told b core segment = holding (holder_in (slice_get b.cores core) segment)

-- what counts against the tenant's limit with the worker, over all cores; a worker that the policy
-- lacks is answered so, and then a tenant that it lacks
abbrev pub charged : BankState → ℕ → ℕ → Reply
charged b worker tenant =
    if nat_lt worker b.policy.workers
    then (if is_tenant b.policy tenant
    then valued 4 (charge_over b.cores worker tenant) else no_name)
    else no_worker

abbrev pub answer_to : BankQuestion → BankState → Reply
answer_to question.Cores b = valued 4 (length b.cores)
answer_to question.Workers b = valued 4 b.policy.workers
answer_to question.Segments b = valued 4 (length b.policy.segments)
answer_to (question.Holds core worker segment) b =
    valued 4 (bit_of (holds_in (slice_get b.cores core) worker segment))
answer_to (question.Holder core segment) b = holder_told b core segment
answer_to (question.Charge worker tenant) b = charged b worker tenant

-- what is told where the bank is closed: of a holder, the number that no worker has
abbrev pub shut_to : BankQuestion → Reply
shut_to question.Cores = closed
shut_to question.Workers = closed
shut_to question.Segments = closed
shut_to (question.Holds core worker segment) = closed
shut_to (question.Holder core segment) = valued 64 nobody
shut_to (question.Charge worker tenant) = closed
