use Rattle.std.proofs.Common.{◌≡◌, ◌+◌, length}
use Rattle.hg_bank_service.specs.Closing.{HaveClosed}
use Rattle.hg_bank_service.proofs.service.BankService.close.Given as goal

abbrev pub invariant-loop : goal.invariant-loop
invariant-loop l = record {
  policy : l.service.policy ≡ l.fn.self.policy;
  have : HaveClosed l.fn.self l.service.running l.service.closed;
  left : length l.service.running + l.counter ≡ length l.fn.self.running;
}
