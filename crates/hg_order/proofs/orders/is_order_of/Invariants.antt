use Rattle.std.proofs.Common.{◌≡◌, ◌<◌, ℕ}
use Rattle.hg_order.specs.Orders.{calls_of}
use Rattle.hg_order.proofs.orders.is_order_of.Given as goal

-- the workers before have the same calls
abbrev pub invariant-loop-worker : goal.invariant-loop-worker
invariant-loop-worker l = (w : ℕ) → w < l.worker → calls_of w l.order ≡ calls_of w l.calls
