use Rattle.std.proofs.Common.{rules}
use Rattle.hg_hosted.proofs.Departing.{gone_of}
use Rattle.hg_hosted.proofs.worker.HostedWorker.leave.Goals as goal

pub made-requires-clause-of : goal.made-requires-clause-of
made-requires-clause-of c = c.args.self.of c.in-Some.state (search rules)

pub settle-requires : goal.settle-requires
settle-requires c = (_, _, c.args.self.of c.in-Some.state (search rules))

pub made-requires-then-not-settle-clause-of : goal.made-requires-then-not-settle-clause-of
made-requires-then-not-settle-clause-of c =
    c.settle.ensures.of _ _ (c.args.self.of c.in-Some.state (search rules))

pub goes-requires-clause-of : goal.goes-requires-clause-of
goes-requires-clause-of c =
    c.settle.ensures.of _ _ (c.args.self.of c.in-Some.state (search rules))

pub returns-clause-gone : goal.returns-clause-gone
returns-clause-gone c =
    gone_of c.args.self c.in-Some.state c.settle.new.self (search rules) c.settle.ensures.places
    c.settle.ensures.left c.settle.ensures.taken c.goes.result c.goes.ensures.gone c.goes.ensures.gone_place
