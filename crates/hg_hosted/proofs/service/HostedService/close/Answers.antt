use Rattle.hg_hosted.proofs.Named.{by_known}
use Rattle.hg_hosted.proofs.service.HostedService.close.Goals as goal

pub give_up-requires-clause-of : goal.give_up-requires-clause-of
give_up-requires-clause-of c = by_known _ _ c.args.self.shared.left.known c.args.self.of
