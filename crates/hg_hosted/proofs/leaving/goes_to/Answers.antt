use Rattle.hg_hosted.proofs.Named.{leaves_to}
use Rattle.hg_hosted.proofs.leaving.goes_to.Goals as goal

pub put-requires-clause-part : goal.put-requires-clause-part
put-requires-clause-part c = leaves_to c.args.state c.requires.known c.requires.idle
