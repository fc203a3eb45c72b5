use Rattle.std.proofs.Common.{rules}
use Rattle.hg_table.proofs.Allowed.{looks}
use Rattle.hg_table.proofs.Told.{shown_of}
use Rattle.hg_table.proofs.worker.UnnamedWorker.look.Goals as goal

pub load-found-requires : goal.load-found-requires
load-found-requires c = (search rules, search rules, looks _ _ _ _ _ (search rules))

pub returns-clause-shown : goal.returns-clause-shown
returns-clause-shown c = search (rules, shown_of _ _ _ _ c.args.self.now.one (search rules) c.load-found.ensures.2.0)
