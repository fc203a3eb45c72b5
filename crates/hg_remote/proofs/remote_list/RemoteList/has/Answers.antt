use Rattle.hg_remote.proofs.Calls.{has_iff}
use Rattle.hg_remote.proofs.remote_list.RemoteList.has.Goals as goal

pub returns-clause-there : goal.returns-clause-there
returns-clause-there c = has_iff c.self.inside.lists _ _ _ _ _ c.self.view_is c.slot.ensures c.has.ensures.there
