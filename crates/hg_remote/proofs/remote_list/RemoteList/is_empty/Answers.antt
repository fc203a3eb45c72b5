use Rattle.hg_remote.proofs.Calls.{empty_iff}
use Rattle.hg_remote.proofs.remote_list.RemoteList.is_empty.Goals as goal

pub returns-clause-empty : goal.returns-clause-empty
returns-clause-empty c = empty_iff c.self.inside.lists _ _ _ _ c.self.invariant c.self.view_is c.front.ensures.first c.is_none.ensures
