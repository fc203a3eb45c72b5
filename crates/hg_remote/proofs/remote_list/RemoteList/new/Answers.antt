use Rattle.hg_remote.proofs.Kept.{nothing_by, nothing_kept, nothing_right}
use Rattle.hg_remote.proofs.remote_list.RemoteList.new.Goals as goal

pub invariant_of-result : goal.invariant_of-result
invariant_of-result c = nothing_kept c.in_ok-lists.lists c.in_ok-lists.ensures.keys c.in_ok-lists.ensures.entries c.in_ok-lists.ensures.apart c.in_ok-lists.ensures.empty

pub returns-clause-empty : goal.returns-clause-empty
returns-clause-empty c = nothing_by c.in_ok-lists.lists c.in_ok-lists.ensures.keys c.in_ok-lists.ensures.empty

pub returns-clause-right : goal.returns-clause-right
returns-clause-right c = rw (nothing_by c.in_ok-lists.lists c.in_ok-lists.ensures.keys c.in_ok-lists.ensures.empty) nothing_right
