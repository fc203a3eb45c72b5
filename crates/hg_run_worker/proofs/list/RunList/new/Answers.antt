use Rattle.std.proofs.Common.{sym, subst}
use Rattle.hg_remote.specs.Remote.{Remote}
use Rattle.hg_roles.specs.Roles.{of_remote}
use Rattle.hg_run_table.specs.JoinedCalls.{IsOthers}
use Rattle.hg_run_worker.specs.Lists.{numbers_of}
use Rattle.hg_run_worker.proofs.list.RunList.new.Goals as goal

pub returns-clause-list : goal.returns-clause-list
returns-clause-list c id new = record {
  same = new.same;
  bare = new.bare;
  part =
      subst (λ (remote : Remote). IsOthers c.args.seat (of_remote c.args.segment (numbers_of c.args.segment remote)))
      (sym c.in_ok-list.ensures.empty) new.part;
}
