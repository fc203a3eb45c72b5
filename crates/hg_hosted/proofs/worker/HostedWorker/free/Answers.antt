use Rattle.std.proofs.Common.{rules, refl}
use Rattle.hg_hosted.proofs.worker.HostedWorker.free.Goals as goal

pub returns-clause-served : goal.returns-clause-served
returns-clause-served c = record {
  before = c.in-Some.state;
  after = c.free_by-answer.result.1;
  was = search rules;
  is = refl;
  does = c.free_by-answer.ensures.done;
}
