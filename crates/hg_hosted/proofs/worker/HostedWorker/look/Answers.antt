use Rattle.std.proofs.Common.{rules, refl}
use Rattle.hg_hosted.proofs.worker.HostedWorker.look.Goals as goal

pub returns-clause-served : goal.returns-clause-served
returns-clause-served c = record {
  before = c.in-Some.state;
  after = c.look_by-answer.result.1;
  was = search rules;
  is = refl;
  does = c.look_by-answer.ensures.done;
}
