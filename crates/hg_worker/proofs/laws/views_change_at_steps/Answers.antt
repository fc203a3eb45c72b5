use Rattle.hg_worker.proofs.WorkerLaws.{views_change_at_steps}
use Rattle.hg_worker.proofs.laws.views_change_at_steps.Goals as goal

pub returns : goal.returns
returns g c = λ part. views_change_at_steps g.S.SlotWords.number part
