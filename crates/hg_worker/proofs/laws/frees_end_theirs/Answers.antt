use Rattle.hg_worker.proofs.WorkerLaws.{frees_end_theirs}
use Rattle.hg_worker.proofs.laws.frees_end_theirs.Goals as goal

pub returns : goal.returns
returns g c = λ part. frees_end_theirs g.S.SlotWords.number part
