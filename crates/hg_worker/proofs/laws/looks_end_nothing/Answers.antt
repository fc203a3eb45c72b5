use Rattle.hg_worker.proofs.WorkerLaws.{looks_end_nothing}
use Rattle.hg_worker.proofs.laws.looks_end_nothing.Goals as goal

pub returns : goal.returns
returns g c = λ part. looks_end_nothing g.S.SlotWords.number part g.S.SlotWords.records
