use Rattle.hg_worker.proofs.WorkerLaws.{seats_go_along}
use Rattle.hg_worker.proofs.laws.seats_go_along.Goals as goal

pub returns : goal.returns
returns g c = λ part. seats_go_along g.S.SlotWords.number part g.S.SlotWords.records
