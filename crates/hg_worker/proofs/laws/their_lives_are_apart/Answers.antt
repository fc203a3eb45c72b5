use Rattle.hg_worker.proofs.WorkerLaws.{their_lives_are_apart}
use Rattle.hg_worker.proofs.laws.their_lives_are_apart.Goals as goal

pub returns : goal.returns
returns g c = λ part. their_lives_are_apart g.S.SlotWords.number part
