use Rattle.hg_worker.proofs.WorkerLaws.{one_word_is_left}
use Rattle.hg_worker.proofs.laws.one_word_is_left.Goals as goal

pub returns : goal.returns
returns g c = λ part. one_word_is_left g.S.SlotWords.number part
