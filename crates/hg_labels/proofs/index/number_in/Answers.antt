use Rattle.std.proofs.Common.{refl}
use Rattle.hg_labels.proofs.index.number_in.Goals as goal

pub returns-in_err-number-clause-none : goal.returns-in_err-number-clause-none
returns-in_err-number-clause-none c = λ _ number at is. c.in_err-number.ensures.none refl number is
