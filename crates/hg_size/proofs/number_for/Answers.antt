use Rattle.std.proofs.Common.{◌∙◌, sym, ap, arith, Some}
use Rattle.hg_size.proofs.FirstHolding.{first_holds}
use Rattle.hg_size.proofs.number_for.Goals as goal

pub returns-then-words : goal.returns-then-words
returns-then-words c =
    ap Some c.from.ensures ∙ sym (first_holds c.args.words (omega (arith, c.if-words.true)))
