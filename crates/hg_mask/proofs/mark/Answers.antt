use Rattle.std.proofs.Common.{arith, ◌∙◌}
use Rattle.std.proofs.lemmas.Nat.Bits.{bit_at_or, bit_at-lt}
use Rattle.hg_mask.proofs.MarksLemmas.{run_inside, run_outside}
use Rattle.hg_mask.proofs.mark.Goals as goal

pub returns-clause-inside : goal.returns-clause-inside
returns-clause-inside c page low high =
    bit_at_or c.args.marks c.run.result page
    ∙ (omega (arith, bit_at-lt c.args.marks page, run_inside c.args.from c.args.count c.run.result page c.run.ensures low high))

pub returns-clause-outside : goal.returns-clause-outside
returns-clause-outside c page out =
    bit_at_or c.args.marks c.run.result page
    ∙ (omega (arith, bit_at-lt c.args.marks page, run_outside c.args.from c.args.count c.run.result page c.run.ensures out))
