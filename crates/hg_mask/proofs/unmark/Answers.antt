use Rattle.std.proofs.Common.{◌-◌, arith, ◌∙◌, inl, inr, w16}
use Rattle.std.proofs.lemmas.Bool.{cases_lt}
use Rattle.std.proofs.lemmas.Nat.Bits.{bit_at_and, bit_at_not, bit_at-lt, bit_at_above}
use Rattle.hg_mask.proofs.MarksLemmas.{run_inside, run_outside, run_small}
use Rattle.hg_mask.proofs.unmark.Goals as goal

pub returns-clause-inside : goal.returns-clause-inside
returns-clause-inside c page low high =
    let small = run_small c.args.from c.args.count c.run.result c.run.ensures c.requires.within in
    bit_at_and c.args.marks (65535 - c.run.result) page
    ∙ (omega (arith, bit_at-lt c.args.marks page, bit_at_not w16 c.run.result page small (omega (arith, high, c.requires.within)), run_inside c.args.from c.args.count c.run.result page c.run.ensures low high))

pub returns-clause-outside : goal.returns-clause-outside
returns-clause-outside c page out =
    let small = run_small c.args.from c.args.count c.run.result c.run.ensures c.requires.within in
    bit_at_and c.args.marks (65535 - c.run.result) page
    ∙ elim (cases_lt page 16) [
      | inl lt ↦ omega (arith, bit_at-lt c.args.marks page, bit_at_not w16 c.run.result page small lt, run_outside c.args.from c.args.count c.run.result page c.run.ensures out)
      | inr past ↦ omega (arith, bit_at_above c.args.marks 16 page c.ranges.marks.fits past)
    ]
