use Rattle.std.proofs.Common.{rules, ◌++◌, ◌∙◌, ap, append-nil}
use Rattle.hg_run_table.proofs.segment.RunSegmentSlotWords.lend.Goals as goal

pub returns-clause-lent : goal.returns-clause-lent
returns-clause-lent c = record {
  same = search rules;
  lives = c.join.ensures.lives ∙ ap (λ l. c.args.self.now.seat.seat.me.0.lives ++ l) c.requires.bare ∙ append-nil _;
  run = c.join.ensures.run;
}
