use Rattle.std.proofs.Common.{rules}
use Rattle.hg_table.proofs.Allowed.{looks}
use Rattle.hg_table.proofs.Told.{one_shown, left_alone}
use Rattle.hg_table.proofs.segment.UnnamedSegmentSlotWords.look.Goals as goal

pub load-requires : goal.load-requires
load-requires c = (search rules, search rules, looks _ _ _ _ _ (search rules))

pub returns-clause-shown : goal.returns-clause-shown
returns-clause-shown c = search (rules, one_shown _ _ _ c.args.self.now.one c.load.ensures.2.0)

pub returns-clause-step : goal.returns-clause-step
returns-clause-step c = record {
  step = search (rules, left_alone _ _ _ _ c.args.self.now.one c.load.ensures.2.1);
  same = search rules;
}
