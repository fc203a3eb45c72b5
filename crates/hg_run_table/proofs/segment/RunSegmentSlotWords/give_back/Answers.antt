use Rattle.std.proofs.Common.{rules}
use Rattle.hg_run_table.proofs.SegmentMeeting.{all_kept, none_given}
use Rattle.hg_run_table.proofs.segment.RunSegmentSlotWords.give_back.Goals as goal

pub returns-clause-given : goal.returns-clause-given
returns-clause-given c = record {
  same = search rules;
  same_other = search rules;
  lives = all_kept _ _ c.args.self.now.one c.split.ensures.lives;
  run = c.split.ensures.run;
  bare = none_given _ _ c.args.self.now.one c.split.ensures.lives_given;
  given = c.split.ensures.run_given;
}
