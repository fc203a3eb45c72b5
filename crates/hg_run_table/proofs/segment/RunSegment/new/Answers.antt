use Rattle.std.proofs.Common.{rules}
use Rattle.hg_table.proofs.Initial.{all_home, home_is_sane}
use Rattle.hg_run_table.proofs.segment.RunSegment.new.Goals as goal

pub invariant_of-result : goal.invariant_of-result
invariant_of-result c =
    let fresh = c.requires.new.lives in
    let home = rw c.of-home.ensures at c.in_ok-records.ensures.each in record {
      same = search rules;
      within = search rules;
      segment_below = search rules;
      one = fresh.one;
      first = fresh.first;
      recorded = all_home _ _ fresh.all c.in_ok-records.ensures.all fresh.home home;
      sized = search rules;
      sane = λ at below. home_is_sane _ home at;
    }
