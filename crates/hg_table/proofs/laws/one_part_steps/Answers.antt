use Rattle.hg_table.specs.Steps.{known_after, left_by}
use Rattle.hg_table.specs.View.{saw}
use Rattle.hg_table.proofs.ButOne.{one_is, others_are, as_many}
use Rattle.hg_table.proofs.KnownLaws.{may_alone}
use Rattle.hg_table.proofs.laws.one_part_steps.Goals as goal

pub returns : goal.returns
returns c = record {
  one = λ by at word step view part e. one_is (known_after step at word) (saw at (left_by step word)) view by part e;
  others = λ by j at word step view part not e. others_are (known_after step at word) (saw at (left_by step word)) view by j part not e;
  count = λ by at word step view. as_many (known_after step at word) (saw at (left_by step word)) view by;
  may = λ by at step view part e place. may_alone by at view part e place step;
}
