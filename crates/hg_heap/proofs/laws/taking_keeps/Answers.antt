use Rattle.hg_heap.proofs.TakingKept.{taking_keeps, counts_places, none_keeps_queues}
use Rattle.hg_heap.proofs.laws.taking_keeps.Goals as goal

pub returns : goal.returns
returns g c =
    let w = g.S.SlotWords in
    record {
      kinds = λ segment count places old new t.
          (taking_keeps w.number w.records w.shows w.steps segment count places old new t).kinds;
      classes = λ segment count places old new t.
          (taking_keeps w.number w.records w.shows w.steps segment count places old new t).classes;
      others = λ segment count places old new t.
          (taking_keeps w.number w.records w.shows w.steps segment count places old new t).others;
      count = counts_places w.number w.records w.shows w.steps;
      queues = λ segment count places old new t none.
          none_keeps_queues w.number w.records w.shows w.steps segment count places old new t none;
    }
