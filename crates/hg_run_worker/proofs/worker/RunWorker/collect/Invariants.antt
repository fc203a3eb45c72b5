use Rattle.hg_machine.specs.declared.Answer.TheVariants as answer
use Rattle.hg_machine.specs.declared.Event.TheVariants as event
use Rattle.hg_heap.specs.Idle.{idle_pages}
use Rattle.hg_run_worker.specs.AtWork.{number_in, records_in, view_in}
use Rattle.hg_run_worker.proofs.worker.RunWorker.collect.Given as goal

abbrev pub ghosts-collect_by : goal.ghosts-collect_by
ghosts-collect_by a = record {
  before = view_in a.self.now;
  call = (event.Collect, answer.Pages (idle_pages number_in records_in a.self.now.heap.segments));
  after = view_in a.self.now;
}
