use Rattle.std.specs.Prelude.{[], ◌∷◌}
use Rattle.hg_machine.specs.declared.Event.TheVariants as event
use Rattle.hg_heap.specs.Answers.{refused_answer}
use Rattle.hg_run_worker.specs.AtWork.{view_in}
use Rattle.hg_run_worker.proofs.worker.RunWorker.alloc.Given as goal

abbrev pub ghosts-alloc_at : goal.ghosts-alloc_at
ghosts-alloc_at a = record { asked = (event.Alloc a.actor a.arena a.bytes ∷ []) ∷ [] }

abbrev pub ghosts-log_refused : goal.ghosts-log_refused
ghosts-log_refused a = record {
  before = view_in a.self.now;
  call = (event.Alloc a.actor a.arena a.bytes, refused_answer a.refused);
  after = view_in a.self.now;
}
