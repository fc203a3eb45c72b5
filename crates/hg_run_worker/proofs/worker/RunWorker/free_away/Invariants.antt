use Rattle.std.specs.Prelude.{◌==◌, Some, cond, is_some, option_map}
use Rattle.hg_heap.specs.Answers.{away_answer}
use Rattle.hg_run_worker.specs.AtWork.{view_in, worker_view}
use Rattle.hg_run_worker.specs.Freeing.{away_refusal, exchange_answer}
use Rattle.hg_run_worker.proofs.worker.RunWorker.free_away.Given as goal

-- a refusal without a word
abbrev pub ghosts-refuse : goal.ghosts-refuse
ghosts-refuse g a = record {
  before = view_in a.self.now;
  call = (g.F.FreedAway.event, away_answer (g.F.FreedAway.denial 0));
  after = view_in a.self.now;
}

-- by the word that the look finds, where it refuses
abbrev pub ghosts-look_deciding : goal.ghosts-look_deciding
ghosts-look_deciding g a = record {
  before = view_in a.self.now;
  call = λ word.
      option_map (λ answer. (g.F.FreedAway.event, answer))
      (away_refusal (is_some a.self.now.hand) (g.F.FreedAway.denial word));
  after = λ word. view_in a.self.now;
}

-- by the word that the exchange finds
abbrev pub ghosts-part_deciding : goal.ghosts-part_deciding
ghosts-part_deciding g a = record {
  before = view_in a.self.now;
  call = λ found.
      Some
      (g.F.FreedAway.event, exchange_answer (found == a.expected) (g.F.FreedAway.denial found));
  after = λ found.
      cond (found == a.expected)
      (worker_view a.self.now.policy a.self.now.number g.F.FreedAway.freed a.self.now.heap.segments)
      (view_in a.self.now);
}
