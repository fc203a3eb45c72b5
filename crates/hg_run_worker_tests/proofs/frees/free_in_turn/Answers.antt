use Rattle.hg_run_worker_tests.proofs.frees.free_in_turn.Goals as goal

pub returns-clause-logged : goal.returns-clause-logged
returns-clause-logged c = (
  c.in-Ok.handle,
  λ first. c.gives_up.ensures.logged c.in-Ok.handle (c.frees-first.ensures.logged first),
  λ second. c.frees-second.ensures.logged second,
)
