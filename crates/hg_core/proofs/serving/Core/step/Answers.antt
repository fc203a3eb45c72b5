use Rattle.hg_core.proofs.serving.Core.step.Goals as goal

pub returns-in-Alloc-clause-step : goal.returns-in-Alloc-clause-step
returns-in-Alloc-clause-step c =
    rw (c.in-Alloc.is, c.alloc_answer.ensures) c.alloc.ensures.step

pub returns-in-Alloc-clause-chosen : goal.returns-in-Alloc-clause-chosen
returns-in-Alloc-clause-chosen c =
    rw (c.in-Alloc.is, c.alloc_answer.ensures) c.alloc.ensures.chosen

pub returns-in-Look-clause-step : goal.returns-in-Look-clause-step
returns-in-Look-clause-step c =
    rw (c.in-Look.is, c.look_answer.ensures) c.look.ensures.step

pub returns-in-Look-clause-chosen : goal.returns-in-Look-clause-chosen
returns-in-Look-clause-chosen c =
    rw (c.in-Look.is, c.look_answer.ensures) c.look.ensures.chosen
