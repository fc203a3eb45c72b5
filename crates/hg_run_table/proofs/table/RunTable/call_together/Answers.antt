use Rattle.std.proofs.Common.{◌++◌, ◌∙◌, ap, refl, append-nil}
use Rattle.std.proofs.Math.Seq.{take-length, drop-length}
use Rattle.hg_run_table.proofs.WorkerSteps.{together, joined_roles, joined_tied, together_log}
use Rattle.hg_run_table.proofs.WorkerSteps.{together_worker, together_other}
use Rattle.hg_run_table.proofs.table.RunTable.call_together.Goals as goal

pub decide-requires-clause-roles : goal.decide-requires-clause-roles
decide-requires-clause-roles g c = joined_roles _ _ c.args.seat.now.seat.me.0.run _ _ _ _ _ c.requires.tied (c.join.ensures.roles _ _ c.requires.worker c.requires.other)

pub decide-requires-clause-decides : goal.decide-requires-clause-decides
decide-requires-clause-decides g c = together _ _ _ _ _ _ _ (joined_tied _ _ c.args.seat.now.seat.me.0.run _ _ _ _ _ c.requires.tied (c.join.ensures.roles _ _ c.requires.worker c.requires.other))

pub returns-clause-lives : goal.returns-clause-lives
returns-clause-lives g c = c.split.ensures.lives ∙ take-length c.decide.new.seat.seat.me.0.lives ∙ c.decide.ensures.lives ∙ c.join.ensures.lives
    ∙ ap (λ l. c.args.seat.now.seat.me.0.lives ++ l) c.requires.bare ∙ append-nil _

pub returns-clause-bare : goal.returns-clause-bare
returns-clause-bare g c = c.split.ensures.lives_given ∙ drop-length c.decide.new.seat.seat.me.0.lives

pub returns-clause-log : goal.returns-clause-log
returns-clause-log g c = together_log _ _ c.args.seat.now.seat.me.0.run _ _ _ _ _ c.requires.tied (c.join.ensures.roles _ _ c.requires.worker c.requires.other) _ _ _ c.decide.ensures.roles.1 c.split.ensures.roles

pub returns-clause-worker : goal.returns-clause-worker
returns-clause-worker g c = together_worker _ _ c.args.seat.now.seat.me.0.run _ _ _ _ _ c.requires.tied (c.join.ensures.roles _ _ c.requires.worker c.requires.other) _ _ _ c.decide.ensures.roles.1 c.split.ensures.roles

pub returns-clause-other : goal.returns-clause-other
returns-clause-other g c = together_other _ _ c.args.seat.now.seat.me.0.run _ _ _ _ _ c.requires.tied (c.join.ensures.roles _ _ c.requires.worker c.requires.other) _ _ _ c.decide.ensures.roles.1 c.split.ensures.roles

pub returns-clause-agreed : goal.returns-clause-agreed
returns-clause-agreed g c =
    let a = c.decide.ensures.agreed in
    let has = c.join.ensures.roles _ _ c.requires.worker c.requires.other in
    (a.state, a.agrees _ has 0 _ refl, a.agrees _ has 1 _ refl)
