use Rattle.std.proofs.Common.{◌∙◌, ap, map}
use Rattle.clap.specs.Words.{takes, fault_of}
use Rattle.clap.specs.Kinds.{HasKind}
use Rattle.hg_job.proofs.CommandLemmas.{at_free, refused_by}
use Rattle.hg_job.proofs.OptionLemmas.{accepted_taken, opposed_not_accepted, opposed_refused, faultless, task_found, known_entered, refused_first}
use Rattle.hg_job.proofs.job.task_of.Goals as goal

pub task_in-requires : goal.task_in-requires
task_in-requires c = known_entered (map (λ w. w.now) c.args.words.now) _ _ _ c.in_ok-command.ensures c.in-Ok.ensures.matches

pub returns-in-Ok-clause-task : goal.returns-in-Ok-clause-task
returns-in-Ok-clause-task c =
    task_found (map (λ w. w.now) c.args.words.now) _ _ _ c.in_ok-command.ensures c.in-Ok.ensures.matches c.task_in.result c.task_in.ensures.task

pub returns-in-Ok-clause-taken : goal.returns-in-Ok-clause-taken
returns-in-Ok-clause-taken c =
    opposed_not_accepted (map (λ w. w.now) c.args.words.now) _ _ _ c.in_ok-command.ensures c.in-Ok.ensures.matches c.task_in.result c.task_in.ensures.err

pub returns-in-Ok-clause-faultless : goal.returns-in-Ok-clause-faultless
returns-in-Ok-clause-faultless c =
    faultless (map (λ w. w.now) c.args.words.now) _ _ _ c.in_ok-command.ensures c.in-Ok.ensures.matches c.in-Ok.ensures.kinds
    c.task_in.result c.task_in.ensures.task

pub returns-in-Ok-clause-refused : goal.returns-in-Ok-clause-refused
returns-in-Ok-clause-refused c =
    opposed_refused (map (λ w. w.now) c.args.words.now) _ _ _ c.in_ok-command.ensures c.in-Ok.ensures.matches c.in-Ok.ensures.kinds
    c.task_in.result c.task_in.ensures.err

pub returns-in-Err-clause-taken : goal.returns-in-Err-clause-taken
returns-in-Err-clause-taken c = λ taken.
    let words = map (λ w. w.now) c.args.words.now in
    c.fault_in.ensures.memory (c.in-Err.ensures.passes (ap (λ a. takes a words) c.in_ok-command.ensures ∙ accepted_taken words taken))

pub returns-in-Err-clause-refused : goal.returns-in-Err-clause-refused
returns-in-Err-clause-refused c =
    let words = map (λ w. w.now) c.args.words.now in
    refused_first _ _ _
    (refused_by _ c.in-Err.error _ c.fault_in.ensures.memory c.fault_in.ensures.told
    (at_free (λ a. HasKind (fault_of a words) c.in-Err.error) _ c.in_ok-command.ensures c.in-Err.ensures.kinds))
