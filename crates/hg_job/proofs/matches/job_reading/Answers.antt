use Rattle.std.proofs.Common.{◌∙◌, sym}
use Rattle.clap.specs.Words.{found_of, rows_of}
use Rattle.hg_job.proofs.OptionLemmas.{forms_told, twice_told}
use Rattle.hg_job.proofs.matches.job_reading.Goals as goal

pub returns-then-branch-clause-err : goal.returns-then-branch-clause-err
returns-then-branch-clause-err c =
    twice_told (rows_of (found_of c.args.matches.now)) c.told.result
    (sym c.in_ok-reads_twice.ensures ∙ c.if-branch.true) c.told.ensures

pub returns-then-has_two_forms-clause-err : goal.returns-then-has_two_forms-clause-err
returns-then-has_two_forms-clause-err c =
    forms_told (rows_of (found_of c.args.matches.now)) c.told-then-has_two_forms.result
    (sym c.has_two_forms.ensures ∙ c.if-has_two_forms.true) c.told-then-has_two_forms.ensures
