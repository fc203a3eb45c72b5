use Rattle.std.proofs.Common.{◌∙◌, sym}
use Rattle.clap.specs.Words.{found_of, rows_of}
use Rattle.hg_job.proofs.OptionLemmas.{before_told}
use Rattle.hg_job.proofs.matches.job_within.Goals as goal

pub returns-then-has_option-clause-err : goal.returns-then-has_option-clause-err
returns-then-has_option-clause-err c =
    before_told (rows_of (found_of c.args.options.now)) (c.args.name.now, rows_of (found_of c.args.matches.now)) c.told.result
    (sym c.has_option.ensures ∙ c.if-has_option.true) c.told.ensures
