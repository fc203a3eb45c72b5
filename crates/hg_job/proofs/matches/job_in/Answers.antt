use Rattle.std.proofs.Common.{subst}
use Rattle.std.specs.Prelude.{IfErr}
use Rattle.clap.specs.Words.{found_of, rows_of}
use Rattle.hg_job.specs.Jobs.{RefusedBy, against}
use Rattle.hg_job.proofs.OptionLemmas.{entered_as}
use Rattle.hg_job.proofs.matches.job_in.Goals as goal

pub returns-in-Some-clause-err : goal.returns-in-Some-clause-err
returns-in-Some-clause-err c =
    subst (λ e. IfErr c.job_within.result (RefusedBy (against (rows_of (found_of c.args.matches.now)) e)))
    (entered_as _ _ _ c.in-Some.name.now (rows_of (found_of c.in-Some.inner.now)) c.in-Some.ensures.name c.in-Some.ensures.rows)
    c.job_within.ensures.err
