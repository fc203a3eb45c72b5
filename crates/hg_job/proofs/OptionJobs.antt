-- What they are answered with options.
use Rattle.std.proofs.Common.{refl, sym}
use Rattle.clap.specs.Walk.{walked}
use Rattle.hg_job.specs.JobLaws.{OptionsAreJobs, OptionsExplain}
use Rattle.hg_job.specs.declared.job.Job.TheVariants.{Joined, Check, Replay, Race, Test, Show}
use Rattle.hg_job.specs.declared.job.Job.TheVariants.{ExplainJoined, Explain, CheckTrace, ShowJson}
use Rattle.hg_job.specs.declared.job.Job.TheVariants.{ExplainJoinedJson, ExplainJson}
use Rattle.hg_job.specs.declared.job.Job.TheVariants.{State, StateJson, StateMap, StateSvg}
use Rattle.hg_job.proofs.CommandTexts.{race_is_no_show, test_is_no_show, job_of}

pub options_are_jobs : OptionsAreJobs
unfolding walked
options_are_jobs Joined = (
  (λ e. e),
  (λ h. job_of h),
  (λ h. job_of h),
  (λ h. job_of h),
  (λ e. e),
  (λ e. e),
  (λ h. job_of h),
)
options_are_jobs ExplainJoined = (
  (λ e. e),
  (λ h. job_of h),
  (λ h. job_of h),
  (λ h. job_of h),
  (λ e. e),
  (λ e. e),
  (λ h. job_of h),
)
options_are_jobs ExplainJoinedJson = (
  (λ e. e),
  (λ h. job_of h),
  (λ h. job_of h),
  (λ h. job_of h),
  (λ e. e),
  (λ e. e),
  (λ h. job_of h),
)
options_are_jobs (Check policy) = (
  (λ e. e),
  (λ h. let e = (job_of h).0 in absurd (cc)),
  (λ h. let e = (job_of h).0 in absurd (cc)),
  (λ h. let e = (job_of h).0 in absurd (cc)),
  (λ e. e),
  (λ e. e),
  (λ h. let e = (job_of h).0 in absurd (cc)),
)
options_are_jobs (CheckTrace policy trace) = (
  (λ e. e),
  (λ h. let e = (job_of h).0 in absurd (cc)),
  (λ h. let e = (job_of h).0 in absurd (cc)),
  (λ h. let e = (job_of h).0 in absurd (cc)),
  (λ e. e),
  (λ e. e),
  (λ h. let e = (job_of h).0 in absurd (cc)),
)
options_are_jobs (Race policy rounds) = (
  (λ e. e),
  (λ h. let e = (job_of h).0 in absurd (cc)),
  (λ h. let e = (job_of h).0 in absurd (cc)),
  (λ h. absurd (race_is_no_show (sym (job_of h).0))),
  (λ e. e),
  (λ e. e),
  (λ h. let e = (job_of h).0 in absurd (cc)),
)
options_are_jobs (Test policy traces) = (
  (λ e. e),
  (λ h. let e = (job_of h).0 in absurd (cc)),
  (λ h. let e = (job_of h).0 in absurd (cc)),
  (λ h. absurd (test_is_no_show (sym (job_of h).0))),
  (λ e. e),
  (λ e. e),
  (λ h. let e = (job_of h).0 in absurd (cc)),
)
options_are_jobs (Show policy) = (
  (λ e. e),
  (λ h. let e = (job_of h).0 in absurd (cc)),
  (λ h. let e = (job_of h).0 in absurd (cc)),
  (λ h. let given = (job_of h).2 in absurd (cc)),
  (λ e. e),
  (λ e. e),
  (λ h. let e = (job_of h).0 in absurd (cc)),
)
options_are_jobs (ShowJson policy) = (
  (λ e. e),
  (λ h. let e = (job_of h).0 in absurd (cc)),
  (λ h. let e = (job_of h).0 in absurd (cc)),
  (λ h. (job_of h).1),
  (λ e. e),
  (λ e. e),
  (λ h. let e = (job_of h).0 in absurd (cc)),
)
options_are_jobs (Replay policy trace) = (
  (λ e. e),
  (λ h. let given = (job_of h).3 in absurd (cc)),
  (λ h. let given = (job_of h).3 in absurd (cc)),
  (λ h. let e = (job_of h).0 in absurd (cc)),
  (λ e. e),
  (λ e. e),
  (λ h. let given = (job_of h).4 in absurd (cc)),
)
options_are_jobs (Explain policy trace) = (
  (λ e. e),
  (λ h. let job = job_of h in (job.1, job.2)),
  (λ h. let job = job_of h in (job.1, job.2)),
  (λ h. let e = (job_of h).0 in absurd (cc)),
  (λ e. e),
  (λ e. e),
  (λ h. let given = (job_of h).3 in absurd (cc)),
)
options_are_jobs (ExplainJson policy trace) = (
  (λ e. e),
  (λ h. let given = (job_of h).3 in absurd (cc)),
  (λ h. let given = (job_of h).3 in absurd (cc)),
  (λ h. let e = (job_of h).0 in absurd (cc)),
  (λ e. e),
  (λ e. e),
  (λ h. let job = job_of h in (job.1, job.2)),
)
options_are_jobs (State policy trace) = (
  (λ e. e),
  (λ h. let e = (job_of h).0 in absurd (cc)),
  (λ h. let e = (job_of h).0 in absurd (cc)),
  (λ h. let e = (job_of h).0 in absurd (cc)),
  (λ e. e),
  (λ e. e),
  (λ h. let e = (job_of h).0 in absurd (cc)),
)
options_are_jobs (StateJson policy trace) = (
  (λ e. e),
  (λ h. let e = (job_of h).0 in absurd (cc)),
  (λ h. let e = (job_of h).0 in absurd (cc)),
  (λ h. let e = (job_of h).0 in absurd (cc)),
  (λ e. e),
  (λ e. e),
  (λ h. let e = (job_of h).0 in absurd (cc)),
)
options_are_jobs (StateMap policy trace) = (
  (λ e. e),
  (λ h. let e = (job_of h).0 in absurd (cc)),
  (λ h. let e = (job_of h).0 in absurd (cc)),
  (λ h. let e = (job_of h).0 in absurd (cc)),
  (λ e. e),
  (λ e. e),
  (λ h. let e = (job_of h).0 in absurd (cc)),
)
options_are_jobs (StateSvg policy trace) = (
  (λ e. e),
  (λ h. let e = (job_of h).0 in absurd (cc)),
  (λ h. let e = (job_of h).0 in absurd (cc)),
  (λ h. let e = (job_of h).0 in absurd (cc)),
  (λ e. e),
  (λ e. e),
  (λ h. let e = (job_of h).0 in absurd (cc)),
)

pub options_explain : OptionsExplain
unfolding walked
options_explain = (refl, refl, refl, refl, refl, refl, refl, refl, refl)
