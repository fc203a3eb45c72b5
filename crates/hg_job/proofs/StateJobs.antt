-- What the words of the command state are answered.
use Rattle.std.proofs.Common.{sym}
use Rattle.clap.specs.Walk.{walked}
use Rattle.hg_job.specs.JobLaws.{StatesAreJobs}
use Rattle.hg_job.specs.declared.job.Job.TheVariants.{Joined, Check, Replay, Race, Test, Show}
use Rattle.hg_job.specs.declared.job.Job.TheVariants.{ExplainJoined, Explain, CheckTrace, ShowJson}
use Rattle.hg_job.specs.declared.job.Job.TheVariants.{ExplainJoinedJson, ExplainJson}
use Rattle.hg_job.specs.declared.job.Job.TheVariants.{State, StateJson, StateMap, StateSvg}
use Rattle.hg_job.proofs.CommandTexts.{check_is_no_state, job_of}

pub states_are_jobs : StatesAreJobs
unfolding walked
states_are_jobs Joined = (
  (λ h. job_of h),
  (λ h. job_of h),
  (λ h. job_of h),
  (λ h. job_of h),
)
states_are_jobs ExplainJoined = (
  (λ h. job_of h),
  (λ h. job_of h),
  (λ h. job_of h),
  (λ h. job_of h),
)
states_are_jobs ExplainJoinedJson = (
  (λ h. job_of h),
  (λ h. job_of h),
  (λ h. job_of h),
  (λ h. job_of h),
)
states_are_jobs (Check policy) = (
  (λ h. absurd (check_is_no_state (sym (job_of h).0))),
  (λ h. absurd (check_is_no_state (sym (job_of h).0))),
  (λ h. absurd (check_is_no_state (sym (job_of h).0))),
  (λ h. absurd (check_is_no_state (sym (job_of h).0))),
)
states_are_jobs (CheckTrace policy trace) = (
  (λ h. absurd (check_is_no_state (sym (job_of h).0))),
  (λ h. absurd (check_is_no_state (sym (job_of h).0))),
  (λ h. absurd (check_is_no_state (sym (job_of h).0))),
  (λ h. absurd (check_is_no_state (sym (job_of h).0))),
)
states_are_jobs (Replay policy trace) = (
  (λ h. let e = (job_of h).0 in absurd (cc)),
  (λ h. let e = (job_of h).0 in absurd (cc)),
  (λ h. let e = (job_of h).0 in absurd (cc)),
  (λ h. let e = (job_of h).0 in absurd (cc)),
)
states_are_jobs (Explain policy trace) = (
  (λ h. let e = (job_of h).0 in absurd (cc)),
  (λ h. let e = (job_of h).0 in absurd (cc)),
  (λ h. let e = (job_of h).0 in absurd (cc)),
  (λ h. let e = (job_of h).0 in absurd (cc)),
)
states_are_jobs (ExplainJson policy trace) = (
  (λ h. let e = (job_of h).0 in absurd (cc)),
  (λ h. let e = (job_of h).0 in absurd (cc)),
  (λ h. let e = (job_of h).0 in absurd (cc)),
  (λ h. let e = (job_of h).0 in absurd (cc)),
)
states_are_jobs (Race policy rounds) = (
  (λ h. let e = (job_of h).0 in absurd (cc)),
  (λ h. let e = (job_of h).0 in absurd (cc)),
  (λ h. let e = (job_of h).0 in absurd (cc)),
  (λ h. let e = (job_of h).0 in absurd (cc)),
)
states_are_jobs (Test policy traces) = (
  (λ h. let e = (job_of h).0 in absurd (cc)),
  (λ h. let e = (job_of h).0 in absurd (cc)),
  (λ h. let e = (job_of h).0 in absurd (cc)),
  (λ h. let e = (job_of h).0 in absurd (cc)),
)
states_are_jobs (Show policy) = (
  (λ h. let e = (job_of h).0 in absurd (cc)),
  (λ h. let e = (job_of h).0 in absurd (cc)),
  (λ h. let e = (job_of h).0 in absurd (cc)),
  (λ h. let e = (job_of h).0 in absurd (cc)),
)
states_are_jobs (ShowJson policy) = (
  (λ h. let e = (job_of h).0 in absurd (cc)),
  (λ h. let e = (job_of h).0 in absurd (cc)),
  (λ h. let e = (job_of h).0 in absurd (cc)),
  (λ h. let e = (job_of h).0 in absurd (cc)),
)
states_are_jobs (State policy trace) = (
  (λ h. (job_of h).1.0),
  (λ h. let given = (job_of h).1.1 in absurd (cc)),
  (λ h. let given = (job_of h).1.2 in absurd (cc)),
  (λ h. let given = (job_of h).1.3 in absurd (cc)),
)
states_are_jobs (StateJson policy trace) = (
  (λ h. let given = (job_of h).1.1 in absurd (cc)),
  (λ h. (job_of h).1.0),
  (λ h. let given = (job_of h).1.1 in absurd (cc)),
  (λ h. let given = (job_of h).1.1 in absurd (cc)),
)
states_are_jobs (StateMap policy trace) = (
  (λ h. let given = (job_of h).1.1 in absurd (cc)),
  (λ h. let given = (job_of h).1.1 in absurd (cc)),
  (λ h. (job_of h).1.0),
  (λ h. let given = (job_of h).1.1 in absurd (cc)),
)
states_are_jobs (StateSvg policy trace) = (
  (λ h. let given = (job_of h).1.1 in absurd (cc)),
  (λ h. let given = (job_of h).1.1 in absurd (cc)),
  (λ h. let given = (job_of h).1.1 in absurd (cc)),
  (λ h. (job_of h).1.0),
)
