-- What the words of some command lines are answered, without an option.
use Rattle.std.proofs.Common.{sym, codes, Some}
use Rattle.clap.specs.Walk.{walked}
use Rattle.hg_job.specs.Jobs.{IsNumber}
use Rattle.hg_job.specs.JobLaws.{WordsAreJobs}
use Rattle.hg_job.specs.declared.job.Job.TheVariants.{Joined, Check, Replay, Race, Test, Show}
use Rattle.hg_job.specs.declared.job.Job.TheVariants.{ExplainJoined, Explain, CheckTrace, ShowJson}
use Rattle.hg_job.specs.declared.job.Job.TheVariants.{ExplainJoinedJson, ExplainJson}
use Rattle.hg_job.specs.declared.job.Job.TheVariants.{State, StateJson, StateMap, StateSvg}
use Rattle.hg_job.proofs.CommandTexts.{is_1000, race_is_no_show, test_is_no_show, test_is_no_race, check_is_no_state, job_of, some_of}

pub words_are_jobs : WordsAreJobs
unfolding walked
words_are_jobs Joined = (
  (λ e. e),
  (λ h. job_of h),
  (λ h. job_of h),
  (λ h. job_of h),
  (λ h. job_of h),
  (λ h. job_of h),
  (λ h. job_of h),
)
words_are_jobs ExplainJoined = (
  (λ e. e),
  (λ h. job_of h),
  (λ h. job_of h),
  (λ h. job_of h),
  (λ h. job_of h),
  (λ h. job_of h),
  (λ h. job_of h),
)
words_are_jobs ExplainJoinedJson = (
  (λ e. e),
  (λ h. job_of h),
  (λ h. job_of h),
  (λ h. job_of h),
  (λ h. job_of h),
  (λ h. job_of h),
  (λ h. job_of h),
)
words_are_jobs (Check policy) = (
  (λ e. e),
  (λ h. (job_of h).1),
  (λ h. let e = (job_of h).0 in absurd (cc)),
  (λ h. let e = (job_of h).0 in absurd (cc)),
  (λ h. let e = (job_of h).0 in absurd (cc)),
  (λ h. let e = (job_of h).0 in absurd (cc)),
  (λ h. let found = (job_of h).2 in absurd (cc)),
)
words_are_jobs (CheckTrace policy trace) = (
  (λ e. e),
  (λ h. let found = (job_of h).2 in absurd (cc)),
  (λ h. let e = (job_of h).0 in absurd (cc)),
  (λ h. let e = (job_of h).0 in absurd (cc)),
  (λ h. let e = (job_of h).0 in absurd (cc)),
  (λ h. let e = (job_of h).0 in absurd (cc)),
  (λ h. let job = job_of h in (job.1, some_of job.2)),
)
words_are_jobs (Replay policy trace) = (
  (λ e. e),
  (λ h. let e = (job_of h).0 in absurd (cc)),
  (λ h. let job = job_of h in (job.1, job.2)),
  (λ h. let e = (job_of h).0 in absurd (cc)),
  (λ h. let e = (job_of h).0 in absurd (cc)),
  (λ h. let e = (job_of h).0 in absurd (cc)),
  (λ h. let e = (job_of h).0 in absurd (cc)),
)
words_are_jobs (Explain policy trace) = (
  (λ e. e),
  (λ h. let e = (job_of h).0 in absurd (cc)),
  (λ h. let given = (job_of h).3 in absurd (cc)),
  (λ h. let e = (job_of h).0 in absurd (cc)),
  (λ h. let e = (job_of h).0 in absurd (cc)),
  (λ h. let e = (job_of h).0 in absurd (cc)),
  (λ h. let e = (job_of h).0 in absurd (cc)),
)
words_are_jobs (ExplainJson policy trace) = (
  (λ e. e),
  (λ h. let e = (job_of h).0 in absurd (cc)),
  (λ h. let given = (job_of h).3 in absurd (cc)),
  (λ h. let e = (job_of h).0 in absurd (cc)),
  (λ h. let e = (job_of h).0 in absurd (cc)),
  (λ h. let e = (job_of h).0 in absurd (cc)),
  (λ h. let e = (job_of h).0 in absurd (cc)),
)
words_are_jobs (Race policy rounds) = (
  (λ e. e),
  (λ h. let e = (job_of h).0 in absurd (cc)),
  (λ h. let e = (job_of h).0 in absurd (cc)),
  (λ h. let job = job_of h in let read : IsNumber (Some (codes "1000")) rounds = job.2 in (job.1, read.0 is_1000)),
  (λ h. absurd (test_is_no_race (job_of h).0)),
  (λ h. absurd (race_is_no_show (sym (job_of h).0))),
  (λ h. let e = (job_of h).0 in absurd (cc)),
)
words_are_jobs (Test policy traces) = (
  (λ e. e),
  (λ h. let e = (job_of h).0 in absurd (cc)),
  (λ h. let e = (job_of h).0 in absurd (cc)),
  (λ h. absurd (test_is_no_race (sym (job_of h).0))),
  (λ h. let job = job_of h in (job.1, job.2)),
  (λ h. absurd (test_is_no_show (sym (job_of h).0))),
  (λ h. let e = (job_of h).0 in absurd (cc)),
)
words_are_jobs (Show policy) = (
  (λ e. e),
  (λ h. let e = (job_of h).0 in absurd (cc)),
  (λ h. let e = (job_of h).0 in absurd (cc)),
  (λ h. absurd (race_is_no_show (job_of h).0)),
  (λ h. absurd (test_is_no_show (job_of h).0)),
  (λ h. (job_of h).1),
  (λ h. let e = (job_of h).0 in absurd (cc)),
)
words_are_jobs (ShowJson policy) = (
  (λ e. e),
  (λ h. let e = (job_of h).0 in absurd (cc)),
  (λ h. let e = (job_of h).0 in absurd (cc)),
  (λ h. absurd (race_is_no_show (job_of h).0)),
  (λ h. absurd (test_is_no_show (job_of h).0)),
  (λ h. let given = (job_of h).2 in absurd (cc)),
  (λ h. let e = (job_of h).0 in absurd (cc)),
)
words_are_jobs (State policy trace) = (
  (λ e. e),
  (λ h. absurd (check_is_no_state (job_of h).0)),
  (λ h. let e = (job_of h).0 in absurd (cc)),
  (λ h. let e = (job_of h).0 in absurd (cc)),
  (λ h. let e = (job_of h).0 in absurd (cc)),
  (λ h. let e = (job_of h).0 in absurd (cc)),
  (λ h. absurd (check_is_no_state (job_of h).0)),
)
words_are_jobs (StateJson policy trace) = (
  (λ e. e),
  (λ h. absurd (check_is_no_state (job_of h).0)),
  (λ h. let e = (job_of h).0 in absurd (cc)),
  (λ h. let e = (job_of h).0 in absurd (cc)),
  (λ h. let e = (job_of h).0 in absurd (cc)),
  (λ h. let e = (job_of h).0 in absurd (cc)),
  (λ h. absurd (check_is_no_state (job_of h).0)),
)
words_are_jobs (StateMap policy trace) = (
  (λ e. e),
  (λ h. absurd (check_is_no_state (job_of h).0)),
  (λ h. let e = (job_of h).0 in absurd (cc)),
  (λ h. let e = (job_of h).0 in absurd (cc)),
  (λ h. let e = (job_of h).0 in absurd (cc)),
  (λ h. let e = (job_of h).0 in absurd (cc)),
  (λ h. absurd (check_is_no_state (job_of h).0)),
)
words_are_jobs (StateSvg policy trace) = (
  (λ e. e),
  (λ h. absurd (check_is_no_state (job_of h).0)),
  (λ h. let e = (job_of h).0 in absurd (cc)),
  (λ h. let e = (job_of h).0 in absurd (cc)),
  (λ h. let e = (job_of h).0 in absurd (cc)),
  (λ h. let e = (job_of h).0 in absurd (cc)),
  (λ h. absurd (check_is_no_state (job_of h).0)),
)
