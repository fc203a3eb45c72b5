use Rattle.hg_job.proofs.OptionJobs.{options_are_jobs as law}
use Rattle.hg_job.proofs.laws.options_are_jobs.Goals as goal

pub returns : goal.returns
returns c = law
