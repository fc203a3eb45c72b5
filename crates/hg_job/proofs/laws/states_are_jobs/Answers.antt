use Rattle.hg_job.proofs.StateJobs.{states_are_jobs as law}
use Rattle.hg_job.proofs.laws.states_are_jobs.Goals as goal

pub returns : goal.returns
returns c = law
