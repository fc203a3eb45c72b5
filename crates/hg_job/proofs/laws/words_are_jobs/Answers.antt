use Rattle.hg_job.proofs.WordJobs.{words_are_jobs as law}
use Rattle.hg_job.proofs.laws.words_are_jobs.Goals as goal

pub returns : goal.returns
returns c = law
