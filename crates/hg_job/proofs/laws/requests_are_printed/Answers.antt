use Rattle.hg_job.proofs.RequestJobs.{requests_are_printed as law}
use Rattle.hg_job.proofs.laws.requests_are_printed.Goals as goal

pub returns : goal.returns
returns c = law
