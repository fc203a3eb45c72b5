use Rattle.hg_job.proofs.OptionJobs.{options_explain as law}
use Rattle.hg_job.proofs.laws.options_explain.Goals as goal

pub returns : goal.returns
returns c = law
