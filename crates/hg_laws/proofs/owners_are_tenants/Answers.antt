use Rattle.hg_laws.proofs.OwnersLemmas.{owners_are_tenants as law}
use Rattle.hg_laws.proofs.owners_are_tenants.Goals as goal

pub returns : goal.returns
returns c = law
