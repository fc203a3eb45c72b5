-- What a bank of services is seen as.
use Rattle.std.specs.Prelude.{List}
use Rattle.hg_machine.specs.Lists.{Kept}
use Rattle.hg_machine.specs.Policy.{Policy}
use Rattle.hg_hosted.specs.declared.service.HostedService.{HostedService}

-- the policy by which all serve, the cores of the services that are closed, from the highest number
-- down, and the others, by number
pub record ServicesState : Type 0 where
  pub policy : Policy
  pub closed : List Kept
  pub running : List HostedService
