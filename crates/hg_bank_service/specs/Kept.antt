-- What the fields of a bank of services stand for, and what holds of them.
use Rattle.std.specs.Prelude.{◌≡◌, ◌+◌, length, vec_capacity}
use Rattle.hg_bank_service.specs.Sound.{AreSoundServices}
use Rattle.hg_bank_service.specs.State.{ServicesState}
use Rattle.hg_bank_service.specs.declared.service.BankService.TheInside.{Inside}

abbrev pub services_of : Inside → ServicesState
services_of a = record {
  policy = a.policy;
  closed = a.closed.items;
  running = a.running.items;
}

-- they are sound, and the list of the closed has room for all cores
pub record IsKept (a : Inside) : Type 0 where
  pub sound : AreSoundServices (services_of a)
  pub room : vec_capacity a.closed ≡ length a.closed.items + length a.running.items
