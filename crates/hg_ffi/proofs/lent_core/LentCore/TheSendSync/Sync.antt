use denote.Param.Send.{IsSync, part_keyless}
use Rattle.hg_ffi.specs.contracts.lent_core.LentCore.{the_row}
use Rattle.hg_ffi.proofs.lent_core.LentCore.TheSendSync.Send.{send}

pub sync : IsSync the_row
sync = record { shared = λ d b o κ q. part_keyless the_row send q d b o }
