use Rattle.std.specs.Prelude.{◌==◌}
use denote.Struct.Struct.{exits_of}
use denote.Struct.Owning.{shape, fields, to}
use denote.Param.Send.{IsSend, AllSend, owning_send, struct_send, sendable}
use Rattle.std_alloc.proofs.SendSync.{quiet, seen}
use Rattle.hg_bank.specs.contracts.bank.Bank as bank
use Rattle.hg_bank.proofs.bank.Bank.TheSendSync.{the_sync as bank_sync}
use Rattle.hg_ffi.specs.Owning.{bank_mark}
use Rattle.hg_ffi.specs.contracts.lent_bank.LentBank.{the_row, the_type}
use Rattle.hg_ffi.proofs.LentBanks.{when_keyless}

pub send : IsSend the_row
send =
    let all : AllSend (fields the_type) = (search sendable, (search sendable, tt)) in
    owning_send the_type all (λ d. when_keyless (d.mark == bank_mark) _ ((λ q. tt), seen bank.the_row bank_sync d.at d.bank d.life))
    (λ k. quiet (to the_type) (exits_of k (fields the_type)) ((struct_send (shape the_type) all).leaving k))
