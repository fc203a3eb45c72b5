use Rattle.std.specs.Prelude.{Bool, true, false, ◌==◌}
use mir.Raw.{raw}
use base.Fml.{Fml}
use base.Shift.{Keyless}
use denote.Memory.{lone}
use denote.Struct.Struct.{exits_of}
use denote.Struct.Owning.{shape, fields, to}
use denote.Param.Send.{IsSend, AllSend, owning_send, struct_send, sendable}
use Rattle.std.proofs.Crossing.{frees}
use Rattle.std_alloc.proofs.SendSync.{quiet, lies}
use Rattle.hg_bank.specs.contracts.bank.Bank as bank
use Rattle.hg_bank.proofs.bank.Bank.TheSendSync.{the_send as bank_send}
use Rattle.hg_ffi.specs.Owning.{bank_mark, heap, when}
use Rattle.hg_ffi.specs.contracts.host_bank.HostBank.{the_row, the_type}

when_keyless : (b : Bool) (F : Fml) → Keyless F → Keyless (when b F)
when_keyless true F k = k
when_keyless false F k = tt

pub send : IsSend the_row
send =
    let all : AllSend (fields the_type) = (search sendable, (search sendable, tt)) in
    owning_send the_type all (λ d. when_keyless (d.mark == bank_mark) _ (lies bank.the_row bank_send d.at d.bank, frees.frees heap (raw (lone bank.the_row.mir)) d.at))
    (λ k. quiet (to the_type) (exits_of k (fields the_type)) ((struct_send (shape the_type) all).leaving k))
