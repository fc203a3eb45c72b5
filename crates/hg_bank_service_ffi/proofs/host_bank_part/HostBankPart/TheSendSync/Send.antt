use Rattle.std.specs.Prelude.{Bool, true, false, ◌==◌, Option, None, Some}
use mir.Raw.{raw}
use base.Fml.{Fml}
use base.Shift.{Keyless}
use denote.RawPtr.{Ptr}
use denote.Memory.{lone}
use denote.Struct.Struct.{exits_of}
use denote.Struct.Owning.{shape, fields, to}
use denote.Param.Send.{IsSend, AllSend, owning_send, struct_send, sendable}
use Rattle.std.proofs.Crossing.{frees}
use Rattle.std_alloc.proofs.SendSync.{quiet, lies}
use Rattle.hg_bank_service_replies.specs.contracts.part.BankPart as part
use Rattle.hg_bank_service_replies.proofs.part.BankPart.TheSendSync.{the_send as part_send}
use Rattle.hg_ffi.specs.Owning.{heap, when, owns_some}
use Rattle.hg_bank_service_ffi.specs.Owning.{bank_part_mark}
use Rattle.hg_bank_service_ffi.specs.contracts.host_bank_part.HostBankPart.{the_row, the_type}

when_keyless : (b : Bool) (F : Fml) → Keyless F → Keyless (when b F)
when_keyless true F k = k
when_keyless false F k = tt

owned_keyless : (p : Ptr) (value : Option part.the_row.Denot) → Keyless (owns_some part.the_row p value)
owned_keyless p None = tt
owned_keyless p (Some v) = (lies part.the_row part_send p v, frees.frees heap (raw (lone part.the_row.mir)) p)

pub send : IsSend the_row
send =
    let all : AllSend (fields the_type) = (search sendable, (search sendable, tt)) in
    owning_send the_type all (λ d. when_keyless (d.mark == bank_part_mark) _ (owned_keyless d.at d.part))
    (λ k. quiet (to the_type) (exits_of k (fields the_type)) ((struct_send (shape the_type) all).leaving k))
