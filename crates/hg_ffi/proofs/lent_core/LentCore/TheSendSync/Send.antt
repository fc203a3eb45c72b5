use Rattle.std.specs.Prelude.{◌==◌}
use denote.Struct.Struct.{exits_of}
use denote.Struct.Owning.{shape, fields, to}
use denote.Param.Send.{IsSend, AllSend, owning_send, struct_send, sendable}
use Rattle.std_alloc.proofs.SendSync.{quiet, seen}
use Rattle.hg_core.specs.contracts.serving.Core as core
use Rattle.hg_core.proofs.serving.Core.TheSendSync.{the_sync as core_sync}
use Rattle.hg_ffi.specs.Owning.{open_mark}
use Rattle.hg_ffi.specs.contracts.lent_core.LentCore.{the_row, the_type}
use Rattle.hg_ffi.proofs.Lent.{when_keyless}

pub send : IsSend the_row
send =
    let all : AllSend (fields the_type) = (search sendable, (search sendable, tt)) in
    owning_send the_type all (λ d. when_keyless (d.mark == open_mark) _ ((λ q. tt), seen core.the_row core_sync d.at d.core d.life))
    (λ k. quiet (to the_type) (exits_of k (fields the_type)) ((struct_send (shape the_type) all).leaving k))
