use Rattle.std.proofs.Common.{refl, sym, subst}
use Rattle.hg_service_replies.specs.declared.part.HostedPart.TheVariants as part
use Rattle.hg_ffi.specs.PartBytes.{PartReadsBytes}
use Rattle.hg_ffi.proofs.part_bytes.read.Goals as goal

pub returns-in-Worker : goal.returns-in-Worker
returns-in-Worker c =
    subst (λ p. PartReadsBytes p c.args.actor c.args.handle c.args.first c.args.room.now c.bytes_reply.result (part.Worker c.read_bytes.new.store) c.read_bytes.new.room)
    (sym c.in-Worker.is)
    (c.read_bytes.new.store, refl, (c.read_bytes.result, c.read_bytes.ensures.read, c.bytes_reply.ensures))
