use Rattle.std.proofs.Common.{refl, sym, subst}
use Rattle.hg_service_replies.specs.declared.part.HostedPart.TheVariants as part
use Rattle.hg_ffi.specs.PartBytes.{PartWritesBytes}
use Rattle.hg_ffi.proofs.part_bytes.write.Goals as goal

pub returns-in-Worker : goal.returns-in-Worker
returns-in-Worker c =
    subst (λ p. PartWritesBytes p c.args.actor c.args.handle c.args.first c.args.bytes.now c.bytes_reply.result (part.Worker c.write_bytes.new.store))
    (sym c.in-Worker.is)
    (c.write_bytes.new.store, refl, (c.write_bytes.result, c.write_bytes.ensures.written, c.bytes_reply.ensures))
