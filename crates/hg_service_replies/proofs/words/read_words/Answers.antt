use Rattle.std.proofs.Common.{refl, sym, subst}
use Rattle.hg_service_replies.specs.declared.part.HostedPart.TheVariants as part
use Rattle.hg_service_replies.specs.Words.{PartReads}
use Rattle.hg_service_replies.proofs.words.read_words.Goals as goal

pub returns-in-Worker : goal.returns-in-Worker
returns-in-Worker c =
    subst (λ p. PartReads p c.args.actor c.args.handle c.args.first c.args.room.now c.read_all.result (part.Worker c.read_all.new.worker) c.read_all.new.room)
    (sym c.in-Worker.is) (c.read_all.new.worker, refl, c.read_all.ensures.read, c.read_all.ensures.alone)
