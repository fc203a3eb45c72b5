use Rattle.std.proofs.Common.{refl, sym, subst}
use Rattle.hg_service_replies.specs.declared.part.HostedPart.TheVariants as part
use Rattle.hg_service_replies.specs.Words.{PartWrites}
use Rattle.hg_service_replies.proofs.words.write_words.Goals as goal

pub returns-in-Worker : goal.returns-in-Worker
returns-in-Worker c =
    subst (λ p. PartWrites p c.args.actor c.args.handle c.args.first c.args.words.now c.write_all.result (part.Worker c.write_all.new.worker))
    (sym c.in-Worker.is) (c.write_all.new.worker, refl, c.write_all.ensures.written, c.write_all.ensures.alone)
