use Rattle.std.proofs.Common.{◌∙◌, ap, slice_get, sym}
use Rattle.std.proofs.lemmas.Option.{none-some}
use Rattle.hg_reply.specs.Replies.{valued}
use Rattle.hg_service_replies.specs.Asking.{hand_reply}
use Rattle.hg_bank_service_replies.proofs.Told.{told_so}
use Rattle.hg_bank_service_replies.proofs.asking.hand_of.Goals as goal

pub returns-in-Some : goal.returns-in-Some
returns-in-Some c =
    told_so _ _ _ _ (slice_get c.args.worker.now.workers.items c.args.core)
    (λ none. absurd (none-some _ (sym none ∙ c.in-Some.is)))
    (λ one has own at. c.valued.ensures ∙ ap (valued 4) c.number.ensures.number ∙ ap hand_reply (sym c.in-Some.is ∙ has own at)) c.hand.ensures

pub returns-in-None : goal.returns-in-None
returns-in-None c =
    told_so _ _ _ _ (slice_get c.args.worker.now.workers.items c.args.core)
    (λ none. c.plain.ensures)
    (λ one has own at. c.plain.ensures ∙ ap hand_reply (sym c.in-None.is ∙ has own at)) c.hand.ensures
