use Rattle.std.proofs.Common.{◌≡◌, ◌∙◌, ap, sym, subst}
use Rattle.hg_reply.specs.Replies.{valued}
use Rattle.hg_service_replies.specs.Asking.{hand_reply, state_tells}
use Rattle.hg_service_replies.proofs.asking.of_worker.Goals as goal

pub returns-in-Some : goal.returns-in-Some
returns-in-Some c = λ own at.
    subst (λ question. c.valued-in-Some.result ≡ state_tells own.value question) (sym c.in-Hand.is)
    (c.valued-in-Some.ensures ∙ ap (valued 4) c.number-in-Some.ensures.number ∙ ap hand_reply (sym c.in-Some.is ∙ c.hand.ensures own at))

pub returns-in-None : goal.returns-in-None
returns-in-None c = λ own at.
    subst (λ question. c.plain.result ≡ state_tells own.value question) (sym c.in-Hand.is)
    (c.plain.ensures ∙ ap hand_reply (sym c.in-None.is ∙ c.hand.ensures own at))
