use Rattle.std.proofs.Common.{◌≡◌, ◌∙◌, ap, slice_get, rules}
use Rattle.hg_place.specs.Words.{bit_of}
use Rattle.hg_reply.specs.Replies.{valued}
use Rattle.hg_bank_service_replies.proofs.Told.{told_so}
use Rattle.hg_bank_service_replies.proofs.asking.held_in.Goals as goal

pub returns : goal.returns
returns c =
    let told : c.valued.result ≡ valued 4 (bit_of c.holds-held.result) = search rules in
    told_so _ _ _ _ (slice_get c.args.worker.now.workers.items c.args.core)
    (λ none. told ∙ ap (λ b. valued 4 (bit_of b)) none)
    (λ one has own at. told ∙ ap (λ b. valued 4 (bit_of b)) (has own at)) c.holds-held.ensures
