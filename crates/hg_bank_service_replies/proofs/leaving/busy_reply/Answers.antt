use Rattle.std.proofs.Common.{ap, slice_get, sym, ◌∙◌, rules}
use Rattle.hg_bank_replies.specs.Replies.{placed}
use Rattle.hg_bank_service_replies.proofs.Rows.{of_there}
use Rattle.hg_bank_service_replies.proofs.Staying.{by_hand, by_none, has_none}
use Rattle.hg_bank_service_replies.proofs.leaving.busy_reply.Goals as goal

pub returns-then-is_some : goal.returns-then-is_some
returns-then-is_some c = record {
  core = c.args.core;
  first = c.requires;
  told = λ own at.
      let hand = of_there _ _ (slice_get c.args.worker.now.workers.items c.args.core) c.requires.worker c.requires.there c.hand.ensures own at in
      by_hand _ _ own.value.hand c.hand.result hand (sym c.is_some.ensures ∙ c.if-is_some.true) (λ handle. c.placed.ensures);
}

pub returns : goal.returns
returns c = record {
  core = c.args.core;
  first = c.requires;
  told = λ own at.
      let hand = of_there _ _ (slice_get c.args.worker.now.workers.items c.args.core) c.requires.worker c.requires.there c.hand.ensures own at in
      by_none _ _ own.value.hand c.hand.result hand (sym c.is_some.ensures ∙ c.if-is_some.false)
      (c.in-Some.segment, of_there _ _ (slice_get c.args.worker.now.workers.items c.args.core) c.requires.worker c.requires.there c.in-Some.ensures own at, c.placed-in-Some.ensures ∙ ap (placed 27 c.args.core) (search rules));
}

pub unreachable-requires : goal.unreachable-requires
unreachable-requires c = absurd (c.requires.busy (λ own at.
    let hand = of_there _ _ (slice_get c.args.worker.now.workers.items c.args.core) c.requires.worker c.requires.there c.hand.ensures own at in
    record {
      holds = of_there _ _ (slice_get c.args.worker.now.workers.items c.args.core) c.requires.worker c.requires.there c.in-None.ensures own at;
      hand = has_none own.value.hand c.hand.result hand (sym c.is_some.ensures ∙ c.if-is_some.false);
    }))
