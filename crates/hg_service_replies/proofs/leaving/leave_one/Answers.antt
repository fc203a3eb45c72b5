use Rattle.std.proofs.Common.{◌∙◌, sym, rules}
use Rattle.hg_service_replies.proofs.Staying.{stays_back, for_hand, for_segment, for_others, has_some, has_none}
use Rattle.hg_service_replies.proofs.leaving.leave_one.Goals as goal

pub returns-then-is_some : goal.returns-then-is_some
returns-then-is_some c =
    (stays_back c.args.worker, for_hand _ _ (λ own at. has_some own.value.hand c.hand.result (c.hand.ensures own at) (sym c.is_some.ensures ∙ c.if-is_some.true)) c.plain.ensures)

pub returns-in-Some : goal.returns-in-Some
returns-in-Some c = (
  stays_back c.args.worker,
  for_segment _ _ (λ own at. has_none own.value.hand c.hand.result (c.hand.ensures own at) (sym c.is_some.ensures ∙ c.if-is_some.false))
      c.in-Some.segment c.in-Some.ensures (search rules),
)

pub returns-in-Err : goal.returns-in-Err
returns-in-Err c = (
  record {
    state = c.in-Err.ensures.back;
    taken = c.in-Err.ensures.taken;
    places = c.in-Err.ensures.places;
  },
  for_others _ _ (λ own at. has_none own.value.hand c.hand.result (c.hand.ensures own at) (sym c.is_some.ensures ∙ c.if-is_some.false))
      c.in_default.ensures c.plain-in-Err.ensures,
)
