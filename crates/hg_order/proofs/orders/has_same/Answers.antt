use Rattle.std.proofs.Common.{sym, ◌∙◌}
use Rattle.hg_order.proofs.Same.{same_list, same_call}
use Rattle.hg_order.proofs.orders.has_same.Goals as goal

-- equal calls are the same
pub returns : goal.returns
returns c is_true =
    sym c.in_ok-its.ensures
    ∙ sym c.as_slice.ensures.value
    ∙ same_list _ same_call _ _ (sym c.eq.ensures ∙ is_true)
    ∙ c.as_slice-2.ensures.value
    ∙ c.in_ok-own.ensures
