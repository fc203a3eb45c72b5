use Rattle.std.proofs.Common.{◌∙◌, refl, sym, arith}
use Rattle.hg_lists.proofs.Followed.{empty_links, empty_list}
use Rattle.hg_lists.proofs.Removed.{seen_apart}
use Rattle.hg_lists.proofs.index_lists.IndexLists.new.Goals as goal

pub invariant_of-result : goal.invariant_of-result
invariant_of-result c = empty_links _ _ _ _ _ _ (omega (arith, c.in_ok-heads.ensures.all)) (omega (arith, c.in_ok-owner.ensures.all)) refl (c.in_ok-next.ensures.all ∙ sym c.in_ok-owner.ensures.all) (c.in_ok-prev.ensures.all ∙ sym c.in_ok-owner.ensures.all) refl c.in_ok-heads.ensures.zero c.in_ok-owner.ensures.blank

pub returns-clause-empty : goal.returns-clause-empty
returns-clause-empty c key = empty_list _ _ _ key c.in_ok-heads.ensures.zero

pub returns-clause-apart : goal.returns-clause-apart
returns-clause-apart c = seen_apart _ _ _ _ (empty_links _ _ _ _ _ _ (omega (arith, c.in_ok-heads.ensures.all)) (omega (arith, c.in_ok-owner.ensures.all)) refl (c.in_ok-next.ensures.all ∙ sym c.in_ok-owner.ensures.all) (c.in_ok-prev.ensures.all ∙ sym c.in_ok-owner.ensures.all) refl c.in_ok-heads.ensures.zero c.in_ok-owner.ensures.blank)
