use Rattle.std.proofs.Common.{◌∙◌, ap, arith, cond, nat_eq, None, Some, ◌-◌, ℕ, Option}
use Rattle.std.proofs.lemmas.List.{get_or_read}
use Rattle.std.specs.Box.{boxed_slice_items}
use Rattle.hg_lists.proofs.Linked.{kept}
use Rattle.hg_lists.proofs.Pushed.{first_of}
use Rattle.hg_lists.proofs.Removed.{apart_kept}
use Rattle.hg_lists.proofs.index_lists.IndexLists.front.Goals as goal

pub returns-clause-first : goal.returns-clause-first
returns-clause-first c =
    let k = kept c.self.inside c.args.self.now c.self.invariant c.self.view_is in
    let is = get_or_read (boxed_slice_items c.self.inside.heads) c.args.key c.index.result.now (omega (arith, k.all_heads, c.requires)) c.index.ensures 0 in
    c.entry_of.ensures ∙ ap (λ (link : ℕ). let r : Option ℕ = cond (nat_eq link 0) None (Some (link - 1)) in r) is
    ∙ first_of _ _ _ _ _ (k.linked c.args.key c.requires)

pub returns-clause-apart : goal.returns-clause-apart
returns-clause-apart c = apart_kept _ _ _ _ c.args.self.now (kept c.self.inside c.args.self.now c.self.invariant c.self.view_is)
