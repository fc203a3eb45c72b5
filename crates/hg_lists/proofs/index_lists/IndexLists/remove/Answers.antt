use Rattle.std.proofs.Common.{◌∙◌, sym, arith, ap, List, ℕ}
use Rattle.hg_lists.specs.Lists.{Lists}
use Rattle.hg_lists.proofs.Linked.{kept}
use Rattle.hg_lists.proofs.Pushed.{settled_links, settled_value}
use Rattle.hg_lists.proofs.Removed.{reads, removed-all, without_nowhere, apart_kept, seen_apart}
use Rattle.hg_lists.proofs.index_lists.IndexLists.remove.Goals as goal

pub returns-then-owner-eq0-clause-removed : goal.returns-then-owner-eq0-clause-removed
returns-then-owner-eq0-clause-removed c =
    let k = kept c.self.inside c.args.self.now c.self.invariant c.self.view_is in
    let free = sym c.get-owner.ensures ∙ c.if-owner-eq0.true in
    ap (λ (lists : List (List ℕ)). let m : Lists = record { by_key = lists; entries = c.args.self.now.entries } in m) (without_nowhere _ _ _ _ _ _ c.args.self.now.by_key c.args.entry k free)

pub returns-then-owner-eq0-clause-apart : goal.returns-then-owner-eq0-clause-apart
returns-then-owner-eq0-clause-apart c = apart_kept _ _ _ _ c.args.self.now (kept c.self.inside c.args.self.now c.self.invariant c.self.view_is)

pub write_first-requires : goal.write_first-requires
write_first-requires c =
    let k = kept c.self.inside c.args.self.now c.self.invariant c.self.view_is in
    omega (arith, k.all_heads, (reads _ _ _ _ _ _ _ c.args.entry _ _ _ k c.requires c.if-owner-eq0.false c.get-owner.ensures c.get-before.ensures c.get-after.ensures).key_small)

pub write-requires : goal.write-requires
write-requires c =
    let k = kept c.self.inside c.args.self.now c.self.invariant c.self.view_is in
    omega (arith, k.all_next, (reads _ _ _ _ _ _ _ c.args.entry _ _ _ k c.requires c.if-owner-eq0.false c.get-owner.ensures c.get-before.ensures c.get-after.ensures).before_small)

pub write-requires-2 : goal.write-requires-2
write-requires-2 c =
    let k = kept c.self.inside c.args.self.now c.self.invariant c.self.view_is in
    omega (arith, k.all_prev, (reads _ _ _ _ _ _ _ c.args.entry _ _ _ k c.requires c.if-owner-eq0.false c.get-owner.ensures c.get-before.ensures c.get-after.ensures).after_small)

pub invariant_of-self : goal.invariant_of-self
invariant_of-self c =
    let k = kept c.self.inside c.args.self.now c.self.invariant c.self.view_is in
    rw c.set.ensures (settled_links _ _ _ _ _ _ _ (removed-all _ _ _ _ _ _ _ _ _ _ c.args.entry _ _ _ k c.requires c.if-owner-eq0.false c.get-owner.ensures c.get-before.ensures c.get-after.ensures c.write_first.ensures c.write.ensures c.write-2.ensures))

pub returns-clause-removed : goal.returns-clause-removed
returns-clause-removed c =
    let k = kept c.self.inside c.args.self.now c.self.invariant c.self.view_is in
    rw c.set.ensures (settled_value _ _ _ _ _ _ _ (removed-all _ _ _ _ _ _ _ _ _ _ c.args.entry _ _ _ k c.requires c.if-owner-eq0.false c.get-owner.ensures c.get-before.ensures c.get-after.ensures c.write_first.ensures c.write.ensures c.write-2.ensures))

pub returns-clause-apart : goal.returns-clause-apart
returns-clause-apart c =
    let k = kept c.self.inside c.args.self.now c.self.invariant c.self.view_is in
    rw c.set.ensures (seen_apart _ _ _ _ (settled_links _ _ _ _ _ _ _ (removed-all _ _ _ _ _ _ _ _ _ _ c.args.entry _ _ _ k c.requires c.if-owner-eq0.false c.get-owner.ensures c.get-before.ensures c.get-after.ensures c.write_first.ensures c.write.ensures c.write-2.ensures)))
