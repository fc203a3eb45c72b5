use Rattle.std.proofs.Common.{arith}
use Rattle.std.proofs.lemmas.List.{length-set, get_or_read}
use Rattle.std.specs.Box.{boxed_slice_items}
use Rattle.hg_lists.proofs.Linked.{kept}
use Rattle.hg_lists.proofs.Pushed.{pushed-all, head_small, away, settled_links, settled_value}
use Rattle.hg_lists.proofs.Removed.{seen_apart}
use Rattle.hg_lists.proofs.index_lists.IndexLists.push_front.Goals as goal

pub write-requires : goal.write-requires
write-requires c =
    let k = kept c.self.inside c.args.self.now c.self.invariant c.self.view_is in
    let small = head_small _ _ _ _ _ _ _ c.args.key k c.requires.key in
    let is = get_or_read (boxed_slice_items c.self.inside.heads) c.args.key c.index-head.result.now (omega (arith, k.all_heads, c.requires.key)) c.index-head.ensures 0 in
    rw c.set-2.ensures (omega (arith, small, is, length-set c.self.inside.prev c.args.entry 0, k.all_prev))

pub invariant_of-self : goal.invariant_of-self
invariant_of-self c =
    let k = kept c.self.inside c.args.self.now c.self.invariant c.self.view_is in
    let wrote = rw c.set-2.ensures at c.write.ensures in
    rw (c.set.ensures, c.set-3.ensures) (settled_links _ _ _ _ _ _ _ (pushed-all _ _ _ _ _ _ _ _ c.args.key c.args.entry _ k c.requires.key c.requires.entry (away c.args.self.now c.args.entry c.requires.nowhere) c.index-head.ensures wrote))

pub returns-clause-pushed : goal.returns-clause-pushed
returns-clause-pushed c =
    let k = kept c.self.inside c.args.self.now c.self.invariant c.self.view_is in
    let wrote = rw c.set-2.ensures at c.write.ensures in
    rw (c.set.ensures, c.set-3.ensures) (settled_value _ _ _ _ _ _ _ (pushed-all _ _ _ _ _ _ _ _ c.args.key c.args.entry _ k c.requires.key c.requires.entry (away c.args.self.now c.args.entry c.requires.nowhere) c.index-head.ensures wrote))

pub returns-clause-apart : goal.returns-clause-apart
returns-clause-apart c =
    let k = kept c.self.inside c.args.self.now c.self.invariant c.self.view_is in
    let wrote = rw c.set-2.ensures at c.write.ensures in
    rw (c.set.ensures, c.set-3.ensures) (seen_apart _ _ _ _ (settled_links _ _ _ _ _ _ _ (pushed-all _ _ _ _ _ _ _ _ c.args.key c.args.entry _ k c.requires.key c.requires.entry (away c.args.self.now c.args.entry c.requires.nowhere) c.index-head.ensures wrote)))
