use Rattle.std.proofs.Common.{◌∙◌, ap, arith, ℕ, Option, None, Some, cond, nat_eq, ◌-◌}
use Rattle.hg_lists.proofs.RepeatsLemmas.{in_contains}
use Rattle.hg_lists.proofs.Linked.{kept}
use Rattle.hg_lists.proofs.Removed.{apart_kept, key_of, key_below}
use Rattle.hg_lists.proofs.Pushed.{unowned, away}
use Rattle.hg_lists.proofs.Followed.{follower_is}
use Rattle.hg_lists.proofs.index_lists.IndexLists.next.Goals as goal

pub returns-then-get-eq0-clause-follows : goal.returns-then-get-eq0-clause-follows
returns-then-get-eq0-clause-follows c key i =
    let k = kept c.self.inside c.args.self.now c.self.invariant c.self.view_is in
    let own = c.get.ensures in
    absurd (omega (arith, own, c.if-get-eq0.true, (key_of _ _ _ _ _ _ c.args.self.now.by_key key c.args.entry k (key_below c.args.self.now.by_key key c.args.entry i) (in_contains _ _ i)).1))

pub returns-clause-follows : goal.returns-clause-follows
returns-clause-follows c key i =
    let k = kept c.self.inside c.args.self.now c.self.invariant c.self.view_is in
    let link = c.get-2.ensures in
    c.entry_of.ensures ∙ ap (λ (link : ℕ). let r : Option ℕ = cond (nat_eq link 0) None (Some (link - 1)) in r) link ∙ follower_is _ _ _ _ c.args.entry _ (k.linked key (key_below c.args.self.now.by_key key c.args.entry i)) (in_contains _ _ i)

pub returns-clause-nowhere : goal.returns-clause-nowhere
returns-clause-nowhere c nowhere =
    let k = kept c.self.inside c.args.self.now c.self.invariant c.self.view_is in
    let own = c.get.ensures in
    absurd (c.if-get-eq0.false (own ∙ unowned _ _ _ _ _ _ c.args.self.now.by_key c.args.entry k c.requires (away c.args.self.now c.args.entry nowhere)))

pub returns-then-get-eq0-clause-apart : goal.returns-then-get-eq0-clause-apart
returns-then-get-eq0-clause-apart c = apart_kept _ _ _ _ c.args.self.now (kept c.self.inside c.args.self.now c.self.invariant c.self.view_is)

pub returns-clause-apart : goal.returns-clause-apart
returns-clause-apart c = apart_kept _ _ _ _ c.args.self.now (kept c.self.inside c.args.self.now c.self.invariant c.self.view_is)
