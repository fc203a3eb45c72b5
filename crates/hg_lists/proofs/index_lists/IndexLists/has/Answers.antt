use Rattle.std.proofs.Common.{◌≡◌, ◌≢◌, ◌∙◌, ◌-◌, suc, sym, arith}
use Rattle.hg_lists.proofs.RepeatsLemmas.{in_contains, Contains-in}
use Rattle.hg_lists.proofs.Linked.{kept}
use Rattle.hg_lists.proofs.Removed.{apart_kept, key_of, key_below}
use Rattle.hg_lists.proofs.Followed.{set_own, own_set}
use Rattle.hg_lists.proofs.index_lists.IndexLists.has.Goals as goal

pub returns-clause-there : goal.returns-clause-there
returns-clause-there c =
    let k = kept c.self.inside c.args.self.now c.self.invariant c.self.view_is in
    let own = c.get.ensures in (
      (λ is. let ne : c.get.result ≢ 0 = set_own c.get.result is in
          let there = k.found c.args.entry (c.get.result - 1) c.requires (let e : c.get.result ≡ suc (c.get.result - 1) = omega arith in sym own ∙ e) in
          (c.get.result - 1, Contains-in _ _ there.1)),
      (λ s. own_set c.get.result (λ e. absurd (omega (arith, own, e, (key_of _ _ _ _ _ _ c.args.self.now.by_key s.0 c.args.entry k (key_below c.args.self.now.by_key s.0 c.args.entry s.1) (in_contains _ _ s.1)).1)))),
    )

pub returns-clause-apart : goal.returns-clause-apart
returns-clause-apart c = apart_kept _ _ _ _ c.args.self.now (kept c.self.inside c.args.self.now c.self.invariant c.self.view_is)
