use Rattle.std.proofs.Common.{◌<◌, [], ◌∷◌, ◌++◌, length, ◌≡◌, sym, ap, subst, ◌∙◌}
use Rattle.hg_core.specs.Opening.{opened}
use Rattle.hg_machine.specs.Lists.{IsPartition}
use Rattle.hg_machine.specs.Soundness.{IsSound}
use Rattle.hg_bank.specs.Kept.{bank_of, AreSums}
use Rattle.hg_bank.specs.Opening.{IsOpenCore}
use Rattle.hg_bank.specs.Sound.{IsSoundBank}
use Rattle.hg_bank.proofs.OpeningLemmas.{bank_with, grown_sound, grown_sums}
use Rattle.hg_bank.proofs.bank.Bank.grow.Goals as goal

pub invariant_of-self : goal.invariant_of-self
invariant_of-self c =
    let a = c.self.inside in
    let core = c.in_ok-core.ensures.opened ∙ ap opened c.in_ok-copy.ensures in
    let is : IsOpenCore a.policy = record {
      sound = subst (λ k. IsSound k.state) core c.in_ok-core.ensures.kept.0;
      lists = subst IsPartition core c.in_ok-core.ensures.kept.1;
    } in
    let items : c.push_reserved.new.self.items ≡ a.cores.items ++ opened a.policy ∷ [] =
    c.push_reserved.ensures.items ∙ ap (λ k. a.cores.items ++ k ∷ []) core in
    let less = subst (λ b. length b.cores < b.room) (sym c.self.view_is) c.requires in
    record {
      sound = subst (λ cores. IsSoundBank (bank_with a.policy a.room cores a.currents.items))
          (sym items) (grown_sound (bank_of a) c.self.invariant.sound is less);
      room = c.push_reserved.ensures.capacity ∙ c.self.invariant.room;
      rows = c.self.invariant.rows;
      sums = subst (AreSums a.policy a.sums.items) (sym items)
          (grown_sums a.policy a.sums.items a.cores.items c.self.invariant.sums);
    }

pub returns-clause-kept : goal.returns-clause-kept
returns-clause-kept c = (invariant_of-self c).sound
