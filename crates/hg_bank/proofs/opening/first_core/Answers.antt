use Rattle.std.proofs.Common.{subst, ap, ◌∙◌}
use Rattle.hg_core.specs.Opening.{opened}
use Rattle.hg_machine.specs.Soundness.{IsSound}
use Rattle.hg_machine.specs.Lists.{IsPartition}
use Rattle.hg_bank.proofs.opening.first_core.Goals as goal

pub returns-clause-kept : goal.returns-clause-kept
returns-clause-kept c =
    let same = c.in_ok-core.ensures.opened ∙ ap opened c.in_ok-copy.ensures in
    record {
      sound = subst (λ k. IsSound k.state) same c.in_ok-core.ensures.kept.0;
      lists = subst IsPartition same c.in_ok-core.ensures.kept.1;
    }
