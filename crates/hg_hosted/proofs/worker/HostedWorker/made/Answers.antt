use Rattle.std.proofs.Common.{refl, subst}
use Rattle.std.proofs.lemmas.Option.{same_Some}
use Rattle.hg_table.specs.Named.{table_of_worker}
use Rattle.hg_hosted.specs.Shared.{AreOfService}
use Rattle.hg_hosted.proofs.worker.HostedWorker.made.Goals as goal

pub invariant_of-result : goal.invariant_of-result
invariant_of-result c = record {
  there = refl;
  of = λ own is. subst
      (λ o. AreOfService o.value.policy (table_of_worker o.value.seat) c.args.shared)
      (same_Some c.args.state own is) c.requires.of;
  home = c.requires.home;
}
