use Rattle.std.proofs.Common.{sym, subst}
use Rattle.atomic_table.specs.Seated.{TableId}
use Rattle.hg_machine.specs.Policy.{Policy}
use Rattle.hg_hosted.specs.Coming.{HaveLeft}
use Rattle.hg_hosted.specs.Shared.{AreOfService}
use Rattle.hg_hosted.proofs.Named.{table_is}
use Rattle.hg_hosted.proofs.service.HostedService.made.Goals as goal

pub invariant_of-result : goal.invariant_of-result
invariant_of-result g c = record {
  of = λ one is. subst (λ (t : TableId). AreOfService c.args.policy t c.args.shared)
      (sym (c.requires.of.left.named one is).seated)
      (subst (λ (p : Policy). AreOfService p g.N.TableName.table c.args.shared)
      (sym c.requires.policy) c.requires.of);
  home = c.requires.home;
  left = subst (λ (t : TableId). HaveLeft c.args.policy t c.args.came.items)
      (sym (table_is c.requires.of))
      (subst (λ (p : Policy). HaveLeft p g.N.TableName.table c.args.came.items)
      (sym c.requires.policy) c.requires.left);
  noted = c.requires.noted;
  room = c.requires.room;
}
