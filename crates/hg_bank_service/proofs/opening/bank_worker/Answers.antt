use Rattle.std.proofs.Common.{◌<◌, length, replicate, rules, sym, subst}
use Rattle.hg_machine.specs.Policy.{Policy}
use Rattle.hg_bank_service.specs.Has.{AreNumbered}
use Rattle.hg_bank_service.specs.Sums.{AreSums}
use Rattle.hg_bank_service.proofs.Openings.{firsts_there, new_numbered, new_sums}
use Rattle.hg_bank_service.proofs.opening.bank_worker.Goals as goal

pub invariant_of-result : goal.invariant_of-result
invariant_of-result c =
    let policy = c.args.policy.now in
    let items = c.args.workers.items in
    let same = sym c.in_ok-own.ensures in
    record {
      below = subst (λ (p : Policy). c.args.number < p.workers) same c.requires.below;
      some = c.requires.some;
      most = c.requires.most;
      of = subst (λ (p : Policy). AreNumbered p c.args.number items) same
          (new_numbered policy c.args.number items c.requires.new);
      there = λ arena. firsts_there (length items) arena c.requires.some;
      counted = subst (λ (p : Policy). AreSums (length p.tenants) (replicate 64 0) items) same
          (new_sums policy c.args.number items c.requires.new);
      here = search rules;
      room = search rules;
    }
