use Rattle.std.proofs.Common.{length, replicate, sym, ap, subst, ◌∙◌}
use Rattle.std.proofs.lemmas.List.{length-replicate}
use Rattle.hg_bank.specs.Sound.{IsSoundBank}
use Rattle.hg_bank.proofs.OpeningLemmas.{bank_with, made_sound}
use Rattle.hg_bank.proofs.parts.put_together.Goals as goal

pub invariant_of-result : goal.invariant_of-result
invariant_of-result c =
    let p = c.args.parts in
    record {
      sound = subst (λ rows. IsSoundBank (bank_with p.policy p.room p.cores.items rows))
          (sym c.requires.currents) (made_sound p.policy p.room p.cores.items c.requires.parts);
      room = c.requires.list;
      rows = ap length c.requires.currents
          ∙ length-replicate p.policy.workers (replicate 256 0);
      sums = c.requires.sums;
    }

pub returns-clause-kept : goal.returns-clause-kept
returns-clause-kept c = (invariant_of-result c).sound
