use Rattle.std.proofs.Common.{refl, ap, length, arith, ℕ}
use Rattle.std.specs.Vec.{with_item}
use Rattle.hg_machine.specs.declared.Event.TheVariants as Event
use Rattle.hg_bulk.specs.Words.{WritesWords}
use Rattle.hg_bank.proofs.CallLemmas.{IsDone, found, calm_run}
use Rattle.hg_bank.proofs.RunLemmas.{run_policy, calm_charges}
use Rattle.hg_bank.proofs.bank.Bank.write_words.Goals as goal

after : (c : goal.After-self-1) → IsDone c.args.self.now c.args.block.core
    (λ was next. WritesWords was c.args.worker c.args.actor c.args.block.handle c.args.first
    c.args.words.now c.write_words.result next)
    (record c.self.inside {
      cores = with_item c.self.inside.cores c.from-2.result c.write_words.new.core;
    })
after c =
    let event = λ (word : ℕ × ℕ). Event.Write c.args.actor c.args.block.handle word.0 word.1 in
    let run = c.write_words.ensures.words.run in
    calm_run
    (found c.self.invariant c.self.view_is c.index_mut-core.ensures.value
    (omega (arith, c.self.inside.cores.ok.0)) c.requires)
    (record {
      policy = run_policy c.args.worker event _ _ _ _ run;
      kept = c.write_words.ensures.kept;
    })
    c.args.block.core c.from-2.ensures
    (calm_charges c.args.worker event _ _ _ _ (λ word. refl) run) c.write_words.ensures.words

pub invariant_of-self : goal.invariant_of-self
invariant_of-self c = (after c).kept

pub returns-clause-words : goal.returns-clause-words
returns-clause-words c = record {
  there = λ below. (after c).done;
  missing = λ past.
      let e = ap (λ b. length b.cores) c.self.view_is in
      absurd (omega (arith, c.self.inside.cores.ok.0));
}

pub returns-clause-kept : goal.returns-clause-kept
returns-clause-kept c = (after c).kept.sound
