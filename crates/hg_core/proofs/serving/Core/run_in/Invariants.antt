use Rattle.std.proofs.Common.{◌≡◌, take}
use Rattle.hg_machine.specs.Soundness.{IsSound}
use Rattle.hg_machine.specs.Lists.{IsPartition}
use Rattle.hg_machine.specs.Steps.{Run}
use Rattle.hg_choice.specs.ChosenSteps.{Chosen}
use Rattle.hg_core.proofs.serving.Core.run_in.Given as goal

-- the answers so far are a run over the events so far, with its choices
abbrev pub invariant-loop-number : goal.invariant-loop-number
invariant-loop-number l = record {
  run : Run l.fn.self.state (take l.number l.events) (take l.number l.answers) l.self.state;
  chosen : Chosen l.fn.self (take l.number l.events) (take l.number l.answers) l.self;
  kept : IsSound l.self.state × IsPartition l.self;
  policy : l.self.state.policy ≡ l.fn.self.state.policy;
}
