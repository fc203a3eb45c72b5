use Rattle.std.proofs.Common.{◌∙◌, List, [], ap, length, refl, sym}
use Rattle.std.proofs.lemmas.List.{length-map}
use Rattle.hg_run_table.specs.declared.part.Part.{Part}
use Rattle.hg_run_worker.proofs.Quietly.{quiet_asked}
use Rattle.hg_run_worker.proofs.SlotsLent.{at_position}
use Rattle.hg_run_worker.proofs.worker.RunWorker.lend_quietly.Goals as goal

pub lend-requires-clause-may_lend : goal.lend-requires-clause-may_lend
lend-requires-clause-may_lend c = λ one there. record {
  same =
      c.ask.ensures.same ∙ c.split-call.ensures.of_it ∙ c.requires.same
      ∙ sym (c.requires.seated _ one (at_position c.args.self.now.heap.segments c.args.segment one there)).same;
  one =
      ap length c.ask.ensures.run ∙ length-map c.split-call.result.seat.me.0.run _
      ∙ ap (λ (run : List Part). length run) c.split-call.ensures.run_given ∙ c.requires.one;
  bare = c.ask.ensures.lives ∙ c.split-call.ensures.lives_given ∙ c.requires.bare;
}

pub returns-clause-lent : goal.returns-clause-lent
returns-clause-lent c = record {
  what = c.ask.new.seat;
  lent = c.lend.ensures.lent;
  has = λ view is. c.ask.ensures.roles _ (c.split-call.ensures.roles [] _ refl is).1;
  quiet = quiet_asked c.ask.new.seat.seat.me.0.run (λ worker. c.ask.ensures.asked worker);
}
