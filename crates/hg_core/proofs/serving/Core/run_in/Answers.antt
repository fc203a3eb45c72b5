use Rattle.std.proofs.Common.{◌≡◌, ◌+◌, ◌∷◌, [], ◌++◌, take, set, refl, sym, ap, subst, ◌∙◌, arith}
use Rattle.std.proofs.lemmas.List.{take_more, take_more_set}
use Rattle.hg_machine.specs.Steps.{Run}
use Rattle.hg_machine.proofs.Preserves.{steps_keep_policy}
use Rattle.hg_choice.specs.ChosenSteps.{Chosen}
use Rattle.hg_core.proofs.Kept.{kept_is}
use Rattle.hg_core.proofs.Runs.{run_more, chosen_more}
use Rattle.hg_core.proofs.serving.Core.run_in.Goals as goal

pub loop-number-init : goal.loop-number-init
loop-number-init c = record {
  run = refl;
  chosen = refl;
  kept = kept_is c.self.inside.stores c.args.self.now c.self.view_is c.self.invariant;
  policy = refl;
}

pub loop-number-preserved : goal.loop-number-preserved
loop-number-preserved c =
    let at = c.loop-number.number in
    let event = c.index-events-number.result in
    let answer = c.step-answer.result in
    let events : take (at + 1) c.args.events.now ≡ take at c.args.events.now ++ event ∷ [] =
    take_more c.args.events.now at event (omega arith)
    ∙ ap (λ e. take at c.args.events.now ++ e ∷ []) (sym c.index-events-number.is) in
    let answers : take (at + 1) (set c.loop-number.answers at answer)
    ≡ take at c.loop-number.answers ++ answer ∷ [] =
    take_more_set c.loop-number.answers at answer (omega arith) in
    record {
      run =
          subst (λ es. Run c.args.self.now.state es (take (at + 1)
          (set c.loop-number.answers at answer)) c.step-answer.new.self.state) (sym events)
          (subst (λ done. Run c.args.self.now.state (take at c.args.events.now ++ event ∷ []) done
          c.step-answer.new.self.state) (sym answers)
          (run_more _ _ c.args.self.now.state c.loop-number.self.state c.step-answer.new.self.state
          event answer c.loop-number.invariant.run c.step-answer.ensures.step));
      chosen =
          subst (λ es. Chosen c.args.self.now es (take (at + 1)
          (set c.loop-number.answers at answer)) c.step-answer.new.self) (sym events)
          (subst (λ done. Chosen c.args.self.now (take at c.args.events.now ++ event ∷ []) done
          c.step-answer.new.self) (sym answers)
          (chosen_more _ _ c.args.self.now c.loop-number.self c.step-answer.new.self event answer
          c.loop-number.invariant.chosen c.step-answer.ensures.chosen));
      kept = c.step-answer.ensures.kept;
      policy = steps_keep_policy c.loop-number.self.state event.0 event.1 answer
          c.step-answer.new.self.state c.step-answer.ensures.step ∙ c.loop-number.invariant.policy;
    }
