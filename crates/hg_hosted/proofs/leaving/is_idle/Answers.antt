use Rattle.std.proofs.Common.{not, sym, ap, ◌∙◌}
use Rattle.std.proofs.lemmas.Bool.{false≢true}
use Rattle.hg_hosted.proofs.Idle.{no_hand, some_hand}
use Rattle.hg_hosted.proofs.leaving.is_idle.Goals as goal

pub returns-in-Some-clause-no : goal.returns-in-Some-clause-no
returns-in-Some-clause-no c = λ no idle.
    false≢true (sym (idle.holds c.in-Some._segment c.in-Some.ensures.below) ∙ c.in-Some.ensures.held)

pub returns-in-None-clause-yes : goal.returns-in-None-clause-yes
returns-in-None-clause-yes c = λ yes. record {
  holds = c.in-None.ensures;
  hand = no_hand c.args.state.now.hand c.hand.result c.hand.ensures
      (c.is_none.ensures ∙ ap not yes);
}

pub returns-in-None-clause-no : goal.returns-in-None-clause-no
returns-in-None-clause-no c = λ no idle.
    some_hand c.args.state.now.hand c.hand.result c.hand.ensures (c.is_none.ensures ∙ ap not no)
    idle.hand
