use Rattle.std.proofs.Common.{◌∙◌, ap}
use Rattle.std.proofs.lemmas.Option.{MatchOption-at_none}
use Rattle.hg_page.specs.PageLists.{spliced}
use Rattle.hg_page.specs.Links.{lists_of}
use Rattle.hg_segment.proofs.Heads.{popped_first, popped_then, none_left, if_none, if_some}
use Rattle.hg_segment.proofs.lists.pop_refilled.Goals as goal

pub returns-in-Some-clause-some : goal.returns-in-Some-clause-some
returns-in-Some-clause-some c = popped_first _ _ _ c.in-Some.ensures.popped

pub returns-clause-none : goal.returns-clause-none
returns-clause-none c =
    let before = MatchOption-at_none _ _ c.in_default.is c.pop.ensures.popped in
    if_none _ c.pop-2.result c.pop-2.ensures.popped (λ h. none_left c.args.page.now c.splice.new.self c.pop-2.new.self c.args.memory.now c.splice.new.memory c.requires c.splice.ensures.linked
    (c.splice.ensures.spliced ∙ ap (λ p. spliced (lists_of p c.args.memory.now)) before.1) c.splice.ensures.others h.0 h.1)

pub returns-clause-some : goal.returns-clause-some
returns-clause-some c =
    let before = MatchOption-at_none _ _ c.in_default.is c.pop.ensures.popped in
    if_some _ c.pop-2.result c.pop-2.ensures.popped (λ index h. popped_then index (lists_of c.args.page.now c.args.memory.now) (lists_of c.splice.new.self c.splice.new.memory) _ before.0
    (c.splice.ensures.spliced ∙ ap (λ p. spliced (lists_of p c.args.memory.now)) before.1) h)
