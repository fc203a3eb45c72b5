use Rattle.std.proofs.Common.{arith}
use Rattle.hg_page.proofs.Spliced.{spliced_none, spliced_swap, spliced_join, end_below}
use Rattle.hg_page.proofs.Popped.{start_below}
use Rattle.hg_page.proofs.page.Page.splice.Goals as goal

pub returns-then-self-eq-END-clause-spliced : goal.returns-then-self-eq-END-clause-spliced
returns-then-self-eq-END-clause-spliced c = (spliced_none c.args.self.now c.args.memory.now c.requires c.if-self-eq-END.true).shown

pub returns-then-self-eq-END-2-clause-linked : goal.returns-then-self-eq-END-2-clause-linked
returns-then-self-eq-END-2-clause-linked c = (spliced_swap c.args.self.now c.args.memory.now c.requires c.if-self-eq-END-2.true).linked

pub returns-then-self-eq-END-2-clause-spliced : goal.returns-then-self-eq-END-2-clause-spliced
returns-then-self-eq-END-2-clause-spliced c = (spliced_swap c.args.self.now c.args.memory.now c.requires c.if-self-eq-END-2.true).shown

pub start-requires : goal.start-requires
start-requires c = start_below c.args.self.now c.args.memory.now _ c.requires (end_below c.args.self.now c.args.memory.now c.requires c.if-self-eq-END-2.false)

pub set-requires : goal.set-requires
set-requires c = omega (arith, start_below c.args.self.now c.args.memory.now _ c.requires (end_below c.args.self.now c.args.memory.now c.requires c.if-self-eq-END-2.false))

pub returns-clause-linked : goal.returns-clause-linked
returns-clause-linked c = (spliced_join c.args.self.now c.args.memory.now _ _ c.requires c.if-self-eq-END-2.false c.if-self-eq-END.false c.start.ensures c.set.ensures.words).linked

pub returns-clause-spliced : goal.returns-clause-spliced
returns-clause-spliced c = (spliced_join c.args.self.now c.args.memory.now _ _ c.requires c.if-self-eq-END-2.false c.if-self-eq-END.false c.start.ensures c.set.ensures.words).shown

pub returns-clause-others : goal.returns-clause-others
returns-clause-others c = (spliced_join c.args.self.now c.args.memory.now _ _ c.requires c.if-self-eq-END-2.false c.if-self-eq-END.false c.start.ensures c.set.ensures.words).others
