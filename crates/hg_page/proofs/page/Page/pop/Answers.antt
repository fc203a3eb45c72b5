use Rattle.std.proofs.Common.{◌≡◌, ◌-◌, arith, refl}
use Rattle.hg_page.proofs.Chained.{chain-nil}
use Rattle.hg_page.proofs.Popped.{head_below, start_below, next_small, popped-linked, popped-shown}
use Rattle.hg_page.specs.Links.{link_at}
use Rattle.hg_page.proofs.page.Page.pop.Goals as goal

pub returns-then-self-eq-END-clause-popped : goal.returns-then-self-eq-END-clause-popped
returns-then-self-eq-END-clause-popped c = (chain-nil 511 (link_at c.args.self.now c.args.memory.now) c.args.self.now.free c.if-self-eq-END.true, refl)

pub start-requires : goal.start-requires
start-requires c = start_below c.args.self.now c.args.memory.now _ c.requires (head_below c.args.self.now c.args.memory.now c.requires c.if-self-eq-END.false)

pub get-requires : goal.get-requires
get-requires c = omega (arith, start_below c.args.self.now c.args.memory.now _ c.requires (head_below c.args.self.now c.args.memory.now c.requires c.if-self-eq-END.false))

pub overflow_cast-self : goal.overflow_cast-self
overflow_cast-self c = let e : c.get.result ≡ link_at c.args.self.now c.args.memory.now (c.args.self.now.free - 1) = cc in omega (arith, next_small c.args.self.now c.args.memory.now c.requires c.if-self-eq-END.false)

pub bounds-self-index : goal.bounds-self-index
bounds-self-index c = omega (arith, head_below c.args.self.now c.args.memory.now c.requires c.if-self-eq-END.false)

pub returns-clause-linked : goal.returns-clause-linked
returns-clause-linked c = popped-linked c.args.self.now c.args.memory.now _ _ c.requires c.if-self-eq-END.false refl (cc)

pub returns-clause-popped : goal.returns-clause-popped
returns-clause-popped c = popped-shown c.args.self.now c.args.memory.now _ _ c.requires c.if-self-eq-END.false refl (cc)

pub returns-clause-below : goal.returns-clause-below
returns-clause-below c = head_below c.args.self.now c.args.memory.now c.requires c.if-self-eq-END.false
