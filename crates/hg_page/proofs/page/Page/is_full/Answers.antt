use Rattle.std.proofs.Common.{◌≡◌, arith}
use Rattle.hg_page.proofs.Emptied.{no_listed, listed_none}
use Rattle.hg_page.proofs.page.Page.is_full.Goals as goal

pub returns-then-self-eq-END : goal.returns-then-self-eq-END
returns-then-self-eq-END c = (
  (λ is. let e : c.args.self.now.local ≡ 0 = grind (arith, is) in no_listed c.args.self.now c.args.memory.now c.if-self-eq-END.true e),
  (λ none. let e : c.args.self.now.local ≡ 0 = (listed_none c.args.self.now c.args.memory.now none).1 in grind (arith, e)),
)

pub returns-else-self-eq-END : goal.returns-else-self-eq-END
returns-else-self-eq-END c = (
  (λ is. let e : c.args.self.now.free ≡ 0 = grind (arith, is) in absurd (c.if-self-eq-END.false e)),
  (λ none. absurd (c.if-self-eq-END.false (listed_none c.args.self.now c.args.memory.now none).0)),
)
