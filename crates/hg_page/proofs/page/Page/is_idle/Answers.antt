use Rattle.std.proofs.Common.{◌≡◌, arith}
use Rattle.hg_page.proofs.Spliced.{count_none, none_counted}
use Rattle.hg_page.proofs.page.Page.is_idle.Goals as goal

pub returns : goal.returns
returns c = (
  (λ is. let e : c.args.self.now.in_use ≡ 0 = grind (arith, is) in count_none c.args.self.now.used (omega (arith, e, c.requires.counted))),
  (λ f. let e : c.args.self.now.in_use ≡ 0 = omega (arith, none_counted c.args.self.now.used f, c.requires.counted) in grind (arith, e)),
)
