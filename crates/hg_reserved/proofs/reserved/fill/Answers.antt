use Rattle.std.proofs.Common.{rules, ap, ◌∙◌, replicate}
use Rattle.hg_reserved.proofs.ShownLemmas.{all-blank}
use Rattle.hg_reserved.proofs.reserved.fill.Goals as goal

pub returns : goal.returns
returns g c =
    all-blank g.T.Blank.blank c.loop-at.values (λ k l. c.loop-at.invariant.blank k (search rules))
    ∙ ap (λ n. replicate n g.T.Blank.blank) c.loop-at.invariant.all
