use Rattle.std.proofs.Common.{sym, ◌∙◌, rules, tests}
use Rattle.std.proofs.lemmas.Iterator.{YieldsList-from_slice}
use Rattle.std.proofs.lemmas.Iterator.Search.{any_from_yields_List}
use Rattle.hg_strangers.specs.Mentions.{is_same, seen}
use Rattle.hg_strangers.specs.declared.mention.Mention.{Mention}
use Rattle.hg_strangers.proofs.Lists.{list_any-map}
use Rattle.hg_strangers.proofs.lacked.is_among.Goals as goal

pub returns : goal.returns
returns c =
    let passes = is_same (seen c.args.mention.now) in
    any_from_yields_List (λ (other : Mention). passes (seen other)) _ _ c.any.result c.any.ensures.ran (YieldsList-from_slice c.args.mentions.now cc) (λ x b q k. search (rules, tests))
    ∙ sym (list_any-map passes seen c.args.mentions.now)
