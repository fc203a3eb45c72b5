use Rattle.std.proofs.Common.{map, sym, ap, ◌∙◌, rules, tests}
use Rattle.std.specs.List.{list_any}
use Rattle.std.proofs.lemmas.Iterator.{YieldsList-from_slice}
use Rattle.std.proofs.lemmas.Iterator.Search.{any_from_yields_List}
use Rattle.hg_trace.specs.Stored.{line_in}
use Rattle.hg_trace.specs.declared.stored.StoredLine.{StoredLine}
use Rattle.hg_strangers.specs.Mentions.{says_another, seen}
use Rattle.hg_strangers.proofs.Lists.{list_any-map}
use Rattle.hg_strangers.proofs.lacked.lacks_another.Goals as goal

pub returns : goal.returns
returns c =
    let store = c.args.trace.now in
    let passes = says_another c.args.policy.now (map seen c.args.mentions.now) in
    let says = line_in store.names store.labels in
    any_from_yields_List (λ (line : StoredLine). passes (says line)) _ _ c.any.result c.any.ensures.ran (YieldsList-from_slice store.lines cc) (λ x b q k. search (rules, tests))
    ∙ sym (list_any-map passes says store.lines)
