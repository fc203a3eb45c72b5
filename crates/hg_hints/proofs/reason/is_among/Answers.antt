use Rattle.std.proofs.Common.{List, ℕ, Bor, sym, ◌∙◌, rules, tests}
use Rattle.std.proofs.lemmas.Iterator.{YieldsList-from_slice}
use Rattle.std.proofs.lemmas.Iterator.Search.{any_from_yields_List}
use Rattle.std.specs.Str.{bytes_eq}
use Rattle.hg_hints.proofs.Lists.{list_any-map}
use Rattle.hg_hints.proofs.reason.is_among.Goals as goal

pub returns : goal.returns
returns c =
    let passes = bytes_eq c.args.name.now in
    let text : Bor (List ℕ) → List ℕ = λ other. other.now in
    any_from_yields_List (λ (other : Bor (List ℕ)). passes other.now) _ _ c.any.result c.any.ensures.ran (YieldsList-from_slice c.args.names.now cc) (λ x b q k. search (rules, tests))
    ∙ sym (list_any-map passes text c.args.names.now)
