use Rattle.std.proofs.Common.{sym, ◌∙◌, rules, tests}
use Rattle.std.proofs.lemmas.Iterator.{YieldsList-from_slice}
use Rattle.std.proofs.lemmas.Iterator.Search.{any_from_yields_List}
use Rattle.toml.specs.View.{view}
use Rattle.toml.specs.declared.value.Value.{Value}
use Rattle.hg_show.specs.Meant.{has_member}
use Rattle.hg_show.proofs.Anys.{list_any-map}
use Rattle.hg_show.proofs.meant.is_member.Goals as goal

pub returns : goal.returns
returns c =
    let passes = has_member c.args.name.now c.args.tenant.now in
    any_from_yields_List (λ (value : Value). passes (view value)) _ _ c.any.result c.any.ensures.ran (YieldsList-from_slice c.args.groups.now cc) (λ x b q k. search (rules, tests))
    ∙ sym (list_any-map passes view c.args.groups.now)
