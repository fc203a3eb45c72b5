use Rattle.std.proofs.Common.{◌∙◌, refl}
use Rattle.toml.specs.View.{view}
use Rattle.hg_policy.specs.Kept.{tenants_of}
use Rattle.hg_policy.proofs.Names.{position-tenants}
use Rattle.hg_policy_text.proofs.Tables.{number_in-text}
use Rattle.hg_policy_text.proofs.tenants.number_in.Goals as goal

pub returns-in-Some-get_index_of : goal.returns-in-Some-get_index_of
returns-in-Some-get_index_of c =
    let text = c.in-Some.text.now in
    let at = c.in-Some-get_index_of.ensures.index ∙ position-tenants text c.args.tenants.now.entries in
    number_in-text c.args.key (tenants_of c.args.tenants.now.entries) (view c.args.value.now) text c.in-Some.ensures ∙ rw (← at) refl

pub returns-in_ok-from_str-in-None-get_index_of : goal.returns-in_ok-from_str-in-None-get_index_of
returns-in_ok-from_str-in-None-get_index_of c =
    let text = c.in-Some.text.now in
    let at = c.in-None-get_index_of.ensures.index ∙ position-tenants text c.args.tenants.now.entries in
    number_in-text c.args.key (tenants_of c.args.tenants.now.entries) (view c.args.value.now) text c.in-Some.ensures ∙ rw (← at, c.in_ok-from_str-in-None-get_index_of.ensures.ok) refl
