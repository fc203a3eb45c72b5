use Rattle.std.proofs.Common.{◌≡◌, Some, None, length, refl, sym, ap, ◌∙◌}
use Rattle.std.specs.Option.{option_map}
use Rattle.toml.specs.View.{view}
use Rattle.hg_policy_text.specs.Groups.{group_named}
use Rattle.hg_policy.specs.Kept.{tenants_of}
use Rattle.hg_policy_text.specs.ReadTables.{groups_of}
use Rattle.hg_policy.specs.TenantSets.{flags_of}
use Rattle.hg_policy.proofs.Names.{length-tenants, position-tenants}
use Rattle.hg_policy_text.proofs.Sets.{flags-one, group_named-is, named_in-text}
use Rattle.hg_policy_text.proofs.groups.named_in.Goals as goal

pub returns-in-Some-get_index_of : goal.returns-in-Some-get_index_of
returns-in-Some-get_index_of c =
    let entries = c.args.tenants.now.entries in
    let n = length entries in
    let text = c.in-Some.text.now in
    let at = c.in-Some-get_index_of.ensures.index ∙ position-tenants text entries in
    let one = flags-one n c.none.result c.with.result c.in-Some-get_index_of.tenant c.none.ensures c.with.ensures in
    named_in-text c.args.key (tenants_of entries) (groups_of n c.args.groups.now.entries) (view c.args.value.now) text c.in-Some.ensures
    ∙ rw (← at, length-tenants entries, one) refl

pub returns-in-Some-get : goal.returns-in-Some-get
returns-in-Some-get c =
    let entries = c.args.tenants.now.entries in
    let n = length entries in
    let text = c.in-Some.text.now in
    let at = c.in-None.ensures.index ∙ position-tenants text entries in
    let group : group_named (groups_of n c.args.groups.now.entries) text ≡ Some (flags_of n c.in-Some-get.members.now) =
    sym (group_named-is n text c.args.groups.now.entries) ∙ ap (option_map (flags_of n)) (sym c.in-Some-get.ensures.value) in
    named_in-text c.args.key (tenants_of entries) (groups_of n c.args.groups.now.entries) (view c.args.value.now) text c.in-Some.ensures
    ∙ rw (← at, group) refl

pub returns-in_ok-from_str-in-None-get : goal.returns-in_ok-from_str-in-None-get
returns-in_ok-from_str-in-None-get c =
    let entries = c.args.tenants.now.entries in
    let n = length entries in
    let text = c.in-Some.text.now in
    let at = c.in-None.ensures.index ∙ position-tenants text entries in
    let group : group_named (groups_of n c.args.groups.now.entries) text ≡ None =
    sym (group_named-is n text c.args.groups.now.entries) ∙ ap (option_map (flags_of n)) (sym c.in-None-get.ensures.value) in
    named_in-text c.args.key (tenants_of entries) (groups_of n c.args.groups.now.entries) (view c.args.value.now) text c.in-Some.ensures
    ∙ rw (← at, group, c.in_ok-from_str-in-None-get.ensures.ok) refl
