use Rattle.std.proofs.Common.{◌≡◌, length, refl, sym, ◌∙◌, true, false, string_bytes, string_eq}
use Rattle.std.proofs.lemmas.List.{map_push}
use Rattle.indexmap.proofs.CallerLemmas.{insert_entry-new}
use Rattle.hg_policy_text.specs.Groups.{Group}
use Rattle.hg_policy.specs.Kept.{names_of}
use Rattle.hg_policy.specs.Names.{is_among}
use Rattle.hg_policy.specs.TenantSets.{flags_of}
use Rattle.hg_policy.proofs.Names.{among-names, names-tenants, none_from}
use Rattle.hg_policy_text.proofs.Sets.{names-groups}
use Rattle.hg_policy_text.proofs.groups.add_group.Goals as goal

pub returns-then-contains_key : goal.returns-then-contains_key
returns-then-contains_key c =
    let tenants = c.args.tenants.now.entries in
    let there : is_among c.args.name.now (names_of tenants) ≡ true =
    sym (among-names c.args.name.now tenants) ∙ (rw (c.as_str.ensures.value, c.in_ok-name.ensures.ok) at (sym c.if-contains_key.ensures)) in
    rw (names-tenants tenants, there, c.in_ok-name.ensures.ok) refl

pub returns-then-contains_key-2 : goal.returns-then-contains_key-2
returns-then-contains_key-2 c =
    let tenants = c.args.tenants.now.entries in
    let groups = c.args.groups.now.entries in
    let absent : is_among c.args.name.now (names_of tenants) ≡ false =
    sym (among-names c.args.name.now tenants) ∙ (rw (c.as_str.ensures.value, c.in_ok-name.ensures.ok) at (sym c.if-contains_key.ensures)) in
    let there : is_among c.args.name.now (names_of groups) ≡ true =
    sym (among-names c.args.name.now groups) ∙ (rw (c.as_str-2.ensures.value, c.in_ok-name.ensures.ok) at (sym c.if-contains_key-2.ensures)) in
    rw (names-tenants tenants, names-groups (length tenants) groups, absent, there, c.in_ok-name.ensures.ok) refl

pub returns : goal.returns
returns c =
    let tenants = c.args.tenants.now.entries in
    let groups = c.args.groups.now.entries in
    let n = length tenants in
    let absent : is_among c.args.name.now (names_of tenants) ≡ false =
    sym (among-names c.args.name.now tenants) ∙ (rw (c.as_str.ensures.value, c.in_ok-name.ensures.ok) at (sym c.if-contains_key.ensures)) in
    let new : is_among c.args.name.now (names_of groups) ≡ false =
    sym (among-names c.args.name.now groups) ∙ (rw (c.as_str-2.ensures.value, c.in_ok-name.ensures.ok) at (sym c.if-contains_key-2.ensures)) in
    let name = c.in_ok-name.name in
    let none = none_from _ (among-names (string_bytes name) groups ∙ rw c.in_ok-name.ensures.ok new) in
    let entries = c.in_ok-insert.ensures.entries ∙ insert_entry-new string_eq c.args.groups.now name c.args.members none in
    rw (names-tenants tenants, names-groups n groups, absent, new, entries, map_push {Y = Group} (λ one. record { name = string_bytes one.0; members = flags_of n one.1 }) groups (name, c.args.members), c.in_ok-name.ensures.ok) refl
