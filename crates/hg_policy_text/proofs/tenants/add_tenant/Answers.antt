use Rattle.std.proofs.Common.{◌≡◌, refl, sym, ◌∙◌, true, false, string_bytes, string_eq}
use Rattle.std.proofs.lemmas.List.{map_push}
use Rattle.indexmap.proofs.CallerLemmas.{insert_entry-new}
use Rattle.hg_machine.specs.Policy.{Tenant}
use Rattle.hg_policy.specs.Kept.{names_of}
use Rattle.hg_policy.specs.Names.{is_among}
use Rattle.hg_policy.proofs.Names.{among-names, names-tenants, none_from}
use Rattle.hg_policy_text.proofs.tenants.add_tenant.Goals as goal

pub returns-then-contains_key : goal.returns-then-contains_key
returns-then-contains_key c =
    let there : is_among c.args.name.now (names_of c.args.tenants.now.entries) ≡ true =
    sym (among-names c.args.name.now c.args.tenants.now.entries) ∙ (rw (c.as_str.ensures.value, c.in_ok-name.ensures.ok) at (sym c.if-contains_key.ensures)) in
    rw (names-tenants c.args.tenants.now.entries, there, c.in_ok-name.ensures.ok) refl

pub returns : goal.returns
returns c =
    let absent : is_among c.args.name.now (names_of c.args.tenants.now.entries) ≡ false =
    sym (among-names c.args.name.now c.args.tenants.now.entries) ∙ (rw (c.as_str.ensures.value, c.in_ok-name.ensures.ok) at (sym c.if-contains_key.ensures)) in
    let name = c.in_ok-name.name in
    let none = none_from _ (among-names (string_bytes name) c.args.tenants.now.entries ∙ rw c.in_ok-name.ensures.ok absent) in
    let entries = c.in_ok-insert.ensures.entries ∙ insert_entry-new string_eq c.args.tenants.now name c.args.limit none in
    rw (names-tenants c.args.tenants.now.entries, absent, entries, map_push {Y = Tenant} (λ one. record { name = string_bytes one.0; limit = one.1 }) c.args.tenants.now.entries (name, c.args.limit), c.in_ok-name.ensures.ok) refl
