use Rattle.std.proofs.Common.{◌≡◌, Ok, length, map, ap, sym, ◌∙◌, refl}
use Rattle.toml.specs.View.{table_view}
use Rattle.hg_policy.specs.Kept.{tenants_of}
use Rattle.hg_policy_text.specs.ReadTables.{groups_of, arenas_of, heads_of}
use Rattle.hg_policy_text.specs.Tenants.{tenants_in}
use Rattle.hg_policy_text.specs.Arenas.{arenas_in}
use Rattle.hg_policy_text.specs.Groups.{groups_in}
use Rattle.hg_policy_text.specs.Document.{names_in}
use Rattle.hg_policy_text.proofs.Parts.{few_entries}
use Rattle.hg_policy_text.proofs.document.names.Goals as goal

pub groups-requires : goal.groups-requires
groups-requires c =
    few_entries (heads_of c.args.heads.now) c.in_ok-tenants.tenants.entries c.requires
    (ap (λ entries. tenants_in (map (λ entry. table_view entry.now) entries)) (sym c.as_slice.ensures.value) ∙ c.in_ok-tenants.ensures)

pub arenas-requires-clause-few_tenants : goal.arenas-requires-clause-few_tenants
arenas-requires-clause-few_tenants c =
    few_entries (heads_of c.args.heads.now) c.in_ok-tenants.tenants.entries c.requires
    (ap (λ entries. tenants_in (map (λ entry. table_view entry.now) entries)) (sym c.as_slice.ensures.value) ∙ c.in_ok-tenants.ensures)

pub returns : goal.returns
unfolding names_in
returns c =
    let heads = heads_of c.args.heads.now in
    let n = length c.in_ok-tenants.tenants.entries in
    let tenants = tenants_of c.in_ok-tenants.tenants.entries in
    let groups = groups_of n c.in_ok-groups.groups.entries in
    let tenants_read : tenants_in heads.tenants ≡ Ok tenants = ap (λ entries. tenants_in (map (λ entry. table_view entry.now) entries)) (sym c.as_slice.ensures.value) ∙ c.in_ok-tenants.ensures in
    let groups_read : groups_in tenants heads.groups ≡ Ok groups = ap (λ entries. groups_in tenants (map (λ entry. table_view entry.now) entries)) (sym c.as_slice-2.ensures.value) ∙ c.in_ok-groups.ensures in
    let arenas_read : arenas_in tenants groups heads.arenas ≡ Ok (arenas_of n c.in_ok-arenas.arenas) = ap (λ entries. arenas_in tenants groups (map (λ entry. table_view entry.now) entries)) (sym c.as_slice-3.ensures.value) ∙ c.in_ok-arenas.ensures in
    rw (tenants_read, groups_read, arenas_read) refl
