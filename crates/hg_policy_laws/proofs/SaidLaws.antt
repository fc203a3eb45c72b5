-- A policy that was read has what the lines of its document say.
use Rattle.std.proofs.Common.{◌≡◌, ◌≢◌, ℕ, ◌<◌, Bool, List, [], length, map, get_or, Ok, sym, ap, ◌∙◌, arith}
use Rattle.std.specs.List.{list_any, range_with_len}
use Rattle.std.proofs.lemmas.List.FromFn.{get_or-map-range_with_len}
use Rattle.toml.specs.Data.{Members}
use Rattle.hg_place.specs.declared.Right.{Right}
use Rattle.hg_machine.specs.Policy.{Policy, Tenant, Rights, no_rights, has_right, grants, nobody}
use Rattle.hg_policy_text.specs.declared.key.Key.TheVariants as key
use Rattle.hg_policy_text.specs.declared.key.Counted.TheVariants as counted
use Rattle.hg_policy_text.specs.Faults.{Read}
use Rattle.hg_policy_text.specs.Values.{known_keys, entries_at}
use Rattle.hg_policy_text.specs.Tenants.{tenants_in}
use Rattle.hg_policy_text.specs.Groups.{Group, groups_in}
use Rattle.hg_policy_text.specs.Arenas.{Arenas, arenas_in}
use Rattle.hg_policy.specs.Rights.{all_rights}
use Rattle.hg_policy_text.specs.Lines.{Line, lines_in, names_right, rights_by, table_by}
use Rattle.hg_policy_text.specs.Heads.{Heads, workers_at, max_generation_at, group_entries_at, line_entries_at, heads_at}
use Rattle.hg_policy_text.specs.Document.{top_at, policy_from, tables_of, policy_at}
use Rattle.hg_policy_text.specs.SaidLaws.{has_entry, says_right, LinesAreSaid, ArenasAreSaid}
use Rattle.hg_policy_text.proofs.Chains.{bind_at}
use Rattle.hg_policy_text.proofs.LineTable.{other_here}
use Rattle.hg_policy_text.proofs.SaidWords.{entries_at-says, line_entries_at-says, group_entries_at-says}
use Rattle.hg_policy_laws.proofs.Said.{within, named}
use Rattle.hg_policy_laws.proofs.SaidLines.{lines_in-says, arenas_in-says, flag_at}

same_Ok : {A : Type 0} (x y : A) → let one : Read A = Ok x in let other : Read A = Ok y in one ≡ other → y ≡ x
same_Ok x y e = cc

-- of what a policy is made, and where in the document it stands
pub record IsOf (document : Members) (policy : Policy) : Type 0 where
  pub heads : Heads
  pub tenants : List Tenant
  pub groups : List Group
  pub arenas : Arenas
  pub grants : List Line
  pub denies : List Line
  pub is : policy ≡ policy_from heads tenants arenas grants denies
  pub tenant_entries : entries_at key.Tenant counted.Tenants 64 document ≡ Ok heads.tenants
  pub arena_entries : entries_at key.Arena counted.Arenas 16 document ≡ Ok heads.arenas
  pub group_entries : group_entries_at document ≡ Ok heads.groups
  pub grant_entries : line_entries_at key.Grant document ≡ Ok heads.grants
  pub deny_entries : line_entries_at key.Deny document ≡ Ok heads.denies
  pub tenants_read : tenants_in heads.tenants ≡ Ok tenants
  pub groups_read : groups_in tenants heads.groups ≡ Ok groups
  pub arenas_read : arenas_in tenants groups heads.arenas ≡ Ok arenas
  pub grants_read : lines_in tenants groups heads.grants ≡ Ok grants
  pub denies_read : lines_in tenants groups heads.denies ≡ Ok denies

-- where in the document its heads stand
record AreOf (document : Members) (heads : Heads) : Type 0 where
  tenants : entries_at key.Tenant counted.Tenants 64 document ≡ Ok heads.tenants
  arenas : entries_at key.Arena counted.Arenas 16 document ≡ Ok heads.arenas
  groups : group_entries_at document ≡ Ok heads.groups
  grants : line_entries_at key.Grant document ≡ Ok heads.grants
  denies : line_entries_at key.Deny document ≡ Ok heads.denies

heads_at-of : (document : Members) (heads : Heads) → heads_at document ≡ Ok heads → AreOf document heads
unfolding heads_at
heads_at-of document heads e =
    let (workers, at1, e1) = bind_at (workers_at document) _ heads e in
    let (greatest, at2, e2) = bind_at (max_generation_at document) _ heads e1 in
    let (tenants, at3, e3) = bind_at (entries_at key.Tenant counted.Tenants 64 document) _ heads e2 in
    let (arenas, at4, e4) = bind_at (entries_at key.Arena counted.Arenas 16 document) _ heads e3 in
    let (groups, at5, e5) = bind_at (group_entries_at document) _ heads e4 in
    let (grants, at6, e6) = bind_at (line_entries_at key.Grant document) _ heads e5 in
    let all : List Members → Heads = λ denies. record { workers = workers; greatest = greatest; tenants = tenants; arenas = arenas; groups = groups; grants = grants; denies = denies } in
    let (denies, at7, e7) = bind_at (line_entries_at key.Deny document) (λ denies. Ok (all denies)) heads e6 in
    rw (same_Ok (all denies) heads e7) record { tenants = at3; arenas = at4; groups = at5; grants = at6; denies = at7 }

tables_of-of : (document : Members) (heads : Heads) (policy : Policy) → AreOf document heads → tables_of heads ≡ Ok policy → IsOf document policy
unfolding tables_of
tables_of-of document heads policy of e =
    let (tenants, at1, e1) = bind_at (tenants_in heads.tenants) _ policy e in
    let (groups, at2, e2) = bind_at (groups_in tenants heads.groups) _ policy e1 in
    let (arenas, at3, e3) = bind_at (arenas_in tenants groups heads.arenas) _ policy e2 in
    let (grants, at4, e4) = bind_at (lines_in tenants groups heads.grants) _ policy e3 in
    let (denies, at5, e5) = bind_at (lines_in tenants groups heads.denies) (λ denies. Ok (policy_from heads tenants arenas grants denies)) policy e4 in
    record {
      heads = heads;
      tenants = tenants;
      groups = groups;
      arenas = arenas;
      grants = grants;
      denies = denies;
      is = same_Ok (policy_from heads tenants arenas grants denies) policy e5;
      tenant_entries = of.tenants;
      arena_entries = of.arenas;
      group_entries = of.groups;
      grant_entries = of.grants;
      deny_entries = of.denies;
      tenants_read = at1;
      groups_read = at2;
      arenas_read = at3;
      grants_read = at4;
      denies_read = at5;
    }

pub policy_at-of : (document : Members) (policy : Policy) → policy_at document ≡ Ok policy → IsOf document policy
unfolding policy_at
policy_at-of document policy e =
    let (top, at1, e1) = bind_at (top_at document) _ policy e in
    let (known, at2, e2) = bind_at (known_keys top document) _ policy e1 in
    let (heads, at3, e3) = bind_at (heads_at document) tables_of policy e2 in
    tables_of-of document heads policy (heads_at-of document heads at3) e3

-- on another's blocks the table has what a line names
table-other : (own : Rights) (lines : List Line) (n i j : ℕ) (r : Right) → i < n → j < n → j ≢ i
    → has_right (get_or (get_or (table_by own lines n) i []) j no_rights) r ≡ list_any (names_right i j r) lines
table-other own lines n i j r a b other =
    ap (λ row. has_right (get_or row j no_rights) r) (get_or-map-range_with_len (λ owner. map (λ actor. rights_by own lines owner actor) (range_with_len 0 n)) 0 n i i [] a (omega arith))
    ∙ ap (λ rights. has_right rights r) (get_or-map-range_with_len (λ actor. rights_by own lines i actor) 0 n j j no_rights b (omega arith))
    ∙ other_here own lines i j r other

pub lines_are_said : LinesAreSaid
lines_are_said document policy e owner actor i j apart =
    let p = policy_at-of document policy e in
    let groups : (test : Members → Bool) → list_any test p.heads.groups ≡ has_entry key.Group test document = λ test. group_entries_at-says test document p.heads.groups p.group_entries in
    rw p.is (λ at to r.
    let n = length p.tenants in
    let below : i < n = within p.tenants owner i at in
    let under : j < n = within p.tenants actor j to in
    let other : j ≢ i = λ e. apart (named p.tenants owner i at ∙ ap (λ k. (get_or p.tenants k nobody).name) (sym e) ∙ sym (named p.tenants actor j to)) in (
      table-other all_rights p.grants n i j r below under other
          ∙ lines_in-says p.tenants document p.heads.groups p.groups groups p.groups_read owner actor i j r at to p.grants p.heads.grants p.grants_read
          ∙ line_entries_at-says key.Grant (says_right document owner actor r) document p.heads.grants p.grant_entries,
      table-other no_rights p.denies n i j r below under other
          ∙ lines_in-says p.tenants document p.heads.groups p.groups groups p.groups_read owner actor i j r at to p.denies p.heads.denies p.denies_read
          ∙ line_entries_at-says key.Deny (says_right document owner actor r) document p.heads.denies p.deny_entries,
    ))

pub arenas_are_said : ArenasAreSaid
arenas_are_said document policy e arena tenant i k =
    let p = policy_at-of document policy e in
    rw p.is (λ here at.
    ap (flag_at p.tenants document p.heads.groups p.groups (λ test. group_entries_at-says test document p.heads.groups p.group_entries) p.groups_read tenant k at p.arenas.admitted) (sym here)
    ∙ arenas_in-says p.tenants document p.heads.groups p.groups (λ test. group_entries_at-says test document p.heads.groups p.group_entries) p.groups_read tenant k at arena p.heads.arenas p.arenas p.arenas_read
    ∙ entries_at-says key.Arena _ counted.Arenas 16 document p.heads.arenas p.arena_entries)
