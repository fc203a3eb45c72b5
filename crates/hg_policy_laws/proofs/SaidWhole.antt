-- Nothing that a document says is passed over.
use Rattle.std.proofs.Common.{◌≡◌, ℕ, replicate, Bool, true, ◌||◌, List, [], ◌∷◌, ◌++◌, length, Option, Some, None, Ok, refl, sym, ◌∙◌, codes, position}
use Rattle.std.specs.List.{list_any, list_all}
use Rattle.std.specs.Option.{option_or, option_map}
use Rattle.std.specs.Str.{bytes_eq}
use Rattle.std.proofs.Math.Bool.{or-true}
use Rattle.toml.specs.Data.{Data, Members, string}
use Rattle.hg_machine.specs.Policy.{Tenant, Rights}
use Rattle.hg_policy_text.specs.declared.key.Key.{Key}
use Rattle.hg_policy_text.specs.Faults.{Fault, in_turn, or_fault, no_such_name}
use Rattle.hg_policy_text.specs.Values.{field_at, value_at, or_else, elements_in, known_keys, whole_at}
use Rattle.hg_policy_text.specs.NameForm.{name_at}
use Rattle.hg_policy.specs.Names.{is_among}
use Rattle.hg_policy_text.specs.Tenants.{tenants_in, number_in}
use Rattle.hg_policy.specs.Names.{tenant_names}
use Rattle.hg_policy.specs.TenantSets.{just, either}
use Rattle.hg_policy_text.specs.Groups.{Group, group_names, and_member, group_members_in, group_at, groups_in, with_group, group_named, named_in, named_at}
use Rattle.hg_policy_text.specs.Lines.{Line, rights_in, line_in, with_line, lines_in}
use Rattle.hg_policy_text.specs.Arenas.{Arenas, no_arenas, with_arena, with_named, admitted_in, admitted_at, arena_at, arenas_in}
use Rattle.hg_policy_text.specs.SaidLaws.{is_text, says, has_entry, has_only, is_none_or, is_tenant, is_tenant_or_group, is_right, is_line, is_group, is_arena, NothingIsPassedOver}
use Rattle.hg_policy_text.proofs.Chains.{bind_at}
use Rattle.hg_policy_laws.proofs.Said.{among_tenants}
use Rattle.hg_policy_text.proofs.SaidWords.{says-read, some_read, entries_at-says, group_entries_at-says}
use Rattle.hg_policy_laws.proofs.SaidLaws.{policy_at-of}
use Rattle.hg_policy_laws.proofs.WholeTables.{in_turn-all, has_only-read, line_entries_at-all, entries_at-all, group_entries_at-few, group_entries_at-all}
use Rattle.hg_policy_laws.proofs.KnownNames.{keys-known, line-keys, group-keys, rights_in-words, tenants_in-among, groups_in-among, group-among}
use Rattle.hg_policy_text.specs.declared.key.Key.TheVariants as key
use Rattle.hg_policy_text.specs.declared.key.Counted.TheVariants as counted
use Rattle.hg_policy_text.specs.declared.key.Level.TheVariants as level

-- a document whose tenants and groups were read
record AreRead (document : Members) (tenants : List Tenant) (groups : List Group) (tenant_entries group_entries : List Members) : Type 0 where
  tenant_heads : (test : Members → Bool) → list_any test tenant_entries ≡ has_entry key.Tenant test document
  group_heads : (test : Members → Bool) → list_any test group_entries ≡ has_entry key.Group test document
  tenants_read : tenants_in tenant_entries ≡ Ok tenants
  groups_read : groups_in tenants group_entries ≡ Ok groups

module _ {document : Members} {tenants : List Tenant} {groups : List Group} {tenant_entries group_entries : List Members}
    (read : AreRead document tenants groups tenant_entries group_entries) where
  by_tenant : (text : List ℕ) → is_among text (tenant_names tenants) ≡ has_entry key.Tenant (says key.Name (is_text text)) document
  by_tenant text = tenants_in-among text tenant_entries tenants read.tenants_read ∙ read.tenant_heads (says key.Name (is_text text))

  by_group : (text : List ℕ) → is_among text (group_names groups) ≡ has_entry key.Group (says key.Name (is_text text)) document
  by_group text = groups_in-among text tenants group_entries groups read.groups_read ∙ read.group_heads (says key.Name (is_text text))

  number-known : (f : Fault) (text : List ℕ) (n : ℕ) → or_fault f (position (λ tenant. bytes_eq text tenant.name) tenants) ≡ Ok n → is_among text (tenant_names tenants) ≡ true
  number-known f text n e =
      let is = some_read f (position (λ (tenant : Tenant). bytes_eq text tenant.name) tenants) n e in
      among_tenants tenants text n is text n is

  number_in-known : (d : Data) (n : ℕ) → number_in key.Members tenants d ≡ Ok n → is_tenant document d ≡ true
  number_in-known (string text) n e = sym (by_tenant text) ∙ number-known (no_such_name text) text n e
  number_in-known _ n e = cc

  text-known : (text : List ℕ) (o : Option ℕ) (flags : List Bool) → position (λ tenant. bytes_eq text tenant.name) tenants ≡ o
      → or_fault (no_such_name text) (option_or (option_map (λ tenant. just (length tenants) (tenant ∷ [])) o) (group_named groups text)) ≡ Ok flags
      → (is_among text (tenant_names tenants) || is_among text (group_names groups)) ≡ true
  text-known text (Some j) flags is e = rw (among_tenants tenants text j is text j is) refl
  text-known text None flags is e =
      rw (group-among groups text flags (some_read (no_such_name text) (group_named groups text) flags e)) (or-true (is_among text (tenant_names tenants)))

  named_in-known : (which : Key) (d : Data) (flags : List Bool) → named_in which tenants groups d ≡ Ok flags → is_tenant_or_group document d ≡ true
  named_in-known which (string text) flags e =
      rw (← by_tenant text, ← by_group text) (text-known text (position (λ (tenant : Tenant). bytes_eq text tenant.name) tenants) flags refl e)
  named_in-known which _ flags e = cc

  named_at-known : (which : Key) (entry : Members) (flags : List Bool) → named_at which tenants groups entry ≡ Ok flags → says which (is_tenant_or_group document) entry ≡ true
  unfolding named_at
  named_at-known which entry flags e =
      let (value, at, rest) = bind_at (value_at which entry) (named_in which tenants groups) flags e in
      says-read which (is_tenant_or_group document) entry value at ∙ named_in-known which value flags rest

  line_in-whole : (entry : Members) (line : Line) → line_in tenants groups entry ≡ Ok line → is_line document entry ≡ true
  unfolding line_in
  line_in-whole entry line e =
      let (known, at1, e1) = bind_at (known_keys level.Grant entry) _ line e in
      let (owners, at2, e2) = bind_at (named_at key.Owner tenants groups entry) _ line e1 in
      let (actors, at3, e3) = bind_at (named_at key.To tenants groups entry) _ line e2 in
      let (value, at4, e4) = bind_at (value_at key.Rights entry) _ line e3 in
      let all : Rights → Line = λ rights. record { owners = owners; to = actors; rights = rights } in
      let (rights, at5, e5) = bind_at (rights_in value) (λ rights. Ok (all rights)) line e4 in
      rw (
        keys-known level.Grant (codes "owner" ∷ codes "to" ∷ codes "rights" ∷ []) line-keys entry known at1,
        named_at-known key.Owner entry owners at2,
        named_at-known key.To entry actors at3,
        says-read key.Rights (has_only is_right) entry value at4,
        rights_in-words value rights at5,
      )
      refl

  lines_in-whole : (lines : List Line) (all : List Members) → lines_in tenants groups all ≡ Ok lines → list_all (is_line document) all ≡ true
  unfolding lines_in
  lines_in-whole lines all e =
      in_turn-all (with_line tenants groups) (is_line document)
      (λ done entry next e. let (line, at, is) = bind_at (line_in tenants groups entry) (λ line. Ok (done ++ line ∷ [])) next e in line_in-whole entry line at)
      [] all lines e

  members-known : (value : Data) (members : List Bool) → group_members_in tenants value ≡ Ok members → has_only (is_tenant document) value ≡ true
  members-known value members e =
      let n = length tenants in
      let (ds, ds_read, rest) = bind_at (elements_in key.Members value) (λ names. in_turn (and_member tenants) (just n []) names) members e in
      has_only-read key.Members (is_tenant document) value ds ds_read
      ∙ in_turn-all (and_member tenants) (is_tenant document)
      (λ done d next e. let (tenant, number, is) = bind_at (number_in key.Members tenants d) (λ tenant. Ok (either n done (just n (tenant ∷ [])))) next e in number_in-known d tenant number)
      (just n []) ds members rest

  group_at-whole : (done : List Group) (entry : Members) (out : List Group) → group_at tenants done entry ≡ Ok out → is_group document entry ≡ true
  unfolding group_at
  group_at-whole done entry out e =
      let (known, at1, e1) = bind_at (known_keys level.Group entry) _ out e in
      let (text, at2, e2) = bind_at (name_at key.Name entry) _ out e1 in
      let (value, at3, e3) = bind_at (value_at key.Members entry) _ out e2 in
      let (members, at4, e4) = bind_at (group_members_in tenants value) (λ members. with_group tenants done text members) out e3 in
      rw (
        keys-known level.Group (codes "name" ∷ codes "members" ∷ []) group-keys entry known at1,
        says-read key.Members (has_only (is_tenant document)) entry value at3,
        members-known value members at4,
      )
      refl

  groups_in-whole : list_all (is_group document) group_entries ≡ true
  unfolding groups_in
  groups_in-whole = in_turn-all (group_at tenants) (is_group document) group_at-whole [] group_entries groups read.groups_read

  admitted_in-whole : (value : Data) (admitted : List Bool) → admitted_in tenants groups value ≡ Ok admitted → has_only (is_tenant_or_group document) value ≡ true
  admitted_in-whole value admitted e =
      let n = length tenants in
      let (ds, ds_read, rest) = bind_at (elements_in key.Exclusive value) (λ names. in_turn (with_named tenants groups) (just n []) names) admitted e in
      has_only-read key.Exclusive (is_tenant_or_group document) value ds ds_read
      ∙ in_turn-all (with_named tenants groups) (is_tenant_or_group document)
      (λ done d next e. let (named, one, is) = bind_at (named_in key.Exclusive tenants groups d) (λ named. Ok (either n done named)) next e in named_in-known key.Exclusive d named one)
      (just n []) ds admitted rest

  open-whole : (o : Option Data) (admitted : List Bool) → or_else (replicate (length tenants) true) (admitted_in tenants groups) o ≡ Ok admitted → is_none_or (has_only (is_tenant_or_group document)) o ≡ true
  open-whole None admitted e = refl
  open-whole (Some value) admitted e = admitted_in-whole value admitted e

  arena_at-whole : (done : Arenas) (entry : Members) (out : Arenas) → arena_at tenants groups done entry ≡ Ok out → is_arena document entry ≡ true
  unfolding arena_at admitted_at
  arena_at-whole done entry out e =
      let (known, at1, e1) = bind_at (known_keys level.Arena entry) _ out e in
      let (name, at2, e2) = bind_at (name_at key.Name entry) _ out e1 in
      let (segments, at3, e3) = bind_at (whole_at key.Segments 0 9223372036854775807 entry) _ out e2 in
      let (admitted, at4, e4) = bind_at (or_else (replicate (length tenants) true) (admitted_in tenants groups) (field_at key.Exclusive entry)) (λ admitted. with_arena done name segments admitted) out e3 in
      open-whole (field_at key.Exclusive entry) admitted at4

  arenas_in-whole : (all : List Members) (out : Arenas) → arenas_in tenants groups all ≡ Ok out → list_all (is_arena document) all ≡ true
  unfolding arenas_in
  arenas_in-whole all out e = in_turn-all (arena_at tenants groups) (is_arena document) arena_at-whole no_arenas all out e

pub nothing_is_passed_over : NothingIsPassedOver
nothing_is_passed_over document policy e =
    let p = policy_at-of document policy e in
    let read : AreRead document p.tenants p.groups p.heads.tenants p.heads.groups = record {
      tenant_heads = λ test. entries_at-says key.Tenant test counted.Tenants 64 document p.heads.tenants p.tenant_entries;
      group_heads = λ test. group_entries_at-says test document p.heads.groups p.group_entries;
      tenants_read = p.tenants_read;
      groups_read = p.groups_read;
    } in
    record {
      grants = sym (line_entries_at-all key.Grant (is_line document) document p.heads.grants p.grant_entries)
          ∙ lines_in-whole read p.grants p.heads.grants p.grants_read;
      denies = sym (line_entries_at-all key.Deny (is_line document) document p.heads.denies p.deny_entries)
          ∙ lines_in-whole read p.denies p.heads.denies p.denies_read;
      groups = sym (group_entries_at-all (is_group document) document p.heads.groups p.group_entries)
          ∙ groups_in-whole read;
      few = group_entries_at-few document p.heads.groups p.group_entries;
      arenas = sym (entries_at-all key.Arena (is_arena document) counted.Arenas 16 document p.heads.arenas p.arena_entries)
          ∙ arenas_in-whole read p.heads.arenas p.arenas p.arenas_read;
    }
