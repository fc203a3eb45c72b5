-- What a document means: the policy, or the first fault.
use Rattle.std.specs.Prelude.{ℕ, ◌==◌, pos, negsuc, List, length, Option, None}
use Rattle.std.specs.Prelude.{Ok, Err, if◌then◌else◌}
use Rattle.std.specs.Str.{is_utf8}
use Rattle.toml.specs.Data.{Data, Members, integer}
use Rattle.toml.specs.Parse.{parse_document}
use Rattle.hg_machine.specs.Policy.{Policy, Tenant, Rights}
use Rattle.hg_policy_text.specs.declared.key.Key.TheVariants as key
use Rattle.hg_policy_text.specs.declared.key.Level.{Level}
use Rattle.hg_policy_text.specs.declared.key.Level.TheVariants as level
use Rattle.hg_policy_text.specs.Faults.{Read, ◌>>=◌, or_fault, not_toml, kind, version}
use Rattle.hg_policy_text.specs.Values.{value_at, known_keys}
use Rattle.hg_policy_text.specs.Heads.{Heads, heads_at}
use Rattle.hg_policy_text.specs.Tenants.{tenants_in}
use Rattle.hg_policy_text.specs.Groups.{Group, groups_in}
use Rattle.hg_policy_text.specs.Arenas.{Arenas, arenas_in}
use Rattle.hg_policy_text.specs.Lines.{Line, lines_in, granted_by, forbidden_by}

-- the top keys of versions 1 and 2
abbrev pub top_in : Data → Read Level
top_in (integer (pos n)) =
    if n == 1 then Ok level.Top else (if n == 2 then Ok level.SecondTop else Err version)
top_in (integer (negsuc n)) = Err version
top_in _ = Err (kind key.Version)

unfoldable pub top_at : Members → Read Level
top_at members = value_at key.Version members >>= top_in

abbrev pub policy_from : Heads → List Tenant → Arenas → List Line → List Line → Policy
policy_from heads tenants arenas grants denies = record {
  workers = heads.workers;
  max_generation = heads.greatest;
  tenants = tenants;
  arenas = arenas.names;
  segments = arenas.segments;
  admitted = arenas.admitted;
  granted = granted_by grants (length tenants);
  forbidden = forbidden_by denies (length tenants);
}

-- whom and what a document names: tenants, groups, and arenas with their segments
pub record Names : Type 0 where
  pub tenants : List Tenant
  pub groups : List Group
  pub arenas : Arenas

unfoldable pub names_in : Heads → Read Names
names_in heads = do
  tenants ← tenants_in heads.tenants
  groups ← groups_in tenants heads.groups
  arenas ← arenas_in tenants groups heads.arenas
  Ok (record { tenants = tenants; groups = groups; arenas = arenas })

-- what its lines say of these: what is granted, and what is forbidden
pub record Said : Type 0 where
  pub granted : List (List Rights)
  pub forbidden : List (List Rights)

unfoldable pub said_in : Names → Heads → Read Said
said_in names heads = do
  grants ← lines_in names.tenants names.groups heads.grants
  denies ← lines_in names.tenants names.groups heads.denies
  Ok (record {
    granted = granted_by grants (length names.tenants);
    forbidden = forbidden_by denies (length names.tenants);
  })

-- the policy of these
abbrev pub policy_with : Heads → Names → Said → Policy
policy_with heads names said = record {
  workers = heads.workers;
  max_generation = heads.greatest;
  tenants = names.tenants;
  arenas = names.arenas.names;
  segments = names.arenas.segments;
  admitted = names.arenas.admitted;
  granted = said.granted;
  forbidden = said.forbidden;
}

unfoldable pub tables_of : Heads → Read Policy
tables_of heads = do
  tenants ← tenants_in heads.tenants
  groups ← groups_in tenants heads.groups
  arenas ← arenas_in tenants groups heads.arenas
  grants ← lines_in tenants groups heads.grants
  denies ← lines_in tenants groups heads.denies
  Ok (policy_from heads tenants arenas grants denies)

-- the order of the steps is the order of the faults
unfoldable pub policy_at : Members → Read Policy
policy_at members = do
  top ← top_at members
  known ← known_keys top members
  heads ← heads_at members
  tables_of heads

-- what of it is read before any entry
unfoldable pub heads_in : Members → Read Heads
heads_in members = do
  top ← top_at members
  known ← known_keys top members
  heads_at members

-- the tree of the bytes
abbrev pub tree_of : List ℕ → Option Members
tree_of text = if is_utf8 text then parse_document text else None

unfoldable pub document_of : List ℕ → Read Policy
document_of text = or_fault not_toml (tree_of text) >>= policy_at
