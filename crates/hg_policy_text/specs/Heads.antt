-- What a document has beside its version: its numbers, and the entries of its tables.
use Rattle.std.specs.Prelude.{ℕ, ◌≤◌, ◌<◌, ◌^◌, List, [], length, Ok, Err, nat_lt, if◌then◌else◌}
use Rattle.toml.specs.Data.{Members}
use Rattle.hg_policy_text.specs.declared.key.Key.{Key}
use Rattle.hg_policy_text.specs.declared.key.Key.TheVariants as key
use Rattle.hg_policy_text.specs.declared.key.Counted.TheVariants as counted
use Rattle.hg_policy_text.specs.Faults.{Read, ◌>>=◌, too_many}
use Rattle.hg_policy_text.specs.Values.{field_at, whole_in, whole_at, entries_in, entries_at}
use Rattle.hg_policy_text.specs.Values.{or_else, at_most}

-- the numbers of a document, and the entries of each of its tables before they are read
pub record Heads : Type 0 where
  pub workers : ℕ
  pub greatest : ℕ
  pub tenants : List Members
  pub arenas : List Members
  pub groups : List Members
  pub grants : List Members
  pub denies : List Members

-- up to 16 workers
abbrev pub workers_in : ℕ → Read ℕ
workers_in n = if nat_lt 16 n then Err (too_many counted.Workers) else Ok n

unfoldable pub workers_at : Members → Read ℕ
workers_at members = whole_at key.Workers 1 9223372036854775807 members >>= workers_in

-- the greatest generation, where it is given
unfoldable pub max_generation_at : Members → Read ℕ
max_generation_at members =
    or_else 4294967295 (whole_in key.MaxGeneration 1 4294967295)
    (field_at key.MaxGeneration members)

-- the entries of groups, at most 64, and those of the lines at a key, where they are given
unfoldable pub group_entries_at : Members → Read (List Members)
group_entries_at members =
    or_else [] (λ value. entries_in key.Group value >>= at_most 64 counted.Groups)
    (field_at key.Group members)

unfoldable pub line_entries_at : Key → Members → Read (List Members)
line_entries_at key members = or_else [] (entries_in key) (field_at key members)

-- in version 1 `group` and `deny` are unknown keys, so there are no entries of theirs
unfoldable pub heads_at : Members → Read Heads
heads_at members = do
  workers ← workers_at members
  greatest ← max_generation_at members
  tenants ← entries_at key.Tenant counted.Tenants 64 members
  arenas ← entries_at key.Arena counted.Arenas 16 members
  groups ← group_entries_at members
  grants ← line_entries_at key.Grant members
  denies ← line_entries_at key.Deny members
  Ok (record {
    workers = workers;
    greatest = greatest;
    tenants = tenants;
    arenas = arenas;
    groups = groups;
    grants = grants;
    denies = denies;
  })

-- the ranges that heads which were read are in
pub record AreHeads (heads : Heads) : Type 0 where
  pub some_worker : 1 ≤ heads.workers
  pub few_workers : heads.workers ≤ 16
  pub some_generation : 1 ≤ heads.greatest
  pub generations_fit : heads.greatest < 2 ^ 32
  pub few_tenants : length heads.tenants ≤ 64
  pub few_arenas : length heads.arenas ≤ 16
