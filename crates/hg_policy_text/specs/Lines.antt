-- The lines that grant and that deny.
use Rattle.std.specs.Prelude.{ℕ, ◌==◌, ◌&&◌, Bool, false, List, [], ◌∷◌, ◌++◌, map, Ok}
use Rattle.std.specs.Prelude.{slice_index_or, if◌then◌else◌}
use Rattle.std.specs.List.{list_any, range_with_len}
use Rattle.toml.specs.Data.{Data, Members}
use Rattle.hg_place.specs.declared.Right.{Right}
use Rattle.hg_place.specs.declared.Right.TheVariants as right
use Rattle.hg_machine.specs.Policy.{Tenant, Rights, no_rights, has_right}
use Rattle.hg_policy_text.specs.declared.key.Key.TheVariants as key
use Rattle.hg_policy_text.specs.declared.key.Level.TheVariants as level
use Rattle.hg_policy_text.specs.Faults.{Read, ◌>>=◌, in_turn}
use Rattle.hg_policy_text.specs.Values.{value_at, known_keys, elements_in}
use Rattle.hg_policy.specs.Rights.{all_rights, and_right}
use Rattle.hg_policy_text.specs.Grants.{right_in}
use Rattle.hg_policy_text.specs.Groups.{Group, named_at}

-- of each tenant whether its blocks are meant, of each whether it is the actor, and which rights
pub record Line : Type 0 where
  pub owners : List Bool
  pub to : List Bool
  pub rights : Rights

-- the line names this right of this actor on blocks of this owner
abbrev pub names_right : ℕ → ℕ → Right → Line → Bool
names_right owner actor right line =
    slice_index_or line.owners owner false
    && (slice_index_or line.to actor false && has_right line.rights right)

-- one right more
abbrev pub with_right : Rights → Data → Read Rights
with_right done value = right_in value >>= λ right. Ok (and_right done right)

abbrev pub rights_in : Data → Read Rights
rights_in value = elements_in key.Rights value >>= λ words. in_turn with_right no_rights words

unfoldable pub line_in : List Tenant → List Group → Members → Read Line
line_in tenants groups entry = do
  known ← known_keys level.Grant entry
  owners ← named_at key.Owner tenants groups entry
  to ← named_at key.To tenants groups entry
  value ← value_at key.Rights entry
  rights ← rights_in value
  Ok (record { owners = owners; to = to; rights = rights })

-- one line more
abbrev pub with_line : List Tenant → List Group → List Line → Members → Read (List Line)
with_line tenants groups done entry =
    line_in tenants groups entry >>= λ line. Ok (done ++ line ∷ [])

unfoldable pub lines_in : List Tenant → List Group → List Members → Read (List Line)
lines_in tenants groups entries = in_turn (with_line tenants groups) [] entries

-- on its own blocks an actor has the same rights whatever the lines say, and on another's those
-- that some line names
abbrev pub has_by : Rights → List Line → ℕ → ℕ → Right → Bool
has_by own lines owner actor right =
    if actor == owner then has_right own right else list_any (names_right owner actor right) lines

abbrev pub rights_by : Rights → List Line → ℕ → ℕ → Rights
rights_by own lines owner actor = record {
  read = has_by own lines owner actor right.Read;
  write = has_by own lines owner actor right.Write;
  list = has_by own lines owner actor right.List;
  free = has_by own lines owner actor right.Free;
}

abbrev pub table_by : Rights → List Line → ℕ → List (List Rights)
table_by own lines tenants =
    map (λ owner. map (λ actor. rights_by own lines owner actor) (range_with_len 0 tenants))
    (range_with_len 0 tenants)

-- what is granted among so many tenants: each right on one's own blocks, and what the lines name
abbrev pub granted_by : List Line → ℕ → List (List Rights)
granted_by lines tenants = table_by all_rights lines tenants

-- what is forbidden: nothing on one's own blocks, and what the lines name
abbrev pub forbidden_by : List Line → ℕ → List (List Rights)
forbidden_by lines tenants = table_by no_rights lines tenants
