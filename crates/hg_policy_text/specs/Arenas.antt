-- The entries of arenas.
use Rattle.std.specs.Prelude.{ℕ, ◌+◌, Bool, true, List, [], ◌∷◌, ◌++◌, length, replicate}
use Rattle.std.specs.Prelude.{Ok, Err, nat_lt, if◌then◌else◌}
use Rattle.toml.specs.Data.{Data, Members}
use Rattle.hg_place.specs.declared.geometry.TheConstants.{MAX_SEGMENTS}
use Rattle.hg_machine.specs.Policy.{Tenant}
use Rattle.hg_policy_text.specs.declared.key.Key.TheVariants as key
use Rattle.hg_policy_text.specs.declared.key.Counted.TheVariants as counted
use Rattle.hg_policy_text.specs.declared.key.Level.TheVariants as level
use Rattle.hg_policy_text.specs.Faults.{Read, ◌>>=◌, in_turn, repeated, too_many}
use Rattle.hg_policy_text.specs.Values.{field_at, known_keys, whole_at, elements_in, or_else}
use Rattle.hg_policy.specs.TenantSets.{just, either}
use Rattle.hg_policy_text.specs.Groups.{Group, named_in}
use Rattle.hg_policy_text.specs.NameForm.{name_at}
use Rattle.hg_policy.specs.Names.{is_among}

-- by arena its name and which tenants it admits, and by segment its arena
pub record Arenas : Type 0 where
  pub names : List (List ℕ)
  pub admitted : List (List Bool)
  pub segments : List ℕ

abbrev pub no_arenas : Arenas
no_arenas = record { names = []; admitted = []; segments = [] }

-- one more arena, with the next segments
abbrev pub and_arena : Arenas → List ℕ → ℕ → List Bool → Arenas
and_arena done name segments admitted = record {
  names = done.names ++ name ∷ [];
  admitted = done.admitted ++ admitted ∷ [];
  segments = done.segments ++ replicate segments (length done.names);
}

-- its name is no arena's before it, and all segments together are not too many
abbrev pub with_arena : Arenas → List ℕ → ℕ → List Bool → Read Arenas
with_arena done name segments admitted =
    if is_among name done.names then Err (repeated name) else
    (if nat_lt MAX_SEGMENTS (length done.segments + segments) then Err (too_many counted.Segments)
    else Ok (and_arena done name segments admitted))

-- those too for whom one more name stands
abbrev pub with_named : List Tenant → List Group → List Bool → Data → Read (List Bool)
with_named tenants groups done value =
    named_in key.Exclusive tenants groups value
    >>= λ named. Ok (either (length tenants) done named)

abbrev pub admitted_in : List Tenant → List Group → Data → Read (List Bool)
admitted_in tenants groups value =
    elements_in key.Exclusive value
    >>= λ names. in_turn (with_named tenants groups) (just (length tenants) []) names

-- an arena is open to all tenants, or admits just those for whom the names in its list stand
unfoldable pub admitted_at : List Tenant → List Group → Members → Read (List Bool)
admitted_at tenants groups entry =
    or_else (replicate (length tenants) true) (admitted_in tenants groups)
    (field_at key.Exclusive entry)

unfoldable pub arena_at : List Tenant → List Group → Arenas → Members → Read Arenas
arena_at tenants groups done entry = do
  known ← known_keys level.Arena entry
  name ← name_at key.Name entry
  segments ← whole_at key.Segments 0 9223372036854775807 entry
  admitted ← admitted_at tenants groups entry
  with_arena done name segments admitted

unfoldable pub arenas_in : List Tenant → List Group → List Members → Read Arenas
arenas_in tenants groups entries = in_turn (arena_at tenants groups) no_arenas entries
