-- What a policy says, as JSON.
use Rattle.std.specs.Prelude.{ℕ, ◌++◌, Bool, List, [], ◌∷◌, codes, decimal, map}
use Rattle.std.specs.Prelude.{if◌then◌else◌}
use Rattle.std.specs.List.{flat_map}
use Rattle.toml.specs.Data.{Members}
use Rattle.hg_place.specs.declared.Right.{Right}
use Rattle.hg_place.specs.declared.Right.TheVariants as right
use Rattle.hg_machine.specs.Policy.{Policy, limit_of}
use Rattle.hg_policy.specs.Names.{arena_number}
use Rattle.hg_show.specs.declared.standings.Standing.{Standing}
use Rattle.hg_show.specs.declared.standings.Standing.TheVariants as standing
use Rattle.hg_show.specs.Parts.{may_be_in, name_of, segments_at, tenants_in}
use Rattle.hg_show.specs.Rows.{arena_names}
use Rattle.hg_show.specs.Standings.{standing_of}
use Rattle.hg_show.specs.Texts.{with_commas}
use Rattle.hg_show.specs.Warnings.{warnings}

-- a text; names and warnings have no character that needs an escape
unfoldable pub quoted : List ℕ → List ℕ
quoted text = codes "\"" ++ text ++ codes "\""

-- an array of values
unfoldable pub array_of : List (List ℕ) → List ℕ
array_of values = codes "[" ++ with_commas values ++ codes "]"

-- a name as a value, where it is to be told
abbrev pub quoted_where : Bool → List ℕ → List (List ℕ)
quoted_where tells name = if tells then quoted name ∷ [] else []

-- a tenant, with the arenas that it may be in
abbrev pub arena_value : Policy → ℕ → List ℕ → List (List ℕ)
arena_value policy tenant arena = quoted_where (may_be_in policy arena tenant) arena

unfoldable pub tenant_object : Policy → List (List ℕ) → ℕ → List ℕ
tenant_object policy arenas tenant =
    codes "{\"name\":" ++ quoted (name_of policy tenant)
    ++ codes ",\"limit\":" ++ decimal (limit_of policy tenant)
    ++ codes ",\"arenas\":" ++ array_of (flat_map (arena_value policy tenant) arenas) ++ codes "}"

-- an arena, with its segments and the tenants that may be in it
abbrev pub tenant_value : Policy → List ℕ → ℕ → List (List ℕ)
tenant_value policy arena tenant =
    quoted_where (may_be_in policy arena tenant) (name_of policy tenant)

unfoldable pub arena_object : Policy → List ℕ → List ℕ
arena_object policy arena =
    codes "{\"name\":" ++ quoted arena
    ++ codes ",\"segments\":" ++ decimal (segments_at policy (arena_number policy arena))
    ++ codes ",\"tenants\":" ++ array_of (flat_map (tenant_value policy arena) (tenants_in policy))
    ++ codes "}"

-- how an actor stands to the blocks of an owner
abbrev pub word_of : Standing → List ℕ
word_of standing.Granted = codes "granted"
word_of standing.Apart = codes "no arena in common"
word_of standing.NotGranted = codes "not granted"
word_of standing.Denied = codes "denied"

unfoldable pub right_value : Policy → ℕ → ℕ → Right → List ℕ
right_value policy owner actor right = quoted (word_of (standing_of policy owner actor right))

unfoldable pub pair_object : Policy → ℕ → ℕ → List ℕ
pair_object policy owner actor =
    codes "{\"owner\":" ++ quoted (name_of policy owner)
    ++ codes ",\"actor\":" ++ quoted (name_of policy actor)
    ++ codes ",\"read\":" ++ right_value policy owner actor right.Read
    ++ codes ",\"write\":" ++ right_value policy owner actor right.Write
    ++ codes ",\"list\":" ++ right_value policy owner actor right.List
    ++ codes ",\"free\":" ++ right_value policy owner actor right.Free ++ codes "}"

-- an owner with each actor, itself too
abbrev pub pair_objects : Policy → ℕ → List (List ℕ)
pair_objects policy owner = map (pair_object policy owner) (tenants_in policy)

-- the beginning of the object, and what it has by key
unfoldable pub json_head : Policy → List ℕ
json_head policy =
    codes "{\"workers\":" ++ decimal policy.workers
    ++ codes ",\"max_generation\":" ++ decimal policy.max_generation

unfoldable pub array_at : List ℕ → List (List ℕ) → List ℕ
array_at key values = key ++ array_of values

unfoldable pub json : Policy → Members → List ℕ
json policy document =
    json_head policy
    ++ array_at (codes ",\"tenants\":")
    (map (tenant_object policy (arena_names document)) (tenants_in policy))
    ++ array_at (codes ",\"arenas\":") (map (arena_object policy) (arena_names document))
    ++ array_at (codes ",\"rights\":") (flat_map (pair_objects policy) (tenants_in policy))
    ++ array_at (codes ",\"warnings\":") (map quoted (warnings policy document))
    ++ codes "}\n"
