-- Laws of what the lines of a document say, by names.
use Rattle.std.specs.Prelude.{◌≡◌, ◌≢◌, ℕ, ◌&&◌, ◌||◌, Bool, true, false, List, [], ◌∷◌, Option}
use Rattle.std.specs.Prelude.{Some, None, Ok, codes, length, nat_le}
use Rattle.std.specs.List.{list_any, list_all}
use Rattle.std.specs.Str.{bytes_eq}
use Rattle.toml.specs.Data.{Data, Members, string, array, table}
use Rattle.hg_place.specs.declared.Right.{Right}
use Rattle.hg_place.specs.declared.Right.TheVariants as right
use Rattle.hg_machine.specs.Policy.{Policy, admits, grants, forbids}
use Rattle.hg_policy_text.specs.declared.key.Key.{Key}
use Rattle.hg_policy_text.specs.declared.key.Key.TheVariants as key
use Rattle.hg_policy_text.specs.Values.{field_at, elements}
use Rattle.hg_policy.specs.Names.{tenant_number, arena_number}
use Rattle.hg_policy.specs.Names.{is_among}
use Rattle.hg_policy_text.specs.VersionLaws.{keys_in}
use Rattle.hg_policy_text.specs.Document.{policy_at}

-- the value is this text
abbrev pub is_text : List ℕ → Data → Bool
is_text text (string other) = bytes_eq text other
is_text text _ = false

-- the value is a list, and some element of it is so
abbrev pub has_some : (Data → Bool) → Data → Bool
has_some test (array items) = list_any test (elements items)
has_some test _ = false

-- the value is a table that is so
abbrev pub is_table : (Members → Bool) → Data → Bool
is_table test (table entry) = test entry
is_table test _ = false

-- there is a value, and it is so
abbrev pub is_there : (Data → Bool) → Option Data → Bool
is_there test None = false
is_there test (Some value) = test value

abbrev pub says : Key → (Data → Bool) → Members → Bool
says key test entry = is_there test (field_at key entry)

-- the document has an entry at this key that is so
abbrev pub has_entry : Key → (Members → Bool) → Members → Bool
has_entry key test document = says key (has_some (is_table test)) document

-- an entry of a group has this name, and this tenant among its members
abbrev pub is_member : Members → List ℕ → List ℕ → Bool
is_member document group tenant =
    has_entry key.Group
    (λ entry. says key.Name (is_text group) entry
    && says key.Members (has_some (is_text tenant)) entry) document

-- the value is the name of this tenant, or of a group of which it is a member
abbrev pub stands_for : Members → List ℕ → Data → Bool
stands_for document tenant (string name) = bytes_eq tenant name || is_member document name tenant
stands_for document tenant _ = false

-- the word of a right
abbrev pub right_text : Right → List ℕ
right_text right.Read = codes "read"
right_text right.Write = codes "write"
right_text right.List = codes "list"
right_text right.Free = codes "free"

-- the line's owner stands for this one, its actor for that one, and the right is among its rights
abbrev pub says_right : Members → List ℕ → List ℕ → Right → Members → Bool
says_right document owner actor right line =
    says key.Owner (stands_for document owner) line
    && (says key.To (stands_for document actor) line
    && says key.Rights (has_some (is_text (right_text right))) line)

-- among what is granted of one tenant's blocks to another is a right exactly where a line that
-- grants says so, and among what is forbidden where one that denies does
abbrev pub LinesAreSaid : Type 0
LinesAreSaid =
    (document : Members) (policy : Policy) → policy_at document ≡ Ok policy
    → (owner actor : List ℕ) (i j : ℕ) → owner ≢ actor
    → tenant_number policy owner ≡ Some i → tenant_number policy actor ≡ Some j
    → (right : Right)
    → (grants policy i j right
    ≡ has_entry key.Grant (says_right document owner actor right) document)
    × (forbids policy i j right
    ≡ has_entry key.Deny (says_right document owner actor right) document)

-- there is no list, or an element of it stands for this tenant
abbrev pub is_open_to : Members → List ℕ → Option Data → Bool
is_open_to document tenant None = true
is_open_to document tenant (Some value) = has_some (stands_for document tenant) value

-- an arena admits a tenant exactly where the entry of its name says so, by having no list of those
-- for whom it is or by naming the tenant in it
abbrev pub ArenasAreSaid : Type 0
ArenasAreSaid =
    (document : Members) (policy : Policy) → policy_at document ≡ Ok policy
    → (arena tenant : List ℕ) (i j : ℕ)
    → arena_number policy arena ≡ Some i → tenant_number policy tenant ≡ Some j
    → admits policy i j
    ≡ has_entry key.Arena
    (λ entry. says key.Name (is_text arena) entry
    && is_open_to document tenant (field_at key.Exclusive entry)) document

-- the value is a list, and each element of it is so
abbrev pub has_only : (Data → Bool) → Data → Bool
has_only test (array items) = list_all test (elements items)
has_only test _ = false

-- there is no value, or it is so
abbrev pub is_none_or : (Data → Bool) → Option Data → Bool
is_none_or test None = true
is_none_or test (Some value) = test value

-- each entry that the document has at this key is so
abbrev pub each_entry : Key → (Members → Bool) → Members → Bool
each_entry key test document = is_none_or (has_only (is_table test)) (field_at key document)

-- the entry has only these keys
abbrev pub has_keys : List (List ℕ) → Members → Bool
has_keys keys entry = list_all (λ key. is_among key keys) (keys_in entry)

-- the value is a tenant's name
abbrev pub is_tenant : Members → Data → Bool
is_tenant document (string name) = has_entry key.Tenant (says key.Name (is_text name)) document
is_tenant document _ = false

-- or a group's
abbrev pub is_tenant_or_group : Members → Data → Bool
is_tenant_or_group document (string name) =
    has_entry key.Tenant (says key.Name (is_text name)) document
    || has_entry key.Group (says key.Name (is_text name)) document
is_tenant_or_group document _ = false

-- the value is the word of a right
abbrev pub is_right : Data → Bool
is_right value =
    is_text (codes "read") value || (is_text (codes "write") value
    || (is_text (codes "list") value || is_text (codes "free") value))

abbrev pub is_line : Members → Members → Bool
is_line document line =
    has_keys (codes "owner" ∷ codes "to" ∷ codes "rights" ∷ []) line
    && (says key.Owner (is_tenant_or_group document) line
    && (says key.To (is_tenant_or_group document) line && says key.Rights (has_only is_right) line))

abbrev pub is_group : Members → Members → Bool
is_group document entry =
    has_keys (codes "name" ∷ codes "members" ∷ []) entry
    && says key.Members (has_only (is_tenant document)) entry

-- if the arena has a list, its elements are names of tenants and groups
abbrev pub is_arena : Members → Members → Bool
is_arena document entry =
    is_none_or (has_only (is_tenant_or_group document)) (field_at key.Exclusive entry)

-- the value is a list of at most so many
abbrev pub has_at_most : ℕ → Data → Bool
has_at_most most (array items) = nat_le (length (elements items)) most
has_at_most most _ = false

-- nothing of what the lines, the groups and the lists of arenas say is passed over: lines and groups
-- have their own keys, their names are names of tenants and groups, their rights words of rights,
-- and there are at most 64 groups
pub record IsWhole (document : Members) : Type 0 where
  pub grants : each_entry key.Grant (is_line document) document ≡ true
  pub denies : each_entry key.Deny (is_line document) document ≡ true
  pub groups : each_entry key.Group (is_group document) document ≡ true
  pub few : is_none_or (has_at_most 64) (field_at key.Group document) ≡ true
  pub arenas : each_entry key.Arena (is_arena document) document ≡ true

abbrev pub NothingIsPassedOver : Type 0
NothingIsPassedOver = (document : Members) (policy : Policy) → policy_at document ≡ Ok policy → IsWhole document
