-- Kinds of places, and which place of a kind is the first.
use Rattle.std.specs.Prelude.{◌≡◌, ℕ, ◌+◌, ◌==◌, ◌&&◌, ◌||◌, ◌<◌, ◌≤◌, Bool, true, false, not}
use Rattle.hg_machine.specs.Life.{Record, is_live, is_parted, owner_of}
use Rattle.hg_machine.specs.Room.{is_worn}
use Rattle.hg_machine.specs.State.{State, record_at}
use Rattle.hg_core.specs.declared.kinds.PlaceKind.{PlaceKind}
use Rattle.hg_core.specs.declared.kinds.PlaceKind.TheVariants as kind
use Rattle.hg_core.specs.declared.records.PlaceLife.{PlaceLife}
use Rattle.hg_core.specs.declared.records.PlaceLife.TheVariants as told
use Rattle.hg_core.specs.declared.records.PlaceRecord.{PlaceRecord}

-- it has a live block, or a tenant's; it has a parted one, or a tenant's; it is worn
abbrev pub is_kind_of : State → PlaceKind → Record → Bool
is_kind_of s kind.Live r = is_live r.life
is_kind_of s (kind.LiveOf tenant) r = is_live r.life && owner_of r.life == tenant
is_kind_of s kind.Parted r = is_parted r.life
is_kind_of s (kind.PartedOf tenant) r = is_parted r.life && owner_of r.life == tenant
is_kind_of s kind.Worn r = is_worn s r

-- the place of this number
abbrev pub is_kind : State → PlaceKind → ℕ → Bool
is_kind s kind place = is_kind_of s kind (record_at s place)

-- of so many places from a number on, the first of a kind
pub record IsFirst (s : State) (kind : PlaceKind) (first many place : ℕ) : Type 0 where
  pub behind : first ≤ place
  pub within : place < first + many
  pub is : is_kind s kind place ≡ true
  pub before : (other : ℕ) → first ≤ other → other < place → is_kind s kind other ≡ false

-- none of them is of the kind
abbrev pub IsNone : State → PlaceKind → ℕ → ℕ → Type 0
IsNone s kind first many =
    (other : ℕ) → first ≤ other → other < first + many → is_kind s kind other ≡ false

-- the same by what a place is told to be
abbrev pub is_live_told : PlaceLife → Bool
is_live_told told.Home = false
is_live_told (told.Live owner) = true
is_live_told (told.Parted owner) = false

abbrev pub is_parted_told : PlaceLife → Bool
is_parted_told told.Home = false
is_parted_told (told.Live owner) = false
is_parted_told (told.Parted owner) = true

abbrev pub is_told_of : ℕ → PlaceLife → Bool
is_told_of tenant told.Home = false
is_told_of tenant (told.Live owner) = owner == tenant
is_told_of tenant (told.Parted owner) = owner == tenant

abbrev pub is_kind_told : ℕ → PlaceKind → PlaceRecord → Bool
is_kind_told greatest kind.Live r = is_live_told r.life
is_kind_told greatest (kind.LiveOf tenant) r = is_live_told r.life && is_told_of tenant r.life
is_kind_told greatest kind.Parted r = is_parted_told r.life
is_kind_told greatest (kind.PartedOf tenant) r = is_parted_told r.life && is_told_of tenant r.life
is_kind_told greatest kind.Worn r =
    not (is_live_told r.life || is_parted_told r.life) && r.generation == greatest
