-- What the seats of a table know of its words. A seat's view is a list of parts, of one as a rule;
-- of more where it took in other seats, until they are cut; of none in the seat that was taken in.
use Rattle.std.specs.Prelude.{◌≡◌, ℕ, zero, suc, ◌+◌, ◌-◌, ◌<◌, List, [], ◌∷◌, ◌++◌, length, map, replicate}
use Rattle.std.specs.Prelude.{slice_set, take, drop}
use mathlib.Core.Option.{some}
use lib.ListN.{get_elem?}
use Rattle.atomic_table.specs.Table.{State}
use Rattle.hg_place.specs.declared.geometry.TheConstants.{MAX_SEGMENTS}
use Rattle.hg_place.specs.declared.standing.Standing.{Standing}
use Rattle.hg_place.specs.declared.standing.Standing.TheVariants.{Home}
use Rattle.hg_table.specs.declared.view.Part.{Part}

abbrev pub View : Type 0
View = List Part

-- the words of all places, and the view of each seat
abbrev pub Table : Type 0
Table = State (Unit {0}) View

-- the part j of the view of the seat i
abbrev pub Has : List View → ℕ → ℕ → Part → Type 0
Has views i j part =
    (view : View) × (get_elem? views i ≡ some view) × (get_elem? view j ≡ some part)

-- it has a record of the place of the word at this index
abbrev pub HasRecord : ℕ → Part → Type 0
HasRecord at part = (k : ℕ) × (k < length part.records) × (part.first + k ≡ at)

-- a part that knows nothing
abbrev pub blank : Part
blank = record { seen = []; ended = []; first = 0; records = []; may_give = 0 }

-- some part has seen this word at the place; some part has ended this life of it
abbrev pub IsSeen : List View → ℕ → ℕ → Type 0
IsSeen views at word =
    (i : ℕ) × (j : ℕ) × (k : ℕ) × (part : Part) × Has views i j part
    × (get_elem? part.seen k ≡ some (at, word))

abbrev pub IsEnded : List View → ℕ → ℕ → Type 0
IsEnded views at generation =
    (i : ℕ) × (j : ℕ) × (k : ℕ) × (part : Part) × Has views i j part
    × (get_elem? part.ended k ≡ some (at, generation))

-- how many seats these parts are, with those that may still come out of them
abbrev pub seats_of : View → ℕ
seats_of [] = 0
seats_of (part ∷ more) = 1 + part.may_give + seats_of more

abbrev pub all_seats : List View → ℕ
all_seats [] = 0
all_seats (view ∷ more) = seats_of view + all_seats more

-- how many seats may come out of the initial one: one for each segment that a policy may have, and
-- one for each of its workers, who are 16 at most
abbrev pub SEATS_TO_GIVE : ℕ
SEATS_TO_GIVE = MAX_SEGMENTS + 16

-- the part has seen this word too
abbrev pub saw : ℕ → ℕ → Part → Part
saw at word part = record part { seen = part.seen ++ (at, word) ∷ [] }

-- it has ended the life of this generation too
abbrev pub ending : ℕ → ℕ → Part → Part
ending at generation part = record part { ended = part.ended ++ (at, generation) ∷ [] }

-- its record of the place is this one
abbrev pub recording : ℕ → Standing → Part → Part
recording at standing part =
    record part { records = slice_set part.records (at - part.first) standing }

-- the initial seat records all places as home, never given out, and all others come out of it
abbrev pub initial_part : ℕ → Part
initial_part places = record {
  seen = [];
  ended = [];
  first = 1;
  records = replicate places (Home 0);
  may_give = SEATS_TO_GIVE;
}

abbrev pub initial_view : ℕ → View
initial_view places = initial_part places ∷ []

-- a seat came out of the part
abbrev pub giving : Part → Part
giving part = record part { may_give = part.may_give - 1 }

-- so many records at the front of a part, for the seat of a segment, and what is left of the part
abbrev pub first_records : ℕ → Part → Part
first_records count part = record {
  seen = [];
  ended = [];
  first = part.first;
  records = take count part.records;
  may_give = 0;
}

abbrev pub later_records : ℕ → Part → Part
later_records count part = record part {
  first = part.first + count;
  records = drop count part.records;
  may_give = part.may_give - 1;
}

-- the part at this number becomes what the first function makes of it, each other what the second does
abbrev pub but_one : ℕ → (Part → Part) → (Part → Part) → View → View
but_one by one other [] = []
but_one zero one other (part ∷ more) = one part ∷ map other more
but_one (suc by) one other (part ∷ more) = other part ∷ but_one by one other more

-- the one part of a view
abbrev pub part_of : View → Part
part_of [] = blank
part_of (part ∷ more) = part
