-- The seven kinds of step that this crate's seats make, and what each does; and a step at a word by one
-- of several parts of a seat, which a table above makes. What no step of the seven kinds can do, since
-- the rule holds behind it, is in LifeLaws.
use Rattle.std.specs.Prelude.{◌≡◌, ◌≢◌, ℕ, ◌+◌, ◌-◌, ◌<◌, ◌≤◌, ◌==◌, if◌then◌else◌, true, []}
use Rattle.std.specs.Prelude.{◌∷◌, ◌++◌, map, take, drop, length, slice_index, slice_set}
use mathlib.Core.Option.{some}
use lib.ListN.{get_elem?}
use Rattle.hg_place.specs.declared.standing.Standing.{Standing}
use Rattle.hg_place.specs.declared.standing.Standing.TheVariants.{Home, Open}
use Rattle.hg_place.specs.Lives.{IsLiveWord, word_generation, word_owner, word_life}
use Rattle.hg_place.specs.Standings.{standing_at, is_home, standing_generation}
use Rattle.hg_place.specs.declared.geometry.TheConstants.{SEGMENT_PLACES}
use Rattle.hg_table.specs.declared.view.Part.{Part}
use Rattle.hg_table.specs.View.{View, Table, HasRecord, saw, ending, recording, blank, part_of}
use Rattle.hg_table.specs.View.{but_one, first_records, later_records, giving}

-- At the word of a place. look: it is read; open: the place is home, and the word becomes this live
-- one; close and part: the live word that is expected becomes the freed one of its life, if it
-- stands, and by a close the place goes home; take: it is read, and the place goes home if it is
-- freed
pub data WordStep : Type 0 where
  look : WordStep
  open_as : ℕ → WordStep
  close_from : ℕ → WordStep
  part_from : ℕ → WordStep
  take_home : WordStep

-- the word that a step leaves where it found one
abbrev pub left_by : WordStep → ℕ → ℕ
left_by look word = word
left_by (open_as live) word = live
left_by (close_from expected) word = if word == expected then expected - 1 else word
left_by (part_from expected) word = if word == expected then expected - 1 else word
left_by take_home word = word

-- what a part knows after a step at a word that found this
abbrev pub known_after : WordStep → ℕ → ℕ → Part → Part
known_after look at word part = saw at word part
known_after (open_as live) at word part =
    recording at (Open (word_generation live) (word_owner live)) (saw at live part)
known_after (close_from expected) at word part =
    if word == expected
    then recording at (Home (word_generation expected))
    (ending at (word_generation expected) (saw at (expected - 1) part))
    else saw at word part
known_after (part_from expected) at word part =
    if word == expected
    then ending at (word_generation expected) (saw at (expected - 1) part)
    else saw at word part
known_after take_home at word part =
    if word_life word == 0
    then recording at (Home (word_generation word)) (saw at word part)
    else saw at word part

-- the record of the place of a word, in a part that has one
abbrev pub record_of : ℕ → Part → Standing
record_of at part = standing_at part.records (at - part.first)

-- the word is a place's, and the seat has one part
abbrev pub IsAlone : ℕ → View → Type 0
IsAlone at view = (1 ≤ at) × (view ≡ part_of view ∷ [])

-- what the part that makes a step owes: a place that is opened is home, in its own records, and the
-- live word is of its next generation; what is to be ended is a live word; a place is closed or taken
-- home by the part that has its record
abbrev pub PartMayMake : WordStep → ℕ → Part → Type 0
PartMayMake look at part = Unit {0}
PartMayMake (open_as live) at part =
    IsLiveWord live × HasRecord at part × (is_home (record_of at part) ≡ true)
    × (word_generation live ≡ standing_generation (record_of at part) + 1)
PartMayMake (close_from expected) at part = IsLiveWord expected × HasRecord at part
PartMayMake (part_from expected) at part = IsLiveWord expected
PartMayMake take_home at part = HasRecord at part

-- any seat may look; a seat of one part may make what the part may
abbrev pub MayMake : WordStep → ℕ → View → Type 0
MayMake look at view = Unit {0}
MayMake (open_as live) at view = IsAlone at view × PartMayMake (open_as live) at (part_of view)
MayMake (close_from expected) at view =
    IsAlone at view × PartMayMake (close_from expected) at (part_of view)
MayMake (part_from expected) at view =
    IsAlone at view × PartMayMake (part_from expected) at (part_of view)
MayMake take_home at view = IsAlone at view × PartMayMake take_home at (part_of view)

-- the part at this number of the view, counted from 0, may make it, at the word of a place; a look isn't
-- asked that
abbrev pub MayMakeBy : ℕ → WordStep → ℕ → View → Type 0
MayMakeBy by step at view =
    (1 ≤ at) × (part : Part) × (get_elem? view by ≡ some part) × PartMayMake step at part

-- the view after a step by that part: it knows what the step did, and each other has seen the word
-- that is left
abbrev pub view_after : ℕ → WordStep → ℕ → ℕ → View → View
view_after by step at word view = but_one by (known_after step at word) (saw at (left_by step word)) view

-- split: the second part of a view goes to a new seat; or the records of the first segment that is
-- left with the initial seat; or nothing. By the last two a seat comes out of the one that is cut,
-- which may give one fewer from then on
pub data Cut : Type 0 where
  second_part : Cut
  first_segment : Cut
  nothing : Cut

-- what the seat keeps, and what the new one gets
abbrev pub kept_by : Cut → View → View
kept_by second_part view = take 1 view
kept_by first_segment view = map (later_records SEGMENT_PLACES) view
kept_by nothing view = map giving view

abbrev pub given_by : Cut → View → View
given_by second_part view = drop 1 view
given_by first_segment view = map (first_records SEGMENT_PLACES) view
given_by nothing view = blank ∷ []

-- a view of two parts is cut between them, else one of one part, out of which a seat may come still
abbrev pub MayCut : Cut → View → Type 0
MayCut second_part view = (a : Part) × (b : Part) × (view ≡ a ∷ b ∷ [])
MayCut first_segment view = (view ≡ part_of view ∷ []) × (1 ≤ (part_of view).may_give)
MayCut nothing view = (view ≡ part_of view ∷ []) × (1 ≤ (part_of view).may_give)

-- join: a second seat's one part stands beside the one of the seat, and the second is spent
pub data Kind : Type 0 where
  at_word : WordStep → ℕ → Kind
  split : Cut → Kind
  join : ℕ → Kind

-- The seat `id`, of this view, takes one table to another by a step of this kind. At a word that
-- changes this word and the seat's own view; else no word changes
abbrev pub Makes : Kind → ℕ → View → Table → Table → Type 0
Makes (at_word step at) id view table after =
    (at < length table.words) × MayMake step at view
    × (after ≡ record {
      words = slice_set table.words at (left_by step (slice_index table.words at));
      homes = table.homes;
      views = slice_set table.views id
          (map (known_after step at (slice_index table.words at)) view);
    })
Makes (split cut) id view table after =
    MayCut cut view
    × (after ≡ record {
      words = table.words;
      homes = table.homes;
      views = slice_set table.views id (kept_by cut view) ++ given_by cut view ∷ [];
    })
Makes (join other) id view table after =
    (theirs : View) × (get_elem? table.views other ≡ some theirs) × (other ≢ id)
    × (view ≡ part_of view ∷ []) × (theirs ≡ part_of theirs ∷ [])
    × (after ≡ record {
      words = table.words;
      homes = table.homes;
      views = slice_set (slice_set table.views id (view ++ theirs)) other [];
    })

-- some seat makes a step
abbrev pub Steps : Table → Table → Type 0
Steps table after =
    (kind : Kind) × (id : ℕ) × (view : View) × (get_elem? table.views id ≡ some view)
    × Makes kind id view table after
