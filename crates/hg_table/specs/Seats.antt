-- What the seats of segments and workers know, and what their calls do to it.
use Rattle.std.specs.Prelude.{◌≡◌, ℕ, ◌+◌, ◌*◌, ◌==◌, ◌&&◌, if◌then◌else◌, List, [], ◌∷◌}
use Rattle.std.specs.Prelude.{◌++◌, length}
use Rattle.hg_place.specs.declared.standing.Standing.{Standing}
use Rattle.hg_place.specs.declared.standing.Standing.TheVariants.{Home}
use Rattle.hg_place.specs.declared.geometry.TheConstants.{SEGMENT_PLACES}
use Rattle.hg_place.specs.Lives.{word_generation, word_life}
use Rattle.hg_place.specs.Standings.{standing_at}
use Rattle.atomic_table.specs.Seated.{TableId}
use Rattle.atomic_table.specs.declared.shared.Seat.{Seat}
use Rattle.atomic_table.specs.declared.badge.Badge.{Badge}
use Rattle.hg_table.specs.declared.view.Part.{Part}
use Rattle.hg_table.specs.View.{View, blank, part_of, SEATS_TO_GIVE}
use Rattle.hg_table.specs.Told.{IsShown, AreApart}

-- the name of no table
abbrev pub no_table : TableId
no_table = record {
  words = 0;
  slots = 0;
  views_name = 0;
  atom = 0;
  block = 0;
  offset = 0;
  slot_names = [];
}

-- the index of the word of a place, by its segment and its number in it: word 0 is the spare one
abbrev pub word_at : ℕ → ℕ → ℕ
word_at segment slot = segment * SEGMENT_PLACES + slot + 1

-- what a seat knows that has one part
abbrev pub part_in : Seat (Unit {0}) View → Part
part_in seat = part_of seat.me.0

abbrev pub part_of_first : List View → Part
part_of_first [] = blank
part_of_first (view ∷ more) = part_of view

-- the same of a seat that lies in a badge
abbrev pub part_on : Badge View → Part
part_on badge = part_of_first badge.views

-- a step that found one word and left another has ended a life where that one was live and this
-- one isn't
abbrev pub ended_after : ℕ → ℕ → ℕ → List (ℕ × ℕ) → List (ℕ × ℕ)
ended_after at found left ended =
    if (word_life found == 1) && (word_life left == 0)
    then ended ++ (at, word_generation found) ∷ []
    else ended

-- the part after a step at a word that found one word and left another: it has seen the one left,
-- and nothing else, and has ended the life that was ended, and no other
abbrev pub HasStepped : Part → ℕ → ℕ → ℕ → Part → Type 0
HasStepped part at found left after =
    (after.first ≡ part.first) × (after.seen ≡ part.seen ++ (at, left) ∷ [])
    × (after.ended ≡ ended_after at found left part.ended)

-- A meeting of two seats at a word: it is shown to both, no life was ended by both, and each has
-- seen the word, and seen and ended nothing else
pub record HaveMet (at word : ℕ) (a b a' b' : Part) : Type 0 where
  pub shown : IsShown at word a
  pub shown_other : IsShown at word b
  pub apart : AreApart a b
  pub step : HasStepped a at word word a'
  pub step_other : HasStepped b at word word b'

-- The seat of a segment has made a step at a word, and is of its table still
pub record StepsOn (at found left : ℕ) (old new : Seat (Unit {0}) View) : Type 0 where
  pub step : HasStepped (part_in old) at found left (part_in new)
  pub same : new.table_id ≡ old.table_id

-- The seat of a segment and that of a worker have met at a word, and each is of its table still
pub record MeetAt (at word : ℕ) (one : Seat (Unit {0}) View) (other : Badge View)
    (one' : Seat (Unit {0}) View) (other' : Badge View) : Type 0 where
  pub met : HaveMet at word (part_in one) (part_on other) (part_in one') (part_on other')
  pub same : one'.table_id ≡ one.table_id
  pub same_other : other'.table_id ≡ other.table_id

-- the part has seen nothing and ended nothing
abbrev pub KnowsNothing : Part → Type 0
KnowsNothing part = (part.seen ≡ []) × (part.ended ≡ [])

-- all places of a segment are home and were never given out
abbrev pub AreHome : List Standing → Type 0
AreHome records = (slot : ℕ) → standing_at records slot ≡ Home 0

-- The view of the initial seat once this many segments have seats of their own, which came out of
-- it, so that as many fewer may: so many places are left, each home and never given out, and nothing
-- was seen or ended
pub record IsInitial (segments places : ℕ) (view : View) : Type 0 where
  pub one : view ≡ part_of view ∷ []
  pub seen : (part_of view).seen ≡ []
  pub ended : (part_of view).ended ≡ []
  pub first : (part_of view).first ≡ segments * SEGMENT_PLACES + 1
  pub left : length (part_of view).records ≡ places
  pub home : AreHome (part_of view).records
  pub may_give : (part_of view).may_give + segments ≡ SEATS_TO_GIVE
