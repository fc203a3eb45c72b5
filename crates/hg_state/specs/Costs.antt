-- What classes cost: the bytes that blocks were asked for, beside those that they have.
use Rattle.std.specs.Prelude.{ℕ, ◌*◌, ◌-◌, ◌^◌, ◌==◌, ◌&&◌, ◌++◌, ◌≤◌, Bool, true, false, List, [], ◌∷◌}
use Rattle.std.specs.Prelude.{min, count_by, decimal, filter, if◌then◌else◌}
use Rattle.std.specs.List.{flat_map, sum_by}
use Rattle.hg_place.specs.declared.geometry.TheConstants.{WORD_BYTES}
use Rattle.hg_place.specs.Places.{number_of}
use Rattle.hg_size.specs.Sizes.{sizes}
use Rattle.hg_machine.specs.Request.{size_of}
use Rattle.hg_machine.specs.State.{State, record_at}
use Rattle.hg_machine.specs.declared.Answer.{Answer}
use Rattle.hg_machine.specs.declared.Answer.TheVariants as answer
use Rattle.hg_machine.specs.declared.Event.{Event}
use Rattle.hg_machine.specs.declared.Event.TheVariants as event
use Rattle.hg_core.specs.Records.{record_told}
use Rattle.hg_core.specs.declared.records.PlaceLife.{PlaceLife}
use Rattle.hg_core.specs.declared.records.PlaceLife.TheVariants as life
use Rattle.hg_core.specs.declared.records.PlaceRecord.{PlaceRecord}
use Rattle.hg_replay.specs.declared.replaying.told.Told.{Told}
use Rattle.hg_replay.specs.declared.replaying.told.Told.TheVariants as told
use Rattle.hg_state.specs.Words.{word_of}
use Rattle.hg_state.specs.declared.costs.Granted.{Granted}
use Rattle.hg_state.specs.declared.form.Form.{Form}
use Rattle.hg_state.specs.declared.form.Word.{Word}
use Rattle.hg_state.specs.declared.form.Word.TheVariants as word

-- the block that this answer gives for so many bytes, if it gives one
abbrev pub given : ℕ → Answer → List Granted
given bytes (answer.Block handle) = record { handle = handle; bytes = bytes } ∷ []
given bytes _ = []

-- the block that an event was given, if it was answered so, and a line that came to this
abbrev pub granted_by : Event → Answer → List Granted
granted_by (event.Alloc actor arena bytes) a = given bytes a
granted_by _ a = []

abbrev pub granted_in : Told → List Granted
granted_in (told.One event answer) = granted_by event answer
granted_in _ = []

-- those of all lines, in order
abbrev pub all_granted : List Told → List Granted
all_granted told = flat_map granted_in told

-- such a block stands still: its place was given out as often as then, and has a block
abbrev pub has_block : PlaceLife → Bool
has_block life.Home = false
has_block (life.Live owner) = true
has_block (life.Parted owner) = true

abbrev pub stands_by : ℕ → PlaceRecord → Bool
stands_by generation known = (known.generation == generation) && has_block known.life

abbrev pub is_standing : State → Granted → Bool
is_standing s block =
    stands_by block.handle.generation (record_told (record_at s (number_of block.handle.place)))

-- of these blocks those of a class, by its words: how many there are, and the bytes that were asked for
abbrev pub is_of : ℕ → Granted → Bool
is_of class block = size_of block.bytes == class

abbrev pub bytes_in : ℕ → Granted → ℕ
bytes_in class block = if is_of class block then block.bytes else 0

abbrev pub blocks_of : ℕ → List Granted → ℕ
blocks_of class blocks = count_by (is_of class) blocks

-- as a number of 64 bits holds them, beside their own bytes
abbrev pub asked_for : ℕ → List Granted → ℕ
asked_for class blocks = min (sum_by (bytes_in class) blocks) (2 ^ 64 - 1)

abbrev pub given_for : ℕ → List Granted → ℕ
given_for class blocks = min (WORD_BYTES * class * blocks_of class blocks) (2 ^ 64 - 1)

-- a class, with this word before the number of its blocks
unfoldable pub class_line : Form → Word → List Granted → ℕ → List ℕ
class_line form count blocks class =
    word_of form word.Class ++ decimal (WORD_BYTES * class)
    ++ word_of form count ++ decimal (blocks_of class blocks)
    ++ word_of form word.Asked ++ decimal (asked_for class blocks)
    ++ word_of form word.Given ++ decimal (given_for class blocks) ++ word_of form word.End

-- told where it has such a block
unfoldable pub class_text : Form → Word → List Granted → ℕ → List ℕ
class_text form count blocks class =
    if blocks_of class blocks == 0 then [] else class_line form count blocks class

unfoldable pub classes_text : Form → Word → List Granted → List ℕ
classes_text form count blocks = flat_map (class_text form count blocks) sizes

-- of these blocks those that stand still, and all
unfoldable pub costs_text : Form → State → List Granted → List ℕ
costs_text form s blocks =
    classes_text form word.Blocks (filter (is_standing s) blocks) ++ classes_text form word.Allocs blocks

-- no class gives less than was asked for
abbrev pub NoLessIsGiven : Type 0
NoLessIsGiven =
    (class : ℕ) (blocks : List Granted) → 1 ≤ class → asked_for class blocks ≤ given_for class blocks
