-- A slot word and a record in one number, and where the numbers of places stand.
use Rattle.std.specs.Prelude.{ℕ, ◌+◌, ◌*◌, ◌/◌, ◌%◌, ◌^◌, ◌-◌, ◌==◌, ltb, if◌then◌else◌, List, map}
use Rattle.std.specs.Prelude.{slice_index}
use Rattle.std.specs.List.{range_with_len}
use Rattle.hg_place.specs.declared.geometry.TheConstants.{PAGE_PLACES, SEGMENT_PAGES}
use Rattle.hg_place.specs.declared.geometry.TheConstants.{SEGMENT_PLACES}
use Rattle.hg_place.specs.declared.standing.Standing.{Standing}
use Rattle.hg_place.specs.declared.standing.Standing.TheVariants.{Home, Open}

-- of a place's cell the slot word: all but bit 7, which no slot word has
abbrev pub word_in : ℕ → ℕ
word_in cell = cell / 256 * 256 + cell % 128

-- and its record: bit 7 says whether the place is open
abbrev pub standing_in : ℕ → Standing
standing_in cell =
    if cell / 128 % 2 == 1 then Open (cell / 2 ^ 32) (cell % 128 / 2) else Home (cell / 2 ^ 32)

-- how many cells of each page stand beside the first ones of the other pages
abbrev pub FIRST : ℕ
FIRST = 64

-- where the cell of a place stands, by the place's number in its segment: the first cells of all
-- pages stand together, page by page, and behind them the other cells of each page
abbrev pub spot_of : ℕ → ℕ
spot_of at =
    if ltb (at % PAGE_PLACES) FIRST
    then at / PAGE_PLACES * FIRST + at % PAGE_PLACES
    else
    SEGMENT_PAGES * FIRST
    + at / PAGE_PLACES * (PAGE_PLACES - FIRST)
    + (at % PAGE_PLACES - FIRST)

-- what the cells say, place by place
unfoldable pub seen : {X : Type 0} → (ℕ → X) → List ℕ → List X
seen says cells =
    map (λ at. says (slice_index cells (spot_of at))) (range_with_len 0 SEGMENT_PLACES)
