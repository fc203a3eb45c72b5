-- The pages of a segment that have a class, and what stands at their places, in lines.
use Rattle.std.specs.Prelude.{ℕ, ◌+◌, ◌*◌, ◌-◌, ◌++◌, Bool, List, [], Option, Some, None}
use Rattle.std.specs.Prelude.{count_by, decimal}
use Rattle.std.specs.List.{range_with_len}
use Rattle.hg_place.specs.declared.geometry.TheConstants.{SEGMENT_PAGES, WORD_BYTES}
use Rattle.hg_size.specs.Runs.{is_covered}
use Rattle.hg_size.specs.Sizes.{places_of}
use Rattle.hg_machine.specs.State.{State, class_at}
use Rattle.hg_core.specs.BlockPlaces.{first_place}
use Rattle.hg_core.specs.Kinds.{is_kind}
use Rattle.hg_core.specs.PageClasses.{page_class}
use Rattle.hg_core.specs.declared.kinds.PlaceKind.{PlaceKind}
use Rattle.hg_core.specs.declared.kinds.PlaceKind.TheVariants as kind
use Rattle.hg_state.specs.Words.{word_of}
use Rattle.hg_state.specs.declared.form.Form.{Form}
use Rattle.hg_state.specs.declared.form.Word.TheVariants as word

-- the numbers of the pages of a segment
abbrev pub pages_in : List ℕ
pages_in = range_with_len 0 SEGMENT_PAGES

-- how many places of a page of a class are of a kind, of those that its blocks have
unfoldable pub count_of : State → PlaceKind → ℕ → ℕ → ℕ → ℕ
count_of s kind segment page class =
    count_by (is_kind s kind) (range_with_len (first_place segment page) (places_of class))

-- and how many are free: those with no block that aren't worn
unfoldable pub free_of : State → ℕ → ℕ → ℕ → ℕ
free_of s segment page class =
    places_of class - count_of s kind.Live segment page class
    - count_of s kind.Parted segment page class
    - count_of s kind.Worn segment page class

-- how many of these are what
unfoldable pub counts_text : Form → State → ℕ → ℕ → ℕ → List ℕ
counts_text form s segment page class =
    word_of form word.Live ++ decimal (count_of s kind.Live segment page class)
    ++ word_of form word.Parted ++ decimal (count_of s kind.Parted segment page class)
    ++ word_of form word.Worn ++ decimal (count_of s kind.Worn segment page class)
    ++ word_of form word.Free ++ decimal (free_of s segment page class)

-- a page of a class, in words: the bytes of a block, its blocks' places, and how many of these are what
unfoldable pub page_line : Form → State → ℕ → ℕ → ℕ → List ℕ
page_line form s segment page class =
    word_of form word.PageOf ++ decimal segment ++ word_of form word.Page ++ decimal page
    ++ word_of form word.PageClass ++ decimal (WORD_BYTES * class)
    ++ word_of form word.Places ++ decimal (places_of class)
    ++ counts_text form s segment page class ++ word_of form word.End

-- told where it has a class; one behind the first of a block of several pages hasn't
abbrev pub text_by : Form → State → ℕ → ℕ → Option ℕ → List ℕ
text_by form s segment page None = []
text_by form s segment page (Some class) = page_line form s segment page class

unfoldable pub page_text : Form → State → ℕ → ℕ → List ℕ
page_text form s segment page = text_by form s segment page (page_class s segment page)

-- a page lies behind the first of a block of several pages: it is covered
abbrev pub is_behind : State → ℕ → ℕ → Bool
is_behind s segment page = is_covered (class_at s) (segment * SEGMENT_PAGES + page)
