-- Blocks by tenant and by segment, and the segments that nobody holds, in lines.
use Rattle.std.specs.Prelude.{ℕ, ◌*◌, ◌++◌, ◌==◌, ◌&&◌, Bool, not, List, count_by}
use Rattle.std.specs.Prelude.{decimal, filter, is_none, length}
use Rattle.std.specs.List.{flat_map, list_any, range_with_len}
use Rattle.hg_place.specs.declared.geometry.TheConstants.{SEGMENT_PLACES}
use Rattle.hg_machine.specs.State.{State, holder_at}
use Rattle.hg_machine.specs.Sweeps.{is_sent}
use Rattle.hg_core.specs.Held.{worker_in}
use Rattle.hg_core.specs.Kinds.{is_kind}
use Rattle.hg_core.specs.declared.kinds.PlaceKind.{PlaceKind}
use Rattle.hg_core.specs.declared.kinds.PlaceKind.TheVariants as kind
use Rattle.hg_show.specs.Parts.{name_of}
use Rattle.hg_state.specs.Pages.{page_text, pages_in}
use Rattle.hg_state.specs.Words.{word_of}
use Rattle.hg_state.specs.Workers.{numbers_text, segments_in}
use Rattle.hg_state.specs.declared.form.Form.{Form}
use Rattle.hg_state.specs.declared.form.Word.{Word}
use Rattle.hg_state.specs.declared.form.Word.TheVariants as word

-- nobody holds the segment, and it isn't among these orphans: so where these are all, it is fresh
-- (law FreshAreApart)
abbrev pub is_apart : State → List ℕ → ℕ → Bool
is_apart s orphans segment =
    is_none (worker_in (holder_at s segment))
    && not (list_any (λ other. other == segment) orphans)

abbrev pub fresh_in : State → List ℕ → List ℕ
fresh_in s orphans = filter (is_apart s orphans) (segments_in s)

-- the segments that nobody holds: orphans, oldest first, and fresh ones
unfoldable pub segments_line : Form → Word → List ℕ → List ℕ
segments_line form w segments =
    word_of form w ++ numbers_text form segments ++ word_of form word.End

unfoldable pub left_text : Form → State → List ℕ → List ℕ
left_text form s orphans =
    segments_line form word.Orphans orphans ++ segments_line form word.Fresh (fresh_in s orphans)

-- how many places of so many segments, from one on, are of a kind, and how many are sent
unfoldable pub count_in : State → PlaceKind → ℕ → ℕ → ℕ
count_in s kind segment many =
    count_by (is_kind s kind) (range_with_len (segment * SEGMENT_PLACES) (many * SEGMENT_PLACES))

unfoldable pub sent_in : State → ℕ → ℕ → ℕ
sent_in s segment many =
    count_by (is_sent s) (range_with_len (segment * SEGMENT_PLACES) (many * SEGMENT_PLACES))

-- a tenant's blocks, of all segments
unfoldable pub tenant_line : Form → State → ℕ → List ℕ
tenant_line form s tenant =
    word_of form word.Tenant ++ name_of s.policy tenant
    ++ word_of form word.TenantLive
    ++ decimal (count_in s (kind.LiveOf tenant) 0 (length s.policy.segments))
    ++ word_of form word.Parted
    ++ decimal (count_in s (kind.PartedOf tenant) 0 (length s.policy.segments))
    ++ word_of form word.End

-- a segment's blocks, and its places that are sent or worn
unfoldable pub segment_line : Form → State → ℕ → List ℕ
segment_line form s segment =
    word_of form word.Segment ++ decimal segment
    ++ word_of form word.Live ++ decimal (count_in s kind.Live segment 1)
    ++ word_of form word.Parted ++ decimal (count_in s kind.Parted segment 1)
    ++ word_of form word.Sent ++ decimal (sent_in s segment 1)
    ++ word_of form word.Worn ++ decimal (count_in s kind.Worn segment 1) ++ word_of form word.End

-- and behind it its pages
abbrev pub segment_text : Form → State → ℕ → List ℕ
segment_text form s segment =
    segment_line form s segment ++ flat_map (page_text form s segment) pages_in
