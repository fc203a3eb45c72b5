-- The class of a page, by its segment and its number there.
use Rattle.std.specs.Prelude.{ℕ, ◌+◌, ◌*◌, nat_lt, Option, None, if◌then◌else◌}
use Rattle.hg_place.specs.declared.geometry.TheConstants.{SEGMENT_PAGES}
use Rattle.hg_machine.specs.State.{State, class_at}

-- how many words its blocks have; none where there is no such page
abbrev pub page_class : State → ℕ → ℕ → Option ℕ
page_class s segment page =
    if nat_lt page SEGMENT_PAGES then class_at s (segment * SEGMENT_PAGES + page) else None
