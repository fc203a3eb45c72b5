-- The lists of one page, of places by their numbers.
use Rattle.std.specs.Prelude.{ℕ, [], drop, slice_set}
use Rattle.hg_page.specs.PageLists.{PageLists}
use Rattle.hg_machine.specs.Lists.{Lists, list_at}

-- the free and the local-free list of a page; which of its places are used isn't told
abbrev pub lists_on : Lists → ℕ → PageLists
lists_on l page = record {
  free = list_at l.free page;
  local_free = list_at l.local_free page;
  used = [];
}

-- the lists with these for the page
abbrev pub with_page : Lists → ℕ → PageLists → Lists
with_page l page lists = record l {
  free = slice_set l.free page lists.free;
  local_free = slice_set l.local_free page lists.local_free;
}

-- the head of `free` has come off
abbrev pub popped : PageLists → PageLists
popped lists = record lists { free = drop 1 lists.free }
