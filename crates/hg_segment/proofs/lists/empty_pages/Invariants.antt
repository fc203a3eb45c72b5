use Rattle.std.proofs.Common.{◌≡◌, ◌<◌, ℕ, length, slice_index_or, vec_len, vec_capacity}
use Rattle.hg_place.specs.declared.geometry.TheConstants.{SEGMENT_PAGES}
use Rattle.hg_page.specs.declared.page.Page.{Page}
use Rattle.hg_segment.specs.Empty.{IsEmptyPage}
use Rattle.hg_segment.proofs.lists.empty_pages.Given as goal

abbrev pub invariant-loop-number : goal.invariant-loop-number
invariant-loop-number l = record {
  all : length l.pages.items ≡ l.number;
  room : vec_capacity l.pages ≡ SEGMENT_PAGES;
  len : vec_len l.pages ≡ l.number;
  empty : (k : ℕ) → k < l.number → (d : Page) → IsEmptyPage k (slice_index_or l.pages.items k d);
}
