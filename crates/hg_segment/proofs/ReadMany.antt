-- Words of an open block are copied.
use Rattle.std.proofs.Common.{◌≡◌, ℕ, ◌+◌, ◌*◌, ◌<◌, ◌≤◌, false, List, slice_index, slice_index_or}
use Rattle.std.proofs.Common.{subst, sym, ap, ◌∙◌, arith}
use Rattle.std.specs.Prelude.{Option, Some}
use Rattle.hg_words.proofs.Ranges.{block_of, block_of-read}
use Rattle.hg_page.specs.declared.page.Page.{Page}
use Rattle.hg_place.specs.declared.standing.Standing.{Standing}
use Rattle.hg_place.specs.Standings.{standing_at, is_home}
use Rattle.hg_segment.specs.Kept.{class_at}
use Rattle.hg_segment.specs.Blocks.{block_at}
use Rattle.hg_segment.specs.Right.{IsPageRight, IsRight}
use Rattle.hg_segment.proofs.KeptBlocks.{open_inside}

module _ (g : ℕ) (rs : List Standing) (ws : List ℕ) (pages : List Page) (classes : List (Option ℕ))
    (cs : List ℕ) (page index size : ℕ) (d : Page)
    (h : IsRight g rs ws pages classes cs) (below : page < 16) (small : index < 512) (away : is_home (standing_at rs (page * 512 + index)) ≡ false)
    (class : class_at classes page ≡ Some size) where
  -- the block lies in the words of its segment
  pub block_in_words : page * 512 + size * index + size ≤ 8192
  block_in_words =
      let mine : IsPageRight g rs ws page (Some size) (slice_index_or pages page d) =
      subst (λ (c : Option ℕ). IsPageRight g rs ws page c (slice_index_or pages page d)) class
      (h.each page below d) in
      let fits = open_inside g rs ws page index size (slice_index_or pages page d) mine small
      away in
      omega (arith, fits.0, fits.1)

  -- a word of a range of the block is the block's
  pub range_of_block : (at count k : ℕ) → at + count ≤ size → k < count
      → slice_index (block_of ws (page * 512 + size * index + at) count) k ≡ slice_index
      (block_at ws classes page index) (at + k)
  range_of_block at count k inside lt =
      let start : ℕ = page * 512 + size * index in
      let same : start + at + k ≡ start + (at + k) = omega arith in
      rw class (block_of-read ws (start + at) count k lt ∙ ap (slice_index ws) same ∙ sym
      (block_of-read ws start size (at + k) (omega (arith, inside, lt))))
