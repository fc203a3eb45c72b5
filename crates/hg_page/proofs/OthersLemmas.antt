-- The words that calls on a page leave alone, said of whichever lists.
use Rattle.std.proofs.Common.{◌≡◌, ℕ, ◌+◌, ◌<◌, ◌≤◌, List, [], length, slice_index, sym, ◌∙◌, arith, subst, ◌⊎◌, inl, inr, ⊎_elim}
use Rattle.std.specs.Prelude.{Contains}
use Rattle.std.proofs.lemmas.Bool.{cases_eq}
use Rattle.std.proofs.lemmas.List.{ext_get_or}
use Rattle.hg_words.proofs.Ranges.{block_of, block_of-same}
use Rattle.hg_place.specs.declared.geometry.TheConstants.{SEGMENT_WORDS}
use Rattle.hg_page.specs.declared.page.Page.{Page}
use Rattle.hg_page.specs.Shapes.{Shape, shape_of, start_of}
use Rattle.hg_page.specs.PageLists.{PageLists, listed, IsUsed, Pops}
use Rattle.hg_page.specs.Links.{lists_of, IsLinked}
use Rattle.hg_page.specs.Blocks.{IsInBlock}
use Rattle.hg_page.specs.Others.{KeepsOthers}
use Rattle.hg_page.proofs.BlocksLemmas.{block_in_page, used_block_in_page, blocks_apart}
use Rattle.hg_page.proofs.Changes.{Contains-popped}
use Rattle.hg_page.proofs.Frames.{listed_below, used_unlisted}

-- what is kept but for these indexes is kept but for more
pub others_more : (shape : Shape) (xs ys old new : List ℕ) → ((index : ℕ) → Contains xs index → Contains ys index) → KeepsOthers shape xs old new → KeepsOthers shape ys old new
others_more shape xs ys old new more others at apart = others at (λ index on. apart index (more index on))

-- so is what is said of the list after a pop, of the list before it
pub others_popped : (shape : Shape) (index : ℕ) (before after : PageLists) (old new : List ℕ) → Pops index before after → KeepsOthers shape (listed after) old new → KeepsOthers shape (listed before) old new
others_popped shape index before after old new pops = others_more shape (listed after) (listed before) old new (λ other on. Contains-popped index other before after pops on)

-- one change after another
pub others_then : (shape : Shape) (xs old mid new : List ℕ) → KeepsOthers shape xs old mid → KeepsOthers shape xs mid new → KeepsOthers shape xs old new
others_then shape xs old mid new first second at apart = second at apart ∙ first at apart

-- no word changes where nothing is listed
pub none_changed : (shape : Shape) (old new : List ℕ) → length new ≡ length old → KeepsOthers shape [] old new → new ≡ old
none_changed shape old new same others = ext_get_or 0 new old same (λ at lt. others at (λ index on. absurd (omega (arith, on.1))))

-- no word of a block that isn't listed
pub unlisted_kept : (shape : Shape) (xs old new : List ℕ) (index at : ℕ) → 1 ≤ shape.size → KeepsOthers shape xs old new → ¬ Contains xs index → IsInBlock shape index at → slice_index new at ≡ slice_index old at
unlisted_kept shape xs old new index at sized others off in_it = others at (λ i on e. elim (cases_eq index i) [
  | inl same ↦ off (subst (Contains xs) (sym same) on)
  | inr ne ↦ ⊎_elim (λ l. absurd (omega (arith, l, e))) (λ r. absurd (omega (arith, r, e, sized))) (blocks_apart shape index i at ne in_it)
])

-- of the lists before a call: no word outside the page
pub outside_kept_before : (p : Page) (before words : List ℕ) (at : ℕ) → IsLinked p before → KeepsOthers (shape_of p) (listed (lists_of p before)) before words
    → (at < p.base) ⊎ (p.base + 512 ≤ at) → slice_index words at ≡ slice_index before at
outside_kept_before p before words at h others out = others at (λ index on e.
    let inside = block_in_page p before index h (listed_below p before index h on) in
    ⊎_elim (λ lt. absurd (omega (arith, lt, e))) (λ ge. absurd (omega (arith, ge, e, inside, h.sized))) out)

-- no word of a used block
pub used_block_kept_before : (p : Page) (before words : List ℕ) (index : ℕ) → IsLinked p before → KeepsOthers (shape_of p) (listed (lists_of p before)) before words
    → IsUsed (lists_of p before) index → length words ≡ SEGMENT_WORDS → block_of words (start_of (shape_of p) index) p.size ≡ block_of before (start_of (shape_of p) index) p.size
used_block_kept_before p before words index h others is whole =
    let ends = used_block_in_page p before index h is in
    block_of-same before words (start_of (shape_of p) index) p.size (omega (arith, ends, h.within, h.whole)) (omega (arith, ends, h.within, whole))
    (λ at low high. unlisted_kept (shape_of p) (listed (lists_of p before)) before words index at h.sized others (used_unlisted p before index h is) (record { low = low; high = high }))

-- no word of a block that lies outside this page
pub other_block_kept_before : (p : Page) (before words : List ℕ) (first size : ℕ) → IsLinked p before → KeepsOthers (shape_of p) (listed (lists_of p before)) before words
    → length words ≡ SEGMENT_WORDS → first + size ≤ SEGMENT_WORDS → (first + size ≤ p.base) ⊎ (p.base + 512 ≤ first) → block_of words first size ≡ block_of before first size
other_block_kept_before p before words first size h others whole inside out =
    block_of-same before words first size (omega (arith, h.whole)) (omega (arith, whole))
    (λ at low high. outside_kept_before p before words at h others (⊎_elim (λ lt. inl (omega arith)) (λ ge. inr (omega arith)) out))
