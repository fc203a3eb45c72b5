-- The words of blocks that a change leaves.
use Rattle.std.proofs.Common.{◌≡◌, ◌≢◌, ℕ, ◌+◌, ◌*◌, ◌<◌, ◌≤◌, false, not, List, [], ◌∷◌, length, slice_index, slice_index_or, refl, sym, ap, ◌∙◌, arith, subst, inl, inr, ⊎_elim, ◌⊎◌}
use Rattle.std.specs.Prelude.{Option, Some, None}
use Rattle.std.proofs.lemmas.Bool.{cases_eq, cases_lt}
use Rattle.std.proofs.Math.Nat.{mul-le-mul_left, mul-div-le}
use Rattle.hg_place.specs.declared.geometry.TheConstants.{SEGMENT_WORDS}
use Rattle.hg_words.proofs.Ranges.{block_of-same}
use Rattle.hg_size.specs.Sizes.{pages_of, places_of}
use Rattle.hg_size.proofs.Table.{fits_in_pages}
use Rattle.hg_segment.proofs.Beside.{AreBeside}
use Rattle.hg_page.specs.Shapes.{shape_of}
use Rattle.hg_page.specs.PageLists.{listed, IsUsed}
use Rattle.hg_page.specs.Links.{lists_of, IsLinked}
use Rattle.hg_page.specs.Others.{KeepsOthers}
use Rattle.hg_page.specs.declared.page.Page.{Page}
use Rattle.hg_page.proofs.Frames.{used_below, outside_kept}
use Rattle.hg_page.proofs.BlocksLemmas.{blocks_apart}
use Rattle.hg_page.proofs.OthersLemmas.{outside_kept_before}
use Rattle.hg_place.specs.declared.standing.Standing.{Standing}
use Rattle.hg_place.specs.Standings.{standing_at, is_home}
use Rattle.hg_segment.specs.Kept.{class_at}
use Rattle.hg_segment.specs.Blocks.{block_of_class, block_at}
use Rattle.hg_segment.specs.Right.{IsPageRight, IsRight}

-- no word of a block is one of another
pub words_apart : (base size i index at : ℕ) → i ≢ index → base + size * i ≤ at → at < base + size * i + size → (at < base + size * index) ⊎ (base + size * index + size ≤ at)
words_apart base size i index at ne low high = blocks_apart (record { base = base; size = size; places = 0 }) i index at ne (record { low = low; high = high })

-- words outside the page stay, whichever of its blocks are written
pub outside : (p : Page) (old new : List ℕ) (page : ℕ) → IsLinked p old → (shape_of p).base ≡ page * 512 → KeepsOthers (shape_of p) (listed (lists_of p old)) old new
    → (at : ℕ) → (at < page * 512) ⊎ (page * 512 + 512 ≤ at) → slice_index new at ≡ slice_index old at
outside p old new page h base others at out = outside_kept_before p old new at h others (⊎_elim (λ lt. inl (omega (arith, lt, base))) (λ ge. inr (omega (arith, ge, base))) out)

pub outside_new : (q : Page) (old new : List ℕ) (page : ℕ) → IsLinked q new → (shape_of q).base ≡ page * 512 → KeepsOthers (shape_of q) (listed (lists_of q new)) old new
    → (at : ℕ) → (at < page * 512) ⊎ (page * 512 + 512 ≤ at) → slice_index new at ≡ slice_index old at
outside_new q old new page h base others at out = outside_kept q old new at h others (⊎_elim (λ lt. inl (omega (arith, lt, base))) (λ ge. inr (omega (arith, ge, base))) out)

-- an open place is used, and its block lies in its page
pub open_used : (g : ℕ) (rs : List Standing) (ws : List ℕ) (page index : ℕ) (class : Option ℕ) (p : Page) → IsPageRight g rs ws page class p → index < 512 → is_home (standing_at rs (page * 512 + index)) ≡ false → IsUsed (lists_of p ws) index
open_used g rs ws page index class p h below away = h.lists.used index below ∙ ap not away

pub open_inside : (g : ℕ) (rs : List Standing) (ws : List ℕ) (page index size : ℕ) (p : Page) → IsPageRight g rs ws page (Some size) p → index < 512 → is_home (standing_at rs (page * 512 + index)) ≡ false → (page + pages_of size ≤ 16) × (size * index + size ≤ pages_of size * 512)
open_inside g rs ws page index size p h below away =
    let sized : (shape_of p).size ≡ size = h.shape.1 in
    let pages : pages_of (shape_of p).size ≡ pages_of size = ap pages_of sized in
    let used = used_below p ws index h.linked
    (open_used g rs ws page index (Some size) p h below away) in
    let fits = fits_in_pages size index (omega (arith, used, h.shape.2)) in
    (omega (arith, h.base, pages, h.linked.within), omega (arith, fits))

-- an open block whose words are the same
pub block_same : (g : ℕ) (rs : List Standing) (ws new : List ℕ) (page index : ℕ) (class : Option ℕ) (p : Page) → page < 16 → length new ≡ SEGMENT_WORDS → IsPageRight g rs ws page class p → index < 512 → is_home (standing_at rs (page * 512 + index)) ≡ false
    → ((size at : ℕ) → class ≡ Some size → size * index + size ≤ pages_of size * 512 → page * 512 + size * index ≤ at → at < page * 512 + size * index + size → slice_index new at ≡ slice_index ws at)
    → block_of_class new page index class ≡ block_of_class ws page index class
block_same g rs ws new page index None p low whole h below away same = refl
block_same g rs ws new page index (Some size) p low whole h below away same =
    let inside = open_inside g rs ws page index size p h below away in
    block_of-same ws new (page * 512 + size * index) size (omega (arith, inside.0, inside.1, h.linked.whole)) (omega (arith, inside.0, inside.1, whole)) (λ at l r. same size at refl inside.1 l r)

-- all open blocks but one, where words outside a page are the same and so are those of this page's other open blocks
pub blocks_kept : (g : ℕ) (rs new-rs : List Standing) (ws new : List ℕ) (pages : List Page) (classes : List (Option ℕ)) (page count : ℕ) (d : Page)
    → AreBeside classes page count
    → length new ≡ SEGMENT_WORDS
    → ((k : ℕ) → k < 16 → (d : Page) → IsPageRight g rs ws k (class_at classes k) (slice_index_or pages k d))
    → ((at : ℕ) → (at < page * 512) ⊎ (page * 512 + count * 512 ≤ at) → slice_index new at ≡ slice_index ws at)
    → (other at : ℕ) → other < 16 → at < 512 → is_home (standing_at rs (other * 512 + at)) ≡ false
    → (other ≡ page → (size w : ℕ) → class_at classes page ≡ Some size → page * 512 + size * at ≤ w → w < page * 512 + size * at + size → slice_index new w ≡ slice_index ws w)
    → block_at new classes other at ≡ block_at ws classes other at
blocks_kept g rs new-rs ws new pages classes page count d beside whole each out other at low below away mine =
    block_same g rs ws new other at (class_at classes other) (slice_index_or pages other d) low whole (each other low d) below away (λ size w is inside l r. elim (cases_eq other page) [
      | inl e ↦ mine e size w (subst (λ (k : ℕ). class_at classes k ≡ Some size) e is) (omega (arith, l, e)) (omega (arith, r, e))
      | inr ne ↦ out w (elim (beside other size ne is) as (λ _. (w < page * 512) ⊎ (page * 512 + count * 512 ≤ w)) [
        | inl before ↦ inl (omega (arith, before, r, inside))
        | inr behind ↦ inr (omega (arith, behind, l))
      ])
    ])

-- a page with an open place has a class
pub no_class : (g : ℕ) (rs : List Standing) (ws : List ℕ) (page index : ℕ) (class : Option ℕ) (p : Page) → IsPageRight g rs ws page class p → index < 512 → is_home (standing_at rs (page * 512 + index)) ≡ false → class ≡ None → ⊥
no_class g rs ws page index None p h below away e = let used = open_used g rs ws page index None p h below away in let free = h.unused index in cc
no_class g rs ws page index (Some size) p h below away e = cc

pub first_page : (pages : List Page) → length pages ≡ 16 → Page
first_page [] e = absurd (cc)
first_page (p ∷ ps) e = p

pub class_there : (g : ℕ) (rs : List Standing) (ws : List ℕ) (pages : List Page) (classes : List (Option ℕ)) (cs : List ℕ) (page index : ℕ) → IsRight g rs ws pages classes cs → page < 16 → index < 512
    → is_home (standing_at rs (page * 512 + index)) ≡ false → (found : Option ℕ) → found ≡ class_at classes page → found ≡ None → ⊥
class_there g rs ws pages classes cs page index h below small away found is none =
    let d = first_page pages h.pages_all in
    no_class g rs ws page index (class_at classes page) (slice_index_or pages page d) (h.each page below d) small away (sym is ∙ none)

-- the class that was read
pub class_read : (classes : List (Option ℕ)) (page size : ℕ) (found : Option ℕ) → found ≡ class_at classes page → found ≡ Some size → class_at classes page ≡ Some size
class_read classes page size found is some = sym is ∙ some

pub any_page : (g : ℕ) (rs : List Standing) (ws : List ℕ) (pages : List Page) (classes : List (Option ℕ)) (cs : List ℕ) → IsRight g rs ws pages classes cs → Page
any_page g rs ws pages classes cs h = first_page pages h.pages_all
