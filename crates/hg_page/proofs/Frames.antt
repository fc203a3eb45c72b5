-- What a change of words leaves of a page's lists, and a page's call of other words: what a segment of pages rests on.
use Rattle.std.proofs.Common.{◌≡◌, ◌≢◌, ℕ, ◌+◌, ◌*◌, ◌<◌, ◌≤◌, List, [], length, slice_index, refl, sym, ap, ◌∙◌, arith, subst, ◌⊎◌, inl, inr, ⊎_elim}
use Rattle.std.specs.Prelude.{Contains}
use Rattle.std.specs.List.{AllByRecursion}
use Rattle.std.proofs.Math.Nat.{mul-le-mul_left}
use Rattle.std.proofs.lemmas.Bool.{cases_lt, cases_eq}
use Rattle.hg_place.specs.declared.geometry.TheConstants.{SEGMENT_WORDS}
use Rattle.hg_words.proofs.Ranges.{block_of, block_of-same}
use Rattle.hg_lists.specs.Chains.{chain}
use Rattle.hg_lists.specs.Repeats.{HasNoRepeats}
use Rattle.hg_lists.proofs.RepeatsLemmas.{Each-weaker, Each-contains}
use Rattle.hg_page.specs.Shapes.{shape_of, start_of}
use Rattle.hg_page.specs.PageLists.{PageLists, listed, IsUsed}
use Rattle.hg_page.specs.Links.{link_at, lists_of, IsSpare, IsLinked}
use Rattle.hg_page.specs.Others.{KeepsOthers}
use Rattle.hg_page.specs.declared.page.Page.{Page}
use Rattle.hg_page.proofs.Linked.{free-is, local-is, linked, kept_by, used_apart, block_begins}

-- facts of linked lists

pub listed_once : (p : Page) (words : List ℕ) → IsLinked p words → HasNoRepeats (listed (lists_of p words))
listed_once p words h = h.apart

pub listed_below : (p : Page) (words : List ℕ) (index : ℕ) → IsLinked p words → Contains (listed (lists_of p words)) index → index < p.places
listed_below p words index h on = (Each-contains (IsSpare p) index (listed (lists_of p words)) h.spare on).0

pub used_below : (p : Page) (words : List ℕ) (index : ℕ) → IsLinked p words → IsUsed (lists_of p words) index → index < p.places
used_below p words index h is = h.used index is

pub used_unlisted : (p : Page) (words : List ℕ) (index : ℕ) → IsLinked p words → IsUsed (lists_of p words) index → ¬ Contains (listed (lists_of p words)) index
used_unlisted p words index h is on =
    let there : index < length p.used = omega (arith, h.used index is, h.flags, h.count) in
    Each-contains (λ y. index ≢ y) index (listed (lists_of p words)) (used_apart p index (listed (lists_of p words)) there is h.spare) on refl

-- a block ends in the segment, and begins in its page
pub block_ends : (p : Page) (words : List ℕ) (index : ℕ) → IsLinked p words → index < p.places → start_of (shape_of p) index + p.size ≤ SEGMENT_WORDS
block_ends p words index h below = omega (arith, mul-le-mul_left p.size (let more : index + 1 ≤ p.places = omega arith in more), h.fits, h.within)

pub block_begins_in_page : (p : Page) (words : List ℕ) (index : ℕ) → IsLinked p words → index < p.places → start_of (shape_of p) index < p.base + 512
block_begins_in_page p words index h below = omega (arith, block_begins p.size p.places index below h.sized h.fits)

-- no block but its own begins at a word of a block
block_alone : (base size i index at : ℕ) → i ≢ index → base + size * index ≤ at → at < base + size * index + size → at ≢ base + size * i
block_alone base size i index at ne low high e = ⊎_elim
    (λ lt. let k : size * (i + 1) ≤ size * index = mul-le-mul_left size (let more : i + 1 ≤ index = omega arith in more) in absurd (omega arith))
    (λ ge. let k : size * (index + 1) ≤ size * i = mul-le-mul_left size (let more : index + 1 ≤ i = omega arith in more) in absurd (omega arith))
    (cases_lt i index)

-- other words show the same lists

pub record Same (p : Page) (words other : List ℕ) : Type 0 where
  pub linked : IsLinked p other
  pub shown : lists_of p other ≡ lists_of p words

-- where they are equal at the listed blocks' first words
pub same_links : (p : Page) (words other : List ℕ) → IsLinked p words → length other ≡ SEGMENT_WORDS → AllByRecursion (λ i. link_at p other i ≡ link_at p words i) (listed (lists_of p words)) → Same p words other
same_links p words other h whole same =
    let k = kept_by p words other (lists_of p words).free (lists_of p words).local_free whole same h in record {
      linked = linked p other _ _ k;
      shown = ap (λ (xs : List ℕ). let l : PageLists = record { free = xs; local_free = chain 512 (link_at p other) p.local; used = p.used } in l) (free-is p other _ _ k)
          ∙ ap (λ (xs : List ℕ). let l : PageLists = record { free = chain 512 (link_at p words) p.free; local_free = xs; used = p.used } in l) (local-is p other _ _ k);
    }

-- where they are equal but for the words of a used block
pub same_but_used : (p : Page) (words other : List ℕ) (index : ℕ) → IsLinked p words → IsUsed (lists_of p words) index → length other ≡ SEGMENT_WORDS
    → ((at : ℕ) → (at < start_of (shape_of p) index) ⊎ (start_of (shape_of p) index + p.size ≤ at) → slice_index other at ≡ slice_index words at) → Same p words other
same_but_used p words other index h is whole same =
    let there : index < length p.used = omega (arith, h.used index is, h.flags, h.count) in
    same_links p words other h whole (Each-weaker (λ y. index ≢ y) (λ i. link_at p other i ≡ link_at p words i) (listed (lists_of p words))
    (λ i ne. same (start_of (shape_of p) i) (⊎_elim (λ lt. inl lt)
    (λ ge. ⊎_elim (λ high. absurd (block_alone p.base p.size i index (start_of (shape_of p) i) (λ e. ne (sym e)) ge high refl)) (λ out. inr out) (cases_lt (start_of (shape_of p) i) (start_of (shape_of p) index + p.size)))
    (cases_lt (start_of (shape_of p) i) (start_of (shape_of p) index))))
    (used_apart p index _ there is h.spare))

-- where they are equal on the page
pub same_in_page : (p : Page) (words other : List ℕ) → IsLinked p words → length other ≡ SEGMENT_WORDS → ((at : ℕ) → p.base ≤ at → at < p.base + 512 → slice_index other at ≡ slice_index words at) → Same p words other
same_in_page p words other h whole same = same_links p words other h whole
    (Each-weaker (IsSpare p) (λ i. link_at p other i ≡ link_at p words i) (listed (lists_of p words)) (λ i s. same (start_of (shape_of p) i) (omega arith) (block_begins_in_page p words i h s.0)) h.spare)

-- whatever they are, where no place is on a list
pub same_unlisted : (p : Page) (words other : List ℕ) → IsLinked p words → listed (lists_of p words) ≡ [] → length other ≡ SEGMENT_WORDS → Same p words other
same_unlisted p words other h none whole = same_links p words other h whole (subst (AllByRecursion (λ i. link_at p other i ≡ link_at p words i)) (sym none) tt)

-- a call on a page, which is linked after it, changes only first words of blocks that it lists then

-- no word outside the page
pub outside_kept : (p : Page) (before words : List ℕ) (at : ℕ) → IsLinked p words → KeepsOthers (shape_of p) (listed (lists_of p words)) before words
    → (at < p.base) ⊎ (p.base + 512 ≤ at) → slice_index words at ≡ slice_index before at
outside_kept p before words at h others out = others at (λ index on e.
    let low : p.base ≤ at = omega (arith, e) in
    let high : at < p.base + 512 = omega (arith, e, block_begins_in_page p words index h (listed_below p words index h on)) in
    ⊎_elim (λ lt. absurd (omega arith)) (λ ge. absurd (omega arith)) out)

-- no list of another page
pub other_page_kept : (p q : Page) (before words : List ℕ) → IsLinked p before → IsLinked q words → KeepsOthers (shape_of q) (listed (lists_of q words)) before words
    → (p.base + 512 ≤ q.base) ⊎ (q.base + 512 ≤ p.base) → Same p before words
other_page_kept p q before words h k others apart = same_in_page p before words h k.whole
    (λ at low high. outside_kept q before words at k others (⊎_elim (λ lt. inl (omega arith)) (λ ge. inr (omega arith)) apart))

-- no word of a block of this page that isn't listed, as a used one
pub block_kept : (p : Page) (before words : List ℕ) (index at : ℕ) → IsLinked p words → KeepsOthers (shape_of p) (listed (lists_of p words)) before words
    → ¬ Contains (listed (lists_of p words)) index → start_of (shape_of p) index ≤ at → at < start_of (shape_of p) index + p.size → slice_index words at ≡ slice_index before at
block_kept p before words index at h others off low high = others at (λ i on e.
    elim (cases_eq i index) [
      | inl same ↦ off (subst (Contains (listed (lists_of p words))) same on)
      | inr ne ↦ block_alone p.base p.size i index at ne low high e
    ])

pub used_block_kept : (p : Page) (before words : List ℕ) (index : ℕ) → IsLinked p words → KeepsOthers (shape_of p) (listed (lists_of p words)) before words
    → IsUsed (lists_of p words) index → length before ≡ SEGMENT_WORDS → block_of words (start_of (shape_of p) index) p.size ≡ block_of before (start_of (shape_of p) index) p.size
used_block_kept p before words index h others is whole =
    let ends = block_ends p words index h (h.used index is) in
    block_of-same before words (start_of (shape_of p) index) p.size (omega (arith, ends, whole)) (omega (arith, ends, h.whole))
    (λ at low high. block_kept p before words index at h others (used_unlisted p words index h is) low high)

-- no word of a block that lies outside this page
pub other_block_kept : (p : Page) (before words : List ℕ) (first size : ℕ) → IsLinked p words → KeepsOthers (shape_of p) (listed (lists_of p words)) before words
    → length before ≡ SEGMENT_WORDS → first + size ≤ SEGMENT_WORDS → (first + size ≤ p.base) ⊎ (p.base + 512 ≤ first) → block_of words first size ≡ block_of before first size
other_block_kept p before words first size h others whole inside out =
    block_of-same before words first size (omega (arith, whole)) (omega (arith, h.whole))
    (λ at low high. outside_kept p before words at h others (⊎_elim (λ lt. inl (omega arith)) (λ ge. inr (omega arith)) out))
