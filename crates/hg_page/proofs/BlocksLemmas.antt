-- Where blocks lie, and which words they share: none.
use Rattle.std.proofs.Common.{◌≢◌, ℕ, ◌+◌, ◌*◌, ◌<◌, ◌≤◌, List, arith, ◌⊎◌, inl, inr, ⊎_elim}
use Rattle.std.proofs.lemmas.Bool.{cases_lt}
use Rattle.std.proofs.Math.Nat.{mul-le-mul_left}
use Rattle.hg_size.specs.Sizes.{pages_of}
use Rattle.hg_page.specs.declared.page.Page.{Page}
use Rattle.hg_page.specs.Shapes.{Shape, shape_of, start_of}
use Rattle.hg_page.specs.PageLists.{IsUsed}
use Rattle.hg_page.specs.Links.{lists_of, IsLinked}
use Rattle.hg_page.specs.Blocks.{IsInBlock, IsPage, EndsBefore}

-- a block that there is ends in its pages
pub block_in_page : (p : Page) (words : List ℕ) (index : ℕ) → IsLinked p words → index < p.places → start_of (shape_of p) index + p.size ≤ p.base + pages_of p.size * 512
block_in_page p words index h below = omega (arith, mul-le-mul_left p.size (let more : index + 1 ≤ p.places = omega arith in more), h.fits)

-- so does a used one
pub used_block_in_page : (p : Page) (words : List ℕ) (index : ℕ) → IsLinked p words → IsUsed (lists_of p words) index → start_of (shape_of p) index + p.size ≤ p.base + pages_of p.size * 512
used_block_in_page p words index h is = block_in_page p words index h (h.used index is)

-- a word of a block lies before another block of its page, or behind it
pub blocks_apart : (shape : Shape) (index other at : ℕ) → index ≢ other → IsInBlock shape index at → (at < start_of shape other) ⊎ (start_of shape other + shape.size ≤ at)
blocks_apart shape index other at ne in_it = elim (cases_lt index other) [
  | inl lt ↦ (let k : shape.size * (index + 1) ≤ shape.size * other = mul-le-mul_left shape.size (let more : index + 1 ≤ other = omega arith in more) in inl (omega (arith, k, in_it.high)))
  | inr ge ↦ (let k : shape.size * (other + 1) ≤ shape.size * index = mul-le-mul_left shape.size (let more : other + 1 ≤ index = omega (arith, ge, ne) in more) in inr (omega (arith, k, in_it.low)))
]

pub blocks_share_no_word : (shape : Shape) (index other at : ℕ) → index ≢ other → IsInBlock shape index at → ¬ IsInBlock shape other at
blocks_share_no_word shape index other at ne in_it in_other = ⊎_elim (λ before. omega (arith, before, in_other.low)) (λ behind. omega (arith, behind, in_other.high)) (blocks_apart shape index other at ne in_it)

-- a word of a used block lies in its pages
pub word_in_page : (p : Page) (words : List ℕ) (number index at : ℕ) → IsLinked p words → IsPage p number → IsUsed (lists_of p words) index → IsInBlock (shape_of p) index at → (number * 512 ≤ at) × (at < (number + pages_of p.size) * 512)
word_in_page p words number index at h base is in_it = (omega (arith, base, in_it.low), omega (arith, base, in_it.high, used_block_in_page p words index h is))

pub pages_share_no_word : (p q : Page) (words : List ℕ) (number other i j at : ℕ) → IsLinked p words → IsLinked q words → IsPage p number → IsPage q other → EndsBefore p number other ⊎ EndsBefore q other number → IsUsed (lists_of p words) i → IsUsed (lists_of q words) j → IsInBlock (shape_of p) i at → ¬ IsInBlock (shape_of q) j at
pages_share_no_word p q words number other i j at h k base behind before used_i used_j in_i in_j =
    let a = word_in_page p words number i at h base used_i in_i in
    let b = word_in_page q words other j at k behind used_j in_j in
    ⊎_elim (λ first. omega (arith, a.0, a.1, b.0, b.1, first)) (λ second. omega (arith, a.0, a.1, b.0, b.1, second)) before
