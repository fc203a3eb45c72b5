-- Words of an open block are written one after another.
use Rattle.std.proofs.Common.{◌≡◌, ℕ, ◌+◌, ◌*◌, ◌<◌, ◌≤◌, false, List, [], ◌∷◌, length, slice_set}
use Rattle.std.proofs.Common.{map, refl, ap, ◌∙◌, arith}
use Rattle.std.specs.Prelude.{Option, Some}
use Rattle.std.proofs.lemmas.List.{length-set}
use Rattle.hg_reserved.specs.Overlaid.{overlaid}
use Rattle.hg_page.specs.Links.{lists_of}
use Rattle.hg_page.specs.declared.page.Page.{Page}
use Rattle.hg_place.specs.declared.standing.Standing.{Standing}
use Rattle.hg_place.specs.Standings.{standing_at, is_home}
use Rattle.hg_segment.specs.Kept.{class_at}
use Rattle.hg_segment.specs.Blocks.{block_at, KeepsOtherBlocks}
use Rattle.hg_segment.specs.Right.{IsRight}
use Rattle.hg_segment.specs.WordWrites.{IsWordWritten, AreWordsWritten}
use Rattle.hg_segment.proofs.Written.{right, lists, written, blocks}

-- what the block has after words were written
pub block_after : (rs : List Standing) (classes : List (Option ℕ)) (page index at : ℕ)
    (values old new : List ℕ) → AreWordsWritten rs classes page index at values old new
    → block_at new classes page index ≡ overlaid (block_at old classes page index) at values
block_after rs classes page index at [] old new same =
    ap (λ (words : List ℕ). block_at words classes page index) same
block_after rs classes page index at (v ∷ vs) old new (mid, one, more) =
    block_after rs classes page index (at + 1) vs mid new more
    ∙ ap (λ (block : List ℕ). overlaid block (at + 1) vs) one.written

-- the other open blocks after words were written
pub others_after : (rs : List Standing) (classes : List (Option ℕ)) (page index at : ℕ)
    (values old new : List ℕ) → AreWordsWritten rs classes page index at values old new
    → KeepsOtherBlocks rs classes page index old new
others_after rs classes page index at [] old new same other i low below there ne =
    ap (λ (words : List ℕ). block_at words classes other i) same
others_after rs classes page index at (v ∷ vs) old new (mid, one, more) other i low below there ne =
    others_after rs classes page index (at + 1) vs mid new more other i low below there ne
    ∙ one.others other i low below there ne

module _ (g : ℕ) (rs : List Standing) (pages : List Page) (classes : List (Option ℕ))
    (cs : List ℕ) (page index : ℕ) where
  -- a right segment's words before and after words of a block were written, from one on
  pub record Writes (at : ℕ) (values old new : List ℕ) : Type 0 where
    pub run : AreWordsWritten rs classes page index at values old new
    pub right : IsRight g rs new pages classes cs
    pub lists : map (λ x. lists_of x new) pages ≡ map (λ x. lists_of x old) pages

  module _ (size : ℕ) (d : Page) (below : page < 16) (small : index < 512)
      (away : is_home (standing_at rs (page * 512 + index)) ≡ false)
      (class : class_at classes page ≡ Some size) where
    -- one word
    pub writes_one : (old : List ℕ) (from at value : ℕ) → from ≡ page * 512 + size * index + at
        → at < size → IsRight g rs old pages classes cs
        → IsWordWritten rs classes page index at value old (slice_set old from value)
        × IsRight g rs (slice_set old from value) pages classes cs
        × (map (λ x. lists_of x (slice_set old from value)) pages
        ≡ map (λ x. lists_of x old) pages)
    writes_one old from at value e lt h =
        rw e (
          record {
            written = written g rs old pages classes cs page index size at d h below small away
                class lt value;
            others = blocks g rs old pages classes cs page index size at d h below small away
                class lt value;
            all = length-set old (page * 512 + size * index + at) value;
          },
          right g rs old pages classes cs page index size at d h below small away class lt value,
          lists g rs old pages classes cs page index size at d h below small away class lt value,
        )

    -- words that stand from `from` on
    pub writes_many : (values old : List ℕ) (from at : ℕ)
        → from ≡ page * 512 + size * index + at → at + length values ≤ size
        → IsRight g rs old pages classes cs → Writes at values old (overlaid old from values)
    writes_many [] old from at e inside h = record { run = refl; right = h; lists = refl }
    writes_many (v ∷ vs) old from at e inside h =
        let one = writes_one old from at v e (omega (arith, inside)) h in
        let more = writes_many vs (slice_set old from v) (from + 1) (at + 1) (omega (arith, e))
        (omega (arith, inside)) one.1 in
        record {
          run = (slice_set old from v, one.0, more.run);
          right = more.right;
          lists = more.lists ∙ one.2;
        }
