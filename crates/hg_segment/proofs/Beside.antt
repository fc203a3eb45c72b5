-- Pages whose blocks lie beside those of one page, over as many pages as these take.
use Rattle.std.proofs.Common.{◌≡◌, ◌≢◌, ℕ, ◌+◌, ◌*◌, ◌/◌, ◌%◌, ◌<◌, ◌≤◌, true, List, length, slice_index, refl, sym, ap, ◌∙◌, arith, inl, inr, ◌⊎◌, ⊎_elim}
use Rattle.std.specs.Prelude.{Option, Some, None}
use Rattle.std.proofs.lemmas.Bool.{cases_lt}
use Rattle.std.proofs.lemmas.Option.{none-some}
use Rattle.hg_place.specs.declared.geometry.TheConstants.{SEGMENT_WORDS}
use Rattle.hg_size.specs.Sizes.{pages_of}
use Rattle.hg_size.specs.Runs.{AreRuns, may_begin}
use Rattle.hg_size.proofs.Covers.{begins, uncovered, runs_apart}
use Rattle.hg_page.specs.declared.page.Page.{Page}
use Rattle.hg_page.proofs.Frames.{Same, same_in_page, same_unlisted}
use Rattle.hg_place.specs.declared.standing.Standing.{Standing}
use Rattle.hg_segment.specs.Kept.{class_at}
use Rattle.hg_segment.specs.Right.{IsPageRight}

-- the blocks of another page end before these pages, or begin behind them
abbrev pub AreBeside : List (Option ℕ) → ℕ → ℕ → Type 0
AreBeside classes page count =
    (k n : ℕ) → k ≢ page → class_at classes k ≡ Some n
    → (k + pages_of n ≤ page) ⊎ (page + count ≤ k)

-- so it is for a page that has a class
pub beside_classed : (classes : List (Option ℕ)) (page size : ℕ) → AreRuns (class_at classes)
    → class_at classes page ≡ Some size → AreBeside classes page (pages_of size)
beside_classed classes page size runs is k n ne e =
    elim (cases_lt k page) as (λ _. (k + pages_of n ≤ page) ⊎ (page + pages_of size ≤ k)) [
      | inl lt ↦
          inl (runs_apart (class_at classes) k page n runs e lt (λ z. none-some size (sym z ∙ is)))
      | inr ge ↦ inr (runs_apart (class_at classes) page k size runs is (omega (arith, ge, ne))
          (λ z. none-some n (sym z ∙ e)))
    ]

-- and for one that may get one
pub beside_begun : (classes : List (Option ℕ)) (page size : ℕ) → page < 16
    → may_begin (class_at classes) size page ≡ true → AreBeside classes page (pages_of size)
beside_begun classes page size below e k n ne is =
    let m = begins (class_at classes) size page e in
    elim (cases_lt k page) as (λ _. (k + pages_of n ≤ page) ⊎ (page + pages_of size ≤ k)) [
      | inl lt ↦ inl (uncovered (class_at classes) page k n
          (m.uncovered page (omega arith) (omega arith)) is lt (omega (arith, lt, below)))
      | inr ge ↦ elim (cases_lt k (page + pages_of size))
          as (λ _. (k + pages_of n ≤ page) ⊎ (page + pages_of size ≤ k)) [
            | inl within ↦ absurd (none-some n (sym (m.none k ge within) ∙ is))
            | inr past ↦ inr past
          ]
    ]

-- the words of a page are those that they were
abbrev pub KeepsWords : List ℕ → List ℕ → ℕ → Type 0
KeepsWords ws new k =
    (w : ℕ) → k * 512 ≤ w → w < k * 512 + 512 → slice_index new w ≡ slice_index ws w

-- each other page has no class, or the words that it had
abbrev pub KeepsPages : List (Option ℕ) → List ℕ → List ℕ → ℕ → Type 0
KeepsPages classes ws new page =
    (k : ℕ) → k ≢ page → (class_at classes k ≡ None) ⊎ KeepsWords ws new k

pub kept_pages : (classes : List (Option ℕ)) (ws new : List ℕ) (page count : ℕ)
    → AreBeside classes page count
    → ((w : ℕ) → (w < page * 512) ⊎ (page * 512 + count * 512 ≤ w)
    → slice_index new w ≡ slice_index ws w)
    → KeepsPages classes ws new page
kept_pages classes ws new page count beside out k ne = go (class_at classes k) refl
  where
    go : (o : Option ℕ) → class_at classes k ≡ o
        → (class_at classes k ≡ None) ⊎ KeepsWords ws new k
    go None e = inl e
    go (Some n) e = inr (λ w low high. out w
        (elim (beside k n ne e) as (λ _. (w < page * 512) ⊎ (page * 512 + count * 512 ≤ w)) [
          | inl before ↦ inl (omega (arith, before, ne, high))
          | inr behind ↦ inr (omega (arith, behind, low))
        ]))

-- its lists are the same
pub page_same : (g : ℕ) (rs : List Standing) (ws new : List ℕ) (k : ℕ) (class : Option ℕ) (p : Page)
    → IsPageRight g rs ws k class p → length new ≡ SEGMENT_WORDS
    → (class ≡ None) ⊎ KeepsWords ws new k → Same p ws new
page_same g rs ws new k None p h whole (inl e) = same_unlisted p ws new h.linked h.lists.all whole
page_same g rs ws new k (Some n) p h whole (inl e) = absurd (none-some n (sym e))
page_same g rs ws new k class p h whole (inr same) =
    same_in_page p ws new h.linked whole
    (λ w low high. same w (omega (arith, low, h.base)) (omega (arith, high, h.base)))
