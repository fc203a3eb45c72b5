-- One index of a page changes.
use Rattle.std.proofs.Common.{◌≡◌, ◌≢◌, ℕ, ◌+◌, ◌*◌, ◌<◌, ◌≤◌, Bool, true, false, not, List, length, slice_index, slice_index_or, slice_set, sym, ap, ◌∙◌, arith, subst, inl, inr, ⊎_elim, ◌⊎◌, get_or-set_other, get_or-set_same}
use Rattle.std.specs.Prelude.{Contains, Option, Some, None}
use Rattle.std.proofs.lemmas.Bool.{cases_eq, cases_lt}
use Rattle.std.proofs.Math.Nat.{div-le_self}
use Rattle.hg_place.specs.declared.geometry.TheConstants.{SEGMENT_WORDS}
use Rattle.hg_size.specs.Sizes.{places_of}
use Rattle.hg_size.proofs.Table.{places_small}
use Rattle.hg_lists.specs.Repeats.{HasNoRepeats}
use Rattle.hg_page.specs.Shapes.{shape_of}
use Rattle.hg_page.specs.PageLists.{PageLists, listed, Pops}
use Rattle.hg_page.specs.Links.{lists_of, IsLinked}
use Rattle.hg_page.specs.declared.page.Page.{Page}
use Rattle.hg_page.proofs.Changes.{used-popped_other, Contains-popped, popped_cases, unused_other, pushed_cases, Contains-pushed}
use Rattle.hg_page.proofs.Frames.{Same, same_in_page}
use Rattle.hg_place.specs.declared.standing.Standing.{Standing}
use Rattle.hg_place.specs.declared.standing.Standing.TheVariants.{Home}
use Rattle.hg_place.specs.Standings.{standing_at, is_home}
use Rattle.hg_segment.specs.Kept.{refilled, returned, class_at}
use Rattle.hg_segment.proofs.Beside.{KeepsPages, page_same}
use Rattle.hg_segment.specs.Right.{is_vacant, HasVacant, AreListsRight, IsUnused, IsPageRight}
use Rattle.hg_segment.proofs.Heads.{listed-refilled, used-refilled}

-- lists that differ at one index
pub record Turns (index : ℕ) (old new : PageLists) : Type 0 where
  pub used : (other : ℕ) → other ≢ index → slice_index_or new.used other false ≡ slice_index_or old.used other false
  pub kept : (other : ℕ) → other ≢ index → Contains (listed new) other → Contains (listed old) other
  pub left : (other : ℕ) → other ≢ index → Contains (listed old) other → Contains (listed new) other

pub turns_popped : (index : ℕ) (old new : PageLists) → Pops index (refilled old) new → Turns index old new
turns_popped index old new h = record {
  used = λ other ne. used-popped_other index other (refilled old) new h ne ∙ ap (λ (u : List Bool). slice_index_or u other false) (used-refilled old);
  kept = λ other ne c. subst (λ (xs : List ℕ). Contains xs other) (listed-refilled old) (Contains-popped index other (refilled old) new h c);
  left = λ other ne c. ⊎_elim (λ e. absurd (ne e)) (λ r. r) (popped_cases index other (refilled old) new h (subst (λ (xs : List ℕ). Contains xs other) (sym (listed-refilled old)) c));
}

pub turns_returned : (worn : Bool) (index : ℕ) (old : PageLists) → Turns index old (returned worn old index)
turns_returned true index old = record {
  used = λ other ne. unused_other index other old ne;
  kept = λ other ne c. c;
  left = λ other ne c. c;
}
turns_returned false index old = record {
  used = λ other ne. unused_other index other old ne;
  kept = λ other ne c. ⊎_elim (λ e. absurd (ne e)) (λ r. r) (pushed_cases index other old c);
  left = λ other ne c. Contains-pushed index other old c;
}

-- the lists of the page stay right
pub turned : (g : ℕ) (rs : List Standing) (page index : ℕ) (st : Standing) (size : ℕ) (old new : PageLists)
    → AreListsRight g rs page (Some size) old → index < 512 → page * 512 + index < length rs
    → HasNoRepeats (listed new) → Turns index old new
    → slice_index_or new.used index false ≡ not (is_home st)
    → (Contains (listed new) index → is_vacant g st ≡ true)
    → (is_vacant g st ≡ true → Contains (listed new) index)
    → AreListsRight g (slice_set rs (page * 512 + index) st) page (Some size) new
turned g rs page index st size old new h below inside once turns used on off =
    let here : standing_at (slice_set rs (page * 512 + index) st) (page * 512 + index) ≡ st = get_or-set_same rs (page * 512 + index) st (Home 0) inside in
    let there : (i : ℕ) → i ≢ index → standing_at (slice_set rs (page * 512 + index) st) (page * 512 + i) ≡ standing_at rs (page * 512 + i) =
    λ i ne. get_or-set_other rs (page * 512 + index) (page * 512 + i) st (Home 0) (λ e. ne (omega (arith, e))) in record {
      once = once;
      vacant = λ i c. elim (cases_eq i index) [
        | inl e ↦ record {
          below = omega (arith, e);
          vacant = rw e (subst (λ (s : Standing). is_vacant g s ≡ true) (sym here) (on (subst (λ (j : ℕ). Contains (listed new) j) e c)));
        }
        | inr ne ↦ (let k = h.vacant i (turns.kept i ne c) in record {
          below = k.below;
          vacant = subst (λ (s : Standing). is_vacant g s ≡ true) (sym (there i ne)) k.vacant;
        })
      ];
      all = λ i lt v. elim (cases_eq i index) [
        | inl e ↦ rw e (off (subst (λ (s : Standing). is_vacant g s ≡ true) here (subst (λ (j : ℕ). is_vacant g (standing_at (slice_set rs (page * 512 + index) st) (page * 512 + j)) ≡ true) e v)))
        | inr ne ↦ turns.left i ne (h.all i lt (subst (λ (s : Standing). is_vacant g s ≡ true) (there i ne) v))
      ];
      used = λ i lt. elim (cases_eq i index) [
        | inl e ↦ rw e (used ∙ ap (λ (s : Standing). not (is_home s)) (sym here))
        | inr ne ↦ turns.used i ne ∙ (h.used i lt ∙ ap (λ (s : Standing). not (is_home s)) (sym (there i ne)))
      ];
    }

-- the page stays right
pub page_turned : (g : ℕ) (rs new-rs : List Standing) (ws new : List ℕ) (page size : ℕ) (p q : Page)
    → IsPageRight g rs ws page (Some size) p → IsLinked q new → shape_of q ≡ shape_of p
    → AreListsRight g new-rs page (Some size) (lists_of q new)
    → IsPageRight g new-rs new page (Some size) q
page_turned g rs new-rs ws new page size p q h k e l = record {
  linked = k;
  base = ap (λ s. s.base) e ∙ h.base;
  shape = (h.shape.0, ap (λ s. s.size) e ∙ h.shape.1, ap (λ s. s.places) e ∙ h.shape.2);
  unused = tt;
  lists = l;
}

vacant_kept : (g : ℕ) (rs new-rs : List Standing) (page : ℕ) (lists : PageLists)
    → ((i : ℕ) → i < 512 → standing_at new-rs (page * 512 + i) ≡ standing_at rs (page * 512 + i))
    → (class : Option ℕ) → HasVacant g rs page lists class → HasVacant g new-rs page lists class
vacant_kept g rs new-rs page lists e None f = f
vacant_kept g rs new-rs page lists e (Some size) f = λ i lt v. f i lt (subst (λ (s : Standing). is_vacant g s ≡ true) (e i (omega (arith, places_small size, lt))) v)

-- lists stay right where the records of the page's places are the same
pub lists_kept : (g : ℕ) (rs new-rs : List Standing) (page : ℕ) (class : Option ℕ) (lists : PageLists)
    → ((i : ℕ) → i < 512 → standing_at new-rs (page * 512 + i) ≡ standing_at rs (page * 512 + i))
    → AreListsRight g rs page class lists → AreListsRight g new-rs page class lists
lists_kept g rs new-rs page class lists e h = record {
  once = h.once;
  vacant = λ i c. let k = h.vacant i c in record {
    below = k.below;
    vacant = subst (λ (s : Standing). is_vacant g s ≡ true) (sym (e i k.below)) k.vacant;
  };
  all = vacant_kept g rs new-rs page lists e class h.all;
  used = λ i lt. h.used i lt ∙ ap (λ (s : Standing). not (is_home s)) (sym (e i lt));
}

-- so does a page whose words show the same
pub page_kept : (g : ℕ) (rs new-rs : List Standing) (ws new : List ℕ) (page : ℕ) (class : Option ℕ) (p : Page)
    → IsPageRight g rs ws page class p → Same p ws new
    → ((i : ℕ) → i < 512 → standing_at new-rs (page * 512 + i) ≡ standing_at rs (page * 512 + i))
    → IsPageRight g new-rs new page class p
page_kept g rs new-rs ws new page class p h s e = record {
  linked = s.linked;
  base = h.base;
  shape = h.shape;
  unused = subst (λ (l : PageLists). IsUnused l class) (sym s.shown) h.unused;
  lists = subst (λ (l : PageLists). AreListsRight g new-rs page class l) (sym s.shown) (lists_kept g rs new-rs page class (lists_of p ws) e h.lists);
}

-- words that are the same but on one page show the other pages' lists
pub page_beside : (g : ℕ) (rs new-rs : List Standing) (ws new : List ℕ) (page k : ℕ) (classes : List (Option ℕ)) (p : Page)
    → k ≢ page → length new ≡ SEGMENT_WORDS → IsPageRight g rs ws k (class_at classes k) p
    → KeepsPages classes ws new page
    → ((i : ℕ) → i < 512 → standing_at new-rs (k * 512 + i) ≡ standing_at rs (k * 512 + i))
    → IsPageRight g new-rs new k (class_at classes k) p
page_beside g rs new-rs ws new page k classes p ne whole h others e =
    page_kept g rs new-rs ws new k (class_at classes k) p h (page_same g rs ws new k (class_at classes k) p h whole (others k ne)) e
