-- A page loses its class, or gets one.
use Rattle.std.proofs.Common.{◌≡◌, ◌≢◌, ℕ, ◌+◌, ◌*◌, ◌/◌, ◌%◌, ◌<◌, ◌≤◌, Bool, true, false, not, List, [], length, slice_index, slice_index_or, slice_set, map, refl, sym, ap, ◌∙◌, arith, subst, inl, inr, ◌⊎◌, get_or-set_other, get_or-set_same}
use Rattle.std.specs.Prelude.{Option, Some, None}
use Rattle.std.proofs.lemmas.Bool.{cases_eq, cases_lt}
use Rattle.std.proofs.lemmas.List.{length-set, get_or_past, get_or_default}
use Rattle.std.specs.Option.{is_some}
use Rattle.hg_place.specs.declared.geometry.TheConstants.{SEGMENT_WORDS}
use Rattle.hg_page.specs.Shapes.{shape_of}
use Rattle.hg_page.specs.PageLists.{PageLists, listed, IsIdle, freed}
use Rattle.hg_page.specs.Links.{lists_of, IsLinked}
use Rattle.hg_page.specs.declared.page.Page.{Page}
use Rattle.hg_place.specs.declared.standing.Standing.{Standing}
use Rattle.hg_place.specs.Standings.{standing_at, is_home}
use Rattle.hg_segment.specs.Kept.{class_at, lists_at}
use Rattle.hg_segment.specs.Charges.{charge_of}
use Rattle.hg_segment.specs.Retires.{IsIdlePage}
use Rattle.hg_segment.specs.Right.{IsPageRight, IsRight}
use Rattle.std.proofs.lemmas.Option.{none-some}
use Rattle.hg_size.specs.Runs.{AreRuns}
use Rattle.hg_size.proofs.Covers.{runs_fewer}
use Rattle.hg_segment.proofs.Beside.{KeepsPages}
use Rattle.hg_segment.proofs.Changed.{pages_changed, lists_set, list_is}
use Rattle.hg_segment.proofs.Charged.{charge_kept}
use Rattle.hg_segment.proofs.Empties.{lists_empty}

not_true : (b : Bool) → false ≡ not b → b ≡ true
not_true true e = refl
not_true false e = absurd (cc)

-- nothing is used exactly where all places are home
pub idle_home : (g : ℕ) (rs : List Standing) (ws : List ℕ) (page : ℕ) (class : Option ℕ) (p : Page) → IsPageRight g rs ws page class p → IsIdle (lists_of p ws) → IsIdlePage rs page
idle_home g rs ws page class p h idle index lt = not_true (is_home (standing_at rs (page * 512 + index))) (sym (idle index) ∙ h.lists.used index lt)

pub home_idle : (g : ℕ) (rs : List Standing) (ws : List ℕ) (page : ℕ) (class : Option ℕ) (p : Page) → IsPageRight g rs ws page class p → IsIdlePage rs page → IsIdle (lists_of p ws)
home_idle g rs ws page class p h home index = elim (cases_lt index 512) [
  | inl lt ↦ h.lists.used index lt ∙ ap not (home index lt)
  | inr ge ↦ get_or_past (lists_of p ws).used index false (omega (arith, ge, h.linked.flags))
]

-- charges are the same where the class of a page without open places changes
pub charge_same : (rs : List Standing) (classes : List (Option ℕ)) (page : ℕ) (class : Option ℕ) (tenant : ℕ) → IsIdlePage rs page → charge_of rs (slice_set classes page class) tenant ≡ charge_of rs classes tenant
charge_same rs classes page class tenant home = charge_kept rs classes (slice_set classes page class) tenant (λ at lt. elim (cases_eq (at / 512) page) [
  | inl e ↦ inl (subst (λ (k : ℕ). is_home (standing_at rs k) ≡ true) (let f : page * 512 + at % 512 ≡ at = omega (arith, e) in f) (home (at % 512) (omega arith)))
  | inr ne ↦ inr (get_or-set_other classes page (at / 512) class None ne)
])

-- the segment, where a page without open places has another class
pub right_assigned : (g : ℕ) (rs : List Standing) (ws new : List ℕ) (pages : List Page) (classes : List (Option ℕ)) (cs : List ℕ) (page : ℕ) (class : Option ℕ) (q : Page)
    → IsRight g rs ws pages classes cs → page < 16 → IsIdlePage rs page → length new ≡ SEGMENT_WORDS
    → KeepsPages classes ws new page
    → AreRuns (class_at (slice_set classes page class))
    → IsPageRight g rs new page class q
    → IsRight g rs new (slice_set pages page q) (slice_set classes page class) cs
right_assigned g rs ws new pages classes cs page class q h below home whole out runs mine = record {
  runs = runs;
  pages_all = length-set pages page q ∙ h.pages_all;
  classes_all = length-set classes page class ∙ h.classes_all;
  charges_all = h.charges_all;
  each = pages_changed g rs rs ws new pages classes (slice_set classes page class) page q h.pages_all below whole h.each
      (λ k ne. get_or-set_other classes page k class None ne) out (λ k i ne l. refl)
      (subst (λ (c : Option ℕ). IsPageRight g rs new page c q) (sym (get_or-set_same classes page class None (omega (arith, below, h.classes_all)))) mine);
  bounded = h.bounded;
  charged = λ t lt. h.charged t lt ∙ sym (charge_same rs classes page class t home);
}

-- a page that retires
pub page_retired : (g : ℕ) (rs : List Standing) (ws : List ℕ) (page : ℕ) (class : Option ℕ) (p q : Page) → IsPageRight g rs ws page class p → IsIdle (lists_of p ws)
    → IsLinked q ws → lists_of q ws ≡ freed (lists_of p ws) [] → shape_of q ≡ shape_of p → IsPageRight g rs ws page None q
page_retired g rs ws page class p q h idle linked shown shape =
    let now-idle : IsIdle (lists_of q ws) = subst IsIdle (sym shown) idle in record {
      linked = linked;
      base = ap (λ s. s.base) shape ∙ h.base;
      shape = tt;
      unused = now-idle;
      lists = lists_empty g rs page (lists_of q ws) (ap listed shown) now-idle (idle_home g rs ws page class p h idle);
    }

-- a class fewer
runs_retired : (classes : List (Option ℕ)) (page : ℕ) → page < length classes
    → AreRuns (class_at classes) → AreRuns (class_at (slice_set classes page None))
runs_retired classes page below = runs_fewer (class_at classes) _ (λ k n e.
    elim (cases_eq k page) as (λ _. class_at classes k ≡ Some n) [
      | inl same ↦ absurd (none-some n (sym (ap (class_at (slice_set classes page None)) same
          ∙ get_or-set_same classes page None None below) ∙ e))
      | inr ne ↦ sym (get_or-set_other classes page k None None ne) ∙ e
    ])

some_not : (found : Option ℕ) (b : Bool) → is_some found ≡ not b → b ≡ false → found ≢ None
some_not None b e f n = let g : false ≡ true = e ∙ ap not f in cc
some_not (Some x) b e f n = cc

-- the class that was read is one
pub class_some : (classes : List (Option ℕ)) (page : ℕ) (found : Option ℕ) (b : Bool) → found ≡ class_at classes page → is_some found ≡ not b → b ≡ false → class_at classes page ≢ None
class_some classes page found b is e f n = some_not found b e f (is ∙ n)

-- the page that was read
pub page_read : (g : ℕ) (rs : List Standing) (ws : List ℕ) (pages : List Page) (classes : List (Option ℕ)) (cs : List ℕ) (page : ℕ) (p : Page) → IsRight g rs ws pages classes cs → page < 16 → p ≡ slice_index_or pages page p → IsPageRight g rs ws page (class_at classes page) p
page_read g rs ws pages classes cs page p h below is = subst (λ (x : Page). IsPageRight g rs ws page (class_at classes page) x) (sym is) (h.each page below p)

same_page : (pages : List Page) (page : ℕ) (p r : Page) → page < length pages → p ≡ slice_index_or pages page p → r ≡ slice_index_or pages page r → r ≡ p
same_page pages page p r lt is was = was ∙ (get_or_default pages page r p lt ∙ sym is)

pub record Retiring (g : ℕ) (rs : List Standing) (ws : List ℕ) (pages new-pages : List Page) (classes : List (Option ℕ)) (cs : List ℕ) (page : ℕ) : Type 0 where
  pub idle : IsIdlePage rs page
  pub right : IsRight g rs ws new-pages (slice_set classes page None) cs
  pub lists : map (λ x. lists_of x ws) new-pages ≡ slice_set (map (λ x. lists_of x ws) pages) page (freed (lists_at (map (λ x. lists_of x ws) pages) page) [])

pub retiring : (g : ℕ) (rs : List Standing) (ws : List ℕ) (pages : List Page) (classes : List (Option ℕ)) (cs : List ℕ) (page : ℕ) (p q r : Page) → IsRight g rs ws pages classes cs → page < 16
    → r ≡ slice_index_or pages page r → IsIdle (lists_of r ws) → p ≡ slice_index_or pages page p
    → IsLinked q ws → lists_of q ws ≡ freed (lists_of p ws) [] → shape_of q ≡ shape_of p
    → Retiring g rs ws pages (slice_set pages page q) classes cs page
retiring g rs ws pages classes cs page p q r h below was idle is linked shown shape =
    let in-range : page < length pages = omega (arith, below, h.pages_all) in
    let mine = page_read g rs ws pages classes cs page p h below is in
    let idle-here : IsIdle (lists_of p ws) = subst (λ (x : Page). IsIdle (lists_of x ws)) (same_page pages page p r in-range is was) idle in
    let home = idle_home g rs ws page (class_at classes page) p mine idle-here in record {
      idle = home;
      right = right_assigned g rs ws ws pages classes cs page None q h below home linked.whole
          (λ k ne. inr (λ w l r. refl))
          (runs_retired classes page (omega (arith, below, h.classes_all)) h.runs)
          (page_retired g rs ws page (class_at classes page) p q mine idle-here linked shown shape);
      lists = lists_set ws ws pages page p q (λ k lt ne. refl) ∙ ap (slice_set (map (λ x. lists_of x ws) pages) page) (shown ∙ ap (λ (l : PageLists). freed l []) (sym (list_is ws pages page p in-range is)));
    }
