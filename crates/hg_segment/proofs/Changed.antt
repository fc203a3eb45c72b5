-- What a segment keeps, where one page and the record of one of its places change.
use Rattle.std.proofs.Common.{◌≡◌, ◌≢◌, ℕ, ◌+◌, ◌*◌, ◌<◌, ◌≤◌, List, length, slice_index, slice_index_or, slice_set, map, refl, sym, ap, ◌∙◌, arith, subst, inl, inr, ◌⊎◌, get_or-set_other, get_or-set_same}
use Rattle.std.specs.Prelude.{Option, Some}
use Rattle.std.proofs.lemmas.Bool.{cases_eq, cases_lt}
use Rattle.std.proofs.lemmas.List.{length-set, length-map, get_or-map, ext_get_or}
use Rattle.hg_place.specs.declared.geometry.TheConstants.{SEGMENT_WORDS}
use Rattle.hg_page.specs.Shapes.{shape_of}
use Rattle.hg_page.specs.Links.{lists_of, IsLinked}
use Rattle.hg_page.specs.declared.page.Page.{Page}
use Rattle.hg_page.proofs.Frames.{same_in_page}
use Rattle.hg_place.specs.declared.standing.Standing.{Standing}
use Rattle.hg_place.specs.declared.standing.Standing.TheVariants.{Home}
use Rattle.hg_place.specs.Standings.{standing_at, standing_generation}
use Rattle.hg_segment.specs.Kept.{class_at, lists_at, no_lists}
use Rattle.hg_segment.specs.Charges.{charge_of}
use Rattle.hg_segment.specs.Right.{AreListsRight, IsPageRight, IsRight}
use Rattle.hg_segment.proofs.Turned.{page_turned, page_beside}
use Rattle.hg_segment.proofs.Beside.{KeepsPages, page_same}

-- each page, where page `page` is another and words outside it are the same
pub pages_changed : (g : ℕ) (rs new-rs : List Standing) (ws new : List ℕ) (pages : List Page) (classes new-classes : List (Option ℕ)) (page : ℕ) (q : Page)
    → length pages ≡ 16 → page < 16 → length new ≡ SEGMENT_WORDS
    → ((k : ℕ) → k < 16 → (d : Page) → IsPageRight g rs ws k (class_at classes k) (slice_index_or pages k d))
    → ((k : ℕ) → k ≢ page → class_at new-classes k ≡ class_at classes k)
    → KeepsPages classes ws new page
    → ((k i : ℕ) → k ≢ page → i < 512 → standing_at new-rs (k * 512 + i) ≡ standing_at rs (k * 512 + i))
    → IsPageRight g new-rs new page (class_at new-classes page) q
    → (k : ℕ) → k < 16 → (d : Page) → IsPageRight g new-rs new k (class_at new-classes k) (slice_index_or (slice_set pages page q) k d)
pages_changed g rs new-rs ws new pages classes new-classes page q long below whole each kept others records mine k lt d = elim (cases_eq k page) [
  | inl e ↦ rw (e, get_or-set_same pages page q d (omega arith)) mine
  | inr ne ↦ subst (λ (c : Option ℕ). IsPageRight g new-rs new k c (slice_index_or (slice_set pages page q) k d)) (sym (kept k ne))
      (subst (λ (p : Page). IsPageRight g new-rs new k (class_at classes k) p) (sym (get_or-set_other pages page k q d ne))
      (page_beside g rs new-rs ws new page k classes (slice_index_or pages k d) ne whole (each k lt d) others (λ i l. records k i ne l)))
]

-- generations stay at most the greatest
pub bounded_set : (g : ℕ) (rs : List Standing) (at : ℕ) (st : Standing) → at < length rs → standing_generation st ≤ g → ((k : ℕ) → standing_generation (standing_at rs k) ≤ g) → (k : ℕ) → standing_generation (standing_at (slice_set rs at st) k) ≤ g
bounded_set g rs at st inside low h k = elim (cases_eq k at) [
  | inl e ↦ rw (e, get_or-set_same rs at st (Home 0) inside) low
  | inr ne ↦ rw (get_or-set_other rs at k st (Home 0) ne) (h k)
]

-- the whole segment, where one place of one page changes
pub right_changed : (g : ℕ) (rs : List Standing) (ws new : List ℕ) (pages : List Page) (classes : List (Option ℕ)) (cs new-cs : List ℕ) (page index size : ℕ) (st : Standing) (p q : Page)
    → IsRight g rs ws pages classes cs → page < 16 → index < 512 → length rs ≡ 8192
    → class_at classes page ≡ Some size
    → p ≡ slice_index_or pages page p
    → IsLinked q new → shape_of q ≡ shape_of p
    → KeepsPages classes ws new page
    → AreListsRight g (slice_set rs (page * 512 + index) st) page (Some size) (lists_of q new)
    → standing_generation st ≤ g
    → length new-cs ≡ 64
    → ((tenant : ℕ) → tenant < 64 → slice_index new-cs tenant ≡ charge_of (slice_set rs (page * 512 + index) st) classes tenant)
    → IsRight g (slice_set rs (page * 512 + index) st) new (slice_set pages page q) classes new-cs
right_changed g rs ws new pages classes cs new-cs page index size st p q h below small long class is linked shape others lists low full charged =
    let mine : IsPageRight g rs ws page (Some size) p = subst (λ (c : Option ℕ). IsPageRight g rs ws page c p) class
    (subst (λ (x : Page). IsPageRight g rs ws page (class_at classes page) x) (sym is) (h.each page below p)) in
    let at = page * 512 + index in
    record {
      pages_all = length-set pages page q ∙ h.pages_all;
      classes_all = h.classes_all;
      charges_all = full;
      each = pages_changed g rs (slice_set rs at st) ws new pages classes classes page q h.pages_all below linked.whole h.each (λ k ne. refl) others
          (λ k i ne l. get_or-set_other rs at (k * 512 + i) st (Home 0) (λ e. ne (omega (arith, e, l, small))))
          (subst (λ (c : Option ℕ). IsPageRight g (slice_set rs at st) new page c q) (sym class) (page_turned g rs (slice_set rs at st) ws new page size p q mine linked shape lists));
      runs = h.runs;
      bounded = bounded_set g rs at st (omega (arith, long, below, small)) low h.bounded;
      charged = charged;
    }

-- what callers see of the lists

pub list_is : (ws : List ℕ) (pages : List Page) (page : ℕ) (p : Page) → page < length pages → p ≡ slice_index_or pages page p → lists_at (map (λ p. lists_of p ws) pages) page ≡ lists_of p ws
list_is ws pages page p lt is = get_or-map (λ (x : Page). lists_of x ws) pages page p no_lists lt ∙ ap (λ (x : Page). lists_of x ws) (sym is)

-- one list has changed
pub lists_set : (ws new : List ℕ) (pages : List Page) (page : ℕ) (p q : Page)
    → ((k : ℕ) → k < length pages → k ≢ page → lists_of (slice_index_or pages k p) new ≡ lists_of (slice_index_or pages k p) ws)
    → map (λ x. lists_of x new) (slice_set pages page q) ≡ slice_set (map (λ x. lists_of x ws) pages) page (lists_of q new)
lists_set ws new pages page p q same =
    let left = map (λ (x : Page). lists_of x new) (slice_set pages page q) in
    let right = slice_set (map (λ (x : Page). lists_of x ws) pages) page (lists_of q new) in
    let long-left : length left ≡ length pages = length-map (slice_set pages page q) (λ (x : Page). lists_of x new) ∙ length-set pages page q in
    let long-old : length (map (λ (x : Page). lists_of x ws) pages) ≡ length pages = length-map pages (λ (x : Page). lists_of x ws) in
    let long-right : length right ≡ length pages = length-set (map (λ (x : Page). lists_of x ws) pages) page (lists_of q new) ∙ long-old in
    ext_get_or no_lists left right (long-left ∙ sym long-right) (λ k lt.
    let below : k < length pages = omega (arith, lt, long-left) in
    let long : length (slice_set pages page q) ≡ length pages = length-set pages page q in
    get_or-map (λ (x : Page). lists_of x new) (slice_set pages page q) k p no_lists (omega (arith, below, long))
    ∙ elim (cases_eq k page) [
      | inl e ↦ rw e (ap (λ (x : Page). lists_of x new) (get_or-set_same pages page q p (omega (arith, below, e)))
          ∙ sym (get_or-set_same (map (λ (x : Page). lists_of x ws) pages) page (lists_of q new) no_lists (omega (arith, below, e, long-old))))
      | inr ne ↦ ap (λ (x : Page). lists_of x new) (get_or-set_other pages page k q p ne) ∙ (same k below ne
          ∙ sym (get_or-set_other (map (λ (x : Page). lists_of x ws) pages) page k (lists_of q new) no_lists ne
          ∙ get_or-map (λ (x : Page). lists_of x ws) pages k p no_lists below))
    ])

-- other pages' lists, where words outside one page are the same
pub others_shown : (g : ℕ) (rs : List Standing) (ws new : List ℕ) (pages : List Page) (classes : List (Option ℕ)) (cs : List ℕ) (page : ℕ) (p : Page)
    → IsRight g rs ws pages classes cs → length new ≡ SEGMENT_WORDS
    → KeepsPages classes ws new page
    → (k : ℕ) → k < length pages → k ≢ page → lists_of (slice_index_or pages k p) new ≡ lists_of (slice_index_or pages k p) ws
others_shown g rs ws new pages classes cs page p h whole others k lt ne =
    (page_same g rs ws new k (class_at classes k) (slice_index_or pages k p) (h.each k (omega (arith, lt, h.pages_all)) p) whole (others k ne)).shown
