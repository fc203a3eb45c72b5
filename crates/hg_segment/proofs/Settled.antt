-- What callers are told of what a segment keeps.
use Rattle.std.proofs.Common.{◌≡◌, ℕ, ◌<◌, List, [], length, slice_index_or, map, ◌+◌, ◌*◌, false, refl, sym, ap, ◌∙◌, arith, subst, inl, inr}
use Rattle.std.specs.Prelude.{Contains, Option, Some, None}
use Rattle.std.proofs.lemmas.Bool.{cases_lt}
use Rattle.std.proofs.lemmas.List.{get_or-map, get_or_past}
use Rattle.hg_size.specs.Sizes.{sizes}
use Rattle.hg_page.specs.PageLists.{PageLists, listed}
use Rattle.hg_page.specs.Links.{lists_of}
use Rattle.hg_page.specs.declared.page.Page.{Page}
use Rattle.hg_page.proofs.Frames.{used_below, listed_below}
use Rattle.hg_place.specs.declared.standing.Standing.{Standing}
use Rattle.hg_place.specs.Standings.{standing_at, is_home}
use Rattle.hg_segment.specs.Kept.{class_at, lists_at, no_lists}
use Rattle.hg_words.proofs.Ranges.{length-block_of}
use Rattle.hg_segment.specs.Blocks.{block_at, block_of_class}
use Rattle.hg_segment.specs.Right.{AreListsRight, IsBlockPlace, IsPageRight, IsRight}
use Rattle.hg_segment.proofs.KeptBlocks.{any_page, no_class, open_used, open_inside}

module _ (g : ℕ) (rs : List Standing) (ws : List ℕ) (pages : List Page) (classes : List (Option ℕ)) (cs : List ℕ) (h : IsRight g rs ws pages classes cs) where
  pub lists : (page : ℕ) → page < 16 → AreListsRight g rs page (class_at classes page) (lists_at (map (λ x. lists_of x ws) pages) page)
  lists page lt = let d = any_page g rs ws pages classes cs h in
      subst (AreListsRight g rs page (class_at classes page)) (sym (get_or-map (λ (x : Page). lists_of x ws) pages page d no_lists (omega (arith, lt, h.pages_all)))) (h.each page lt d).lists

  size_there : (page size : ℕ) (class : Option ℕ) (p : Page) → IsPageRight g rs ws page class p → class ≡ Some size → Contains sizes size
  size_there page size None p k e = absurd (cc)
  size_there page size (Some n) p k e = let same : n ≡ size = grind (arith, e) in subst (λ (m : ℕ). Contains sizes m) same k.shape.0

  pub size_listed : (page size : ℕ) → class_at classes page ≡ Some size → Contains sizes size
  size_listed page size e = elim (cases_lt page 16) [
    | inl lt ↦ (let d = any_page g rs ws pages classes cs h in size_there page size (class_at classes page) (slice_index_or pages page d) (h.each page lt d) e)
    | inr ge ↦ absurd (let none : class_at classes page ≡ None = get_or_past classes page None (omega (arith, ge, h.classes_all)) in cc)
  ]

  placed : (page index : ℕ) (class : Option ℕ) (p : Page) → IsPageRight g rs ws page class p → index < 512 → is_home (standing_at rs (page * 512 + index)) ≡ false → IsBlockPlace class index
  placed page index None p k lt away = no_class g rs ws page index None p k lt away refl
  placed page index (Some size) p k lt away = omega (arith, used_below p ws index k.linked (open_used g rs ws page index (Some size) p k lt away), k.shape.2)

  pub open_placed : (page index : ℕ) → page < 16 → index < 512 → is_home (standing_at rs (page * 512 + index)) ≡ false → IsBlockPlace (class_at classes page) index
  open_placed page index lt small away = let d = any_page g rs ws pages classes cs h in placed page index (class_at classes page) (slice_index_or pages page d) (h.each page lt d) small away

  pub words_all : length ws ≡ 8192
  words_all = let d = any_page g rs ws pages classes cs h in (h.each 0 (omega arith) d).linked.whole

  listed_in : (page index : ℕ) (class : Option ℕ) (p : Page) → IsPageRight g rs ws page class p → Contains (listed (lists_of p ws)) index → IsBlockPlace class index
  listed_in page index None p k on = let c : Contains [] index = subst (λ (xs : List ℕ). Contains xs index) k.lists.all on in absurd (omega (arith, c.1))
  listed_in page index (Some size) p k on = omega (arith, listed_below p ws index k.linked on, k.shape.2)

  pub listed_placed : (page index : ℕ) → page < 16 → Contains (listed (lists_at (map (λ x. lists_of x ws) pages) page)) index → IsBlockPlace (class_at classes page) index
  listed_placed page index lt on = let d = any_page g rs ws pages classes cs h in
      listed_in page index (class_at classes page) (slice_index_or pages page d) (h.each page lt d)
      (subst (λ (l : PageLists). Contains (listed l) index) (get_or-map (λ (x : Page). lists_of x ws) pages page d no_lists (omega (arith, lt, h.pages_all))) on)

  pub block_length : (page index size : ℕ) → page < 16 → index < 512 → is_home (standing_at rs (page * 512 + index)) ≡ false → class_at classes page ≡ Some size → length (block_at ws classes page index) ≡ size
  block_length page index size lt small away class = let d = any_page g rs ws pages classes cs h in
      let fits = open_inside g rs ws page index size (slice_index_or pages page d) (subst (λ (c : Option ℕ). IsPageRight g rs ws page c (slice_index_or pages page d)) class (h.each page lt d)) small away in
      ap (λ (c : Option ℕ). length (block_of_class ws page index c)) class ∙ length-block_of ws (page * 512 + size * index) size (omega (arith, fits.0, fits.1, words_all))
