-- A page without a class is given one.
use Rattle.std.proofs.Common.{◌≡◌, ℕ, zero, suc, ◌+◌, ◌*◌, ◌<◌, ◌≤◌, Bool, true, false, not, cond, List, ◌∷◌, slice_index, slice_index_or, slice_set, map, refl, sym, ap, ◌∙◌, arith, subst, inl, inr, ⊎_elim, ◌⊎◌, get_or-set_other, get_or-set_same}
use Rattle.std.specs.Prelude.{Contains, Option, Some, None, filter}
use Rattle.std.specs.List.{range_with_len}
use Rattle.hg_size.specs.Sizes.{sizes, pages_of, places_of}
use Rattle.hg_page.specs.Shapes.{shape_of}
use Rattle.hg_page.specs.PageLists.{listed, IsIdle, fresh, unworn}
use Rattle.hg_page.specs.Links.{lists_of, IsLinked}
use Rattle.hg_page.specs.Others.{KeepsOthers}
use Rattle.hg_page.specs.declared.page.Page.{Page}
use Rattle.hg_page.proofs.Frames.{listed_once}
use Rattle.hg_page.proofs.Changes.{listed-fresh, idle_fresh}
use Rattle.hg_page.proofs.Unworn.{unworn_listed, Contains-unworn}
use Rattle.hg_place.specs.declared.standing.Standing.{Standing}
use Rattle.hg_place.specs.declared.standing.Standing.TheVariants.{Home, Open}
use Rattle.hg_place.specs.Standings.{standing_at, is_home}
use Rattle.hg_segment.specs.Kept.{class_at}
use Rattle.hg_segment.specs.Blocks.{KeepsBlocks}
use Rattle.hg_segment.specs.Retires.{IsIdlePage}
use Rattle.hg_segment.specs.Right.{is_vacant, is_worn, vacant_in, AreListsRight, IsPageRight, IsRight}
use Rattle.hg_size.specs.Runs.{may_begin, AreRuns}
use Rattle.hg_size.proofs.Table.{places_small}
use Rattle.hg_size.proofs.Covers.{begins, runs_more}
use Rattle.hg_segment.proofs.Beside.{AreBeside, KeepsPages, beside_begun, kept_pages}
use Rattle.hg_segment.proofs.Changed.{lists_set, others_shown}
use Rattle.hg_segment.proofs.KeptBlocks.{outside_new, blocks_kept}
use Rattle.hg_segment.proofs.Retirings.{idle_home, page_read, right_assigned}

pub worn_vacant : (g : ℕ) (st : Standing) → is_home st ≡ true → not (is_worn g st) ≡ is_vacant g st
worn_vacant g (Home n) e = refl
worn_vacant g (Open n o) e = absurd (cc)

-- what `format` frees
pub freed_is : (p q : ℕ → Bool) (from count : ℕ) → ((i : ℕ) → i < from + count → p i ≡ q i) → filter p (range_with_len from count) ≡ filter q (range_with_len from count)
freed_is p q from zero h = refl
freed_is p q from (suc n) h =
    let rest = freed_is p q (from + 1) n (λ i lt. h i (omega arith)) in
    ap (λ (b : Bool). cond b (from ∷ filter p (range_with_len (from + 1) n)) (filter p (range_with_len (from + 1) n))) (h from (omega arith))
    ∙ ap (λ (xs : List ℕ). cond (q from) (from ∷ xs) xs) rest

-- the blocks of a page that may get a class end in the segment
pub begins_inside : (g : ℕ) (rs : List Standing) (ws : List ℕ) (pages : List Page)
    (classes : List (Option ℕ)) (cs : List ℕ) (page size : ℕ) (p : Page)
    → IsRight g rs ws pages classes cs → page < 16
    → may_begin (class_at classes) size page ≡ true → p ≡ slice_index_or pages page p
    → (shape_of p).base + pages_of size * 512 ≤ 8192
begins_inside g rs ws pages classes cs page size p h below may is =
    omega (
      arith,
      below,
      (begins (class_at classes) size page may).inside,
      (page_read g rs ws pages classes cs page p h below is).base,
    )

module _ (g : ℕ) (rs : List Standing) (ws new : List ℕ) (pages : List Page) (classes : List (Option ℕ)) (cs : List ℕ) (page size : ℕ) (worn : List Bool) (p q : Page)
    (h : IsRight g rs ws pages classes cs) (below : page < 16) (may : may_begin (class_at classes) size page ≡ true) (is : p ≡ slice_index_or pages page p)
    (sized : Contains sizes size)
    (marked : (i : ℕ) → i < places_of size → slice_index_or worn i false ≡ is_worn g
    (standing_at rs (page * 512 + i)))
    (linked : IsLinked q new) (shown : lists_of q new ≡ fresh (unworn worn 0 (places_of size)))
    (others : KeepsOthers (shape_of q) (listed (lists_of q new)) ws new)
    (shape : shape_of q ≡ record (shape_of p) { size = size; places = places_of size }) where
  none : class_at classes page ≡ None
  none = (begins (class_at classes) size page may).none page (omega arith) (omega arith)

  mine : IsPageRight g rs ws page None p
  mine = subst (λ (c : Option ℕ). IsPageRight g rs ws page c p) none (page_read g rs ws pages classes cs page p h below is)

  pub idle : IsIdle (lists_of p ws)
  idle = mine.unused

  home : IsIdlePage rs page
  home = idle_home g rs ws page None p mine idle

  small : (i : ℕ) → i < places_of size → i < 512
  small i lt = omega (arith, lt, places_small size)

  vacancy : (i : ℕ) → i < places_of size → not (slice_index_or worn i false) ≡ is_vacant g
      (standing_at rs (page * 512 + i))
  vacancy i lt = ap not (marked i lt) ∙ worn_vacant g (standing_at rs (page * 512 + i))
      (home i (small i lt))

  not_worn : (b : Bool) → not b ≡ true → b ≡ false
  not_worn true e = sym e
  not_worn false e = refl

  now_listed : listed (lists_of q new) ≡ unworn worn 0 (places_of size)
  now_listed = ap listed shown ∙ listed-fresh (unworn worn 0 (places_of size))

  right_lists : AreListsRight g rs page (Some size) (lists_of q new)
  right_lists = record {
    once = listed_once q new linked;
    vacant = λ i c. let u = unworn_listed worn 0 (places_of size) i (subst (λ (xs : List ℕ). Contains xs i) now_listed c) in
        let lt : i < places_of size = omega (arith, u.high) in record {
          below = small i lt;
          vacant = sym (vacancy i lt) ∙ ap not u.whole;
        };
    all = λ i lt v. subst (λ (xs : List ℕ). Contains xs i) (sym now_listed) (Contains-unworn worn 0 (places_of size) i (record {
      low = omega arith;
      high = omega (arith, lt);
      whole = not_worn (slice_index_or worn i false) (vacancy i lt ∙ v);
    }));
    used = λ i lt. subst IsIdle (sym shown) (idle_fresh (unworn worn 0 (places_of size))) i ∙ ap not (sym (home i lt));
  }

  right_page : IsPageRight g rs new page (Some size) q
  right_page = record {
    linked = linked;
    base = ap (λ s. s.base) shape ∙ mine.base;
    shape = (sized, ap (λ s. s.size) shape, ap (λ s. s.places) shape);
    unused = tt;
    lists = right_lists;
  }

  out : (w : ℕ) → (w < page * 512) ⊎ (page * 512 + 512 ≤ w) → slice_index new w ≡ slice_index ws w
  out = outside_new q ws new page linked right_page.base others

  beside : AreBeside classes page (pages_of size)
  beside = beside_begun classes page size below may

  out_of : (w : ℕ) → (w < page * 512) ⊎ (page * 512 + pages_of size * 512 ≤ w)
      → slice_index new w ≡ slice_index ws w
  out_of w o = out w (⊎_elim (λ lt. inl lt) (λ ge. inr (omega (arith, ge))) o)

  pages_kept : KeepsPages classes ws new page
  pages_kept = kept_pages classes ws new page (pages_of size) beside out_of

  runs : AreRuns (class_at (slice_set classes page (Some size)))
  runs = runs_more (class_at classes) (class_at (slice_set classes page (Some size))) size page may
      (get_or-set_same classes page (Some size) None (omega (arith, below, h.classes_all)))
      (λ k ne. get_or-set_other classes page k (Some size) None ne) h.runs

  pub right : IsRight g rs new (slice_set pages page q) (slice_set classes page (Some size)) cs
  right = right_assigned g rs ws new pages classes cs page (Some size) q h below home linked.whole pages_kept runs right_page

  pub lists : map (λ x. lists_of x new) (slice_set pages page q) ≡ slice_set (map (λ x. lists_of x ws) pages) page (fresh (vacant_in g rs page (places_of size)))
  lists = lists_set ws new pages page p q (others_shown g rs ws new pages classes cs page p h linked.whole pages_kept)
      ∙ ap (slice_set (map (λ x. lists_of x ws) pages) page) (shown
      ∙ ap fresh (freed_is (λ i. not (slice_index_or worn i false))
      (λ i. is_vacant g (standing_at rs (page * 512 + i))) 0 (places_of size)
      (λ i lt. vacancy i (omega (arith, lt)))))

  pub blocks : KeepsBlocks rs classes ws new
  blocks other i low lt away = blocks_kept g rs rs ws new pages classes page (pages_of size) p beside linked.whole h.each out_of other i low lt away
      (λ e. absurd (let a = home i lt in let b : is_home (standing_at rs (page * 512 + i)) ≡ false = subst (λ (k : ℕ). is_home (standing_at rs (k * 512 + i)) ≡ false) e away in let c : true ≡ false = sym a ∙ b in cc))
