-- A place goes home: its page lists it, unless it is worn.
use Rattle.std.proofs.Common.{◌≡◌, ◌≢◌, ℕ, ◌+◌, ◌-◌, ◌*◌, ◌/◌, ◌<◌, ◌≤◌, Bool, true, false, not, nat_eq, List, length, slice_index, slice_index_or, slice_set, map, refl, sym, ap, ◌∙◌, arith, subst, inl, inr, ◌⊎◌, ⊎_elim, get_or-set_other, get_or-set_same}
use Rattle.std.specs.Prelude.{Contains, Option, Some}
use Rattle.std.proofs.lemmas.Bool.{cases_eq}
use Rattle.std.proofs.lemmas.List.{length-set}
use Rattle.hg_page.specs.Shapes.{shape_of}
use Rattle.hg_page.specs.PageLists.{PageLists, listed, IsUsed}
use Rattle.hg_page.specs.Links.{lists_of, IsLinked}
use Rattle.hg_page.specs.Others.{KeepsOthers}
use Rattle.hg_page.specs.declared.page.Page.{Page}
use Rattle.hg_page.proofs.Frames.{listed_once, used_unlisted}
use Rattle.hg_page.proofs.OthersLemmas.{unlisted_kept}
use Rattle.hg_page.proofs.Changes.{unused_same, Contains-pushed_same}
use Rattle.hg_place.specs.declared.standing.Standing.{Standing}
use Rattle.hg_place.specs.declared.standing.Standing.TheVariants.{Home, Open}
use Rattle.hg_place.specs.Lives.{IsLiveWord, word_generation, word_owner}
use Rattle.hg_place.specs.Standings.{standing_at, is_home, standing_generation, Fits, IsSane}
use Rattle.hg_segment.specs.Kept.{class_at, lists_at, returned}
use Rattle.hg_segment.specs.Charges.{block_bytes}
use Rattle.hg_segment.specs.Blocks.{KeepsBlocks}
use Rattle.hg_segment.specs.Right.{is_vacant, AreListsRight, IsPageRight, IsRight}
use Rattle.hg_size.specs.Sizes.{pages_of}
use Rattle.hg_size.proofs.Table.{size_bounds}
use Rattle.hg_segment.proofs.Beside.{AreBeside, KeepsPages, beside_classed, kept_pages}
use Rattle.hg_segment.proofs.Turned.{Turns, turns_returned, turned}
use Rattle.hg_segment.proofs.Changed.{right_changed, lists_set, others_shown, list_is}
use Rattle.hg_segment.proofs.Charged.{charge_down, charge_holds}
use Rattle.hg_segment.proofs.KeptBlocks.{outside_new, open_used, blocks_kept}

-- a live word fits no record but that of its life
pub live_open : (st : Standing) (word : ℕ) → IsLiveWord word → Fits st word → st ≡ Open (word_generation word) (word_owner word)
live_open (Home g) word live fits = absurd (let a = live.1 in let b = fits.freed refl in omega arith)
live_open (Open g o) word live fits = rw (fits.generation, fits.owner refl) refl

vacant_on : (worn : Bool) (g n index : ℕ) (lists : PageLists) → worn ≡ nat_eq n g → ¬ Contains (listed lists) index → Contains (listed (returned worn lists index)) index → is_vacant g (Home n) ≡ true
vacant_on true g n index lists e off c = absurd (off c)
vacant_on false g n index lists e off c = ap not (sym e)

vacant_off : (worn : Bool) (g n index : ℕ) (lists : PageLists) → worn ≡ nat_eq n g → is_vacant g (Home n) ≡ true → Contains (listed (returned worn lists index)) index
vacant_off true g n index lists e v = absurd (let f : not true ≡ true = ap not e ∙ v in cc)
vacant_off false g n index lists e v = Contains-pushed_same index lists

unused_now : (worn : Bool) (index : ℕ) (lists : PageLists) → slice_index_or (returned worn lists index).used index false ≡ false
unused_now true index lists = unused_same index lists
unused_now false index lists = unused_same index lists

-- an open place of the new records isn't the one that went home
pub still_open : (rs : List Standing) (at n k : ℕ) → at < length rs → is_home (standing_at (slice_set rs at (Home n)) k) ≡ false → (k ≢ at) × (is_home (standing_at rs k) ≡ false)
still_open rs at n k inside away = elim (cases_eq k at) [
  | inl e ↦ absurd (let f : is_home (standing_at (slice_set rs at (Home n)) k) ≡ true = rw (e, get_or-set_same rs at (Home n) (Home 0) inside) refl in cc)
  | inr ne ↦ (ne, sym (ap is_home (get_or-set_other rs at k (Home n) (Home 0) ne)) ∙ away)
]

module _ (g : ℕ) (rs : List Standing) (ws new : List ℕ) (pages : List Page) (classes : List (Option ℕ)) (cs : List ℕ) (page index size n owner : ℕ) (p q : Page)
    (h : IsRight g rs ws pages classes cs) (below : page < 16) (small : index < 512) (long : length rs ≡ 8192)
    (class : class_at classes page ≡ Some size) (was : standing_at rs (page * 512 + index) ≡ Open n owner) (owned : owner < 64)
    (is : p ≡ slice_index_or pages page p)
    (linked : IsLinked q new) (shown : lists_of q new ≡ returned (nat_eq n g) (lists_of p ws) index)
    (others : KeepsOthers (shape_of q) (listed (lists_of q new)) ws new) (shape : shape_of q ≡ shape_of p) where
  abbrev at : ℕ
  at = page * 512 + index

  abbrev new-rs : List Standing
  new-rs = slice_set rs at (Home n)

  inside : at < length rs
  inside = omega (arith, below, small, long)

  mine : IsPageRight g rs ws page (Some size) p
  mine = subst (λ (c : Option ℕ). IsPageRight g rs ws page c p) class
      (subst (λ (x : Page). IsPageRight g rs ws page (class_at classes page) x) (sym is) (h.each page below p))

  pub used : IsUsed (lists_of p ws) index
  used = open_used g rs ws page index (Some size) p mine small (ap is_home was)

  based : (shape_of q).base ≡ page * 512
  based = ap (λ s. s.base) shape ∙ mine.base

  sized : (shape_of q).size ≡ size
  sized = ap (λ s. s.size) shape ∙ mine.shape.1

  out : (w : ℕ) → (w < page * 512) ⊎ (page * 512 + 512 ≤ w) → slice_index new w ≡ slice_index ws w
  out = outside_new q ws new page linked based others

  beside : AreBeside classes page (pages_of size)
  beside = beside_classed classes page size h.runs class

  one : 1 ≤ pages_of size
  one = (let b = (size_bounds size mine.shape.0).0 in omega arith)

  out_of : (w : ℕ) → (w < page * 512) ⊎ (page * 512 + pages_of size * 512 ≤ w) → slice_index new w ≡ slice_index ws w
  out_of w o = out w (⊎_elim (λ lt. inl lt) (λ ge. inr (omega (arith, ge, one))) o)

  pages_kept : KeepsPages classes ws new page
  pages_kept = kept_pages classes ws new page (pages_of size) beside out_of

  off : ¬ Contains (listed (lists_of p ws)) index
  off = used_unlisted p ws index mine.linked used

  right_lists : AreListsRight g new-rs page (Some size) (lists_of q new)
  right_lists = turned g rs page index (Home n) size (lists_of p ws) (lists_of q new) mine.lists small inside
      (listed_once q new linked)
      (subst (Turns index (lists_of p ws)) (sym shown) (turns_returned (nat_eq n g) index (lists_of p ws)))
      (subst (λ (l : PageLists). slice_index_or l.used index false ≡ false) (sym shown) (unused_now (nat_eq n g) index (lists_of p ws)))
      (λ c. vacant_on (nat_eq n g) g n index (lists_of p ws) refl off (subst (λ (l : PageLists). Contains (listed l) index) shown c))
      (λ v. subst (λ (l : PageLists). Contains (listed l) index) (sym shown) (vacant_off (nat_eq n g) g n index (lists_of p ws) refl v))

  bytes_here : block_bytes (class_at classes (at / 512)) ≡ 8 * size
  bytes_here = ap (λ (k : ℕ). block_bytes (class_at classes k)) (let e : at / 512 ≡ page = omega (arith, small) in e) ∙ ap block_bytes class

  pub charge_left : 8 * size ≤ slice_index cs owner
  charge_left = charge_holds cs rs classes at n owner (8 * size) inside owned bytes_here was h.charged

  pub right : IsRight g new-rs new (slice_set pages page q) classes (slice_set cs owner (slice_index cs owner - 8 * size))
  right = right_changed g rs ws new pages classes cs (slice_set cs owner (slice_index cs owner - 8 * size)) page index size (Home n) p q h below small long class is linked shape pages_kept right_lists
      (subst (λ (s : Standing). standing_generation s ≤ g) was (h.bounded at))
      (length-set cs owner (slice_index cs owner - 8 * size) ∙ h.charges_all)
      (charge_down cs rs classes at n owner (8 * size) n h.charges_all inside owned bytes_here was h.charged)

  pub blocks : KeepsBlocks new-rs classes ws new
  blocks other i low under away =
      let before = still_open rs at n (other * 512 + i) inside away in
      blocks_kept g rs new-rs ws new pages classes page (pages_of size) p beside linked.whole h.each out_of other i low under before.1 (λ e size-here w is-here l r.
      let same : size-here ≡ size = (let both : Some size-here ≡ Some size = sym is-here ∙ class in grind (arith, both)) in
      let m : (shape_of q).size * i ≡ size-here * i = ap (λ (k : ℕ). k * i) (sized ∙ sym same) in
      let i-used : IsUsed (lists_of q new) i = right_lists.used i under ∙ ap not (subst (λ (k : ℕ). is_home (standing_at new-rs (k * 512 + i)) ≡ false) e away) in
      unlisted_kept (shape_of q) (listed (lists_of q new)) ws new i w linked.sized others (used_unlisted q new i linked i-used)
      (record { low = omega (arith, l, m, based); high = omega (arith, r, m, based, sized, same) }))

  pub lists : map (λ x. lists_of x new) (slice_set pages page q) ≡ slice_set (map (λ x. lists_of x ws) pages) page (returned (nat_eq n g) (lists_at (map (λ x. lists_of x ws) pages) page) index)
  lists = lists_set ws new pages page p q (others_shown g rs ws new pages classes cs page p h linked.whole pages_kept)
      ∙ ap (slice_set (map (λ x. lists_of x ws) pages) page) (shown ∙ ap (λ (l : PageLists). returned (nat_eq n g) l index) (sym (list_is ws pages page p (omega (arith, below, h.pages_all)) is)))

-- what a call that brings a place home needs, at the values of its body
pub record Homed (g : ℕ) (new-rs : List Standing) (ws new : List ℕ) (pages new-pages : List Page) (classes : List (Option ℕ)) (new-cs : List ℕ) (page index n bytes m : ℕ) : Type 0 where
  pub left : bytes ≤ m
  pub right : IsRight g new-rs new new-pages classes new-cs
  pub blocks : KeepsBlocks new-rs classes ws new
  pub lists : map (λ x. lists_of x new) new-pages ≡ slice_set (map (λ x. lists_of x ws) pages) page (returned (nat_eq n g) (lists_at (map (λ x. lists_of x ws) pages) page) index)

pub homed : (g : ℕ) (rs after : List Standing) (ws new : List ℕ) (pages : List Page) (classes : List (Option ℕ)) (cs : List ℕ) (page index size n owner seen o bytes : ℕ) (p q : Page)
    → IsRight g rs ws pages classes cs → page < 16 → index < 512 → length rs ≡ 8192
    → class_at classes page ≡ Some size → standing_at rs (page * 512 + index) ≡ Open n owner → owner < 64
    → after ≡ slice_set rs (page * 512 + index) (Home n)
    → p ≡ slice_index_or pages page p → seen ≡ n
    → IsLinked q new → lists_of q new ≡ returned (nat_eq seen g) (lists_of p ws) index
    → KeepsOthers (shape_of q) (listed (lists_of q new)) ws new → shape_of q ≡ shape_of p
    → o ≡ owner → bytes ≡ 8 * size
    → Homed g after ws new pages (slice_set pages page q) classes (slice_set cs o (slice_index cs o - bytes)) page index n bytes (slice_index cs o)
homed g rs after ws new pages classes cs page index size n owner seen o bytes p q h below small long class was owned now is saw linked shown others shape oe be =
    let showed : lists_of q new ≡ returned (nat_eq n g) (lists_of p ws) index = shown ∙ ap (λ (k : ℕ). returned (nat_eq k g) (lists_of p ws) index) saw in
    let had : slice_index cs o ≡ slice_index cs owner = ap (λ (k : ℕ). slice_index cs k) oe in record {
      left = omega (arith, had, be, charge_left g rs ws new pages classes cs page index size n owner p q h below small long class was owned is linked showed others shape);
      right = rw (now, oe, be) (right g rs ws new pages classes cs page index size n owner p q h below small long class was owned is linked showed others shape);
      blocks = rw now (blocks g rs ws new pages classes cs page index size n owner p q h below small long class was owned is linked showed others shape);
      lists = lists g rs ws new pages classes cs page index size n owner p q h below small long class was owned is linked showed others shape;
    }

-- the records after a place was taken home, whose word fitted its record
pub taken_home : (rs after : List Standing) (at gen owner word : ℕ) → standing_at rs at ≡ Open gen owner → Fits (standing_at rs at) word → after ≡ slice_set rs at (Home (word_generation word)) → after ≡ slice_set rs at (Home gen)
taken_home rs after at gen owner word was fits now = now ∙ ap (λ (k : ℕ). slice_set rs at (Home k)) ((subst (λ (s : Standing). Fits s word) was fits).generation)

pub taken_same : (rs after : List Standing) (at gen owner : ℕ) → standing_at rs at ≡ Open gen owner → after ≡ slice_set rs at (Home gen) → after ≡ slice_set rs at (Home (standing_generation (standing_at rs at)))
taken_same rs after at gen owner was now = now ∙ ap (λ (s : Standing). slice_set rs at (Home (standing_generation s))) (sym was)

pub owner_small : (st : Standing) (gen owner : ℕ) → st ≡ Open gen owner → IsSane st → owner < 64
owner_small st gen owner was sane = (subst IsSane was sane).owner refl
