-- A place is given out: it comes off its page's lists, and its block is zero.
use Rattle.std.proofs.Common.{◌≡◌, ◌≢◌, ℕ, ◌+◌, ◌*◌, ◌/◌, ◌<◌, ◌≤◌, Bool, true, false, not, nat_eq, List, length, slice_index, slice_index_or, slice_set, map, replicate, refl, sym, ap, ◌∙◌, arith, subst, inl, inr, ⊎_elim, ◌⊎◌, get_or-set_other, get_or-set_same}
use Rattle.std.specs.Prelude.{Contains, Option, Some, None}
use Rattle.std.proofs.lemmas.Bool.{cases_eq, cases_lt}
use Rattle.std.proofs.lemmas.List.{length-set, get_or_past}
use Rattle.hg_place.specs.declared.geometry.TheConstants.{SEGMENT_WORDS}
use Rattle.hg_words.proofs.Ranges.{block_of-zero}
use Rattle.hg_lists.specs.Repeats.{HasNoRepeats}
use Rattle.hg_lists.proofs.RepeatsLemmas.{nat_eq-same}
use Rattle.hg_size.proofs.Table.{size_bounds, fits_in_pages}
use Rattle.hg_page.specs.Shapes.{Shape, shape_of, start_of}
use Rattle.hg_page.specs.PageLists.{PageLists, listed, IsUsed, Pops}
use Rattle.hg_page.specs.Links.{lists_of, IsLinked}
use Rattle.hg_page.specs.Others.{KeepsOthers}
use Rattle.hg_page.specs.declared.page.Page.{Page}
use Rattle.hg_page.proofs.Frames.{Same, same_but_used, listed_once, listed_below, used_unlisted}
use Rattle.hg_page.proofs.OthersLemmas.{unlisted_kept}
use Rattle.hg_page.proofs.Changes.{popped_listed, popped_unlisted}
use Rattle.hg_place.specs.declared.standing.Standing.{Standing}
use Rattle.hg_place.specs.declared.standing.Standing.TheVariants.{Home, Open}
use Rattle.hg_place.specs.Standings.{standing_at, is_home, standing_generation}
use Rattle.hg_segment.specs.Kept.{class_at, lists_at, refilled}
use Rattle.hg_segment.specs.Charges.{block_bytes}
use Rattle.hg_segment.specs.Blocks.{block_at, block_of_class, KeepsOtherBlocks}
use Rattle.hg_segment.specs.Right.{is_vacant, IsVacantAt, AreListsRight, IsPageRight, IsRight}
use Rattle.hg_segment.proofs.Heads.{listed-refilled, used-refilled}
use Rattle.hg_segment.proofs.Turned.{Turns, turns_popped, turned}
use Rattle.hg_segment.proofs.Changed.{right_changed, lists_set, others_shown, list_is}
use Rattle.hg_segment.proofs.Charged.{charge_up, charge_small}
use Rattle.hg_segment.proofs.KeptBlocks.{outside, blocks_kept, words_apart}
use Rattle.hg_size.specs.Sizes.{pages_of}
use Rattle.hg_segment.proofs.Beside.{AreBeside, KeepsPages, beside_classed, kept_pages}

pub vacant_home : (g : ℕ) (st : Standing) → is_vacant g st ≡ true → is_home st ≡ true
vacant_home g (Home n) v = refl
vacant_home g (Open n o) v = absurd (cc)

pub vacant_low : (g : ℕ) (st : Standing) → is_vacant g st ≡ true → standing_generation st ≤ g → standing_generation st < g
vacant_low g (Home n) v low = elim (cases_eq n g) [
  | inl e ↦ absurd (let t : nat_eq n g ≡ true = rw e (nat_eq-same g) in let f : not true ≡ true = ap not (sym t) ∙ v in cc)
  | inr ne ↦ omega (arith, low, ne)
]
vacant_low g (Open n o) v low = absurd (cc)

-- an open place of the new records is the one that was given out, or was open
pub was_open : (rs : List Standing) (at : ℕ) (st : Standing) (k : ℕ) → k ≢ at → is_home (standing_at (slice_set rs at st) k) ≡ false → is_home (standing_at rs k) ≡ false
was_open rs at st k ne away = sym (ap is_home (get_or-set_other rs at k st (Home 0) ne)) ∙ away

-- no class has blocks of more bytes
bytes_small : (g : ℕ) (rs : List Standing) (ws : List ℕ) (k : ℕ) (class : Option ℕ) (p : Page) → IsPageRight g rs ws k class p → block_bytes class ≤ 65536
bytes_small g rs ws k None p h = omega arith
bytes_small g rs ws k (Some size) p h = let b = size_bounds size h.shape.0 in omega (arith, b.1)

classes_small : (g : ℕ) (rs : List Standing) (ws : List ℕ) (pages : List Page) (classes : List (Option ℕ)) (cs : List ℕ) (d : Page) → IsRight g rs ws pages classes cs → (page : ℕ) → block_bytes (class_at classes page) ≤ 65536
classes_small g rs ws pages classes cs d h page = elim (cases_lt page 16) [
  | inl lt ↦ bytes_small g rs ws page (class_at classes page) (slice_index_or pages page d) (h.each page lt d)
  | inr ge ↦ subst (λ (c : Option ℕ). block_bytes c ≤ 65536) (sym (get_or_past classes page None (omega (arith, ge, h.classes_all)))) (omega arith)
]

-- what comes off the head of a page's lists

module _ (g : ℕ) (rs : List Standing) (ws mid : List ℕ) (pages : List Page) (classes : List (Option ℕ)) (cs : List ℕ) (page index size : ℕ) (p q : Page)
    (h : IsRight g rs ws pages classes cs) (below : page < 16) (long : length rs ≡ 8192)
    (class : class_at classes page ≡ Some size) (is : p ≡ slice_index_or pages page p)
    (linked : IsLinked q mid) (pops : Pops index (refilled (lists_of p ws)) (lists_of q mid))
    (others : KeepsOthers (shape_of q) (listed (lists_of p ws)) ws mid) (shape : shape_of q ≡ shape_of p) where
  abbrev at : ℕ
  at = page * 512 + index

  mine : IsPageRight g rs ws page (Some size) p
  mine = subst (λ (c : Option ℕ). IsPageRight g rs ws page c p) class
      (subst (λ (x : Page). IsPageRight g rs ws page (class_at classes page) x) (sym is) (h.each page below p))

  was_listed : Contains (listed (lists_of p ws)) index
  was_listed = subst (λ (xs : List ℕ). Contains xs index) (listed-refilled (lists_of p ws)) (popped_listed index (refilled (lists_of p ws)) (lists_of q mid) pops)

  vacancy : IsVacantAt g rs page index
  vacancy = mine.lists.vacant index was_listed

  pub small : index < 512
  small = vacancy.below

  pub vacant : is_vacant g (standing_at rs at) ≡ true
  vacant = vacancy.vacant

  pub home : is_home (standing_at rs at) ≡ true
  home = vacant_home g (standing_at rs at) vacant

  pub low : standing_generation (standing_at rs at) < g
  low = vacant_low g (standing_at rs at) vacant (h.bounded at)

  pub fits : (page + pages_of size ≤ 16) × (size * index + size ≤ pages_of size * 512)
  fits =
      let same : (shape_of p).size ≡ size = mine.shape.1 in
      let same_pages : pages_of (shape_of p).size ≡ pages_of size = ap pages_of same in
      let below = listed_below p ws index mine.linked was_listed in
      let in_pages = fits_in_pages size index (omega (arith, below, mine.shape.2)) in
      (omega (arith, mine.base, same_pages, mine.linked.within), omega (arith, in_pages))

  -- the same, of the lists as the segment shows them
  pub pops_shown : Pops index (refilled (lists_at (map (λ x. lists_of x ws) pages) page)) (lists_of q mid)
  pops_shown = subst (λ (l : PageLists). Pops index (refilled l) (lists_of q mid)) (sym (list_is ws pages page p (omega (arith, below, h.pages_all)) is)) pops

  pub charge_room : (owner : ℕ) → owner < 64 → slice_index cs owner + 8 * size < 18446744073709551616
  charge_room owner lt = let least = charge_small rs classes owner (classes_small g rs ws pages classes cs p h) in let b = size_bounds size mine.shape.0 in omega (arith, least, long, h.charged owner lt, b.1)

  module _ (new : List ℕ) (n owner : ℕ) (owned : owner < 64) (next : n ≡ standing_generation (standing_at rs at) + 1) (whole : length new ≡ SEGMENT_WORDS)
      (zero : (w : ℕ) → page * 512 + size * index ≤ w → w < page * 512 + size * index + size → slice_index new w ≡ 0)
      (rest : (w : ℕ) → (w < page * 512 + size * index) ⊎ (page * 512 + size * index + size ≤ w) → slice_index new w ≡ slice_index mid w) where
    abbrev new-rs : List Standing
    new-rs = slice_set rs at (Open n owner)

    inside : at < length rs
    inside = omega (arith, below, small, long)

    based : (shape_of q).base ≡ page * 512
    based = ap (λ s. s.base) shape ∙ mine.base

    sized : (shape_of q).size ≡ size
    sized = ap (λ s. s.size) shape ∙ mine.shape.1

    used : IsUsed (lists_of q mid) index
    used = ap (λ (u : List Bool). slice_index_or u index false) (pops.used ∙ ap (λ (u : List Bool). slice_set u index true) (used-refilled (lists_of p ws)))
        ∙ get_or-set_same (lists_of p ws).used index true false (omega (arith, small, mine.linked.flags))

    starts : start_of (shape_of q) index ≡ page * 512 + size * index
    starts = let m : (shape_of q).size * index ≡ size * index = ap (λ (k : ℕ). k * index) sized in omega (arith, m, based)

    same : Same q mid new
    same = same_but_used q mid new index linked used whole (λ w out. rest w (⊎_elim (λ lt. inl (omega (arith, lt, starts))) (λ ge. inr (omega (arith, ge, starts, sized))) out))

    one : 1 ≤ pages_of size
    one = (let b = (size_bounds size mine.shape.0).0 in omega arith)

    out : (w : ℕ) → (w < page * 512) ⊎ (page * 512 + pages_of size * 512 ≤ w) → slice_index new w ≡ slice_index ws w
    out w o = rest w (⊎_elim (λ lt. inl (omega (arith, lt))) (λ ge. inr (omega (arith, ge, fits.1))) o)
        ∙ outside p ws mid page mine.linked mine.base (subst (λ (s : Shape). KeepsOthers s (listed (lists_of p ws)) ws mid) shape others) w
        (⊎_elim (λ lt. inl lt) (λ ge. inr (omega (arith, ge, one))) o)

    beside : AreBeside classes page (pages_of size)
    beside = beside_classed classes page size h.runs class

    pages_kept : KeepsPages classes ws new page
    pages_kept = kept_pages classes ws new page (pages_of size) beside out

    right_lists : AreListsRight g new-rs page (Some size) (lists_of q new)
    right_lists = turned g rs page index (Open n owner) size (lists_of p ws) (lists_of q new) mine.lists small inside
        (listed_once q new same.linked)
        (subst (Turns index (lists_of p ws)) (sym same.shown) (turns_popped index (lists_of p ws) (lists_of q mid) pops))
        (subst (λ (l : PageLists). slice_index_or l.used index false ≡ true) (sym same.shown) used)
        (λ c. absurd (popped_unlisted index (refilled (lists_of p ws)) (lists_of q mid) (subst HasNoRepeats (sym (listed-refilled (lists_of p ws))) mine.lists.once) pops
        (subst (λ (l : PageLists). Contains (listed l) index) same.shown c)))
        (λ v. absurd (cc))

    bytes_here : block_bytes (class_at classes (at / 512)) ≡ 8 * size
    bytes_here = ap (λ (k : ℕ). block_bytes (class_at classes k)) (let e : at / 512 ≡ page = omega (arith, small) in e) ∙ ap block_bytes class

    pub right : IsRight g new-rs new (slice_set pages page q) classes (slice_set cs owner (slice_index cs owner + 8 * size))
    right = right_changed g rs ws new pages classes cs (slice_set cs owner (slice_index cs owner + 8 * size)) page index size (Open n owner) p q h below small long class is same.linked shape pages_kept right_lists
        (omega (arith, next, low))
        (length-set cs owner (slice_index cs owner + 8 * size) ∙ h.charges_all)
        (charge_up cs rs classes at n owner (8 * size) h.charges_all inside owned bytes_here home h.charged)

    pub blocks : KeepsOtherBlocks new-rs classes page index ws new
    blocks other i lower under away ne =
        let apart : other * 512 + i ≢ at = λ e. ⊎_elim (λ f. f (omega (arith, e, under, small))) (λ f. f (omega (arith, e, under, small))) ne in
        let before = was_open rs at (Open n owner) (other * 512 + i) apart away in
        blocks_kept g rs new-rs ws new pages classes page (pages_of size) p beside whole h.each out other i lower under before (λ e size-here w is-here l r.
        let alike : size-here ≡ size = (let both : Some size-here ≡ Some size = sym is-here ∙ class in grind (arith, both)) in
        let m : (shape_of q).size * i ≡ size-here * i = ap (λ (k : ℕ). k * i) (sized ∙ sym alike) in
        let m2 : size * i ≡ size-here * i = ap (λ (k : ℕ). k * i) (sym alike) in
        let i-apart : i ≢ index = λ f. apart (omega (arith, e, f)) in
        let i-used : IsUsed (lists_of p ws) i = mine.lists.used i under ∙ ap not (subst (λ (k : ℕ). is_home (standing_at rs (k * 512 + i)) ≡ false) e before) in
        rest w (words_apart (page * 512) size i index w i-apart (omega (arith, l, m2)) (omega (arith, r, m2, alike)))
        ∙ unlisted_kept (shape_of q) (listed (lists_of p ws)) ws mid i w linked.sized others (used_unlisted p ws i mine.linked i-used)
        (record { low = omega (arith, l, m, based); high = omega (arith, r, m, based, sized, alike) }))

    pub zeroed : block_at new classes page index ≡ replicate size 0
    zeroed = ap (block_of_class new page index) class ∙ block_of-zero new (page * 512 + size * index) size (omega (arith, fits.0, fits.1, whole)) zero

    pub lists : map (λ x. lists_of x new) (slice_set pages page q) ≡ slice_set (map (λ x. lists_of x ws) pages) page (lists_at (map (λ x. lists_of x new) (slice_set pages page q)) page)
    lists = lists_set ws new pages page p q (others_shown g rs ws new pages classes cs page p h whole pages_kept)
        ∙ ap (slice_set (map (λ x. lists_of x ws) pages) page) (sym shown_new)
      where
        shown_new : lists_at (map (λ x. lists_of x new) (slice_set pages page q)) page ≡ lists_of q new
        shown_new = list_is new (slice_set pages page q) page q (omega (arith, below, length-set pages page q, h.pages_all)) (sym (get_or-set_same pages page q q (omega (arith, below, h.pages_all))))

    pub popped : Pops index (refilled (lists_at (map (λ x. lists_of x ws) pages) page)) (lists_at (map (λ x. lists_of x new) (slice_set pages page q)) page)
    popped = subst (λ (l : PageLists). Pops index (refilled l) (lists_at (map (λ x. lists_of x new) (slice_set pages page q)) page)) (sym (list_is ws pages page p (omega (arith, below, h.pages_all)) is))
        (subst (Pops index (refilled (lists_of p ws))) (sym (shown_here ∙ same.shown)) pops)
      where
        shown_here : lists_at (map (λ x. lists_of x new) (slice_set pages page q)) page ≡ lists_of q new
        shown_here = list_is new (slice_set pages page q) page q (omega (arith, below, length-set pages page q, h.pages_all)) (sym (get_or-set_same pages page q q (omega (arith, below, h.pages_all))))

-- what a call that gives out a place needs, at the values of its body
pub record Outward (g : ℕ) (after : List Standing) (ws new : List ℕ) (pages new-pages : List Page) (classes : List (Option ℕ)) (new-cs : List ℕ) (page index bytes m : ℕ) : Type 0 where
  pub room : m + bytes < 18446744073709551616
  pub right : IsRight g after new new-pages classes new-cs
  pub popped : Pops index (refilled (lists_at (map (λ x. lists_of x ws) pages) page)) (lists_at (map (λ x. lists_of x new) new-pages) page)
  pub lists : map (λ x. lists_of x new) new-pages ≡ slice_set (map (λ x. lists_of x ws) pages) page (lists_at (map (λ x. lists_of x new) new-pages) page)
  pub zeroed : (size : ℕ) → class_at classes page ≡ Some size → block_at new classes page index ≡ replicate size 0
  pub blocks : KeepsOtherBlocks after classes page index ws new

pub outward : (g : ℕ) (rs after : List Standing) (ws mid new : List ℕ) (pages : List Page) (classes : List (Option ℕ)) (cs : List ℕ) (page index size n owner from count bytes : ℕ) (p q : Page)
    → IsRight g rs ws pages classes cs → page < 16 → length rs ≡ 8192
    → class_at classes page ≡ Some size → p ≡ slice_index_or pages page p
    → IsLinked q mid → Pops index (refilled (lists_of p ws)) (lists_of q mid)
    → KeepsOthers (shape_of q) (listed (lists_of p ws)) ws mid → shape_of q ≡ shape_of p
    → owner < 64 → n ≡ standing_generation (standing_at rs (page * 512 + index)) + 1
    → after ≡ slice_set rs (page * 512 + index) (Open n owner)
    → length new ≡ SEGMENT_WORDS
    → ((w : ℕ) → from ≤ w → w < from + count → slice_index new w ≡ 0)
    → ((w : ℕ) → (w < from) ⊎ (from + count ≤ w) → slice_index new w ≡ slice_index mid w)
    → from ≡ page * 512 + size * index → count ≡ size → bytes ≡ 8 * size
    → Outward g after ws new pages (slice_set pages page q) classes (slice_set cs owner (slice_index cs owner + bytes)) page index bytes (slice_index cs owner)
outward g rs after ws mid new pages classes cs page index size n owner from count bytes p q h below long class is linked pops others shape owned next now whole zero rest fe ce be =
    let zero-here : (w : ℕ) → page * 512 + size * index ≤ w → w < page * 512 + size * index + size → slice_index new w ≡ 0 = λ w l r. zero w (omega (arith, l, fe)) (omega (arith, r, fe, ce)) in
    let rest-here : (w : ℕ) → (w < page * 512 + size * index) ⊎ (page * 512 + size * index + size ≤ w) → slice_index new w ≡ slice_index mid w =
    λ w o. rest w (⊎_elim (λ lt. inl (omega (arith, lt, fe))) (λ ge. inr (omega (arith, ge, fe, ce))) o) in record {
      room = omega (arith, be, charge_room g rs ws mid pages classes cs page index size p q h below long class is linked pops others shape owner owned);
      right = rw (now, be) (right g rs ws mid pages classes cs page index size p q h below long class is linked pops others shape new n owner owned next whole zero-here rest-here);
      popped = popped g rs ws mid pages classes cs page index size p q h below long class is linked pops others shape new n owner owned next whole zero-here rest-here;
      lists = lists g rs ws mid pages classes cs page index size p q h below long class is linked pops others shape new n owner owned next whole zero-here rest-here;
      zeroed = λ size-here e. let alike : size-here ≡ size = (let both : Some size-here ≡ Some size = sym e ∙ class in grind (arith, both)) in
          rw alike (zeroed g rs ws mid pages classes cs page index size p q h below long class is linked pops others shape new n owner owned next whole zero-here rest-here);
      blocks = rw now (blocks g rs ws mid pages classes cs page index size p q h below long class is linked pops others shape new n owner owned next whole zero-here rest-here);
    }
