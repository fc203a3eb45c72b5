-- A word of an open block is read or written.
use Rattle.std.proofs.Common.{◌≡◌, ◌≢◌, ℕ, ◌+◌, ◌*◌, ◌<◌, ◌≤◌, false, List, length, slice_index, slice_index_or, slice_set, map, refl, sym, ap, ◌∙◌, arith, subst, inl, inr, ⊎_elim, ◌⊎◌, get_or-set_other}
use Rattle.std.specs.Prelude.{Option, Some}
use Rattle.std.proofs.lemmas.Bool.{cases_eq, cases_lt}
use Rattle.std.proofs.lemmas.List.{length-set, length-map, get_or-map, ext_get_or}
use Rattle.hg_place.specs.declared.geometry.TheConstants.{SEGMENT_WORDS}
use Rattle.hg_words.proofs.Ranges.{block_of-set}
use Rattle.hg_page.specs.Shapes.{shape_of}
use Rattle.hg_page.specs.Links.{lists_of}
use Rattle.hg_page.specs.declared.page.Page.{Page}
use Rattle.hg_page.proofs.Frames.{Same, same_but_used, same_in_page}
use Rattle.hg_place.specs.declared.standing.Standing.{Standing}
use Rattle.hg_place.specs.Standings.{standing_at, is_home}
use Rattle.hg_segment.specs.Kept.{class_at, no_lists}
use Rattle.hg_segment.specs.Blocks.{block_at, KeepsOtherBlocks}
use Rattle.hg_segment.specs.Right.{IsPageRight, IsRight}
use Rattle.hg_size.specs.Sizes.{pages_of}
use Rattle.hg_segment.proofs.Beside.{AreBeside, beside_classed, kept_pages, page_same}
use Rattle.hg_segment.proofs.Turned.{page_kept}
use Rattle.hg_segment.proofs.KeptBlocks.{open_used, open_inside, blocks_kept, words_apart}

module _ (g : ℕ) (rs : List Standing) (ws : List ℕ) (pages : List Page) (classes : List (Option ℕ)) (cs : List ℕ) (page index size at : ℕ) (d : Page)
    (h : IsRight g rs ws pages classes cs) (below : page < 16) (small : index < 512) (away : is_home (standing_at rs (page * 512 + index)) ≡ false)
    (class : class_at classes page ≡ Some size) (inside : at < size) where
  mine : (e : Page) → IsPageRight g rs ws page (Some size) (slice_index_or pages page e)
  mine e = subst (λ (c : Option ℕ). IsPageRight g rs ws page c (slice_index_or pages page e)) class (h.each page below e)

  fits : (page + pages_of size ≤ 16) × (size * index + size ≤ pages_of size * 512)
  fits = open_inside g rs ws page index size (slice_index_or pages page d) (mine d) small away

  whole : length ws ≡ SEGMENT_WORDS
  whole = (mine d).linked.whole

  pub in_block : at < size
  in_block = inside

  pub in_words : page * 512 + size * index + at < 8192
  in_words = omega (arith, in_block, fits.0, fits.1)

  module _ (value : ℕ) where
    abbrev new : List ℕ
    new = slice_set ws (page * 512 + size * index + at) value

    full : length new ≡ SEGMENT_WORDS
    full = length-set ws (page * 512 + size * index + at) value ∙ whole

    rest : (w : ℕ) → (w < page * 512 + size * index) ⊎ (page * 512 + size * index + size ≤ w) → slice_index new w ≡ slice_index ws w
    rest w out = get_or-set_other ws (page * 512 + size * index + at) w value 0 (λ e. ⊎_elim (λ lt. absurd (omega (arith, lt, e))) (λ ge. absurd (omega (arith, ge, e, in_block))) out)

    out : (w : ℕ) → (w < page * 512) ⊎ (page * 512 + pages_of size * 512 ≤ w) → slice_index new w ≡ slice_index ws w
    out w o = rest w (⊎_elim (λ lt. inl (omega (arith, lt))) (λ ge. inr (omega (arith, ge, fits.1))) o)

    same_here : (e : Page) → Same (slice_index_or pages page e) ws new
    same_here e = let p = slice_index_or pages page e in let k = mine e in
        let m : (shape_of p).size * index ≡ size * index = ap (λ (n : ℕ). n * index) k.shape.1 in
        same_but_used p ws new index k.linked (open_used g rs ws page index (Some size) p k small away) full
        (λ w o. rest w (⊎_elim (λ lt. inl (omega (arith, lt, m, k.base))) (λ ge. inr (omega (arith, ge, m, k.base, k.shape.1))) o))

    beside : AreBeside classes page (pages_of size)
    beside = beside_classed classes page size h.runs class

    same_there : (k : ℕ) → k < 16 → k ≢ page → (e : Page) → Same (slice_index_or pages k e) ws new
    same_there k lt ne e = page_same g rs ws new k (class_at classes k) (slice_index_or pages k e) (h.each k lt e) full (kept_pages classes ws new page (pages_of size) beside out k ne)

    same_each : (k : ℕ) → k < 16 → (e : Page) → Same (slice_index_or pages k e) ws new
    same_each k lt e = elim (cases_eq k page) [
      | inl is ↦ rw is (same_here e)
      | inr ne ↦ same_there k lt ne e
    ]

    pub right : IsRight g rs new pages classes cs
    right = record {
      pages_all = h.pages_all;
      classes_all = h.classes_all;
      charges_all = h.charges_all;
      each = λ k lt e. page_kept g rs rs ws new k (class_at classes k) (slice_index_or pages k e) (h.each k lt e) (same_each k lt e) (λ i l. refl);
      runs = h.runs;
      bounded = h.bounded;
      charged = h.charged;
    }

    pub lists : map (λ x. lists_of x new) pages ≡ map (λ x. lists_of x ws) pages
    lists = let long-new = length-map pages (λ (x : Page). lists_of x new) in let long = length-map pages (λ (x : Page). lists_of x ws) in
        ext_get_or no_lists (map (λ (x : Page). lists_of x new) pages) (map (λ (x : Page). lists_of x ws) pages) (long-new ∙ sym long) (λ k lt.
        let l : k < length pages = omega (arith, lt, long-new) in
        get_or-map (λ (x : Page). lists_of x new) pages k d no_lists l ∙ ((same_each k (omega (arith, l, h.pages_all)) d).shown ∙ sym (get_or-map (λ (x : Page). lists_of x ws) pages k d no_lists l)))

    pub written : block_at new classes page index ≡ slice_set (block_at ws classes page index) at value
    written = rw class (block_of-set ws (page * 512 + size * index) size at value (omega (arith, fits.0, fits.1, whole)) in_block)

    pub blocks : KeepsOtherBlocks rs classes page index ws new
    blocks other i lower under open-there ne =
        blocks_kept g rs rs ws new pages classes page (pages_of size) d beside full h.each out other i lower under open-there (λ e size-here w is-here l r.
        let alike : size-here ≡ size = (let both : Some size-here ≡ Some size = sym is-here ∙ class in grind (arith, both)) in
        let m : size * i ≡ size-here * i = ap (λ (k : ℕ). k * i) (sym alike) in
        let apart : i ≢ index = ⊎_elim (λ f. absurd (f e)) (λ f. f) ne in
        rest w (words_apart (page * 512) size i index w apart (omega (arith, l, m)) (omega (arith, r, m, alike))))
