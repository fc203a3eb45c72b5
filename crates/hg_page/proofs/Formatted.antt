-- What `format` and its helpers leave.
use Rattle.std.proofs.Common.{◌≡◌, ◌≢◌, ℕ, zero, suc, ◌+◌, ◌*◌, ◌-◌, ◌<◌, ◌≤◌, Bool, true, false, cond, not, nat_eq, List, [], ◌∷◌, ◌++◌, length, slice_index, slice_index_or, slice_set, refl, sym, ap, ◌∙◌, arith, subst, get_or-set_same, replicate, inl, inr}
use Rattle.std.specs.Prelude.{Contains}
use Rattle.std.proofs.lemmas.List.{length-set, length-append, length-replicate, get_or-replicate, get_or_past}
use Rattle.std.proofs.lemmas.Bool.{cases_lt}
use Rattle.std.proofs.lemmas.List.Elements.{Contains-append_left}
use Rattle.hg_lists.specs.Chains.{chain}
use Rattle.hg_lists.specs.Repeats.{Lacks}
use Rattle.hg_size.specs.Sizes.{pages_of}
use Rattle.hg_page.specs.Links.{last_of}
use Rattle.hg_page.specs.Shapes.{Shape, shape_of, start_of}
use Rattle.hg_page.specs.PageLists.{PageLists, listed, unworn, fresh}
use Rattle.hg_page.specs.Links.{link_at, lists_of, Links, IsLinked}
use Rattle.hg_page.specs.Others.{KeepsOthers}
use Rattle.hg_page.specs.declared.page.Page.{Page}
use Rattle.hg_lists.proofs.RepeatsLemmas.{Each-left, Each-right, Lacks-each}
use Rattle.hg_page.proofs.Chained.{chain-nil, chain_kept, last_of-front}
use Rattle.hg_page.proofs.Linked.{free-is, local-is, linked, links_kept, block_begins}
use Rattle.hg_page.proofs.Spliced.{none_counted}

abbrev pub empty_page : Page → ℕ → ℕ → Page
empty_page p size places = record p { size = size; places = places; free = 0; local = 0; in_use = 0; used = replicate 512 false }

-- no flag of these is set
pub unset : (n i : ℕ) → slice_index_or (replicate n false) i false ≡ false
unset n i = elim (cases_lt i n) [ inl lt ↦ get_or-replicate n i false false lt | inr ge ↦ get_or_past (replicate n false) i false (omega (arith, length-replicate n false)) ]

-- flags that are those
pub unset_all : (used : List Bool) → used ≡ replicate 512 false → (i : ℕ) → slice_index_or used i false ≡ false
unset_all used e i = rw e (unset 512 i)

-- a page takes another size, loses its lists, and nothing is used
pub emptied : (p : Page) (words : List ℕ) (size places : ℕ) → IsLinked p words → 1 ≤ size → size * places ≤ pages_of size * 512 → p.base + pages_of size * 512 ≤ 8192 → places ≤ 512 → Links (empty_page p size places) words [] []
emptied p words size places h sized inside within count = record {
  sized = sized;
  count = count;
  fits = inside;
  within = within;
  whole = h.whole;
  freed = refl;
  locals = refl;
  free_end = refl;
  local_end = refl;
  apart = tt;
  spare = tt;
  flags = length-replicate 512 false;
  counted = sym (none_counted (replicate 512 false) (unset 512));
  used = λ i lit. let no = unset 512 i in cc;
  room = omega arith;
}

pub emptied-shown : (p : Page) (words : List ℕ) (size places : ℕ) → lists_of (empty_page p size places) words ≡ fresh []
emptied-shown p words size places = rw (chain-nil 511 (link_at (empty_page p size places) words) 0 refl) refl

-- an index goes in front of `free`
pub fronts : (p : Page) (words free local : List ℕ) (index end : ℕ) → index < p.places → slice_index_or p.used index true ≡ false → Lacks index (free ++ local) → length (free ++ local) + p.in_use < p.places → last_of index free ≡ end → Links p words free local → Links (record p { free = index + 1; free_end = end }) (slice_set words (start_of (shape_of p) index) p.free) (index ∷ free) local
fronts p words free local index end below unused apart room ends h =
    let same = links_kept p words index p.free (free ++ local) h.sized (Lacks-each index (free ++ local) apart) in
    let start : start_of (shape_of p) index < length words = omega (arith, block_begins p.size p.places index below h.sized h.fits, h.within, h.whole, h.sized) in record {
      sized = h.sized;
      count = h.count;
      fits = h.fits;
      within = h.within;
      whole = length-set words (start_of (shape_of p) index) p.free ∙ h.whole;
      freed = (omega arith, rw (get_or-set_same words (start_of (shape_of p) index) p.free 0 start) (chain_kept (link_at p words) (link_at p (slice_set words (start_of (shape_of p) index) p.free)) p.free free (Each-left (λ j. link_at p (slice_set words (start_of (shape_of p) index) p.free) j ≡ link_at p words j) free local same) h.freed));
      locals = chain_kept (link_at p words) (link_at p (slice_set words (start_of (shape_of p) index) p.free)) p.local local (Each-right (λ j. link_at p (slice_set words (start_of (shape_of p) index) p.free) j ≡ link_at p words j) free local same) h.locals;
      free_end = ends;
      local_end = h.local_end;
      apart = (apart, h.apart);
      spare = ((below, unused), h.spare);
      flags = h.flags;
      counted = h.counted;
      used = h.used;
      room = omega (arith, room, length-append free local);
    }

-- the clauses of a push in front of `free`
pub record Fronted (p q : Page) (words new : List ℕ) (index : ℕ) : Type 0 where
  pub linked : IsLinked q new
  pub shown : lists_of q new ≡ record (lists_of p words) { free = index ∷ (lists_of p words).free }

abbrev pub fronted_page : Page → ℕ → Page
fronted_page p index = record p { free = index + 1; free_end = cond (nat_eq p.free 0) index p.free_end }

abbrev pub fronted_words : Page → List ℕ → ℕ → List ℕ
fronted_words p words index = slice_set words (start_of (shape_of p) index) p.free

pub fronted : (p : Page) (words : List ℕ) (index : ℕ) → IsLinked p words → index < p.places → slice_index_or p.used index true ≡ false → Lacks index (listed (lists_of p words)) → length (listed (lists_of p words)) + p.in_use < p.places → Links (fronted_page p index) (fronted_words p words index) (index ∷ chain 512 (link_at p words) p.free) (chain 512 (link_at p words) p.local)
fronted p words index h below unused apart room = fronts p words (chain 512 (link_at p words) p.free) (chain 512 (link_at p words) p.local) index (cond (nat_eq p.free 0) index p.free_end) below unused apart room (last_of-front 511 (link_at p words) p.free p.free_end index h.free_end) h

pub fronted-all : (p : Page) (words new : List ℕ) (index end start : ℕ) → IsLinked p words → index < p.places → slice_index_or p.used index true ≡ false → Lacks index (listed (lists_of p words)) → length (listed (lists_of p words)) + p.in_use < p.places → end ≡ cond (nat_eq p.free 0) index p.free_end → start ≡ start_of (shape_of p) index → new ≡ slice_set words start p.free → Fronted p (record p { free = index + 1; free_end = end }) words new index
fronted-all p words new index end start h below unused apart room e s n =
    let k = fronted p words index h below unused apart room in
    rw (n, s, e) (record {
      linked = linked (fronted_page p index) (fronted_words p words index) _ _ k;
      shown = rw (free-is (fronted_page p index) (fronted_words p words index) _ _ k, local-is (fronted_page p index) (fronted_words p words index) _ _ k) refl;
    })

-- how far `format` has come
pub record Formatting (worn : List Bool) (at : ℕ) (first p : Page) (before words : List ℕ) : Type 0 where
  pub linked : IsLinked p words
  pub below : at ≤ p.places
  pub shown : lists_of p words ≡ record { free = unworn worn at (p.places - at); local_free = []; used = replicate 512 false }
  pub unused : p.in_use ≡ 0
  pub others : KeepsOthers (shape_of p) (unworn worn at (p.places - at)) before words
  pub shape : shape_of p ≡ shape_of first

-- what comes later isn't there
pub unworn_lacks : (worn : List Bool) (b a n : ℕ) → b < a → Lacks b (unworn worn a n ++ [])
unworn_lacks worn b a zero lt = tt
unworn_lacks worn b a (suc n) lt =
    let rest = unworn_lacks worn b (a + 1) n (omega arith) in
    elim (not (slice_index_or worn a false)) as (λ (v : Bool). Lacks b (cond v (a ∷ unworn worn (a + 1) n) (unworn worn (a + 1) n) ++ [])) [ true ↦ ((λ e. omega arith), rest) | false ↦ rest ]

pub length-unworn : (worn : List Bool) (a n : ℕ) → length (unworn worn a n ++ []) ≤ n
length-unworn worn a zero = omega arith
length-unworn worn a (suc n) =
    let rest = length-unworn worn (a + 1) n in
    elim (not (slice_index_or worn a false)) as (λ (v : Bool). length (cond v (a ∷ unworn worn (a + 1) n) (unworn worn (a + 1) n) ++ []) ≤ suc n) [ true ↦ omega arith | false ↦ omega arith ]

turned : (w : Bool) (xs ys : List ℕ) → cond (not w) xs ys ≡ cond w ys xs
turned true xs ys = refl
turned false xs ys = refl

found : (w : Bool) (x : ℕ) (xs : List ℕ) → w ≡ false → Contains (cond w xs (x ∷ xs)) x
found true x xs e = cc
found false x xs e = (0, omega arith, refl)

kept : (w : Bool) (x y : ℕ) (xs : List ℕ) → Contains xs y → Contains (cond w xs (x ∷ xs)) y
kept true x y xs c = c
kept false x y xs c = (suc c.0, omega (arith, c.1), c.2)

pub formatting_lacks : (worn : List Bool) (at : ℕ) (first p : Page) (before words : List ℕ) → Formatting worn at first p before words → 0 < at → Lacks (at - 1) (listed (lists_of p words))
formatting_lacks worn at first p before words f lt = subst (λ (l : PageLists). Lacks (at - 1) (listed l)) (sym f.shown) (unworn_lacks worn (at - 1) at (p.places - at) (omega arith))

pub formatting_room : (worn : List Bool) (at : ℕ) (first p : Page) (before words : List ℕ) → Formatting worn at first p before words → 0 < at → length (listed (lists_of p words)) + p.in_use < p.places
formatting_room worn at first p before words f lt = subst (λ (l : PageLists). length (listed l) + p.in_use < p.places) (sym f.shown) (omega (arith, length-unworn worn at (p.places - at), f.unused, f.below))

-- no place yet
pub formatting_none : (worn : List Bool) (p : Page) (words : List ℕ) → IsLinked p words → lists_of p words ≡ fresh [] → p.in_use ≡ 0 → Formatting worn p.places p p words words
formatting_none worn p words h shown idle = record {
  linked = h;
  below = omega arith;
  shown = let e : p.places - p.places ≡ 0 = omega arith in rw e shown;
  unused = idle;
  others = λ at apart. refl;
  shape = refl;
}

-- all places
pub formatting_shown : (worn : List Bool) (at count : ℕ) (first p : Page) (before words : List ℕ) → Formatting worn at first p before words → at ≤ 0 → first.places ≡ count → lists_of p words ≡ fresh (unworn worn 0 count)
formatting_shown worn at count first p before words f le is =
    let none : at ≡ 0 = omega arith in
    let all : p.places - at ≡ count = omega (arith, ap (λ (s : Shape). s.places) f.shape, is, none) in
    subst (λ (n : ℕ). lists_of p words ≡ fresh (unworn worn n count)) none (subst (λ (n : ℕ). lists_of p words ≡ fresh (unworn worn at n)) all f.shown)

-- one place more
unworn_step : (worn : List Bool) (at places : ℕ) → 0 < at → at ≤ places → unworn worn (at - 1) (places - (at - 1)) ≡ cond (slice_index_or worn (at - 1) false) (unworn worn at (places - at)) ((at - 1) ∷ unworn worn at (places - at))
unworn_step worn at places lt le =
    let e : places - (at - 1) ≡ suc (places - at) = omega arith in
    let f : at - 1 + 1 ≡ at = omega arith in
    let step : unworn worn (at - 1) (suc (places - at)) ≡ cond (not (slice_index_or worn (at - 1) false)) ((at - 1) ∷ unworn worn at (places - at)) (unworn worn at (places - at)) = ap (λ (a : ℕ). cond (not (slice_index_or worn (at - 1) false)) ((at - 1) ∷ unworn worn a (places - at)) (unworn worn a (places - at))) f in
    ap (unworn worn (at - 1)) e ∙ step ∙ turned (slice_index_or worn (at - 1) false) ((at - 1) ∷ unworn worn at (places - at)) (unworn worn at (places - at))

pub formatting_more : (worn : List Bool) (at : ℕ) (first p q : Page) (before words new : List ℕ) (w : Bool) → Formatting worn at first p before words → 0 < at → w ≡ slice_index_or worn (at - 1) false
    → IsLinked q new → lists_of q new ≡ record (lists_of p words) { free = cond w (lists_of p words).free ((at - 1) ∷ (lists_of p words).free) }
    → ((k : ℕ) → (w ≡ false → k ≢ start_of (shape_of p) (at - 1)) → slice_index new k ≡ slice_index words k) → shape_of q ≡ shape_of p → q.in_use ≡ p.in_use
    → Formatting worn (at - 1) first q before new
formatting_more worn at first p q before words new w f lt is linked offered others shape idle =
    let base : q.base ≡ p.base = ap (λ (s : Shape). s.base) shape in
    let size : q.size ≡ p.size = ap (λ (s : Shape). s.size) shape in
    let places : q.places ≡ p.places = ap (λ (s : Shape). s.places) shape in
    let step : unworn worn (at - 1) (q.places - (at - 1)) ≡ cond w (unworn worn at (p.places - at)) ((at - 1) ∷ unworn worn at (p.places - at)) = rw (places, is) (unworn_step worn at p.places lt f.below) in record {
      linked = linked;
      below = omega (arith, f.below, places);
      shown = offered ∙ subst (λ (l : PageLists). record l { free = cond w l.free ((at - 1) ∷ l.free) } ≡ record { free = unworn worn (at - 1) (q.places - (at - 1)); local_free = []; used = replicate 512 false }) (sym f.shown) (ap (λ (xs : List ℕ). let l : PageLists = record { free = xs; local_free = []; used = replicate 512 false } in l) (sym step));
      unused = idle ∙ f.unused;
      others = λ k apart.
          let apart : (i : ℕ) → Contains (cond w (unworn worn at (p.places - at)) ((at - 1) ∷ unworn worn at (p.places - at))) i → k ≢ start_of (shape_of q) i = subst (λ (xs : List ℕ). (i : ℕ) → Contains xs i → k ≢ start_of (shape_of q) i) step apart in
          let same : (i : ℕ) → start_of (shape_of q) i ≡ start_of (shape_of p) i = λ i. rw (base, size) refl in
          others k (λ no e. apart (at - 1) (found w (at - 1) (unworn worn at (p.places - at)) no) (e ∙ sym (same (at - 1))))
          ∙ f.others k (λ i on e. apart i (kept w (at - 1) i (unworn worn at (p.places - at)) on) (e ∙ sym (same i)));
      shape = shape ∙ f.shape;
    }

pub formatting_all : (worn : List Bool) (at : ℕ) (first p : Page) (before words : List ℕ) → Formatting worn at first p before words → at ≤ 0 → KeepsOthers (shape_of p) (listed (lists_of p words)) before words
formatting_all worn at first p before words f le k apart = f.others k (λ i on. apart i (subst (λ (l : PageLists). Contains (listed l) i) (sym f.shown) (Contains-append_left (unworn worn at (p.places - at)) [] i on)))

-- a page that has no places
pub new_links : (p : Page) (words : List ℕ) → p.size ≡ 1 → p.places ≡ 0 → p.base + 512 ≤ 8192 → p.free ≡ 0 → p.local ≡ 0 → p.in_use ≡ 0 → length p.used ≡ 512 → ((i : ℕ) → slice_index_or p.used i false ≡ false) → length words ≡ 8192 → Links p words [] []
new_links p words size places base free local idle all unset whole = record {
  sized = omega arith;
  count = omega arith;
  fits = rw (places, size) (omega arith);
  within = rw size (omega (arith, base));
  whole = whole;
  freed = free;
  locals = local;
  free_end = refl;
  local_end = refl;
  apart = tt;
  spare = tt;
  flags = all;
  counted = idle ∙ sym (none_counted p.used unset);
  used = λ i lit. let no = unset i in cc;
  room = omega arith;
}

-- a page of which no index is used loses its lists
abbrev pub retired_page : Page → Page
retired_page p = record p { free = 0; local = 0 }

pub retired : (p : Page) (words : List ℕ) → IsLinked p words → ((i : ℕ) → slice_index_or p.used i false ≡ false) → Links (retired_page p) words [] []
retired p words h idle = record {
  sized = h.sized;
  count = h.count;
  fits = h.fits;
  within = h.within;
  whole = h.whole;
  freed = refl;
  locals = refl;
  free_end = refl;
  local_end = refl;
  apart = tt;
  spare = tt;
  flags = h.flags;
  counted = h.counted;
  used = h.used;
  room = omega (arith, none_counted p.used idle, h.counted);
}

pub retired-shown : (p : Page) (words : List ℕ) → lists_of (retired_page p) words ≡ record { free = []; local_free = []; used = p.used }
retired-shown p words = rw (chain-nil 511 (link_at (retired_page p) words) 0 refl) refl
