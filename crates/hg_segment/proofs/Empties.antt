-- A segment of which no place was ever given out.
use Rattle.std.proofs.Common.{◌≡◌, ℕ, ◌+◌, ◌*◌, ◌<◌, true, not, List, [], ◌∷◌, ◌++◌, length, slice_index, slice_index_or, map, sym, ap, ◌∙◌, arith, subst, inl, inr}
use Rattle.std.specs.Prelude.{Contains, Option, None}
use Rattle.std.proofs.lemmas.Bool.{cases_eq, cases_lt}
use Rattle.std.proofs.lemmas.List.{get_or_append_left, get_or-map, get_or_past, length-map}
use Rattle.std.proofs.Math.Seq.{get_or-append_seam}
use Rattle.hg_place.specs.declared.geometry.TheConstants.{SEGMENT_WORDS}
use Rattle.hg_lists.specs.Repeats.{HasNoRepeats}
use Rattle.hg_page.specs.PageLists.{PageLists, listed, IsIdle}
use Rattle.hg_page.specs.Links.{lists_of}
use Rattle.hg_page.specs.declared.page.Page.{Page}
use Rattle.hg_place.specs.declared.standing.Standing.{Standing}
use Rattle.hg_place.specs.declared.standing.Standing.TheVariants.{Home}
use Rattle.hg_place.specs.Standings.{standing_at, is_home}
use Rattle.hg_segment.specs.Kept.{class_at, lists_at, no_lists}
use Rattle.hg_segment.specs.Empty.{IsEmptyPage}
use Rattle.std.proofs.lemmas.Option.{none-some}
use Rattle.hg_segment.specs.Right.{AreListsRight, IsPageRight, IsRight}
use Rattle.hg_segment.proofs.Charged.{charge_none}

-- one more page
pub one_more : (pages more : List Page) (n m : ℕ) (p : Page) → length pages ≡ n → m ≡ n + 1 → more ≡ pages ++ p ∷ [] → IsEmptyPage n p
    → ((k : ℕ) → k < n → (d : Page) → IsEmptyPage k (slice_index_or pages k d))
    → (k : ℕ) → k < m → (d : Page) → IsEmptyPage k (slice_index_or more k d)
one_more pages more n m p long next is mine h k lt d = rw is (elim (cases_eq k n) [
  | inl e ↦ subst (λ (x : Page). IsEmptyPage k x) (sym (ap (λ (j : ℕ). slice_index_or (pages ++ p ∷ []) j d) (e ∙ sym long) ∙ get_or-append_seam pages p [] d)) (rw e mine)
  | inr ne ↦ subst (λ (x : Page). IsEmptyPage k x) (sym (get_or_append_left pages (p ∷ []) d k (omega (arith, lt, ne, next, long)))) (h k (omega (arith, lt, ne, next)) d)
])

-- lists without places, where all are home
pub lists_empty : (g : ℕ) (rs : List Standing) (page : ℕ) (lists : PageLists) → listed lists ≡ [] → IsIdle lists
    → ((index : ℕ) → index < 512 → is_home (standing_at rs (page * 512 + index)) ≡ true) → AreListsRight g rs page None lists
lists_empty g rs page lists none idle home = record {
  once = subst HasNoRepeats (sym none) tt;
  vacant = λ i c. absurd (let d : Contains [] i = subst (λ (xs : List ℕ). Contains xs i) none c in omega (arith, d.1));
  all = none;
  used = λ i lt. idle i ∙ sym (ap not (home i lt));
}

pub right_new : (g : ℕ) (rs : List Standing) (ws : List ℕ) (pages : List Page) (classes : List (Option ℕ)) (cs : List ℕ) → length pages ≡ 16 → length classes ≡ 16 → length cs ≡ 64 → length ws ≡ SEGMENT_WORDS
    → ((k : ℕ) → k < 16 → (d : Page) → IsEmptyPage k (slice_index_or pages k d))
    → ((k : ℕ) → class_at classes k ≡ None)
    → ((k : ℕ) → slice_index cs k ≡ 0)
    → ((at : ℕ) → standing_at rs at ≡ Home 0)
    → IsRight g rs ws pages classes cs
right_new g rs ws pages classes cs pl cl sl wl empty none zero home = record {
  pages_all = pl;
  classes_all = cl;
  charges_all = sl;
  each = λ k lt d. let it = empty k lt d in subst (λ (c : Option ℕ). IsPageRight g rs ws k c (slice_index_or pages k d)) (sym (none k)) (record {
    linked = it.linked ws wl;
    base = it.base;
    shape = tt;
    unused = it.idle ws;
    lists = lists_empty g rs k (lists_of (slice_index_or pages k d) ws) (it.unlisted ws) (it.idle ws) (λ i l. ap is_home (home (k * 512 + i)));
  });
  runs = λ k. record {
    inside = λ n e. absurd (none-some n (sym (none k) ∙ e));
    covered = λ e. none k;
  };
  bounded = λ at. rw (home at) (omega arith);
  charged = λ t lt. zero t ∙ sym (charge_none rs classes t (λ at l. ap is_home (home at)));
}

-- no list has a place
pub lists_new : (ws : List ℕ) (pages : List Page) (d : Page) → length pages ≡ 16 → ((k : ℕ) → k < 16 → (e : Page) → IsEmptyPage k (slice_index_or pages k e)) → (page : ℕ) → listed (lists_at (map (λ x. lists_of x ws) pages) page) ≡ []
lists_new ws pages d long empty page = elim (cases_lt page 16) [
  | inl lt ↦ ap listed (get_or-map (λ (x : Page). lists_of x ws) pages page d no_lists (omega (arith, lt, long))) ∙ (empty page lt d).unlisted ws
  | inr ge ↦ ap listed (get_or_past (map (λ (x : Page). lists_of x ws) pages) page no_lists (omega (arith, ge, long, length-map pages (λ (x : Page). lists_of x ws))))
]
