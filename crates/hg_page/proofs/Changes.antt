-- What each change of the lists leaves listed, and used.
use Rattle.std.proofs.Common.{◌≡◌, ◌≢◌, ℕ, Bool, true, false, List, [], ◌∷◌, ◌++◌, length, slice_index_or, slice_set, refl, sym, ap, ◌∙◌, arith, subst, ◌⊎◌, inl, inr, ⊎_elim, get_or-set_other, get_or-set_same}
use Rattle.std.specs.Prelude.{Contains}
use Rattle.std.proofs.lemmas.List.{append-nil, length-set, get_or_past}
use Rattle.std.proofs.lemmas.List.Elements.{Contains-append_left, Contains-append_right, Contains-append_cases}
use Rattle.std.proofs.lemmas.Bool.{cases_lt}
use Rattle.hg_lists.specs.Repeats.{HasNoRepeats}
use Rattle.hg_lists.proofs.RepeatsLemmas.{Contains-cons, Contains-cons_cases, Contains-lacks}
use Rattle.hg_page.specs.PageLists.{PageLists, listed, IsUsed, IsIdle, Pops, unused, pushed, spliced, freed, fresh}
use Rattle.hg_page.specs.Links.{lists_of, IsLinked}
use Rattle.hg_page.specs.declared.page.Page.{Page}
use Rattle.hg_page.proofs.Formatted.{unset}
use Rattle.hg_page.proofs.Frames.{listed_below}

-- the head of `free` comes off

pub listed-popped : (index : ℕ) (old new : PageLists) → Pops index old new → listed old ≡ index ∷ listed new
listed-popped index old new h = ap (λ (xs : List ℕ). xs ++ old.local_free) h.free ∙ ap (λ (ys : List ℕ). index ∷ (new.free ++ ys)) (sym h.local_free)

pub popped_listed : (index : ℕ) (old new : PageLists) → Pops index old new → Contains (listed old) index
popped_listed index old new h = subst (λ (xs : List ℕ). Contains xs index) (sym (listed-popped index old new h)) (0, omega arith, refl)

pub popped_unlisted : (index : ℕ) (old new : PageLists) → HasNoRepeats (listed old) → Pops index old new → ¬ Contains (listed new) index
popped_unlisted index old new once h c = Contains-lacks index (listed new) (subst HasNoRepeats (listed-popped index old new h) once).0 c

pub popped_cases : (index other : ℕ) (old new : PageLists) → Pops index old new → Contains (listed old) other → (other ≡ index) ⊎ Contains (listed new) other
popped_cases index other old new h c = Contains-cons_cases index other (listed new) (subst (λ (xs : List ℕ). Contains xs other) (listed-popped index old new h) c)

pub Contains-popped : (index other : ℕ) (old new : PageLists) → Pops index old new → Contains (listed new) other → Contains (listed old) other
Contains-popped index other old new h c = subst (λ (xs : List ℕ). Contains xs other) (sym (listed-popped index old new h)) (Contains-cons index other (listed new) c)

pub IsUsed-popped : (p : Page) (words : List ℕ) (index : ℕ) (new : PageLists) → IsLinked p words → Pops index (lists_of p words) new → IsUsed new index
IsUsed-popped p words index new k h =
    let below = listed_below p words index k (popped_listed index (lists_of p words) new h) in
    ap (λ (used : List Bool). slice_index_or used index false) h.used ∙ get_or-set_same p.used index true false (omega (arith, below, k.count, k.flags))

pub used-popped_other : (index other : ℕ) (old new : PageLists) → Pops index old new → other ≢ index → slice_index_or new.used other false ≡ slice_index_or old.used other false
used-popped_other index other old new h ne = ap (λ (used : List Bool). slice_index_or used other false) h.used ∙ get_or-set_other old.used index other true false ne

-- an index is used no more

pub unused_same : (index : ℕ) (lists : PageLists) → slice_index_or (unused lists index).used index false ≡ false
unused_same index lists = elim (cases_lt index (length lists.used)) [
  | inl lt ↦ get_or-set_same lists.used index false false lt
  | inr ge ↦ get_or_past (slice_set lists.used index false) index false (omega (arith, length-set lists.used index false))
]

pub unused_other : (index other : ℕ) (lists : PageLists) → other ≢ index → slice_index_or (unused lists index).used other false ≡ slice_index_or lists.used other false
unused_other index other lists ne = get_or-set_other lists.used index other false false ne

-- and stands in front of `local_free`

pub pushed_cases : (index other : ℕ) (lists : PageLists) → Contains (listed (pushed lists index)) other → (other ≡ index) ⊎ Contains (listed lists) other
pushed_cases index other lists c = ⊎_elim
    (λ l. inr (Contains-append_left lists.free lists.local_free other l))
    (λ r. ⊎_elim (λ e. inl e) (λ d. inr (Contains-append_right lists.free lists.local_free other d)) (Contains-cons_cases index other lists.local_free r))
    (Contains-append_cases lists.free (index ∷ lists.local_free) other c)

pub Contains-pushed : (index other : ℕ) (lists : PageLists) → Contains (listed lists) other → Contains (listed (pushed lists index)) other
Contains-pushed index other lists c = ⊎_elim
    (λ l. Contains-append_left lists.free (index ∷ lists.local_free) other l)
    (λ r. Contains-append_right lists.free (index ∷ lists.local_free) other (Contains-cons index other lists.local_free r))
    (Contains-append_cases lists.free lists.local_free other c)

pub Contains-pushed_same : (index : ℕ) (lists : PageLists) → Contains (listed (pushed lists index)) index
Contains-pushed_same index lists = Contains-append_right lists.free (index ∷ lists.local_free) index (0, omega arith, refl)

-- `local_free` goes behind `free`, or all are others

pub listed-spliced : (lists : PageLists) → listed (spliced lists) ≡ listed lists
listed-spliced lists = append-nil (lists.free ++ lists.local_free)

pub listed-freed : (lists : PageLists) (free : List ℕ) → listed (freed lists free) ≡ free
listed-freed lists free = append-nil free

-- nothing is listed, so nothing goes behind
pub spliced-none : (lists : PageLists) → listed lists ≡ [] → spliced lists ≡ lists
spliced-none lists none = go lists.free lists.local_free lists.used none
  where
    go : (free local : List ℕ) (used : List Bool) → free ++ local ≡ [] → ◌≡◌ {A = PageLists} (record { free = free ++ local; local_free = []; used = used }) (record { free = free; local_free = local; used = used })
    go [] [] used e = refl
    go [] (y ∷ ys) used e = absurd (cc)
    go (x ∷ xs) local used e = absurd (cc)

-- of a page that was just formatted, those are listed, and none is used

pub listed-fresh : (free : List ℕ) → listed (fresh free) ≡ free
listed-fresh free = append-nil free

pub idle_fresh : (free : List ℕ) → IsIdle (fresh free)
idle_fresh free = unset 512
