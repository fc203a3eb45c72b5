-- The order in which places come off.
use Rattle.std.proofs.Common.{◌≡◌, ◌≢◌, ℕ, zero, suc, ◌<◌, ◌≤◌, List, [], ◌∷◌, ◌++◌, length, map}
use Rattle.std.proofs.Common.{slice_index_or, slice_set, refl, sym, ap, ◌∙◌, arith, subst, inl, inr}
use Rattle.std.proofs.Common.{⊎_elim}
use Rattle.std.proofs.Common.{get_or-set_other, get_or-set_same, true, false, replicate, Bool, ◌||◌}
use Rattle.std.proofs.Common.{nat_eq as eqb}
use Rattle.std.specs.Prelude.{Contains}
use Rattle.std.specs.List.{concat, list_any, IsDistinct}
use Rattle.std.proofs.lemmas.Bool.{cases_eq}
use Rattle.std.proofs.lemmas.List.{ext_get_or, nil_from_length}
use Rattle.std.proofs.lemmas.Map.Keys.{IsDistinct-cons}
use Rattle.std.proofs.lemmas.Map.Steps.{length-le_from_distinct_below}
use Rattle.hg_place.specs.Places.{page_of, index_of}
use Rattle.hg_lists.specs.Repeats.{Lacks, HasNoRepeats}
use Rattle.hg_lists.proofs.RepeatsLemmas.{Contains-cons, Contains-cons_cases, lacks_contains}
use Rattle.hg_lists.proofs.RepeatsLemmas.{nat_eq-other, Contains-lacks, Each-weaker, Lacks-each}
use Rattle.hg_lists.proofs.InsertsLemmas.{inserted_cases, Contains-inserted, Contains-Inserts}
use Rattle.hg_lists.proofs.InsertsLemmas.{length-Inserts, no_repeats_inserted}
use Rattle.hg_remote.specs.Remote.{Remote, IsRight, contents, slot, thread_at}
use Rattle.hg_remote.specs.Sends.{with_thread, TakesThread, TakesDelayed}
use Rattle.hg_remote.specs.Order.{drained}
use Rattle.hg_remote.specs.RemoteLaws.{DrainGivesHead, IsOrderOf, OrderHasAll, EmptyIsNothingSent}
use Rattle.hg_remote.proofs.Delayed.{has_of_any}
use Rattle.hg_remote.proofs.Drained.{Drained, slot_is, thread_drained, delayed_drained}
use Rattle.hg_remote.proofs.Kept.{none_on, nothing_at, contents_none, delayed_none}

-- the order of some delayed places, by the thread-free lists
abbrev order : List (List ℕ) → List ℕ → List ℕ
order lists delayed =
    concat (map (λ place. slice_index_or lists (page_of place) [] ++ place ∷ []) delayed)

-- another thread-free list of a page that has none of them
order_other : (lists : List (List ℕ)) (page : ℕ) (rest places : List ℕ)
    → Lacks page (map page_of places)
    → order (slice_set lists page rest) places ≡ order lists places
order_other lists page rest [] l = refl
order_other lists page rest (x ∷ xs) l =
    ap (λ (ys : List ℕ). (ys ++ x ∷ []) ++ order (slice_set lists page rest) xs)
    (get_or-set_other lists page (page_of x) rest [] (λ e. l.0 (sym e)))
    ∙ ap (λ (ys : List ℕ). (slice_index_or lists (page_of x) [] ++ x ∷ []) ++ ys)
    (order_other lists page rest xs l.1)

-- a place off the thread-free list of the first one's page
order_thread : (lists : List (List ℕ)) (first : ℕ) (others : List ℕ) (place : ℕ) (rest : List ℕ)
    → page_of first < length lists → Lacks (page_of first) (map page_of others)
    → slice_index_or lists (page_of first) [] ≡ place ∷ rest
    → order lists (first ∷ others) ≡ place ∷ order (slice_set lists (page_of first) rest)
    (first ∷ others)
order_thread lists first others place rest lt l e =
    ap (λ (xs : List ℕ). (xs ++ first ∷ []) ++ order lists others) e
    ∙ ap (λ (xs : List ℕ). place ∷ (xs ++ first ∷ []) ++ order lists others)
    (sym (get_or-set_same lists (page_of first) rest [] lt))
    ∙ ap (λ (ys : List ℕ). place ∷
    (slice_index_or (slice_set lists (page_of first) rest)
    (page_of first) [] ++ first ∷ []) ++ ys)
    (sym (order_other lists (page_of first) rest others l))

head_thread : (old new : Remote) (page index : ℕ) → IsRight old → (first : ℕ) (others : List ℕ)
    → old.delayed ≡ first ∷ others
    → page_of first ≡ page → TakesThread old new page index
    → drained old ≡ slot page index ∷ drained new
head_thread old new page index h first others leads is t =
    let once = subst (λ (xs : List ℕ). HasNoRepeats (map page_of xs)) leads h.one_delayed in
    let low : page_of first < length old.thread_free =
    (let b = h.below first
    (subst (λ (xs : List ℕ). Contains (xs ++ concat old.thread_free) first) (sym leads)
    (0, omega arith, refl)) in omega (arith, b, h.all)) in
    let e : thread_at old (page_of first) ≡ slot page index ∷ thread_at new page =
    ap (thread_at old) is ∙ t.taken in
    ap (order old.thread_free) leads
    ∙ order_thread old.thread_free first others (slot page index) (thread_at new page) low once.0 e
    ∙ ap (λ (n : ℕ). slot page index ∷ order (slice_set old.thread_free n (thread_at new page))
    (first ∷ others)) is
    ∙ ap (λ (xs : List ℕ). slot page index ∷ order
    (slice_set old.thread_free page (thread_at new page)) xs) (sym leads)
    ∙ ap (λ (r : Remote). slot page index ∷ drained r) (sym t.rest)

head_delayed : (old new : Remote) (page index : ℕ) → (first : ℕ) (others : List ℕ)
    → old.delayed ≡ first ∷ others
    → page_of first ≡ page → TakesDelayed old new page index
    → drained old ≡ slot page index ∷ drained new
head_delayed old new page index first others leads is t =
    let same : first ∷ others ≡ slot page index ∷ new.delayed = sym leads ∙ t.taken in
    let here : first ≡ slot page index = cc in
    let on : page_of (slot page index) ≡ page = ap page_of (sym here) ∙ is in
    ap (order old.thread_free) t.taken
    ∙ ap (λ (xs : List ℕ). (xs ++ slot page index ∷ []) ++ order old.thread_free new.delayed)
    (ap (thread_at old) on ∙ t.drained)
    ∙ ap (λ (r : Remote). slot page index ∷ order r.thread_free new.delayed) (sym t.rest)

pub drain_head : DrainGivesHead
drain_head old new page index h d = ⊎_elim
    (head_thread old new page index h d.first d.others d.delayed d.page_first)
    (head_delayed old new page index d.first d.others d.delayed d.page_first) d.taken

-- nothing is left
pub drained_none : (r : Remote) → contents r ≡ [] → drained r ≡ []
drained_none r e = ap (order r.thread_free) (delayed_none r e)

no_threads : (r : Remote) (page : ℕ) → IsRight r → r.delayed ≡ [] → thread_at r page ≡ []
no_threads r page h e = none_on (thread_at r page)
    (λ any. has_of_any r.delayed page (h.behind page any) e)

pub empty_sent : EmptyIsNothingSent
empty_sent r h e =
    let delayed = delayed_none r e in
    ap (λ (xs : List ℕ). record { delayed = xs; thread_free = r.thread_free }) delayed
    ∙ ap (λ (lists : List (List ℕ)). record { delayed = []; thread_free = lists })
    (ext_get_or [] r.thread_free (replicate 16 []) h.all
    (λ page lt. no_threads r page h delayed ∙ sym (nothing_at 16 page)))

-- where something is left, a place comes off
pub record Next (r : Remote) : Type 0 where
  pub rest : Remote
  pub place : ℕ
  pub drained : Drained r rest place

next_thread : (r : Remote) (first : ℕ) (others threads : List ℕ) → IsRight r
    → r.delayed ≡ first ∷ others → page_of first < 16 → thread_at r (page_of first) ≡ threads
    → Next r
next_thread r first others [] h leads low e = record {
  rest = record r { delayed = others };
  place = first;
  drained = delayed_drained r first others h leads e;
}
next_thread r first others (x ∷ xs) h leads low e = record {
  rest = with_thread r (page_of first) xs;
  place = x;
  drained = thread_drained r first others x xs h leads low e;
}

next_delayed : (r : Remote) (delayed : List ℕ) → IsRight r → r.delayed ≡ delayed → contents r ≢ []
    → Next r
next_delayed r [] h e some = absurd (some (contents_none r h e))
next_delayed r (x ∷ xs) h e some =
    let b = h.below x (subst (λ (ys : List ℕ). Contains (ys ++ concat r.thread_free) x) (sym e)
    (0, omega arith, refl)) in
    next_thread r x xs (thread_at r (page_of x)) h e (omega (arith, b)) refl

order_none : (r : Remote) → contents r ≡ [] → IsOrderOf r
order_none r e =
    let none = drained_none r e in record {
      same = λ place. (
        subst (λ (xs : List ℕ). Contains xs place) (none ∙ sym e),
        subst (λ (xs : List ℕ). Contains xs place) (e ∙ sym none),
      );
      once = subst HasNoRepeats (sym none) tt;
      as_many = ap length (none ∙ sym e);
    }

order_next : (r new : Remote) (place : ℕ) → IsRight r → Drained r new place → IsOrderOf new
    → IsOrderOf r
order_next r new place h d o =
    let e : drained r ≡ place ∷ drained new =
    drain_head r new (page_of place) (index_of place) h d.drained
    ∙ ap (λ (n : ℕ). n ∷ drained new) (slot_is place) in
    let lacks = (no_repeats_inserted place (contents new) (contents r) d.removed h.once).1 in
    record {
      same = λ x. (
        λ on. ⊎_elim
            (λ s. subst (Contains (contents r)) (sym s)
            (Contains-inserted place (contents new) (contents r) d.removed))
            (λ there. Contains-Inserts place x (contents new) (contents r) d.removed
            ((o.same x).0 there))
            (Contains-cons_cases place x (drained new)
            (subst (λ (xs : List ℕ). Contains xs x) e on)),
        λ on. subst (λ (xs : List ℕ). Contains xs x) (sym e) (⊎_elim
            (λ s. (0, omega arith, sym s))
            (λ there. Contains-cons place x (drained new) ((o.same x).1 there))
            (inserted_cases place x (contents new) (contents r) d.removed on)),
      );
      once = subst HasNoRepeats (sym e) (
        lacks_contains place (drained new)
            (λ on. Contains-lacks place (contents new) lacks ((o.same place).0 on)),
        o.once,
      );
      as_many = omega (
        arith,
        ap length e,
        o.as_many,
        length-Inserts place (contents new) (contents r) d.removed,
      );
    }

order_by : (n : ℕ) (r : Remote) → IsRight r → length (contents r) ≡ n → IsOrderOf r
order_by zero r h e = order_none r (nil_from_length (contents r) e)
order_by (suc n) r h e =
    let next = next_delayed r r.delayed h refl
    (λ none. (let z : length (contents r) ≡ 0 = ap length none in omega (arith, z, e))) in
    let d = next.drained in
    order_next r next.rest next.place h d (order_by n next.rest d.right
    (omega (arith, e, length-Inserts next.place (contents next.rest) (contents r) d.removed)))

pub order_all : OrderHasAll
order_all r h = order_by (length (contents r)) r h refl

-- there are no more than a segment has places
each_distinct : (xs : List ℕ) → HasNoRepeats xs → IsDistinct eqb xs
unfolding IsDistinct
each_distinct [] h = tt
each_distinct (x ∷ xs) h = IsDistinct-cons eqb x xs
    (Each-weaker (λ y. x ≢ y) (λ y. eqb x y ≡ false) xs (λ y ne. nat_eq-other x y ne)
    (Lacks-each x xs h.0))
    (each_distinct xs h.1)

any_contained : (q : ℕ) (xs : List ℕ) → list_any (eqb q) xs ≡ true → Contains xs q
any_contained q [] e = absurd (cc)
any_contained q (x ∷ xs) e = elim (cases_eq q x) [
  | inl s ↦ (0, omega arith, sym s)
  | inr ne ↦ Contains-cons x q xs (any_contained q xs
      (sym (ap (λ (b : Bool). b || list_any (eqb q) xs) (nat_eq-other q x ne)) ∙ e))
]

pub contents_few : (r : Remote) → IsRight r → length (contents r) ≤ 8192
contents_few r h = length-le_from_distinct_below (contents r) 8192
    (each_distinct (contents r) h.once)
    (λ q e. h.below q (any_contained q (contents r) e))
