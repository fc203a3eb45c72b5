-- The queues after the lists of one page have changed.
use Rattle.std.proofs.Common.{◌≡◌, ◌≢◌, ℕ, ◌<◌, ◌==◌, ◌||◌, ◌∷◌, [], Bool, true, false, not, List}
use Rattle.std.proofs.Common.{length, map}
use Rattle.std.proofs.Common.{slice_set, inl, inr, ◌⊎◌, ⊎_elim, refl, sym, ap, subst, ◌∙◌, arith}
use Rattle.std.proofs.Common.{cond}
use Rattle.std.proofs.Common.{get_or-set_other, get_or-set_same, length-set}
use Rattle.std.specs.Prelude.{Contains}
use Rattle.std.specs.List.{list_any}
use Rattle.std.proofs.lemmas.Bool.{cases_eq}
use Rattle.std.proofs.lemmas.List.{length-map, map-set, set-get_or}
use Rattle.hg_lists.specs.Repeats.{IsIn, Lacks, HasNoRepeats}
use Rattle.hg_lists.specs.Lists.{without}
use Rattle.hg_lists.proofs.RepeatsLemmas.{nat_eq-same, nat_eq-other, in_contains, in_cases}
use Rattle.hg_lists.proofs.RepeatsLemmas.{Contains-in, Contains-cons, Contains-cons_cases}
use Rattle.hg_lists.proofs.RepeatsLemmas.{lacks_contains, Contains-lacks}
use Rattle.hg_lists.proofs.Listed.{list_of-without, contained_without, Contains-without}
use Rattle.hg_lists.proofs.Without.{Apart-without, without-same}
use Rattle.hg_queue.specs.declared.page_queues.TheConstants.{PAGES}
use Rattle.hg_queue.specs.Queues.{queue_of, IsQueued, AreQueues}
use Rattle.hg_page.specs.PageLists.{PageLists, listed}
use Rattle.hg_heap.specs.Held.{is_some_place, has_place}
use Rattle.hg_heap.specs.Requeued.{requeued}

or_right : (a b : Bool) → b ≡ true → (a || b) ≡ true
or_right true b e = refl
or_right false b e = e

-- whether a page is on a list
any_in : (page : ℕ) (pages : List ℕ) → IsIn page pages
    → list_any (λ other. other == page) pages ≡ true
any_in page [] i = absurd i
any_in page (x ∷ xs) i = ⊎_elim
    (λ s. ap (λ (b : Bool). b || list_any (λ other. other == page) xs)
    (ap (λ y. y == page) (sym s) ∙ nat_eq-same page))
    (λ r. or_right (x == page) (list_any (λ other. other == page) xs) (any_in page xs r)) i

any_lacks : (page : ℕ) (pages : List ℕ) → Lacks page pages
    → list_any (λ other. other == page) pages ≡ false
any_lacks page [] l = refl
any_lacks page (x ∷ xs) l =
    ap (λ (b : Bool). b || list_any (λ other. other == page) xs)
    (nat_eq-other x page (λ s. l.0 (sym s)))
    ∙ any_lacks page xs l.1

-- one that stands in its queue stays there, one that stands in none goes to the front
pub requeued_stays : (queues : List (List ℕ)) (key page : ℕ) → Contains (queue_of queues key) page
    → requeued key page true queues ≡ queues
requeued_stays queues key page on =
    ap (λ (b : Bool). cond b queues (slice_set queues key (page ∷ queue_of queues key)))
    (any_in page (queue_of queues key) (in_contains page (queue_of queues key) on))

pub requeued_pushes : (queues : List (List ℕ)) (key page : ℕ) → Lacks page (queue_of queues key)
    → requeued key page true queues ≡ slice_set queues key (page ∷ queue_of queues key)
requeued_pushes queues key page lacks =
    ap (λ (b : Bool). cond b queues (slice_set queues key (page ∷ queue_of queues key)))
    (any_lacks page (queue_of queues key) lacks)

-- what code that asks whether the page is full, and whether it is queued, makes of the queues
pub stays_is : (queues : List (List ℕ)) (key page : ℕ) (full : Bool) → full ≡ false
    → IsQueued queues page
    → ((k : ℕ) → Contains (queue_of queues k) page → k ≡ key)
    → queues ≡ requeued key page (not full) queues
stays_is queues key page full e on own =
    sym (ap (λ (b : Bool). requeued key page (not b) queues) e
    ∙ requeued_stays queues key page
    (subst (λ (k : ℕ). Contains (queue_of queues k) page) (own on.0 on.1) on.1))

pub pushes_is : (queues : List (List ℕ)) (key page : ℕ) (full : Bool) → full ≡ false
    → ¬ IsQueued queues page
    → slice_set queues key (page ∷ queue_of queues key) ≡ requeued key page (not full) queues
pushes_is queues key page full e away =
    sym (ap (λ (b : Bool). requeued key page (not b) queues) e
    ∙ requeued_pushes queues key page
    (lacks_contains page (queue_of queues key) (λ on. away (key, on))))

-- the lists of the pages of each key
queue_of-without : (queues : List (List ℕ)) (page key : ℕ)
    → queue_of (map (without page) queues) key ≡ without page (queue_of queues key)
queue_of-without queues page key =
    list_of-without (record { by_key = queues; entries = 0 }) page key

-- what a page's new place is: it stands in the queue of its key or in none, the others as before
pub record Requeues (key page : ℕ) (b : Bool) (old new : List (List ℕ)) : Type 0 where
  pub queues : AreQueues new
  pub others : (k other : ℕ) → other ≢ page → Contains (queue_of old k) other
      → Contains (queue_of new k) other
  pub only : (k other : ℕ) → Contains (queue_of new k) other
      → ((other ≢ page) × Contains (queue_of old k) other)
      ⊎ ((other ≡ page) × (b ≡ true) × (k ≡ key))
  pub there : b ≡ true → Contains (queue_of new key) page

module _ (queues : List (List ℕ)) (key page : ℕ) (are : AreQueues queues)
    (inside : key < length queues) (low : page < PAGES)
    (own : (k : ℕ) → Contains (queue_of queues k) page → k ≡ key) where
  stays : Contains (queue_of queues key) page → Requeues key page true queues queues
  stays on = record {
    queues = are;
    others = λ k other ne there. there;
    only = λ k other there. elim (cases_eq other page) [
      | inl e ↦ inr (e, refl, own k (subst (Contains (queue_of queues k)) e there))
      | inr ne ↦ inl (ne, there)
    ];
    there = λ e. on;
  }

  abbrev out : List (List ℕ)
  out = map (without page) queues

  out_was : (k other : ℕ) → Contains (queue_of out k) other
      → (other ≢ page) × Contains (queue_of queues k) other
  out_was k other there =
      contained_without other page (queue_of queues k)
      (subst (λ (xs : List ℕ). Contains xs other) (queue_of-without queues page k) there)

  out_queues : AreQueues out
  out_queues = record {
    all = length-map queues (without page) ∙ are.all;
    below = λ k other there. are.below k other (out_was k other there).1;
    once = λ k. subst HasNoRepeats (sym (queue_of-without queues page k))
        (Apart-without page (queue_of queues k) (are.once k));
    alone = λ other k second there too. are.alone other k second (out_was k other there).1
        (out_was second other too).1;
  }

  goes : Requeues key page false queues out
  goes = record {
    queues = out_queues;
    others = λ k other ne there. subst (λ (xs : List ℕ). Contains xs other)
        (sym (queue_of-without queues page k))
        (Contains-without other page (queue_of queues k) ne there);
    only = λ k other there. inl (out_was k other there);
    there = λ e. absurd (cc);
  }

  abbrev in_front : List (List ℕ)
  in_front = slice_set queues key (page ∷ queue_of queues key)

  front_same : queue_of in_front key ≡ page ∷ queue_of queues key
  front_same = get_or-set_same queues key (page ∷ queue_of queues key) [] inside

  front_other : (k : ℕ) → k ≢ key → queue_of in_front k ≡ queue_of queues k
  front_other k ne = get_or-set_other queues key k (page ∷ queue_of queues key) [] ne

  front_was : (k other : ℕ) → Contains (queue_of in_front k) other
      → ((other ≡ page) × (k ≡ key)) ⊎ Contains (queue_of queues k) other
  front_was k other there = elim (cases_eq k key) [
    | inl e ↦ ⊎_elim (λ s. inl (s, e))
        (λ r. inr (subst (λ (n : ℕ). Contains (queue_of queues n) other) (sym e) r))
        (Contains-cons_cases page other (queue_of queues key)
        (subst (λ (xs : List ℕ). Contains xs other) (ap (queue_of in_front) e
        ∙ front_same) there))
    | inr ne ↦ inr (subst (λ (xs : List ℕ). Contains xs other) (front_other k ne) there)
  ]

  front_kept : (k other : ℕ) → Contains (queue_of queues k) other
      → Contains (queue_of in_front k) other
  front_kept k other there = elim (cases_eq k key) [
    | inl e ↦ subst (λ (n : ℕ). Contains (queue_of in_front n) other) (sym e)
        (subst (λ (xs : List ℕ). Contains xs other) (sym front_same)
        (Contains-cons page other (queue_of queues key)
        (subst (λ (n : ℕ). Contains (queue_of queues n) other) e there)))
    | inr ne ↦ subst (λ (xs : List ℕ). Contains xs other) (sym (front_other k ne)) there
  ]

  module _ (away : ¬ IsQueued queues page) where
    front_once : (k : ℕ) → HasNoRepeats (queue_of in_front k)
    front_once k = elim (cases_eq k key) [
      | inl e ↦ subst HasNoRepeats (sym (ap (queue_of in_front) e ∙ front_same))
          (lacks_contains page (queue_of queues key) (λ on. away (key, on)), are.once key)
      | inr ne ↦ subst HasNoRepeats (sym (front_other k ne)) (are.once k)
    ]

    front_alone : (other k second : ℕ) → Contains (queue_of in_front k) other
        → Contains (queue_of in_front second) other → k ≡ second
    front_alone other k second there too =
        ⊎_elim
        (λ one. ⊎_elim (λ two. one.1 ∙ sym two.1)
        (λ two. absurd (away (second, subst (Contains (queue_of queues second)) one.0 two)))
        (front_was second other too))
        (λ one. ⊎_elim (λ two. absurd (away (k, subst (Contains (queue_of queues k)) two.0 one)))
        (λ two. are.alone other k second one two) (front_was second other too))
        (front_was k other there)

    comes : Requeues key page true queues in_front
    comes = record {
      queues = record {
        all = length-set queues key (page ∷ queue_of queues key) ∙ are.all;
        below = λ k other there. ⊎_elim (λ one. subst (λ (n : ℕ). n < PAGES) (sym one.0) low)
            (are.below k other) (front_was k other there);
        once = front_once;
        alone = front_alone;
      };
      others = λ k other ne there. front_kept k other there;
      only = λ k other there. ⊎_elim (λ one. inr (one.0, refl, one.1))
          (λ two. inl ((λ e. away (k, subst (Contains (queue_of queues k)) e two)), two))
          (front_was k other there);
      there = λ e. subst (λ (xs : List ℕ). Contains xs page) (sym front_same)
          (0, omega arith, refl);
    }

  requeues_true : Requeues key page true queues (requeued key page true queues)
  requeues_true = elim (in_cases page (queue_of queues key)) [
    | inl i ↦ subst (Requeues key page true queues)
        (sym (requeued_stays queues key page (Contains-in page (queue_of queues key) i)))
        (stays (Contains-in page (queue_of queues key) i))
    | inr l ↦ subst (Requeues key page true queues) (sym (requeued_pushes queues key page l))
        (comes (λ on. Contains-lacks page (queue_of queues key) l
        (subst (λ (k : ℕ). Contains (queue_of queues k) page) (own on.0 on.1) on.1)))
  ]

  -- queues in which one page is put where it belongs now
  pub requeues : (b : Bool) → Requeues key page b queues (requeued key page b queues)
  requeues true = requeues_true
  requeues false = goes

-- a page that isn't full has a place
place_by : (indexes : List ℕ) (full : Bool) → (full ≡ true → indexes ≡ [])
    → (indexes ≡ [] → full ≡ true) → not full ≡ is_some_place indexes
place_by [] true told is = refl
place_by [] false told is = absurd (let no : false ≡ true = is refl in cc)
place_by (x ∷ xs) true told is = absurd (let no : x ∷ xs ≡ [] = told refl in cc)
place_by (x ∷ xs) false told is = refl

pub has_place_is : (lists : PageLists) (full : Bool) → (full ≡ true → listed lists ≡ [])
    → (listed lists ≡ [] → full ≡ true) → not full ≡ has_place lists
has_place_is lists full = place_by (listed lists) full

-- a page that stood in no queue and came to the front goes where it would have gone at once
module _ (queues : List (List ℕ)) (key page : ℕ) (inside : key < length queues)
    (away : (k : ℕ) → ¬ Contains (queue_of queues k) page) where
  abbrev front : List (List ℕ)
  front = slice_set queues key (page ∷ queue_of queues key)

  is_front : requeued key page true queues ≡ front
  is_front = requeued_pushes queues key page
      (lacks_contains page (queue_of queues key) (away key))

  there : Contains (queue_of front key) page
  there = subst (λ (xs : List ℕ). Contains xs page)
      (sym (get_or-set_same queues key (page ∷ queue_of queues key) [] inside))
      (0, omega arith, refl)

  out_of_front : map (without page) front ≡ map (without page) queues
  out_of_front =
      map-set (without page) queues key (page ∷ queue_of queues key)
      ∙ ap (slice_set (map (without page) queues) key)
      (without-same page page (queue_of queues key) refl
      ∙ sym (queue_of-without queues page key))
      ∙ set-get_or (map (without page) queues) key []

  pub requeued_twice : (b : Bool)
      → requeued key page b (requeued key page true queues) ≡ requeued key page b queues
  requeued_twice true = ap (requeued key page true) is_front ∙ requeued_stays front key page there
      ∙ sym is_front
  requeued_twice false = ap (map (without page)) is_front ∙ out_of_front
