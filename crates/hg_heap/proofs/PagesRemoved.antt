-- Queues that the pages of a segment leave, one after the other.
use Rattle.std.proofs.Common.{◌≡◌, ◌≢◌, ℕ, ◌+◌, ◌*◌, ◌==◌, ◌&&◌, ◌||◌, inl, inr, Bool, true}
use Rattle.std.proofs.Common.{false, not, nat_lt, List, map, filter, refl, sym, ap, ◌∙◌, arith}
use Rattle.std.proofs.lemmas.Bool.{cases_eq, cases_lt, lt-ltb, le-ltb, eq-eqb, ne_eqb, and_right}
use Rattle.hg_lists.specs.Lists.{without}
use Rattle.hg_place.specs.Places.{segment_of_page}
use Rattle.hg_queue.specs.Queues.{AreQueues}
use Rattle.hg_heap.specs.Releasing.{is_of_other, without_pages}
use Rattle.hg_heap.proofs.Filtered.{filters_twice, filters_same, filters_all}

-- a page that isn't one of so many from the first on
abbrev pub is_beside : ℕ → ℕ → ℕ → Bool
is_beside first n page = nat_lt page first || not (nat_lt page (first + n))

-- the first so many have left
pub record AreRemoved (first n : ℕ) (old new : List (List ℕ)) : Type 0 where
  pub queues : AreQueues new
  pub removed : new ≡ map (filter (is_beside first n)) old

beside_none : (first page : ℕ) → is_beside first 0 page ≡ true
beside_none first page = elim (cases_lt page first) as (λ _. is_beside first 0 page ≡ true) [
  | inl lt ↦ ap (λ (b : Bool). b || not (nat_lt page (first + 0))) (lt-ltb page first lt)
  | inr ge ↦
      ap (λ (b : Bool). b || not (nat_lt page (first + 0))) (le-ltb page first ge)
      ∙ ap not (le-ltb page (first + 0) (omega (arith, ge)))
]

and_true : (b : Bool) → (b && true) ≡ b
and_true true = refl
and_true false = refl

beside_next : (first n page : ℕ) → is_beside first (n + 1) page
    ≡ (is_beside first n page && not (page == first + n))
beside_next first n page =
    elim (cases_eq page (first + n)) as (λ _. is_beside first (n + 1) page
    ≡ (is_beside first n page && not (page == first + n))) [
      | inl e ↦
          ap (λ (b : Bool). b || not (nat_lt page (first + (n + 1))))
          (le-ltb page first (omega (arith, e)))
          ∙ ap not (lt-ltb page (first + (n + 1)) (omega (arith, e)))
          ∙ sym (and_right (is_beside first n page) (not (page == first + n))
          (ap not (eq-eqb page (first + n) e)))
      | inr ne ↦
          ap (λ (b : Bool). nat_lt page first || not b) (same ne)
          ∙ sym (and_true (is_beside first n page))
          ∙ ap (λ (b : Bool). is_beside first n page && not b)
          (sym (ne_eqb page (first + n) ne))
    ]
  where
    same : page ≢ first + n → nat_lt page (first + (n + 1)) ≡ nat_lt page (first + n)
    same ne = elim (cases_lt page (first + n))
        as (λ _. nat_lt page (first + (n + 1)) ≡ nat_lt page (first + n)) [
          | inl lt ↦ lt-ltb page (first + (n + 1)) (omega (arith, lt))
              ∙ sym (lt-ltb page (first + n) lt)
          | inr ge ↦ le-ltb page (first + (n + 1)) (omega (arith, ge, ne))
              ∙ sym (le-ltb page (first + n) ge)
        ]

beside_all : (segment first n page : ℕ) → first ≡ segment * 16 → n ≡ 16
    → is_beside first n page ≡ is_of_other segment page
beside_all segment first n page f e =
    elim (cases_lt page first) as (λ _. is_beside first n page ≡ is_of_other segment page) [
      | inl lt ↦
          ap (λ (b : Bool). b || not (nat_lt page (first + n))) (lt-ltb page first lt)
          ∙ sym (ap not (ne_eqb (segment_of_page page) segment
          (λ s. omega (arith, lt, f, s))))
      | inr ge ↦
          ap (λ (b : Bool). b || not (nat_lt page (first + n))) (le-ltb page first ge)
          ∙ (elim (cases_lt page (first + n))
          as (λ _. not (nat_lt page (first + n)) ≡ is_of_other segment page) [
            | inl lt ↦ ap not (lt-ltb page (first + n) lt
                ∙ sym (eq-eqb (segment_of_page page) segment (omega (arith, lt, ge, e, f))))
            | inr past ↦ ap not (le-ltb page (first + n) past
                ∙ sym (ne_eqb (segment_of_page page) segment
                (λ s. omega (arith, past, e, f, s))))
          ])
    ]

pub none_removed : (first : ℕ) (queues : List (List ℕ)) → AreQueues queues
    → AreRemoved first 0 queues queues
none_removed first queues are = record {
  queues = are;
  removed = sym (filters_all (is_beside first 0) (beside_none first) queues);
}

pub one_removed : (first n : ℕ) (old mid new : List (List ℕ)) → AreRemoved first n old mid
    → AreQueues new → new ≡ map (without (first + n)) mid → AreRemoved first (n + 1) old new
one_removed first n old mid new h are is = record {
  queues = are;
  removed = is ∙ ap (map (without (first + n))) h.removed
      ∙ filters_twice (is_beside first n) (λ page. not (page == first + n))
      (is_beside first (n + 1)) (beside_next first n) old;
}

-- all pages of the segment have
pub all_removed : (segment first n : ℕ) (old new : List (List ℕ)) → AreRemoved first n old new
    → first ≡ segment * 16 → n ≡ 16 → new ≡ without_pages segment old
all_removed segment first n old new h f e =
    h.removed ∙ filters_same (is_beside first n) (is_of_other segment)
    (λ page. beside_all segment first n page f e) old
