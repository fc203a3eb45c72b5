-- What the pool's part has and what a worker has, as a segment goes from the one to the other.
use Rattle.std.specs.Prelude.{option_map, is_some, nat_lt, if◌then◌else◌}
use Rattle.std.specs.List.{list_any, count_by}
use Rattle.std.specs.Option.{option_or}
use Rattle.std.proofs.Common.{◌≡◌, ◌≢◌, ℕ, ◌%◌, ◌<◌, ◌==◌, ◌&&◌, ◌||◌, Bool, true, false}
use Rattle.std.proofs.Common.{cond, not, List, [], ◌∷◌, ◌++◌, length, map, filter, Option, Some, None}
use Rattle.std.proofs.Common.{refl, sym, ap, ◌∙◌, arith, inl, inr}
use Rattle.std.proofs.lemmas.Bool.{cases_eq, cases_Bool, eq-eqb, ne_eqb, eqb-true, lt-ltb, true≢false}
use Rattle.std.proofs.lemmas.List.Elements.{filter-append}
use Rattle.std.proofs.lemmas.List.Folds.{find-append}
use Rattle.hg_place.specs.declared.Handle.{Handle}
use Rattle.hg_place.specs.Places.{segment_of, segment_of_page}
use Rattle.hg_place.specs.Words.{bit_of}
use Rattle.hg_machine.specs.Holders.{is_fresh, is_orphan}
use Rattle.hg_machine.specs.Policy.{Policy}
use Rattle.hg_machine.specs.State.{Holder, fresh, orphan, held, holder_at}
use Rattle.hg_segment.specs.Kept.{Kept}
use Rattle.hg_pool.specs.Pooled.{Pooled, is_numbered, numbers, segment_of as pooled_at, without_number, without_segment}
use Rattle.hg_agreement.specs.Changed.{IsLike}
use Rattle.hg_agreement.specs.Holdings.{Holding, block_told, class_told, has, holding_of, standing_told}
use Rattle.hg_agreement.proofs.Firsts.{none_counted}
use Rattle.hg_frame.specs.Pool.{is_pooled}
use Rattle.hg_heap.specs.Held.{is_held, segment_in}
use Rattle.hg_heap.specs.Ties.{holding}
use Rattle.hg_heap.proofs.ViewRoom.{holding_in}
use Rattle.hg_roles.specs.Pooling.{taken_up, without}
use Rattle.hg_roles.specs.Roles as roles
use Rattle.hg_run_table.specs.declared.segment.RunSegment.{RunSegment}
use Rattle.hg_run_worker.specs.AtWork.{number_in, records_in, worker_view}
use Rattle.hg_run_worker.specs.Pools.{holdings_in, pool_part, pooled_in}
use Rattle.hg_run_worker.proofs.DecidedLike.{IsLeftLike}

-- without those of one number, the others stand where they stood
others_without : (segment other : ℕ) (xs : List (Kept RunSegment)) → other ≢ segment
    → segment_in number_in (without_number number_in segment xs) other ≡ segment_in number_in xs other
others_without segment other [] ne = refl
others_without segment other (x ∷ xs) ne =
    elim (cases_Bool (number_in x.slots == segment)) [
      | inl t ↦
          ap (λ (b : Bool). segment_in number_in (cond (not b) (x ∷ without_number number_in segment xs) (without_number number_in segment xs)) other) t
          ∙ others_without segment other xs ne
          ∙ sym
          (ap (λ (b : Bool). cond b (Some x) (segment_in number_in xs other))
          (ne_eqb (number_in x.slots) other
          (λ e. ne (sym e ∙ eqb-true (number_in x.slots) segment t))))
      | inr f ↦
          ap (λ (b : Bool). segment_in number_in (cond (not b) (x ∷ without_number number_in segment xs) (without_number number_in segment xs)) other) f
          ∙ ap (λ (o : Option (Kept RunSegment)). cond (number_in x.slots == other) (Some x) o)
          (others_without segment other xs ne)
    ]

numbers_without : (segment : ℕ) (xs : List (Kept RunSegment))
    → numbers number_in (without_number number_in segment xs)
    ≡ filter (λ n. not (n == segment)) (numbers number_in xs)
numbers_without segment [] = refl
numbers_without segment (x ∷ xs) =
    elim (number_in x.slots == segment)
    as (λ b.
    numbers number_in (cond (not b) (x ∷ without_number number_in segment xs) (without_number number_in segment xs))
    ≡ cond (not b) (number_in x.slots ∷ filter (λ n. not (n == segment)) (numbers number_in xs))
    (filter (λ n. not (n == segment)) (numbers number_in xs))) [
      | true ↦ numbers_without segment xs
      | false ↦ ap (λ (l : List ℕ). number_in x.slots ∷ l) (numbers_without segment xs)
    ]

-- of numbers without one, that one isn't there, and each other is where it was
any_gone : (n : ℕ) (xs : List ℕ) → list_any (λ x. x == n) (filter (λ x. not (x == n)) xs) ≡ false
any_gone n [] = refl
any_gone n (x ∷ xs) =
    elim (cases_Bool (x == n)) [
      | inl t ↦
          ap (λ (b : Bool). list_any (λ x. x == n) (cond (not b) (x ∷ filter (λ x. not (x == n)) xs) (filter (λ x. not (x == n)) xs))) t
          ∙ any_gone n xs
      | inr f ↦
          ap (λ (b : Bool). list_any (λ x. x == n) (cond (not b) (x ∷ filter (λ x. not (x == n)) xs) (filter (λ x. not (x == n)) xs))) f
          ∙ ap (λ (b : Bool). b || list_any (λ x. x == n) (filter (λ x. not (x == n)) xs)) f
          ∙ any_gone n xs
    ]

any_there : (n other : ℕ) (xs : List ℕ) → other ≢ n
    → list_any (λ x. x == other) (filter (λ x. not (x == n)) xs) ≡ list_any (λ x. x == other) xs
any_there n other [] ne = refl
any_there n other (x ∷ xs) ne =
    elim (cases_Bool (x == n)) [
      | inl t ↦
          ap (λ (b : Bool). list_any (λ x. x == other) (cond (not b) (x ∷ filter (λ x. not (x == n)) xs) (filter (λ x. not (x == n)) xs))) t
          ∙ any_there n other xs ne
          ∙ sym
          (ap (λ (b : Bool). b || list_any (λ x. x == other) xs)
          (ne_eqb x other (λ e. ne (sym e ∙ eqb-true x n t))))
      | inr f ↦
          ap (λ (b : Bool). list_any (λ x. x == other) (cond (not b) (x ∷ filter (λ x. not (x == n)) xs) (filter (λ x. not (x == n)) xs))) f
          ∙ ap (λ (b : Bool). (x == other) || b) (any_there n other xs ne)
    ]

count_gone : (n : ℕ) (xs : List ℕ) → count_by (λ x. x == n) (filter (λ x. not (x == n)) xs) ≡ 0
count_gone n xs = none_counted (λ x. x == n) (filter (λ x. not (x == n)) xs) (any_gone n xs)

-- a segment that is neither fresh nor an orphan is in no pool
not_pooled : (h : Holder) → is_fresh h ≡ false → bit_of (is_orphan h) ≡ 0 → is_pooled h ≡ false
not_pooled fresh a b = a
not_pooled orphan a b = absurd (omega arith)
not_pooled (held w) a b = refl

-- the pool's part without a segment
module _ (policy : Policy) (pool : Pooled RunSegment) (segment : ℕ)
    (below : segment < length policy.segments) where
  abbrev one : roles.Pooled
  one = without (pool_part policy pool) segment

  abbrev more : roles.Pooled
  more = pool_part policy (without_segment number_in pool segment)

  stays : (other : ℕ) → other ≢ segment
      → holding_of (holdings_in (without_segment number_in pool segment)) other
      ≡ holding_of (holdings_in pool) other
  stays other ne =
      holding_in number_in records_in (pooled_in (without_segment number_in pool segment)) other
      ∙ ap (option_map (holding number_in records_in))
      (ap (λ (xs : List (Kept RunSegment)). segment_in number_in xs other)
      (sym (filter-append (λ k. not (is_numbered number_in segment k)) pool.orphans pool.fresh))
      ∙ others_without segment other (pooled_in pool) ne)
      ∙ sym (holding_in number_in records_in (pooled_in pool) other)

  fresh_stays : (other : ℕ) → one.fresh other ≡ more.fresh other
  fresh_stays other =
      elim (cases_eq other segment) [
        | inl e ↦
            ap (λ (b : Bool). not b && (pool_part policy pool).fresh other) (eq-eqb other segment e)
            ∙ sym
            (ap more.fresh e
            ∙ ap (λ (b : Bool). cond b (list_any (λ n. n == segment) (numbers number_in (without_number number_in segment pool.fresh))) true)
            (lt-ltb segment (length policy.segments) below)
            ∙ ap (list_any (λ n. n == segment)) (numbers_without segment pool.fresh)
            ∙ any_gone segment (numbers number_in pool.fresh))
        | inr ne ↦
            ap (λ (b : Bool). not b && (pool_part policy pool).fresh other) (ne_eqb other segment ne)
            ∙ ap (λ (b : Bool). cond (nat_lt other (length policy.segments)) b true)
            (sym
            (ap (list_any (λ n. n == other)) (numbers_without segment pool.fresh)
            ∙ any_there segment other (numbers number_in pool.fresh) ne))
      ]

  pub left_like : IsLeftLike one more
  left_like m sound a = record {
    orphans = a.orphans ∙ sym (numbers_without segment pool.orphans);
    fresh = λ other. a.fresh other ∙ fresh_stays other;
    classes = λ page free.
        a.classes page free
        ∙ ap (λ (o : Option Holding). class_told o (page % 16))
        (sym (stays (segment_of_page page) (there (segment_of_page page) free)));
    standings = λ place free.
        a.standings place free
        ∙ ap (λ (o : Option Holding). standing_told o (place % 8192))
        (sym (stays (segment_of place) (there (segment_of place) free)));
    blocks = λ place free.
        a.blocks place free
        ∙ ap (λ (o : Option Holding). block_told o (place % 8192))
        (sym (stays (segment_of place) (there (segment_of place) free)));
  }
    where
      gone : is_pooled (holder_at m segment) ≡ false
      gone =
          not_pooled (holder_at m segment)
          (a.fresh segment
          ∙ ap (λ (b : Bool). not b && (pool_part policy pool).fresh segment) (eq-eqb segment segment refl))
          (sym (sound.orphans segment)
          ∙ ap (count_by (λ n. n == segment)) a.orphans
          ∙ count_gone segment (numbers number_in pool.orphans))

      there : (other : ℕ) → is_pooled (holder_at m other) ≡ true → other ≢ segment
      there other free e = true≢false (sym free ∙ ap (λ n. is_pooled (holder_at m n)) e ∙ gone)

-- a worker holds a segment of the pool that it didn't hold
module _ (policy : Policy) (number : ℕ) (hand : Option Handle) (segments : List (Kept RunSegment))
    (pool : Pooled RunSegment) (taken : Kept RunSegment)
    (unheld : is_held number_in segments (number_in taken.slots) ≡ false)
    (there : pooled_at number_in pool (number_in taken.slots) ≡ Some taken) where
  abbrev has_now : List Holding
  has_now = map (holding number_in records_in) (segments ++ taken ∷ [])

  abbrev had : List Holding
  had = map (holding number_in records_in) segments

  none_of : (o : Option (Kept RunSegment)) → is_some o ≡ false → o ≡ None
  none_of None e = refl
  none_of (Some k) e = absurd (true≢false e)

  told : (other : ℕ)
      → holding_of has_now other
      ≡ (if other == number_in taken.slots then holding_of (holdings_in pool) other else holding_of had other)
  told other =
      holding_in number_in records_in (segments ++ taken ∷ []) other
      ∙ ap (option_map (holding number_in records_in))
      (find-append (λ k. number_in k.slots == other) segments (taken ∷ []))
      ∙ (elim (cases_eq other (number_in taken.slots)) [
        | inl e ↦
            ap (λ (o : Option (Kept RunSegment)). option_map (holding number_in records_in) (option_or o (cond (number_in taken.slots == other) (Some taken) None)))
            (ap (segment_in number_in segments) e ∙ none_of (segment_in number_in segments (number_in taken.slots)) unheld)
            ∙ ap (λ (b : Bool). option_map (holding number_in records_in) (cond b (Some taken) None))
            (eq-eqb (number_in taken.slots) other (sym e))
            ∙ sym
            (ap (λ (b : Bool). cond b (holding_of (holdings_in pool) other) (holding_of had other))
            (eq-eqb other (number_in taken.slots) e)
            ∙ holding_in number_in records_in (pooled_in pool) other
            ∙ ap (option_map (holding number_in records_in))
            (ap (segment_in number_in (pooled_in pool)) e ∙ there))
        | inr ne ↦
            ap (λ (b : Bool). option_map (holding number_in records_in) (option_or (segment_in number_in segments other) (cond b (Some taken) None)))
            (ne_eqb (number_in taken.slots) other (λ e. ne (sym e)))
            ∙ ap (option_map (holding number_in records_in)) (or_none (segment_in number_in segments other))
            ∙ sym
            (ap (λ (b : Bool). cond b (holding_of (holdings_in pool) other) (holding_of had other))
            (ne_eqb other (number_in taken.slots) ne)
            ∙ holding_in number_in records_in segments other)
      ])
    where
      or_none : (o : Option (Kept RunSegment)) → option_or o None ≡ o
      or_none None = refl
      or_none (Some k) = refl

  pub taken_like :
      IsLike
      (taken_up (worker_view policy number hand segments) (pool_part policy pool) (number_in taken.slots))
      (worker_view policy number hand (segments ++ taken ∷ []))
  taken_like = record {
    policy = refl;
    worker = refl;
    holding = λ other.
        ap is_some (told other)
        ∙ (elim (cases_eq other (number_in taken.slots)) [
          | inl e ↦
              ap (λ (b : Bool). is_some (cond b (holding_of (holdings_in pool) other) (holding_of had other)))
              (eq-eqb other (number_in taken.slots) e)
              ∙ ap is_some
              (holding_in number_in records_in (pooled_in pool) other
              ∙ ap (option_map (holding number_in records_in))
              (ap (segment_in number_in (pooled_in pool)) e ∙ there))
              ∙ sym (ap (λ (b : Bool). b || has had other) (eq-eqb other (number_in taken.slots) e))
          | inr ne ↦
              ap (λ (b : Bool). is_some (cond b (holding_of (holdings_in pool) other) (holding_of had other)))
              (ne_eqb other (number_in taken.slots) ne)
              ∙ sym (ap (λ (b : Bool). b || has had other) (ne_eqb other (number_in taken.slots) ne))
        ]);
    classes = λ page is.
        ap (λ (o : Option Holding). class_told o (page % 16)) (told (segment_of_page page))
        ∙ through (λ o. class_told o (page % 16)) (segment_of_page page == number_in taken.slots)
        (holding_of (holdings_in pool) (segment_of_page page)) (holding_of had (segment_of_page page));
    standings = λ place is.
        ap (λ (o : Option Holding). standing_told o (place % 8192)) (told (segment_of place))
        ∙ through (λ o. standing_told o (place % 8192)) (segment_of place == number_in taken.slots)
        (holding_of (holdings_in pool) (segment_of place)) (holding_of had (segment_of place));
    blocks = λ place is.
        ap (λ (o : Option Holding). block_told o (place % 8192)) (told (segment_of place))
        ∙ through (λ o. block_told o (place % 8192)) (segment_of place == number_in taken.slots)
        (holding_of (holdings_in pool) (segment_of place)) (holding_of had (segment_of place));
    hand = refl;
  }
    where
      through : {X : Type 0} (f : Option Holding → X) (b : Bool) (x y : Option Holding)
          → f (cond b x y) ≡ cond b (f x) (f y)
      through f true x y = refl
      through f false x y = refl
