-- Parts whose places are all accounted for make a sound state.
use Rattle.std.proofs.Common.{◌≡◌, ℕ, ◌+◌, ◌*◌, ◌%◌, ◌<◌, ◌≤◌, true, false, nat_lt, nat_eq, List}
use Rattle.std.proofs.Common.{[], ◌∷◌, ◌++◌, length, map, count_by, refl, sym, ap, ◌∙◌, arith, inl}
use Rattle.std.proofs.Common.{inr}
use Rattle.std.specs.Prelude.{Option, Some, None, Contains}
use Rattle.std.specs.List.{AllByRecursion}
use Rattle.std.proofs.lemmas.Bool.{cases_lt}
use Rattle.std.proofs.lemmas.Bool.Decides.{nat_tests}
use Rattle.std.proofs.lemmas.List.{get_or_past}
use Rattle.std.proofs.lemmas.List.FromFn.{length-map-range_with_len}
use Rattle.std.proofs.lemmas.Option.{none-some}
use Rattle.hg_size.specs.Runs.{AreRuns}
use Rattle.hg_size.proofs.Covers.{run_small}
use Rattle.hg_size.proofs.Within.{run_within}
use Rattle.hg_size.specs.Sizes.{sizes}
use Rattle.hg_place.specs.Words.{bit_of}
use Rattle.hg_place.specs.Places.{segment_of_page}
use Rattle.hg_machine.specs.State.{Holder, fresh, orphan, held, class_at, holder_at}
use Rattle.hg_machine.specs.Holders.{is_orphan}
use Rattle.hg_machine.specs.Soundness.{IsWhole}
use Rattle.hg_agreement.specs.Parts.{Plain, Parts, is_of, record_of, class_by, page_class}
use Rattle.hg_agreement.specs.Parts.{holder_of, state_of}
use Rattle.hg_agreement.specs.Holdings.{class_of}
use Rattle.hg_agreement.proofs.Firsts.{count_cons, count_append}
use Rattle.hg_agreement.proofs.Openings.{count_numbers}
use Rattle.hg_agreement.proofs.Told.{class_is, holder_is as told}
use Rattle.hg_parts.specs.Rights.{held_from, segments_in, found_in, is_numbered, IsSegmentRight}
use Rattle.hg_parts.specs.Rights.{AreSegmentsRight}
use Rattle.hg_parts.specs.Accounted.{AccountedPartsAreSound}
use Rattle.hg_parts.specs.Tidy.{TidyPartsAreSound}
use Rattle.hg_parts.proofs.Flat.{E, plain_in, holder_in, plain_is, holder_is as spot_is}
use Rattle.hg_parts.proofs.Founds.{found_each, each_append, each_map, each_held, orphan_found}
use Rattle.hg_parts.proofs.Records.{found, right, class_here, class_past}
use Rattle.hg_parts.proofs.Accounted.{accounted}

-- segments of one holder count as they do without it
pub count_map : (n : ℕ) (h : Holder) (xs : List Plain)
    → count_by (is_numbered n) (map (λ s. (h, s)) xs) ≡ count_by (is_of n) xs
count_map n h [] = refl
count_map n h (x ∷ xs) =
    let e : E = (h, x) in
    count_cons (is_numbered n) e (map (λ s. (h, s)) xs)
    ∙ ap (λ (k : ℕ). bit_of (nat_eq x.holding.number n) + k) (count_map n h xs)
    ∙ sym (count_cons (is_of n) x xs)

module _ (parts : Parts) (h : AreSegmentsRight parts) where
  -- classes are sizes

  class_of_found : (o : Option (Holder × Plain)) (page size : ℕ)
      → ((e : Holder × Plain) → o ≡ Some e → IsSegmentRight parts.policy e.1)
      → class_by (plain_in o) page ≡ Some size → Contains sizes size
  class_of_found None page size f e = absurd (cc)
  class_of_found (Some s) page size f e = (f s refl).holding.sizes page size e

  pub classes : (page size : ℕ) → class_at (state_of parts) page ≡ Some size → Contains sizes size
  classes page size e = elim (cases_lt page (length parts.policy.segments * 16)) [
    | inl lt ↦ class_of_found (found_in parts (segment_of_page page)) (page % 16) size
        (right parts h (segment_of_page page))
        (sym (class_is parts page lt ∙ ap (λ (x : Option Plain). class_by x (page % 16))
        (plain_is parts (segment_of_page page))) ∙ e)
    | inr ge ↦ absurd (let none = class_past parts h page ge in cc)
  ]

  -- blocks lie apart over pages
  pub runs : AreRuns (class_at (state_of parts))
  runs page = elim (cases_lt page (length parts.policy.segments * 16)) [
    | inl lt ↦ (let f = found parts h (segment_of_page page) (omega (arith, lt)) in
        run_within (class_of f.0.1.holding) (class_at (state_of parts)) page
        (λ q same. class_here parts h q f.0 (omega (arith, lt, same))
        (ap (found_in parts) same ∙ f.1))
        ((right parts h (segment_of_page page) f.0 f.1).holding.runs (page % 16)))
    | inr ge ↦ run_small (class_at (state_of parts)) page
        (λ q size same is. absurd (none-some size
        (sym (class_past parts h q (omega (arith, ge, same))) ∙ is)))
  ]

  -- holders are workers

  holder_is : (n : ℕ) → n < length parts.policy.segments → holder_at (state_of parts) n
      ≡ holder_in (found_in parts n)
  holder_is n lt = told parts n lt ∙ spot_is parts n

  holder_past : (n : ℕ) → length parts.policy.segments ≤ n → holder_at (state_of parts) n ≡ fresh
  holder_past n ge =
      get_or_past (state_of parts).holders n fresh
      (omega (
        arith,
        ge,
        length-map-range_with_len (holder_of parts) 0
            (length parts.policy.segments),
      ))

  abbrev IsWorker : Holder × Plain → Type 0
  IsWorker e = (w : ℕ) → e.0 ≡ held w → w < parts.policy.workers

  all_workers : AllByRecursion IsWorker (segments_in parts)
  all_workers =
      each_append IsWorker (held_from 0 parts.heaps)
      (map (λ s. (orphan, s)) parts.orphans ++ map (λ s. (fresh, s)) parts.fresh)
      (each_held IsWorker 0 parts.policy.workers parts.heaps (omega (arith, h.heaps))
      (λ w s lt v e. let same : w ≡ v = grind (arith, e) in omega (arith, lt, same)))
      (each_append IsWorker (map (λ s. (orphan, s)) parts.orphans)
      (map (λ s. (fresh, s)) parts.fresh)
      (each_map IsWorker orphan parts.orphans (λ s w e. absurd (cc)))
      (each_map IsWorker fresh parts.fresh (λ s w e. absurd (cc))))

  worker_of_found : (o : Option (Holder × Plain)) (w : ℕ)
      → ((e : Holder × Plain) → o ≡ Some e → IsWorker e) → holder_in o ≡ held w
      → w < parts.policy.workers
  worker_of_found None w f e = absurd (cc)
  worker_of_found (Some s) w f e = f s refl w e

  pub workers : (n w : ℕ) → holder_at (state_of parts) n ≡ held w → w < parts.policy.workers
  workers n w e = elim (cases_lt n (length parts.policy.segments)) [
    | inl lt ↦ worker_of_found (found_in parts n) w
        (λ s is. found_each IsWorker (is_numbered n) (segments_in parts) s all_workers is)
        (sym (holder_is n lt) ∙ e)
    | inr ge ↦ absurd (let none = holder_past n ge in cc)
  ]

  -- each orphan stands once in their order

  total : (n : ℕ) → count_by (is_numbered n) (held_from 0 parts.heaps)
      + (count_by (is_numbered n) (map (λ s. (orphan, s)) parts.orphans) + count_by (is_numbered n)
      (map (λ s. (fresh, s)) parts.fresh)) ≡ bit_of (nat_lt n (length parts.policy.segments))
  total n = omega (
    arith,
    h.once n,
    count_append (is_numbered n) (held_from 0 parts.heaps)
        (map (λ s. (orphan, s)) parts.orphans ++ map (λ s. (fresh, s)) parts.fresh),
    count_append (is_numbered n) (map (λ s. (orphan, s)) parts.orphans)
        (map (λ s. (fresh, s)) parts.fresh),
  )

  below : (n : ℕ) → n < length parts.policy.segments → nat_lt n (length parts.policy.segments)
      ≡ true
  below n lt = grind (arith, nat_tests)

  past : (n : ℕ) → length parts.policy.segments ≤ n → nat_lt n (length parts.policy.segments)
      ≡ false
  past n ge = grind (arith, nat_tests)

  pub orphans : (n : ℕ) → count_by (λ other. nat_eq other n) (state_of parts).orphans
      ≡ bit_of (is_orphan (holder_at (state_of parts) n))
  orphans n =
      sym (count_map n orphan parts.orphans ∙ count_numbers n parts.orphans)
      ∙ elim (cases_lt n (length parts.policy.segments)) [
        | inl lt ↦ sym (ap (λ (x : Holder). bit_of (is_orphan x)) (holder_is n lt)
            ∙ orphan_found (is_numbered n) (held_from 0 parts.heaps)
            (map (λ s. (orphan, s)) parts.orphans) (map (λ s. (fresh, s)) parts.fresh)
            (each_held (λ e. is_orphan e.0 ≡ false) 0 parts.policy.workers parts.heaps
            (omega (arith, h.heaps)) (λ w s l. refl))
            (each_map (λ e. is_orphan e.0 ≡ true) orphan parts.orphans (λ s. refl))
            (each_map (λ e. is_orphan e.0 ≡ false) fresh parts.fresh (λ s. refl))
            (total n ∙ ap bit_of (below n lt)))
        | inr ge ↦ (let zero : bit_of (nat_lt n (length parts.policy.segments)) ≡ 0 =
            ap bit_of (past n ge) in
            let none : bit_of (is_orphan (holder_at (state_of parts) n)) ≡ 0 =
            ap (λ (x : Holder). bit_of (is_orphan x)) (holder_past n ge) in
            omega (arith, total n, zero, none))
      ]

  -- there is an entry for each number
  pub complete : IsWhole (state_of parts)
  complete = record {
    records = length-map-range_with_len (record_of parts) 0 (length parts.policy.segments * 8192);
    classes = length-map-range_with_len (page_class parts) 0 (length parts.policy.segments * 16);
    holders = length-map-range_with_len (holder_of parts) 0 (length parts.policy.segments);
    hands = h.hands;
  }

pub accounted_sound : AccountedPartsAreSound
accounted_sound parts policy right whole = (
  record {
    policy = policy;
    whole = complete parts right;
    places = λ place. (whole place).sound;
    classes = classes parts right;
    runs = runs parts right;
    workers = workers parts right;
    orphans = orphans parts right;
  },
  λ place. (whole place).listed,
)

pub tidy_sound : TidyPartsAreSound
tidy_sound parts policy t =
    accounted_sound parts policy t.segments
    (λ place. accounted parts t.segments t.remotes place (t.out_once place))
