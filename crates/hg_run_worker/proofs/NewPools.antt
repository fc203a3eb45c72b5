-- A new pool: one segment more is put there, and when all are there the pool's part of the run is full.
use Rattle.std.specs.Prelude.{Contains, find}
use Rattle.std.proofs.Common.{◌≡◌, ◌==◌, ℕ, zero, suc, ◌+◌, ◌-◌, ◌/◌, ◌%◌, ◌<◌, Bool, true, false, nat_lt, cond, All}
use Rattle.std.proofs.Common.{List, [], ◌∷◌, ◌++◌, map, length, Option, Some, None, refl, sym, ap, subst, ◌∙◌, arith}
use Rattle.std.proofs.Common.{slice_get, length-append, if◌then◌else◌}
use Rattle.std.specs.List.{AllByRecursion, list_any, range_with_len}
use Rattle.std.proofs.lemmas.Bool.{eq-eqb, ltb-true, ne_eqb}
use Rattle.std.proofs.lemmas.List.Elements.{All-cons, All-contains, All-nil, recursion_from_All}
use Rattle.std.proofs.lemmas.List.Folds.{list_any_at}
use Rattle.std.proofs.lemmas.List.FromFn.{get_or-range_with_len, length-range_with_len}
use Rattle.std.proofs.lemmas.Option.{none-some}
use Rattle.atomic_table.specs.Seated.{TableId}
use Rattle.hg_place.specs.declared.geometry.TheConstants.{PAGE_PLACES, SEGMENT_PAGES, SEGMENT_PLACES}
use Rattle.hg_place.specs.declared.standing.Standing.TheVariants.{Home}
use Rattle.hg_place.specs.Places.{segment_of, segment_of_page}
use Rattle.hg_lists.specs.Inserts.{Inserts}
use Rattle.hg_machine.specs.Policy.{Policy}
use Rattle.hg_segment.specs.Kept.{Kept}
use Rattle.hg_segment.specs.Blocks.{block_at}
use Rattle.hg_pool.specs.Pooled.{IsPooled, IsRight, IsRising, Pooled, is_numbered, numbers}
use Rattle.hg_pool.proofs.Placed.{have_one_place}
use Rattle.hg_agreement.specs.Holdings.{Holding, block_by, block_told, class_told, holding_of, standing_told}
use Rattle.hg_heap.specs.Ties.{holding}
use Rattle.hg_roles.specs.FirstParts.{full}
use Rattle.hg_roles.specs.Roles.{of_pool}
use Rattle.hg_run_table.specs.declared.segment.RunSegment.{RunSegment}
use Rattle.hg_run_table.specs.JoinedCalls.{IsOthers}
use Rattle.hg_run_table.specs.NewSeats.{IsNewOther}
use Rattle.hg_run_worker.specs.declared.pool.RunPool.{RunPool}
use Rattle.hg_run_worker.specs.AtWork.{number_in, records_in}
use Rattle.hg_run_worker.specs.NewPools.{HasFrom, IsUnused}
use Rattle.hg_run_worker.specs.Pools.{IsPoolOf, holdings_in, pool_part, pooled_in}

-- what stands in front of others stays there, and the last one stands behind all others
low_get : {X : Type 0} (xs ys : List X) (k : ℕ) (x : X) → slice_get xs k ≡ Some x
    → slice_get (xs ++ ys) k ≡ Some x
low_get [] ys k x e = absurd (none-some _ e)
low_get (y ∷ xs) ys zero x e = e
low_get (y ∷ xs) ys (suc k) x e = low_get xs ys k x e

last_get : {X : Type 0} (xs : List X) (x : X) → slice_get (xs ++ x ∷ []) (length xs) ≡ Some x
last_get [] x = refl
last_get (y ∷ xs) x = last_get xs x

-- what is so of each at its index is so without the last one, and of that
pub cut_last : {X : Type 0} (P : ℕ → X → Type 0) (xs ys : List X) (x : X) → xs ≡ ys ++ x ∷ []
    → ((k : ℕ) (y : X) → slice_get xs k ≡ Some y → P k y)
    → ((k : ℕ) (y : X) → slice_get ys k ≡ Some y → P k y) × P (length ys) x
cut_last P xs ys x is each = (
  λ k y there. each k y (ap (λ zs. slice_get zs k) is ∙ low_get ys (x ∷ []) k y there),
  each (length ys) x (ap (λ zs. slice_get zs (length ys)) is ∙ last_get ys x),
)

-- and there is one more with it
pub one_more : {X : Type 0} (xs ys : List X) (x : X) → xs ≡ ys ++ x ∷ [] → length ys + 1 ≡ length xs
one_more xs ys x is = sym (ap length is ∙ length-append ys (x ∷ []))

-- numbers in a row rise
range_above : (x a n : ℕ) → x < a → AllByRecursion (λ y. x < y) (range_with_len a n)
range_above x a zero low = tt
range_above x a (suc n) low = (low, range_above x (a + 1) n (omega arith))

range_rising : (a n : ℕ) → IsRising (range_with_len a n)
range_rising a zero = tt
range_rising a (suc n) = (range_above a (a + 1) n (omega arith), range_rising (a + 1) n)

-- a number below those of all segments is of none
absent : (xs : List (Kept RunSegment)) (n : ℕ) → AllByRecursion (λ y. n < y) (numbers number_in xs)
    → find (is_numbered number_in n) xs ≡ None
absent [] n above = refl
absent (x ∷ xs) n above =
    rw (ne_eqb (number_in x.slots) n (λ e. omega (arith, e, above.0))) (absent xs n above.1)

-- no class, no generation and no word is told of a segment
abbrev TellsNothing : Option Holding → Type 0
TellsNothing held =
    ((page : ℕ) → class_told held page ≡ None) × ((at : ℕ) → standing_told held at ≡ Home 0)
    × ((at : ℕ) → block_told held at ≡ [])

tells_nothing : (id : TableId) (policy : Policy) (xs : List (Kept RunSegment))
    → AllByRecursion (IsUnused id policy) xs → (segment : ℕ)
    → TellsNothing (holding_of (map (holding number_in records_in) xs) segment)
tells_nothing id policy [] unused segment = (λ page. refl, λ at. refl, λ at. refl)
tells_nothing id policy (x ∷ xs) unused segment =
    go (number_in x.slots == segment) (tells_nothing id policy xs unused.1 segment)
  where
    rest : Option Holding
    rest = holding_of (map (holding number_in records_in) xs) segment

    words : ℕ → List ℕ
    words at = block_at x.words x.classes (at / PAGE_PLACES) (at % PAGE_PLACES)

    go : (b : Bool) → TellsNothing rest
        → TellsNothing (cond b (Some (holding number_in records_in x)) rest)
    go true t = (
      unused.0.classes,
      unused.0.home,
      λ at. ap (λ s. block_by s (words at)) (unused.0.home at),
    )
    go false t = t

module _ {id : TableId} {policy : Policy} where
  -- each number is told as fresh
  all_fresh : (pool : Pooled RunSegment) → HasFrom id policy 0 pool → (segment : ℕ)
      → (pool_part policy pool).fresh segment ≡ true
  all_fresh pool has segment = go (nat_lt segment (length policy.segments)) refl
    where
      go : (b : Bool) → nat_lt segment (length policy.segments) ≡ b
          → (if b then list_any (λ n. n == segment) (numbers number_in pool.fresh) else true) ≡ true
      go true below =
          let lt = ltb-true segment (length policy.segments) below in
          let there = get_or-range_with_len 0 (length policy.segments) segment 0 lt in
          ap (list_any (λ n. n == segment)) (has.fresh ∙ ap (range_with_len 0) (omega arith))
          ∙ list_any_at (λ n. n == segment) (range_with_len 0 (length policy.segments)) segment 0
          (omega (arith, lt, length-range_with_len 0 (length policy.segments)))
          (eq-eqb _ segment (omega (arith, there)))
      go false below = refl

  -- so the pool has what the pool of a new table has
  part_is_full : (pool : Pooled RunSegment) → HasFrom id policy 0 pool → pool_part policy pool ≡ full
  part_is_full pool has =
      let told : (segment : ℕ) → TellsNothing (holding_of (holdings_in pool) segment) =
      tells_nothing id policy (pooled_in pool)
      (subst (λ os. AllByRecursion (IsUnused id policy) (os ++ pool.fresh)) (sym has.orphans)
      (recursion_from_All (IsUnused id policy) pool.fresh has.unused)) in
      λ i. record {
        orphans = ap (numbers number_in) has.orphans i;
        fresh = λ segment. all_fresh pool has segment i;
        class = λ page. (told (segment_of_page page)).0 (page % SEGMENT_PAGES) i;
        standing = λ place. (told (segment_of place)).1 (place % SEGMENT_PLACES) i;
        block = λ place. (told (segment_of place)).2 (place % SEGMENT_PLACES) i;
      }

  -- past the last number there is none
  pub has_none : {first : ℕ} (pool : Pooled RunSegment) → first ≡ length policy.segments
      → pool.orphans ≡ [] → pool.fresh ≡ [] → HasFrom id policy first pool
  has_none {first} pool all orphans fresh =
      let none : length policy.segments - first ≡ 0 = omega (arith, all) in
      record {
        within = omega (arith, all);
        orphans = orphans;
        fresh = ap (numbers number_in) fresh ∙ sym (ap (range_with_len first) none);
        unused = subst (All (IsUnused id policy)) (sym fresh) (All-nil (IsUnused id policy));
      }

  -- the segment before those that are there isn't there
  pub not_there : (first : ℕ) (pool : Pooled RunSegment) (one : Kept RunSegment)
      → HasFrom id policy (first + 1) pool → number_in one.slots ≡ first → ¬ IsPooled number_in pool (number_in one.slots)
  not_there first pool one has number there =
      let above : AllByRecursion (λ y. number_in one.slots < y) (numbers number_in pool.fresh) =
      subst (AllByRecursion (λ y. number_in one.slots < y)) (sym has.fresh)
      (range_above (number_in one.slots) (first + 1) (length policy.segments - (first + 1))
      (omega (arith, number))) in
      none-some there.0
      (sym
      (ap (λ os. find (is_numbered number_in (number_in one.slots)) (os ++ pool.fresh)) has.orphans
      ∙ absent pool.fresh (number_in one.slots) above)
      ∙ there.1)

  -- and it comes in front of them
  pub has_put : (first : ℕ) (old new : Pooled RunSegment) (one : Kept RunSegment)
      → HasFrom id policy (first + 1) old → number_in one.slots ≡ first → IsUnused id policy one
      → Inserts one old.fresh new.fresh → new.orphans ≡ old.orphans → IsRight number_in new
      → HasFrom id policy first new
  has_put first old new one has number unused put orphans right =
      let more : length policy.segments - first ≡ suc (length policy.segments - (first + 1)) =
      omega (arith, has.within) in
      let numbered
      : numbers number_in (one ∷ old.fresh) ≡ range_with_len first (length policy.segments - first) =
      ap (λ k. k ∷ numbers number_in old.fresh) number ∙ ap (λ ks. first ∷ ks) has.fresh
      ∙ sym (ap (range_with_len first) more) in
      let there : new.fresh ≡ one ∷ old.fresh =
      have_one_place number_in one old.fresh new.fresh (one ∷ old.fresh) put
      ([], old.fresh, refl, refl) right.rising
      (subst IsRising (sym numbered) (range_rising first (length policy.segments - first))) in
      record {
        within = omega (arith, has.within);
        orphans = orphans ∙ has.orphans;
        fresh = ap (numbers number_in) there ∙ numbered;
        unused = subst (All (IsUnused id policy)) (sym there)
            (All-cons (IsUnused id policy) one old.fresh unused has.unused);
      }

  -- with all segments it is the pool of the policy
  pub is_pool : (pool : RunPool) → IsNewOther id (of_pool full) pool.call
      → HasFrom id policy 0 pool.pool → IsPoolOf id policy pool
  is_pool pool new has =
      let unused : (k : Kept RunSegment) → Contains (pooled_in pool.pool) k → IsUnused id policy k =
      λ k there.
      All-contains (IsUnused id policy) pool.pool.fresh k has.unused
      (subst (λ os. Contains (os ++ pool.pool.fresh) k) has.orphans there) in
      record {
        same = new.same;
        bare = new.bare;
        part = subst (λ p. IsOthers pool.call (of_pool p)) (sym (part_is_full pool.pool has)) new.part;
        of = record {
          arena = λ k there. (unused k there).of.0;
          greatest = λ k there. (unused k there).of.1;
        };
        seated = λ k there. (unused k there).seated;
      }
