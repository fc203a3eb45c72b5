-- What a core opens with.
use Rattle.std.proofs.Common.{◌≡◌, ℕ, zero, suc, ◌+◌, ◌<◌, ◌≤◌, [], ◌∷◌, ◌++◌, List, find, cond}
use Rattle.std.proofs.Common.{Some, None, slice_index_or, refl, sym, ap, subst, ◌∙◌, arith}
use Rattle.std.specs.List.{AllByRecursion, range_with_len}
use Rattle.std.proofs.lemmas.Bool.{ne_eqb}
use Rattle.std.proofs.lemmas.List.{map-append, append-nil}
use Rattle.hg_lists.specs.Inserts.{Inserts}
use Rattle.hg_place.specs.declared.plain.PlainWords.{PlainWords}
use Rattle.hg_segment.specs.Kept.{Kept}
use Rattle.hg_segment.specs.Parted.{plain_number}
use Rattle.hg_heap.specs.Held.{Held}
use Rattle.hg_pool.specs.Pooled.{Pooled, IsPooled, IsRising, IsRight, is_numbered, segment_of}
use Rattle.hg_pool.specs.Pooled.{numbers as numbers_in}
use Rattle.hg_pool.proofs.Placed.{have_one_place}
use Rattle.hg_machine.specs.Policy.{Policy}
use Rattle.hg_core.specs.Opened.{IsUnusedOne, IsFreshPool}

-- all of a list with one more at its end
pub all_more : {X : Type 0} (P : X → Type 0) (xs : List X) (x : X) → AllByRecursion P xs → P x
    → AllByRecursion P (xs ++ x ∷ [])
all_more P [] x all one = (one, tt)
all_more P (y ∷ ys) x all one = (all.0, all_more P ys x all.1 one)

-- numbers in a row
range_more : (a n : ℕ) → range_with_len a n ++ (a + n) ∷ [] ≡ range_with_len a (suc n)
range_more a zero = ap (λ k. k ∷ []) (omega arith)
range_more a (suc n) =
    ap (λ k. a ∷ (range_with_len (a + 1) n ++ k ∷ [])) (omega arith)
    ∙ ap (λ ks. a ∷ ks) (range_more (a + 1) n)

range_above : (x a n : ℕ) → x < a → AllByRecursion (λ y. x < y) (range_with_len a n)
range_above x a zero low = tt
range_above x a (suc n) low = (low, range_above x (a + 1) n (omega arith))

range_rising : (a n : ℕ) → IsRising (range_with_len a n)
range_rising a zero = tt
range_rising a (suc n) = (range_above a (a + 1) n (omega arith), range_rising (a + 1) n)

range_below : (a n m : ℕ) → a + n ≤ m → AllByRecursion (λ y. y < m) (range_with_len a n)
range_below a zero m high = tt
range_below a (suc n) m high = (omega arith, range_below (a + 1) n m (omega arith))

-- a number that is above all that are there isn't there
not_there : (n : ℕ) (xs : List (Kept PlainWords))
    → AllByRecursion (λ y. y < n) (numbers_in plain_number xs)
    → find (is_numbered plain_number n) xs ≡ None
not_there n [] below = refl
not_there n (x ∷ xs) below =
    ap (λ b. cond b (Some x) (find (is_numbered plain_number n) xs))
    (ne_eqb (plain_number x.slots) n (λ e. omega (arith, below.0, e)))
    ∙ not_there n xs below.1

-- what is numbered next isn't in a pool of those before
pub next_new : (policy : Policy) (n m : ℕ) (pool : Pooled PlainWords) → IsFreshPool policy n pool
    → m ≡ n → ¬ IsPooled plain_number pool m
next_new policy n m pool is same there =
    let none : segment_of plain_number pool m ≡ None =
    ap (λ os. find (is_numbered plain_number m) (os ++ pool.fresh)) is.orphans
    ∙ not_there m pool.fresh
    (subst (AllByRecursion (λ y. y < m)) (sym is.numbers) (range_below 0 n m (omega arith))) in
    let bad : Some there.0 ≡ None = sym there.1 ∙ none in
    cc

-- and comes behind them
pub next_put : (policy : Policy) (n : ℕ) (old new : Pooled PlainWords) (one : Kept PlainWords)
    → IsFreshPool policy n old → plain_number one.slots ≡ n → IsUnusedOne policy one
    → Inserts one old.fresh new.fresh → new.orphans ≡ old.orphans → IsRight plain_number new
    → IsFreshPool policy (n + 1) new
next_put policy n old new one is number unused put orphans right =
    let behind : List (Kept PlainWords) = old.fresh ++ one ∷ [] in
    let more : suc n ≡ n + 1 = omega arith in
    let counted : numbers_in plain_number behind ≡ range_with_len 0 (n + 1) =
    map-append (λ k. plain_number k.slots) old.fresh (one ∷ [])
    ∙ ap (λ ns. ns ++ plain_number one.slots ∷ []) is.numbers
    ∙ ap (λ k. range_with_len 0 n ++ k ∷ []) (omega (arith, number))
    ∙ range_more 0 n ∙ ap (λ (k : ℕ). range_with_len 0 k) more in
    let there : new.fresh ≡ behind =
    have_one_place plain_number one old.fresh new.fresh behind put
    (old.fresh, [], sym (append-nil old.fresh), refl) right.rising
    (subst IsRising (sym counted) (range_rising 0 (n + 1))) in
    record {
      orphans = orphans ∙ is.orphans;
      numbers = ap (numbers_in plain_number) there ∙ counted;
      each = subst (AllByRecursion (IsUnusedOne policy)) (sym there)
          (all_more (IsUnusedOne policy) old.fresh one is.each unused);
    }

-- heaps that hold nothing
pub heap_none : (hs : List (Held PlainWords)) → AllByRecursion (λ h. h.segments ≡ []) hs
    → (d : Held PlainWords) → d.segments ≡ [] → (w : ℕ)
    → (slice_index_or hs w d).segments ≡ []
heap_none [] none d empty w = empty
heap_none (x ∷ xs) none d empty zero = none.0
heap_none (x ∷ xs) none d empty (suc w) = heap_none xs none.1 d empty w
