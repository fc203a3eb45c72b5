-- Segments that come to a worker from a pool, and leave it for one.
use Rattle.std.proofs.Common.{◌≡◌, ◌⊎◌, ℕ, ◌<◌, ◌++◌, Bool, not, List, []}
use Rattle.std.proofs.Common.{◌∷◌, length, find, get_or, Some, None, sym, ap, subst, is_some, true}
use Rattle.std.proofs.Common.{◌∙◌, arith, inl, inr, ⊎_elim}
use Rattle.std.specs.Prelude.{Option, Contains, IfSome, IfNone, MatchOption}
use Rattle.std.specs.List.{position_or_len}
use Rattle.std.specs.Option.{option_or}
use Rattle.std.proofs.lemmas.List.Elements.{Contains-append_left, Contains-append_right}
use Rattle.std.proofs.lemmas.List.Elements.{Contains-append_cases, filter-append}
use Rattle.std.proofs.lemmas.List.Folds.{find_at}
use Rattle.std.proofs.lemmas.Option.{slice_get_within, get_or_from_slice_get}
use Rattle.std.proofs.lemmas.List.Sorted.{Contains-permutation, IsPermutation-sym}
use Rattle.std.specs.Prelude.{IsPermutation}
use Rattle.hg_machine.specs.Policy.{Policy, arena_of}
use Rattle.hg_machine.specs.SoundPolicy.{IsSoundPolicy}
use Rattle.hg_segment.specs.Kept.{Kept}
use Rattle.hg_heap.specs.Policies.{AreOf, IsOf}
use Rattle.hg_heap.proofs.Founds.{Contains-get}
use Rattle.hg_heap.proofs.Filtered.{contained_filter}
use Rattle.hg_pool.specs.Pooled.{Pooled, next_in, is_of_arena, is_numbered, without_segment}
use Rattle.hg_pool.specs.Pooled.{without_number}

pub either_option : {X G : Type 0} (o : Option X) (P : X → Type 0) (Q : Type 0) → IfSome o P
    → IfNone o Q → ((x : X) → P x → G) → (Q → G) → G
either_option None P Q has lacks f h = h lacks
either_option (Some x) P Q has lacks f h = f x has

pub by_some : {X : Type 0} (o : Option X) (P : Type 0) (Q : X → Type 0) → is_some o ≡ true
    → ((x : X) → Q x) → MatchOption o P Q
by_some None P Q there q = absurd (cc)
by_some (Some x) P Q there q = q x

pub only : {X : Type 0} (x k : X) → Contains (x ∷ []) k → x ≡ k
only x k c =
    let z : c.0 ≡ 0 = (let lt = c.1 in omega (arith, lt)) in
    ap (λ n. get_or (x ∷ []) n k) (sym z) ∙ c.2

option_or_cases : {X : Type 0} (o q : Option X) (x : X) → option_or o q ≡ Some x
    → (o ≡ Some x) ⊎ (q ≡ Some x)
option_or_cases None q x e = inr e
option_or_cases (Some y) q x e = inl e

found_contained : {X : Type 0} (p : X → Bool) (xs : List X) (x : X) → find p xs ≡ Some x
    → Contains xs x
found_contained p xs x e =
    Contains-get xs (position_or_len p xs) x (sym (find_at p xs) ∙ e)

-- an arena of a sound policy
pub arena_low : (policy : Policy) (segment arena : ℕ) → IsSoundPolicy policy
    → arena_of policy segment ≡ Some arena → arena < 16
arena_low policy segment arena sound is =
    let lt = slice_get_within policy.segments segment arena is in
    let low : arena < length policy.arenas =
    subst (λ a. a < length policy.arenas)
    (get_or_from_slice_get policy.segments segment arena arena is)
    (sound.in_arenas segment arena lt) in
    let few = sound.few_arenas in
    omega (arith, low, few)

-- what is left when one has gone was there
pub left_there : {X : Type 0} (xs ys : List X) (one : X) → IsPermutation xs (one ∷ ys) → (k : X)
    → Contains ys k → Contains xs k
left_there xs ys one p k c =
    Contains-permutation (one ∷ ys) xs k (IsPermutation-sym xs (one ∷ ys) p)
    (Contains-append_right (one ∷ []) ys k c)

-- what has an orphan more has what it had, and that one
pub with_there : {X : Type 0} (orphans fresh : List X) (one k : X)
    → Contains ((orphans ++ one ∷ []) ++ fresh) k → Contains ((orphans ++ fresh) ++ one ∷ []) k
with_there orphans fresh one k c =
    ⊎_elim
    (λ (l : Contains (orphans ++ one ∷ []) k).
    ⊎_elim
    (λ (a : Contains orphans k).
    Contains-append_left (orphans ++ fresh) (one ∷ []) k (Contains-append_left orphans fresh k a))
    (λ (b : Contains (one ∷ []) k). Contains-append_right (orphans ++ fresh) (one ∷ []) k b)
    (Contains-append_cases orphans (one ∷ []) k l))
    (λ (r : Contains fresh k).
    Contains-append_left (orphans ++ fresh) (one ∷ []) k (Contains-append_right orphans fresh k r))
    (Contains-append_cases (orphans ++ one ∷ []) fresh k c)

-- so has what has one more amid the fresh ones
pub amid_there : {X : Type 0} (orphans fresh orphans' fresh' front back : List X) (one k : X)
    → orphans' ≡ orphans → front ++ back ≡ fresh → fresh' ≡ front ++ one ∷ back
    → Contains (orphans' ++ fresh') k → Contains ((orphans ++ fresh) ++ one ∷ []) k
amid_there {X} orphans fresh orphans' fresh' front back one k same is now c =
    let there : Contains (orphans ++ (front ++ one ∷ back)) k =
    subst (λ (xs : List X). Contains (xs ++ (front ++ one ∷ back)) k) same
    (subst (λ (xs : List X). Contains (orphans' ++ xs) k) now c) in
    let old : Contains fresh k → Contains ((orphans ++ fresh) ++ one ∷ []) k =
    λ f. Contains-append_left (orphans ++ fresh) (one ∷ []) k
    (Contains-append_right orphans fresh k f) in
    ⊎_elim
    (λ (l : Contains orphans k).
    Contains-append_left (orphans ++ fresh) (one ∷ []) k (Contains-append_left orphans fresh k l))
    (λ (r : Contains (front ++ one ∷ back) k).
    ⊎_elim
    (λ (a : Contains front k).
    old (subst (λ (xs : List X). Contains xs k) is (Contains-append_left front back k a)))
    (λ (b : Contains ((one ∷ []) ++ back) k).
    ⊎_elim
    (λ (o : Contains (one ∷ []) k). Contains-append_right (orphans ++ fresh) (one ∷ []) k o)
    (λ (q : Contains back k).
    old (subst (λ (xs : List X). Contains xs k) is (Contains-append_right front back k q)))
    (Contains-append_cases (one ∷ []) back k b))
    (Contains-append_cases front (one ∷ back) k r))
    (Contains-append_cases orphans (front ++ one ∷ back) k there)

module _ {S : Type 0} (number : S → ℕ) where
  -- what comes next is in the pool
  pub next_contained : (pool : Pooled S) (arena : ℕ) (one : Kept S) → next_in pool arena ≡ Some one
      → Contains (pool.orphans ++ pool.fresh) one
  next_contained pool arena one e =
      ⊎_elim
      (λ (l : find (is_of_arena arena) pool.orphans ≡ Some one).
      Contains-append_left pool.orphans pool.fresh one
      (found_contained (is_of_arena arena) pool.orphans one l))
      (λ (r : find (is_of_arena arena) pool.fresh ≡ Some one).
      Contains-append_right pool.orphans pool.fresh one
      (found_contained (is_of_arena arena) pool.fresh one r))
      (option_or_cases (find (is_of_arena arena) pool.orphans)
      (find (is_of_arena arena) pool.fresh) one e)

  -- what is so of a list is so of what is in it
  pub are_of_part : (policy : Policy) (xs ys : List (Kept S))
      → ((k : Kept S) → Contains ys k → Contains xs k) → AreOf number policy xs
      → AreOf number policy ys
  are_of_part policy xs ys part of = record {
    arena = λ k c. of.arena k (part k c);
    greatest = λ k c. of.greatest k (part k c);
  }

  -- what a pool has without a segment it had with it
  pub without_there : (pool : Pooled S) (segment : ℕ) (k : Kept S)
      → Contains
      ((without_segment number pool segment).orphans ++ (without_segment number pool segment).fresh)
      k
      → Contains (pool.orphans ++ pool.fresh) k
  without_there pool segment k c =
      let p : Kept S → Bool = λ one. not (is_numbered number segment one) in
      (contained_filter p k (pool.orphans ++ pool.fresh)
      (subst (λ (l : List (Kept S)). Contains l k)
      (sym (filter-append p pool.orphans pool.fresh)) c)).1

  pub pool_without : (policy : Policy) (pool : Pooled S) (segment : ℕ)
      → AreOf number policy (pool.orphans ++ pool.fresh)
      → AreOf number policy
      ((without_segment number pool segment).orphans ++ (without_segment number pool segment).fresh)
  pool_without policy pool segment of =
      are_of_part policy (pool.orphans ++ pool.fresh)
      (without_number number segment pool.orphans ++ without_number number segment pool.fresh)
      (without_there pool segment) of

  -- one more
  pub are_of_more : (policy : Policy) (xs : List (Kept S)) (one : Kept S) → AreOf number policy xs
      → IsOf number policy one → AreOf number policy (xs ++ one ∷ [])
  are_of_more policy xs one of here = record {
    arena = λ k c.
        ⊎_elim (λ (l : Contains xs k). of.arena k l)
        (λ (r : Contains (one ∷ []) k).
        subst (λ (j : Kept S). arena_of policy (number j.slots) ≡ Some j.arena) (only one k r)
        here.0) (Contains-append_cases xs (one ∷ []) k c);
    greatest = λ k c.
        ⊎_elim (λ (l : Contains xs k). of.greatest k l)
        (λ (r : Contains (one ∷ []) k).
        subst (λ (j : Kept S). j.greatest ≡ policy.max_generation) (only one k r) here.1)
        (Contains-append_cases xs (one ∷ []) k c);
  }

  -- one more orphan
  pub pool_with : (policy : Policy) (orphans fresh : List (Kept S)) (one : Kept S)
      → AreOf number policy (orphans ++ fresh) → IsOf number policy one
      → AreOf number policy ((orphans ++ one ∷ []) ++ fresh)
  pool_with policy orphans fresh one of here =
      are_of_part policy ((orphans ++ fresh) ++ one ∷ []) ((orphans ++ one ∷ []) ++ fresh)
      (with_there orphans fresh one) (are_of_more policy (orphans ++ fresh) one of here)

  -- one more, amid the fresh ones
  pub pool_amid : (policy : Policy) (orphans fresh orphans' fresh' : List (Kept S)) (one : Kept S)
      (front back : List (Kept S)) → AreOf number policy (orphans ++ fresh)
      → IsOf number policy one → orphans' ≡ orphans → front ++ back ≡ fresh
      → fresh' ≡ front ++ one ∷ back → AreOf number policy (orphans' ++ fresh')
  pool_amid policy orphans fresh orphans' fresh' one front back of here same is now =
      are_of_part policy ((orphans ++ fresh) ++ one ∷ []) (orphans' ++ fresh')
      (λ k. amid_there orphans fresh orphans' fresh' front back one k same is now)
      (are_of_more policy (orphans ++ fresh) one of here)
