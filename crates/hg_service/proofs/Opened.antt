-- What a service opens with: one more of it.
use Rattle.std.proofs.Common.{◌≡◌, ℕ, zero, suc, ◌+◌, ◌<◌, List, [], ◌∷◌, ◌++◌, Option, Some}
use Rattle.std.proofs.Common.{length, get_or, refl, sym, ap, subst, ◌∙◌, arith, length-append}
use Rattle.std.specs.List.{AllByRecursion, range_with_len, slice_get}
use Rattle.std.specs.Option.{option_to_list}
use Rattle.std.proofs.lemmas.List.{get_or_append_left, get_or_push}
use Rattle.std.proofs.lemmas.Option.{same_Some, none-some}
use Rattle.hg_lists.specs.Inserts.{Inserts}
use Rattle.hg_segment.specs.Kept.{Kept}
use Rattle.hg_machine.specs.Policy.{Policy}
use Rattle.hg_pool.specs.Pooled.{Pooled, IsRising, IsRight, numbers}
use Rattle.hg_pool.proofs.Placed.{have_one_place}
use Rattle.hg_table.specs.declared.segment.UnnamedSegment.{UnnamedSegment}
use Rattle.hg_remote.specs.Remote.{nothing_sent}
use Rattle.hg_worker.specs.declared.worker.Worker.{Worker}
use Rattle.hg_worker.specs.Seats.{number_in}
use Rattle.hg_service.specs.declared.kept_list.KeptList.{KeptList}
use Rattle.hg_service.specs.New.{AreFresh, AreNew, AreUnsent, IsNew, IsUnused}

-- what is so of each at its index is so with one more, if it is of that at its own
pub each_more : {X : Type 0} (P : ℕ → X → Type 0) (xs : List X) (y : X)
    → ((k : ℕ) (x : X) → slice_get xs k ≡ Some x → P k x) → P (length xs) y
    → (k : ℕ) (x : X) → slice_get (xs ++ y ∷ []) k ≡ Some x → P k x
each_more P [] y all one zero x e = subst (P 0) (same_Some _ _ e) one
each_more P [] y all one (suc k) x e = absurd (none-some _ e)
each_more P (z ∷ zs) y all one zero x e = all 0 x e
each_more P (z ∷ zs) y all one (suc k) x e =
    each_more (λ k. P (suc k)) zs y (λ k. all (suc k)) one k x e

module _ {X : Type 0} (number : X → ℕ) where
  -- each stands at its number
  abbrev AtNumbers : List X → Type 0
  AtNumbers xs = (k : ℕ) (d : X) → k < length xs → number (get_or xs k d) ≡ k

  -- those in front do so too, and the last one has the number of how many those are
  pub in_front : (xs ys : List X) (r : Option X) → xs ≡ ys ++ option_to_list r → AtNumbers xs
      → AtNumbers ys
  in_front xs ys r e at k d lt =
      let more : k < length (ys ++ option_to_list r) =
      omega (arith, lt, length-append ys (option_to_list r)) in
      ap number (sym (get_or_append_left ys (option_to_list r) d k lt))
      ∙ ap (λ l. number (get_or l k d)) (sym e) ∙ at k d (subst (λ l. k < length l) (sym e) more)

  pub last_number : (xs ys : List X) (x : X) → xs ≡ ys ++ x ∷ [] → AtNumbers xs
      → number x ≡ length ys
  last_number xs ys x e at =
      let more : length ys < length (ys ++ x ∷ []) = omega (arith, length-append ys (x ∷ [])) in
      ap number (sym (get_or_push ys x x (length ys) refl))
      ∙ ap (λ l. number (get_or l (length ys) x)) (sym e)
      ∙ at (length ys) x (subst (λ l. length ys < length l) (sym e) more)

-- numbers in a row rise
range_above : (x a n : ℕ) → x < a → AllByRecursion (λ y. x < y) (range_with_len a n)
range_above x a zero low = tt
range_above x a (suc n) low = (low, range_above x (a + 1) n (omega arith))

range_rising : (a n : ℕ) → IsRising (range_with_len a n)
range_rising a zero = tt
range_rising a (suc n) = (range_above a (a + 1) n (omega arith), range_rising (a + 1) n)

-- one more is there
pub one_more : {X : Type 0} (xs ys : List X) (y : X) → xs ≡ ys ++ y ∷ []
    → length ys + 1 ≡ length xs
one_more xs ys y e = sym (ap length e ∙ length-append ys (y ∷ []))

module _ {N : _} {own : _} {table : _} where
  pub new_more : (count : ℕ) (xs ys : List (Worker N own table)) (worker : Worker N own table)
      → ys ≡ xs ++ worker ∷ [] → AreNew count xs → IsNew count worker → AreNew (count + 1) ys
  new_more count xs ys worker e are is =
      subst (AreNew (count + 1)) (sym e) (record {
        all = length-append xs (worker ∷ []) ∙ ap (λ k. k + 1) are.all;
        each = each_more (λ k w. IsNew k w) xs worker are.each
            (subst (λ k. IsNew k worker) (sym are.all) is);
      })

module _ {N : _} where
  pub unsent_more : (count : ℕ) (xs ys : List (KeptList N)) (kept : KeptList N)
      → ys ≡ xs ++ kept ∷ [] → AreUnsent count xs → kept.segment ≡ count
      → kept.list ≡ nothing_sent → AreUnsent (count + 1) ys
  unsent_more count xs ys kept e are number sent =
      subst (AreUnsent (count + 1)) (sym e) (record {
        all = length-append xs (kept ∷ []) ∙ ap (λ k. k + 1) are.all;
        number = each_more (λ k one. one.segment ≡ k) xs kept are.number (number ∙ sym are.all);
        sent = each_more (λ k one. one.list ≡ nothing_sent) xs kept are.sent sent;
      })

-- one that comes in front of those that are there
pub next_put : (policy : Policy) (from count : ℕ) (old new : Pooled UnnamedSegment)
    (one : Kept UnnamedSegment) → AreFresh policy (from + 1) count old
    → number_in one.slots ≡ from → IsUnused policy one → Inserts one old.fresh new.fresh
    → new.orphans ≡ old.orphans → IsRight number_in new
    → AreFresh policy from (suc count) new
next_put policy from count old new one is number unused put orphans right =
    let counted : numbers number_in (one ∷ old.fresh) ≡ range_with_len from (suc count) =
    ap (λ k. k ∷ numbers number_in old.fresh) number ∙ ap (λ ks. from ∷ ks) is.numbers_are in
    let there : new.fresh ≡ one ∷ old.fresh =
    have_one_place number_in one old.fresh new.fresh (one ∷ old.fresh) put
    ([], old.fresh, refl, refl) right.rising
    (subst IsRising (sym counted) (range_rising from (suc count))) in
    record {
      orphans = orphans ∙ is.orphans;
      numbers_are = ap (numbers number_in) there ∙ counted;
      each = subst (AllByRecursion (IsUnused policy)) (sym there) (unused, is.each);
    }
