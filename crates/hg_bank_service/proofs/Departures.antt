-- Bank workers leave.
use Rattle.std.proofs.Common.{◌≡◌, ℕ, zero, suc, ◌+◌, ◌<◌, ◌≤◌, true, false, List, [], ◌∷◌, ◌++◌}
use Rattle.std.proofs.Common.{inl, inr, length, slice_get, Option, None, Some, is_some, refl}
use Rattle.std.proofs.Common.{sym, ap, subst, ◌∙◌, arith}
use Rattle.std.proofs.lemmas.Bool.{cases_eq, false≢true}
use Rattle.std.proofs.lemmas.List.{append_assoc, length-append}
use Rattle.std.proofs.lemmas.Option.{none-some, same_Some, slice_get_within}
use Rattle.hg_hosted.specs.declared.worker.HostedWorker.{HostedWorker}
use Rattle.hg_bank_service.specs.Idle.{AreIdleFrom}
use Rattle.hg_hosted.specs.Departing.{IsBack, IsGone}
use Rattle.hg_hosted.specs.declared.leaving.Departed.{Departed}
use Rattle.hg_bank_service.specs.Leaving.{AreLeft}

pub some_of : {X : Type 0} (o : Option X) → is_some o ≡ true → (x : X) × (o ≡ Some x)
some_of None isnt = absurd (false≢true isnt)
some_of (Some x) is = (x, refl)

pub stays_back : (worker : HostedWorker) → IsBack worker worker
stays_back worker = record {
  state = refl;
  taken = refl;
  places = record { segments = refl; lists = refl; left = refl };
}

pub append_nil : {X : Type 0} (xs : List X) → xs ++ [] ≡ xs
append_nil [] = refl
append_nil (x ∷ xs) = ap (λ ys. x ∷ ys) (append_nil xs)

-- what stands before the end of a list, and there
before_end : {X : Type 0} (xs : List X) (last x : X) (k : ℕ) → slice_get (xs ++ last ∷ []) k ≡ Some x → k < length xs → slice_get xs k ≡ Some x
before_end [] last x k e low = absurd (omega (arith, low))
before_end (y ∷ xs) last x zero e low = e
before_end (y ∷ xs) last x (suc k) e low = before_end xs last x k e (omega (arith, low))

low_get : {X : Type 0} (xs ys : List X) (k : ℕ) → k < length xs → slice_get (xs ++ ys) k ≡ slice_get xs k
low_get [] ys k low = absurd (omega (arith, low))
low_get (y ∷ xs) ys zero low = refl
low_get (y ∷ xs) ys (suc k) low = low_get xs ys k (omega (arith, low))

at_end : {X : Type 0} (xs ys : List X) (x : X) (k : ℕ) → k ≡ length xs → slice_get (xs ++ x ∷ ys) k ≡ Some x
at_end [] ys x zero e = refl
at_end [] ys x (suc k) e = absurd (omega (arith, e))
at_end (y ∷ xs) ys x zero e = absurd (omega (arith, e))
at_end (y ∷ xs) ys x (suc k) e = at_end xs ys x k (omega (arith, e))

-- of these workers some left from the end, by receipts behind those that there were, and the others
-- haven't been asked
pub record AreGone (all : List HostedWorker) (gone : List Departed) (left : List HostedWorker)
    (now : List Departed) : Type 0 where
  pub off : List HostedWorker
  pub split : all ≡ left ++ off
  pub many : length now ≡ length gone + length off
  pub before : (k : ℕ) → k < length gone → slice_get now k ≡ slice_get gone k
  pub each :
      (core k : ℕ) (was : HostedWorker) (one : Departed) → slice_get all core ≡ Some was
      → slice_get now k ≡ Some one → core + k + 1 ≡ length all + length gone → IsGone was one

pub none_gone : (all : List HostedWorker) (gone : List Departed) → AreGone all gone all gone
none_gone all gone = record {
  off = [];
  split = sym (append_nil all);
  many = omega arith;
  before = λ k low. refl;
  each = λ core k was one at is all_cores.
      let low = slice_get_within all core was at in
      let last = slice_get_within gone k one is in
      absurd (omega (arith, low, last, all_cores));
}

backs : (xs gone : List HostedWorker) (last back : HostedWorker) → IsBack last back → (k : ℕ)
    (was is : HostedWorker) → slice_get (xs ++ last ∷ gone) k ≡ Some was
    → slice_get (xs ++ back ∷ []) k ≡ Some is → IsBack was is
backs [] gone last back same zero was is e f =
    subst (λ a. IsBack a is) (same_Some last was e)
    (subst (IsBack last) (same_Some back is f) same)
backs [] gone last back same (suc k) was is e f = absurd (none-some is f)
backs (x ∷ xs) gone last back same zero was is e f =
    subst (λ a. IsBack a is) (same_Some x was e)
    (subst (IsBack x) (same_Some x is f) (stays_back x))
backs (x ∷ xs) gone last back same (suc k) was is e f =
    backs xs gone last back same k was is e f

-- each that is there was there in the same state
origin : (xs gone : List HostedWorker) (last back : HostedWorker) → IsBack last back → (k : ℕ)
    (is : HostedWorker) → slice_get (xs ++ back ∷ []) k ≡ Some is
    → (was : HostedWorker) × (slice_get (xs ++ last ∷ gone) k ≡ Some was)
    × (is.state ≡ was.state)
origin [] gone last back same zero is e =
    (last, refl, ap (λ (w : HostedWorker). w.state) (sym (same_Some back is e)) ∙ same.state)
origin [] gone last back same (suc k) is e = absurd (none-some is e)
origin (x ∷ xs) gone last back same zero is e =
    (x, refl, ap (λ (w : HostedWorker). w.state) (sym (same_Some x is e)))
origin (x ∷ xs) gone last back same (suc k) is e = origin xs gone last back same k is e

-- the last one was taken off
pub record IsPopped (now left : List HostedWorker) (last : HostedWorker) : Type 0 where
  pub is : now ≡ left ++ last ∷ []

module _ {all left : List HostedWorker} {gone now : List Departed} (are : AreGone all gone left now) where
  -- all have left
  pub all_gone : left ≡ [] → AreLeft all gone [] now
  all_gone none =
      let whole = ap length are.split ∙ length-append left are.off in
      let empty = ap length none in
      let many = are.many in
      record {
        all = omega (arith, whole, empty, many);
        before = are.before;
        left = are.each;
        back = λ core was is at there. absurd (none-some is there);
      }

  module _ {low : List HostedWorker} {last : HostedWorker} (popped : IsPopped left low last) where
    split_last : all ≡ low ++ last ∷ are.off
    split_last =
        are.split ∙ ap (λ xs. xs ++ are.off) popped.is ∙ append_assoc low (last ∷ []) are.off

    whole : length all ≡ length low + length (last ∷ are.off)
    whole = ap length split_last ∙ length-append low (last ∷ are.off)

    -- one more left, by this receipt
    pub one_gone : (one : Departed) → IsGone last one → AreGone all gone low (now ++ one ∷ [])
    one_gone one goes =
        let long = length-append now (one ∷ []) in
        let many = are.many in
        let cores = whole in
        record {
          off = last ∷ are.off;
          split = split_last;
          many = omega (arith, long, many);
          before = λ k few. low_get now (one ∷ []) k (omega (arith, few, many)) ∙ are.before k few;
          each = λ core k was is at there sum.
              let below = slice_get_within (now ++ one ∷ []) k is there in
              elim (cases_eq k (length now)) as (λ _. IsGone was is) [
                | inl end ↦
                    let place : core ≡ length low = omega (arith, end, sum, many, cores) in
                    let whose = same_Some last was
                    (sym (at_end low are.off last core place)
                    ∙ ap (λ xs. slice_get xs core) (sym split_last) ∙ at) in
                    let what = same_Some one is (sym (at_end now [] one k end) ∙ there) in
                    subst (λ w. IsGone w is) whose (subst (IsGone last) what goes)
                | inr apart ↦
                    are.each core k was is at
                    (before_end now one is k there (omega (arith, below, long, apart))) sum
              ];
        }

    -- one came back
    module _ (back : HostedWorker) (same : IsBack last back) where
      pub one_back : AreLeft all gone (low ++ back ∷ []) now
      one_back =
          let long = length-append low (back ∷ []) in
          let many = are.many in
          let cores = whole in
          record {
            all = omega (arith, long, many, cores);
            before = are.before;
            left = are.each;
            back = λ core was is e f.
                backs low are.off last back same core was is
                (ap (λ xs. slice_get xs core) (sym split_last) ∙ e) f;
          }

      pub some_back : 1 ≤ length (low ++ back ∷ [])
      some_back = let long = length-append low (back ∷ []) in omega (arith, long)

      pub still_idle : AreIdleFrom 0 all → AreIdleFrom 0 (low ++ back ∷ [])
      still_idle idle core worker past is own at =
          let from = origin low are.off last back same core worker is in
          idle core from.0 past (ap (λ xs. slice_get xs core) split_last ∙ from.1) own
          (sym from.2 ∙ at)

      pub still_few : length all ≤ 16384 → length (low ++ back ∷ []) ≤ 16384
      still_few few =
          let long = length-append low (back ∷ []) in
          let cores = whole in
          omega (arith, long, cores, few)
