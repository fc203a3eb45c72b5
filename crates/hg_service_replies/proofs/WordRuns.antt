-- Many words, one after another.
use Rattle.std.proofs.Common.{◌≡◌, ◌+◌, ◌<◌, ℕ, zero, suc, List, [], ◌∷◌, ◌++◌, length, take, drop, set, Some, slice_get, arith, refl, sym, ap, subst, ◌∙◌}
use Rattle.std.proofs.lemmas.Option.{none-some, same_Some}
use Rattle.hg_machine.specs.declared.Answer.TheVariants as answer
use Rattle.hg_place.specs.declared.Actor.{Actor}
use Rattle.hg_place.specs.declared.Handle.{Handle}
use Rattle.hg_worker.specs.declared.state.WorkerState.{WorkerState}
use Rattle.hg_hosted.specs.Calls.{Reads, Writes}
use Rattle.hg_hosted.specs.Serving.{Serves}
use Rattle.hg_hosted.specs.declared.worker.HostedWorker.{HostedWorker}
use Rattle.hg_service_replies.specs.Words.{ReadsEach, WritesEach, word_index}
use Rattle.hg_service_replies.proofs.Staying.{some_of}

-- one call and then another are what both say
pub serves_then :
    {First Then Both : WorkerState → WorkerState → Type 0} {a b c : HostedWorker}
    → ((x y z : WorkerState) → First x y → Then y z → Both x z) → Serves First a b
    → Serves Then b c → Serves Both a c
serves_then {Then = Then} both one two = record {
  before = one.before;
  after = two.after;
  was = one.was;
  is = two.is;
  does = both one.before.value one.after.value two.after.value one.does
      (subst (λ o. Then o.value two.after.value)
      (same_Some two.before one.after (sym two.was ∙ one.is)) two.does);
}

pub serves_like :
    {One Other : WorkerState → WorkerState → Type 0} {a b : HostedWorker}
    → ((x y : WorkerState) → One x y → Other x y) → Serves One a b → Serves Other a b
serves_like into one = record {
  before = one.before;
  after = one.after;
  was = one.was;
  is = one.is;
  does = into one.before.value one.after.value one.does;
}

-- what nothing does
pub serves_nothing :
    (Does : WorkerState → WorkerState → Type 0) → ((x : WorkerState) → Does x x)
    → (worker : HostedWorker) → Serves Does worker worker
serves_nothing Does none worker =
    let own = some_of worker.state worker.there in
    record { before = own.0; after = own.0; was = own.1; is = own.1; does = none own.0.value }

module _ (actor : Actor) (handle : Handle) (first : ℕ) where
  -- one Read more, behind those before
  pub reads_more :
      (words : List ℕ) (many word : ℕ) (old mid new : WorkerState)
      → ReadsEach actor handle first many words old mid
      → Reads actor handle (word_index first (many + length words)) (answer.Value word) mid new
      → ReadsEach actor handle first many (words ++ word ∷ []) old new
  reads_more [] many word old mid new same read = (
    new,
    subst (λ n. Reads actor handle (word_index first n) (answer.Value word) old new) (omega arith)
        (subst
        (λ (m : WorkerState). Reads actor handle (word_index first (many + 0)) (answer.Value word) m new)
        same read),
    refl,
  )
  reads_more (w ∷ words) many word old mid new each read = (
    each.0,
    each.1,
    reads_more words (suc many) word each.0 mid new each.2
        (subst (λ n. Reads actor handle (word_index first n) (answer.Value word) mid new)
        (omega arith) read),
  )

  pub writes_more :
      (words : List ℕ) (many word : ℕ) (old mid new : WorkerState)
      → WritesEach actor handle first many words old mid
      → Writes actor handle (word_index first (many + length words)) word answer.Done mid new
      → WritesEach actor handle first many (words ++ word ∷ []) old new
  writes_more [] many word old mid new same write = (
    new,
    subst (λ n. Writes actor handle (word_index first n) word answer.Done old new) (omega arith)
        (subst
        (λ (m : WorkerState). Writes actor handle (word_index first (many + 0)) word answer.Done m new)
        same write),
    refl,
  )
  writes_more (w ∷ words) many word old mid new each write = (
    each.0,
    each.1,
    writes_more words (suc many) word each.0 mid new each.2
        (subst (λ n. Writes actor handle (word_index first n) word answer.Done mid new)
        (omega arith) write),
  )

take_suc_set :
    (xs : List ℕ) (i y : ℕ) → i < length xs → take (suc i) (set xs i y) ≡ take i xs ++ y ∷ []
take_suc_set [] i y lt = absurd (omega (arith, lt))
take_suc_set (x ∷ xs) zero y lt = refl
take_suc_set (x ∷ xs) (suc i) y lt = ap (λ ys. x ∷ ys) (take_suc_set xs i y (omega (arith, lt)))

pub take_set :
    (xs : List ℕ) (i y : ℕ) → i < length xs → take (i + 1) (set xs i y) ≡ take i xs ++ y ∷ []
take_set xs i y lt =
    subst (λ n. take n (set xs i y) ≡ take i xs ++ y ∷ []) {x = suc i} (omega arith) (take_suc_set xs i y lt)

take_suc :
    (xs : List ℕ) (i y : ℕ) → slice_get xs i ≡ Some y → take (suc i) xs ≡ take i xs ++ y ∷ []
take_suc [] i y at = absurd (none-some _ at)
take_suc (x ∷ xs) zero y at = ap (λ z. z ∷ []) (same_Some x y at)
take_suc (x ∷ xs) (suc i) y at = ap (λ ys. x ∷ ys) (take_suc xs i y at)

pub take_next :
    (xs : List ℕ) (i y : ℕ) → slice_get xs i ≡ Some y → take (i + 1) xs ≡ take i xs ++ y ∷ []
take_next xs i y at =
    subst (λ n. take n xs ≡ take i xs ++ y ∷ []) {x = suc i} (omega arith) (take_suc xs i y at)

pub length_take : (xs : List ℕ) (i : ℕ) → i < length xs → length (take i xs) ≡ i
length_take [] i lt = absurd (omega (arith, lt))
length_take (x ∷ xs) zero lt = refl
length_take (x ∷ xs) (suc i) lt = ap suc (length_take xs i (omega (arith, lt)))

drop_suc : (xs : List ℕ) (i : ℕ) → drop (suc i) xs ≡ drop 1 (drop i xs)
drop_suc [] zero = refl
drop_suc [] (suc i) = refl
drop_suc (x ∷ xs) zero = refl
drop_suc (x ∷ xs) (suc i) = drop_suc xs i

drop_set : (xs : List ℕ) (i y : ℕ) → drop (suc i) (set xs i y) ≡ drop (suc i) xs
drop_set [] i y = refl
drop_set (x ∷ xs) zero y = refl
drop_set (x ∷ xs) (suc i) y = drop_set xs i y

-- what is behind the words that were read is as it was, once one more is
pub rest_set :
    (xs ys : List ℕ) (i y : ℕ) → drop i xs ≡ drop i ys → drop (i + 1) (set xs i y) ≡ drop (i + 1) ys
rest_set xs ys i y rest =
    subst (λ n. drop n (set xs i y) ≡ drop n ys) {x = suc i} (omega arith)
    (drop_set xs i y ∙ drop_suc xs i ∙ ap (drop 1) rest ∙ sym (drop_suc ys i))
