-- As many places are sent as stand on the remote list.
use Rattle.std.proofs.Common.{zero, suc, ◌≡◌, ℕ, ◌+◌, ◌*◌, ◌==◌, ◌<◌, ◌≤◌, inl, inr, Bool, true}
use Rattle.std.proofs.Common.{false, cond, ◌||◌, ◌∷◌, [], List, length, refl, sym, ap, subst, ◌∙◌}
use Rattle.std.proofs.Common.{arith, sum_by}
use Rattle.std.specs.List.{range_with_len, list_any}
use Rattle.std.proofs.lemmas.Bool.{cases_eq, cases_lt, eq-eqb, ne_eqb, true≢false, or_right}
use Rattle.std.proofs.lemmas.Bool.{and_parts}
use Rattle.std.proofs.lemmas.List.{get_or_past, length-map}
use Rattle.std.proofs.lemmas.List.Sums.{sum_by-append}
use Rattle.hg_place.specs.Places.{segment_of}
use Rattle.hg_place.specs.Words.{bit_of}
use Rattle.hg_machine.specs.Life.{is_parted, never_used}
use Rattle.hg_machine.specs.State.{record_at, places_in}
use Rattle.hg_machine.specs.Sweeps.{is_sent, is_sent_to}
use Rattle.hg_machine.proofs.Enough.{sums}
use Rattle.hg_machine.proofs.Listed.{bit_true}
use Rattle.hg_machine.specs.Lists.{sent_in, times}
use Rattle.hg_agreement.specs.Parts.{remote_at, state_of, lists_of}
use Rattle.hg_agreement.specs.TakenIn.{remote_places, SentAreListed}
use Rattle.hg_agreement.proofs.Firsts.{count_cons, some_counted}
use Rattle.hg_agreement.proofs.Settles.{sent_are}

sum_cons : (f : ℕ → ℕ) (x : ℕ) (xs : List ℕ) → sum_by f (x ∷ xs) ≡ f x + sum_by f xs
sum_cons f x xs = sum_by-append f (x ∷ []) xs ∙ ap (λ k. k + sum_by f xs) (omega arith)

sum_zero : (xs : List ℕ) → sum_by (λ q. 0) xs ≡ 0
sum_zero [] = refl
sum_zero (x ∷ xs) = let c = sum_cons (λ q. 0) x xs in let rest = sum_zero xs in omega arith

sum_split : (f g : ℕ → ℕ) (xs : List ℕ) → sum_by (λ q. f q + g q) xs ≡ sum_by f xs + sum_by g xs
sum_split f g [] = refl
sum_split f g (x ∷ xs) =
    let a = sum_cons (λ q. f q + g q) x xs in
    let b = sum_cons f x xs in
    let c = sum_cons g x xs in
    let rest = sum_split f g xs in
    omega arith

none_in_range : (x a n : ℕ) → x < a → sum_by (λ q. bit_of (x == q)) (range_with_len a n) ≡ 0
none_in_range x a zero h = refl
none_in_range x a (suc n) h =
    let c = sum_cons (λ q. bit_of (x == q)) a (range_with_len (a + 1) n) in
    let z : bit_of (x == a) ≡ 0 = ap bit_of (ne_eqb x a (λ e. omega arith)) in
    let rest = none_in_range x (a + 1) n (omega arith) in
    omega arith

one_in_range : (x a n : ℕ) → a ≤ x → x < a + n → sum_by (λ q. bit_of (x == q)) (range_with_len a n)
    ≡ 1
one_in_range x a zero low high = absurd (omega arith)
one_in_range x a (suc n) low high =
    let c = sum_cons (λ q. bit_of (x == q)) a (range_with_len (a + 1) n) in
    elim (cases_eq x a) [
      | inl e ↦
          let z : bit_of (x == a) ≡ 1 = ap bit_of (eq-eqb x a e) in
          let rest = none_in_range x (a + 1) n (omega arith) in
          omega arith
      | inr ne ↦
          let z : bit_of (x == a) ≡ 0 = ap bit_of (ne_eqb x a ne) in
          let rest = one_in_range x (a + 1) n (omega arith) (omega arith) in
          omega arith
    ]

-- all of a range, counted on a list of numbers in it
all_counted : (xs : List ℕ) (n : ℕ) → ((x : ℕ) → list_any (λ k. k == x) xs ≡ true → x < n)
    → sum_by (λ q. times q xs) (range_with_len 0 n) ≡ length xs
all_counted [] n inside = sum_zero (range_with_len 0 n)
all_counted (x ∷ xs) n inside =
    let range = range_with_len 0 n in
    let a = sums (λ q. times q (x ∷ xs)) (λ q. bit_of (x == q) + times q xs) range
    (λ q. count_cons (λ k. k == q) x xs) in
    let b = sum_split (λ q. bit_of (x == q)) (λ q. times q xs) range in
    let below = inside x (ap (λ t. t || list_any (λ k. k == x) xs) (eq-eqb x x refl)) in
    let c = one_in_range x 0 n (omega arith) (omega arith) in
    let rest = all_counted xs n (λ y t. inside y (or_right (x == y) (list_any (λ k. k == y) xs) t))
    in
    omega arith

cond_bit : (b : Bool) → cond b 1 0 ≡ bit_of b
cond_bit true = refl
cond_bit false = refl

pub sent_are_listed : SentAreListed
sent_are_listed parts segment below partition =
    let s = state_of parts in
    let l = sent_in (lists_of parts) segment in
    let range = places_in s in
    let inside : (x : ℕ) → list_any (λ k. k == x) l ≡ true → x < length s.records = λ x t.
    (let sent : is_sent_to s segment x ≡ true = bit_true (is_sent_to s segment x)
    (subst (λ k. 1 ≤ k) ((partition x).sent segment) (some_counted (λ k. k == x) l t)) in
    let is : is_parted (record_at s x).life ≡ true =
    (and_parts _ _ ((and_parts (segment_of x == segment) (is_sent s x) sent).1)).0 in
    elim (cases_lt x (length s.records)) [
      | inl here ↦ here
      | inr past ↦ absurd
          (true≢false (sym is
          ∙ ap (λ r. is_parted r.life) (get_or_past s.records x never_used past)))
    ]) in
    sums (λ q. cond (is_sent_to s segment q) 1 0) (λ q. times q l) range
    (λ q. cond_bit (is_sent_to s segment q) ∙ sym ((partition q).sent segment))
    ∙ all_counted l (length s.records) inside
    ∙ ap length (sent_are parts segment below)
    ∙ length-map (remote_places (remote_at parts segment)) (λ k. segment * 8192 + k)
