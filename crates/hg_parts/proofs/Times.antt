-- How often a place stands on the lists that parts stand for, and in hands.
use Rattle.std.proofs.Common.{◌≡◌, ◌≢◌, ℕ, ◌+◌, ◌-◌, ◌<◌, ◌≤◌, Bool, true, false, not, nat_eq, ◌&&◌}
use Rattle.std.proofs.Common.{◌||◌, cond, List, [], ◌∷◌, ◌++◌, length, count_by, slice_index}
use Rattle.std.proofs.Common.{slice_index_or, slice_set, refl, sym, ap, ◌∙◌, arith, subst, inl, inr}
use Rattle.std.proofs.Common.{◌⊎◌, ⊎_elim, get_or-set_other}
use Rattle.std.specs.Prelude.{Option, Some, None, Contains}
use Rattle.std.specs.List.{list_any}
use Rattle.std.proofs.lemmas.Bool.{cases_lt, cases_eq}
use Rattle.std.proofs.lemmas.List.{get_or_past, get_or-map, get_or_default, length-map}
use Rattle.std.proofs.lemmas.List.Sums.{sum_by-set, get_or-le-sum_by}
use Rattle.hg_lists.specs.Inserts.{Inserts}
use Rattle.hg_lists.proofs.RepeatsLemmas.{nat_eq-same, nat_eq-other, Contains-cons}
use Rattle.hg_place.specs.Words.{bit_of}
use Rattle.hg_machine.specs.Holders.{is_number}
use Rattle.hg_machine.specs.Lists.{times}
use Rattle.hg_agreement.specs.Parts.{places_from}
use Rattle.hg_agreement.proofs.Firsts.{count_cons, count_append}

-- lists of numbers

pub times_cons : (n x : ℕ) (xs : List ℕ) → times n (x ∷ xs) ≡ bit_of (nat_eq x n) + times n xs
times_cons n x xs = count_cons (λ y. nat_eq y n) x xs

pub times_append : (n : ℕ) (xs ys : List ℕ) → times n (xs ++ ys) ≡ times n xs + times n ys
times_append n xs ys = count_append (λ y. nat_eq y n) xs ys

-- one more of it
pub times_inserted : (n x : ℕ) (old new : List ℕ) → Inserts x old new → times n new
    ≡ bit_of (nat_eq x n) + times n old
times_inserted n x old new h = omega (
  arith,
  ap (times n) h.2,
  ap (times n) h.3,
  times_append n h.0 h.1,
  times_append n h.0 (x ∷ h.1),
  times_cons n x h.1,
)

same_shift : (x by place : ℕ) → by ≤ place → nat_eq (by + x) place ≡ nat_eq x (place - by)
same_shift x by place low = elim (cases_eq x (place - by)) [
  | inl e ↦ (let f : by + x ≡ place = omega (arith, e, low) in
      rw (f, e) (nat_eq-same place ∙ sym (nat_eq-same (place - by))))
  | inr ne ↦ nat_eq-other (by + x) place (λ f. ne (omega (arith, f)))
      ∙ sym (nat_eq-other x (place - by) ne)
]

pub times_shifted : (by place : ℕ) (xs : List ℕ) → by ≤ place → times place (places_from by xs)
    ≡ times (place - by) xs
times_shifted by place [] low = refl
times_shifted by place (x ∷ xs) low = times_cons place (by + x) (places_from by xs)
    ∙ (ap (λ (b : Bool). bit_of b + times place (places_from by xs)) (same_shift x by place low)
    ∙ (ap (λ (k : ℕ). bit_of (nat_eq x (place - by)) + k) (times_shifted by place xs low)
    ∙ sym (times_cons (place - by) x xs)))

-- none of another page, or segment
pub times_away : (by limit place : ℕ) (xs : List ℕ) → ((x : ℕ) → Contains xs x → x < limit)
    → (place < by) ⊎ (by + limit ≤ place) → times place (places_from by xs) ≡ 0
times_away by limit place [] below out = refl
times_away by limit place (x ∷ xs) below out =
    let here : x < limit = below x (0, omega arith, refl) in
    let ne : nat_eq (by + x) place ≡ false = nat_eq-other (by + x) place
    (λ e. ⊎_elim (λ l. absurd (omega (arith, l, e))) (λ r. absurd (omega (arith, r, e, here))) out)
    in
    times_cons place (by + x) (places_from by xs)
    ∙ (ap (λ (b : Bool). bit_of b + times place (places_from by xs)) ne
    ∙ omega (arith, times_away by limit place xs (λ y c. below y (Contains-cons x y xs c)) out))

pub Contains-shifted : (by at : ℕ) (xs : List ℕ) → Contains xs at → Contains (places_from by xs)
    (by + at)
Contains-shifted by at xs c = (
  c.0,
  omega (arith, c.1, length-map xs (λ (n : ℕ). by + n)),
  get_or-map (λ (n : ℕ). by + n) xs c.0 at (by + at) c.1 ∙ ap (λ (n : ℕ). by + n) c.2,
)

pub shifted_contains : (by place : ℕ) (xs : List ℕ) → Contains (places_from by xs) place → (at : ℕ)
    × Contains xs at × (place ≡ by + at)
shifted_contains by place xs c =
    let lt : c.0 < length xs = omega (arith, c.1, length-map xs (λ (n : ℕ). by + n)) in
    let at = slice_index xs c.0 in (
      at,
      (c.0, lt, get_or_default xs c.0 at 0 lt),
      sym c.2 ∙ get_or-map (λ (n : ℕ). by + n) xs c.0 0
          place lt,
    )

-- hands

cond_bit : (b : Bool) → cond {A = ℕ} b 1 0 ≡ bit_of b
cond_bit true = refl
cond_bit false = refl

-- a hand that gets a place, or loses one
pub count_set : (hands : List (Option ℕ)) (worker place : ℕ) (o : Option ℕ) → worker < length hands
    → count_by (is_number place) (slice_set hands worker o) + bit_of
    (is_number place (slice_index_or hands worker None)) ≡ count_by (is_number place) hands + bit_of
    (is_number place o)
count_set hands worker place o lt = omega (
  arith,
  cond_bit (is_number place (slice_index_or hands worker None)),
  cond_bit (is_number place o),
  sum_by-set (λ (x : Option ℕ). cond {A = ℕ} (is_number place x) 1 0) hands worker o None lt,
)

pub hand_counts : (hands : List (Option ℕ)) (worker place : ℕ) → slice_index_or hands worker None
    ≡ Some place → 1 ≤ count_by (is_number place) hands
hand_counts hands worker place e = elim (cases_lt worker (length hands)) [
  | inl lt ↦ (let f : Option ℕ → ℕ = λ o. cond {A = ℕ} (is_number place o) 1 0 in
      let one : f (slice_index_or hands worker None) ≡ 1 = ap f e
      ∙ ap (λ (b : Bool). cond {A = ℕ} b 1 0) (nat_eq-same place) in
      omega (arith, one, get_or-le-sum_by f hands worker None lt))
  | inr ge ↦ absurd (let none = get_or_past hands worker None ge in cc)
]

pub hands_count : (hands : List (Option ℕ)) (worker other place : ℕ) → worker ≢ other
    → slice_index_or hands worker None ≡ Some place → slice_index_or hands other None ≡ Some place
    → 2 ≤ count_by (is_number place) hands
hands_count hands worker other place ne e f = elim (cases_lt worker (length hands)) [
  | inl lt ↦ (let one : bit_of (is_number place (slice_index_or hands worker None)) ≡ 1 =
      ap (λ o. bit_of (is_number place o)) e ∙ ap bit_of (nat_eq-same place) in
      let rest = hand_counts (slice_set hands worker None) other place
      (get_or-set_other hands worker other None None (λ s. ne (sym s)) ∙ f) in
      omega (arith, one, rest, count_set hands worker place None lt))
  | inr ge ↦ absurd (let none = get_or_past hands worker None ge in cc)
]

-- whether it is in a hand
abbrev pub AnyCounts : Bool → ℕ → Type 0
AnyCounts true n = 1 ≤ n
AnyCounts false n = n ≡ 0

any_step : (b c : Bool) (n : ℕ) → AnyCounts c n → AnyCounts (b || c) (bit_of b + n)
any_step true c n h = omega arith
any_step false true n h = omega (arith, h)
any_step false false n h = omega (arith, h)

pub any_counts : {X : Type 0} (p : X → Bool) (xs : List X) → AnyCounts (list_any p xs)
    (count_by p xs)
any_counts {X} p [] = refl
any_counts {X} p (x ∷ xs) =
    subst (AnyCounts (p x || list_any p xs)) (sym (count_cons p x xs))
    (any_step (p x) (list_any p xs) (count_by p xs) (any_counts p xs))

-- what isn't in a hand is sent
pub sent_bit : (out any : Bool) (h t : ℕ) → h + t ≡ bit_of out → AnyCounts any h → t
    ≡ bit_of (out && not any)
sent_bit true true h t total any = omega (arith, total, any)
sent_bit true false h t total any = omega (arith, total, any)
sent_bit false true h t total any = omega (arith, total)
sent_bit false false h t total any = omega (arith, total)

pub bit_small : (b : Bool) → bit_of b ≤ 1
bit_small true = omega arith
bit_small false = omega arith
