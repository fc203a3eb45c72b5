-- Kinds of places, found and counted.
use Rattle.std.proofs.Common.{◌≡◌, ℕ, suc, ◌+◌, ◌-◌, ◌==◌, ◌&&◌, ◌||◌, ◌<◌, ◌≤◌, Bool, true, false}
use Rattle.std.proofs.Common.{not, cond, count_by, refl, sym, ap, ◌∙◌, arith}
use mir.Val.{bool_byte}
use Rattle.std.specs.List.{range_with_len}
use Rattle.hg_place.specs.Words.{bit_of}
use Rattle.hg_heap.proofs.ViewCharges.{sum_next}
use Rattle.hg_machine.specs.Life.{Life, home, live, parted, Record, is_home, is_live, is_parted}
use Rattle.hg_machine.specs.Life.{owner_of}
use Rattle.hg_machine.specs.State.{State}
use Rattle.hg_core.specs.declared.kinds.PlaceKind.{PlaceKind}
use Rattle.hg_core.specs.declared.kinds.PlaceKind.TheVariants as kind
use Rattle.hg_core.specs.Kinds.{is_kind_of, is_kind, is_kind_told, is_live_told, is_parted_told}
use Rattle.hg_core.specs.Kinds.{is_told_of, IsFirst, IsNone}
use Rattle.hg_core.specs.Records.{life_told, record_told}

live_is : (l : Life) → is_live_told (life_told l) ≡ is_live l
live_is home = refl
live_is (live owner words) = refl
live_is (parted owner words) = refl

parted_is : (l : Life) → is_parted_told (life_told l) ≡ is_parted l
parted_is home = refl
parted_is (live owner words) = refl
parted_is (parted owner words) = refl

live_of : (t : ℕ) (l : Life) → (is_live_told (life_told l) && is_told_of t (life_told l))
    ≡ (is_live l && owner_of l == t)
live_of t home = refl
live_of t (live owner words) = refl
live_of t (parted owner words) = refl

parted_of : (t : ℕ) (l : Life) → (is_parted_told (life_told l) && is_told_of t (life_told l))
    ≡ (is_parted l && owner_of l == t)
parted_of t home = refl
parted_of t (live owner words) = refl
parted_of t (parted owner words) = refl

worn_is : (b : Bool) (l : Life)
    → (not (is_live_told (life_told l) || is_parted_told (life_told l)) && b) ≡ (is_home l && b)
worn_is b home = refl
worn_is b (live owner words) = refl
worn_is b (parted owner words) = refl

-- what a place is told to be says of which kind it is
pub kind_told : (s : State) (k : PlaceKind) (r : Record)
    → is_kind_told s.policy.max_generation k (record_told r) ≡ is_kind_of s k r
kind_told s kind.Live r = live_is r.life
kind_told s (kind.LiveOf t) r = live_of t r.life
kind_told s kind.Parted r = parted_is r.life
kind_told s (kind.PartedOf t) r = parted_of t r.life
kind_told s kind.Worn r = worn_is (r.generation == s.policy.max_generation) r.life

-- behind places that aren't, the first that is
pub first_is : (s : State) (k : PlaceKind) (first many at place : ℕ) → place ≡ first + at
    → at < many → ((n : ℕ) → n < at → is_kind s k (first + n) ≡ false) → is_kind s k place ≡ true
    → IsFirst s k first many place
first_is s k first many at place same lt none is = record {
  behind = omega (arith, same);
  within = omega (arith, same, lt);
  is = is;
  before = λ other ge less.
      let there : other ≡ first + (other - first) = omega (arith, ge) in
      ap (is_kind s k) there ∙ none (other - first) (omega (arith, ge, less, same));
}

pub none_is : (s : State) (k : PlaceKind) (first many at : ℕ) → many ≤ at
    → ((n : ℕ) → n < at → is_kind s k (first + n) ≡ false) → IsNone s k first many
none_is s k first many at past none = λ other ge less.
    let there : other ≡ first + (other - first) = omega (arith, ge) in
    ap (is_kind s k) there ∙ none (other - first) (omega (arith, ge, less, past))

-- one place more is counted
bit_is : (b : Bool) → cond b 1 0 ≡ bit_of b
bit_is true = refl
bit_is false = refl

pub byte_bit : (b : Bool) → bool_byte b ≡ bit_of b
byte_bit true = refl
byte_bit false = refl

pub bit_low : (b : Bool) → bit_of b ≤ 1
bit_low true = omega arith
bit_low false = omega arith

pub next_counted : (p : ℕ → Bool) (first at count more : ℕ) (b : Bool)
    → count ≡ count_by p (range_with_len first at) → p (first + at) ≡ b → more ≡ bit_of b
    → count + more ≡ count_by p (range_with_len first (at + 1))
next_counted p first at count more b counted is one =
    let next = sum_next (λ k. cond (p k) 1 0) first at in
    let last : cond (p (first + at)) 1 0 ≡ bit_of b =
    ap (λ (c : Bool). cond c 1 0) is ∙ bit_is b in
    let step : at + 1 ≡ suc at = omega arith in
    ap (λ n. n + more) counted
    ∙ ap (λ n. count_by p (range_with_len first at) + n) (one ∙ sym last)
    ∙ sym next
    ∙ ap (λ n. count_by p (range_with_len first n)) (sym step)
