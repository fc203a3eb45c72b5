-- The sums after a call on one core.
use Rattle.std.proofs.Common.{◌≡◌, ◌≢◌, inl, inr, ℕ, ◌+◌, ◌*◌, ◌^◌, ◌<◌, ◌≤◌, List, [], length}
use Rattle.std.proofs.Common.{get_or, set, ap, ◌∙◌, arith, All}
use Rattle.std.proofs.lemmas.Bool.{cases_eq}
use Rattle.std.proofs.lemmas.List.{length-set, get_or-set_other, get_or_default}
use Rattle.std.proofs.lemmas.List.Sums.{sum_by-le, sum_by-set, get_or-le-sum_by}
use Rattle.std.proofs.lemmas.Grind.{get_or-set_at}
use Rattle.hg_machine.specs.Charge.{charge}
use Rattle.hg_machine.specs.Lists.{Kept}
use Rattle.hg_machine.specs.Policy.{Policy}
use Rattle.hg_machine.specs.Soundness.{IsSound}
use Rattle.hg_bank.specs.Charges.{AreSameCharges}
use Rattle.hg_bank.specs.Kept.{AreSums}
use Rattle.hg_bank.specs.State.{charge_over}
use Rattle.hg_bank.proofs.ChargeLemmas.{charge_small}

-- a sum over cores is small
pub over_small : (cores : List Kept) (d : Kept) (worker tenant : ℕ)
    → ((core : ℕ) → core < length cores → IsSound (get_or cores core d).state)
    → charge_over cores worker tenant ≤ length cores * 2 ^ 35
over_small cores d worker tenant sound =
    let all : All (λ k. charge k.state worker tenant ≤ 2 ^ 35) cores =
    λ core other below.
    let same = ap (λ k. charge k.state worker tenant) (get_or_default cores core other d below) in
    let small = charge_small (get_or cores core d).state worker tenant (sound core below) in
    omega arith
    in
    sum_by-le (λ k. charge k.state worker tenant) (2 ^ 35) cores all

-- one core's charge is a part of the sum
pub part_of_sum : (cores : List Kept) (core : ℕ) (d : Kept) (worker tenant : ℕ)
    → core < length cores
    → charge (get_or cores core d).state worker tenant ≤ charge_over cores worker tenant
part_of_sum cores core d worker tenant below =
    get_or-le-sum_by (λ k. charge k.state worker tenant) cores core d below

module _ {policy : Policy} {rows : List (List ℕ)} {cores : List Kept} (core : ℕ) (d next : Kept)
    (sums : AreSums policy rows cores) (below : core < length cores) where
  -- what the sums are with another core at the number
  after_set : (worker tenant : ℕ)
      → charge_over (set cores core next) worker tenant
      + charge (get_or cores core d).state worker tenant
      ≡ charge_over cores worker tenant + charge next.state worker tenant
  after_set worker tenant = sum_by-set (λ k. charge k.state worker tenant) cores core next d below

  -- a call that leaves the core's charges leaves the sums
  pub sums_stay : AreSameCharges (get_or cores core d).state next.state
      → AreSums policy rows (set cores core next)
  sums_stay same = record {
    workers = sums.workers;
    each = λ worker tenant a b.
        let e = after_set worker tenant in
        let f = same worker tenant in
        let was = sums.each worker tenant a b in
        omega arith;
  }

  -- a call of a worker leaves what counts with the others, and its own row has what changed
  pub sums_follow : (worker : ℕ) (row : List ℕ) → worker < policy.workers
      → ((tenant : ℕ) → tenant < length policy.tenants
      → get_or row tenant 0 + charge (get_or cores core d).state worker tenant
      ≡ get_or (get_or rows worker []) tenant 0 + charge next.state worker tenant)
      → ((other tenant : ℕ) → other ≢ worker
      → charge next.state other tenant ≡ charge (get_or cores core d).state other tenant)
      → AreSums policy (set rows worker row) (set cores core next)
  sums_follow worker row there row_is others = record {
    workers = length-set rows worker row ∙ sums.workers;
    each = λ v tenant a b.
        let e = after_set v tenant in
        let was = sums.each v tenant a b in
        elim (cases_eq v worker) as
        (λ _. get_or (get_or (set rows worker row) v []) tenant 0
        ≡ charge_over (set cores core next) v tenant) [
          | inl here ↦
              let long = sums.workers in
              let at = ap (λ r. get_or r tenant 0)
              (get_or-set_at rows worker v row [] here (omega arith)) in
              let moved = row_is tenant b in
              let old_row = ap (λ w. get_or (get_or rows w []) tenant 0) here in
              let old_charge = ap (λ w. charge (get_or cores core d).state w tenant) here in
              let new_charge = ap (λ w. charge next.state w tenant) here in
              omega arith
          | inr ne ↦
              let at = ap (λ r. get_or r tenant 0) (get_or-set_other rows worker v row [] ne) in
              let f = others v tenant ne in
              omega arith
        ];
  }
