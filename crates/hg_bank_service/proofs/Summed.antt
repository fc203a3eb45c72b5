-- The sums after a call on one core.
use Rattle.std.proofs.Common.{◌≡◌, ℕ, ◌+◌, ◌*◌, ◌^◌, ◌<◌, ◌≤◌, List, length, get_or}
use Rattle.std.proofs.Common.{slice_index, slice_set, All, ap, arith}
use Rattle.std.proofs.lemmas.List.Sums.{get_or-le-sum_by, sum_by-le, sum_by-set}
use Rattle.std.proofs.lemmas.Option.{get_or_from_slice_get, slice_get-get_or, slice_get_within}
use Rattle.hg_hosted.specs.declared.worker.HostedWorker.{HostedWorker}
use Rattle.hg_hosted.specs.Charges.{charge_at}
use Rattle.hg_hosted.proofs.Undone.{each_set}
use Rattle.hg_bank_service.specs.Sums.{AreSums, charge_over}
use Rattle.hg_bank_service.proofs.Lists.{IsAt}

-- no sum is above what so many cores may have
pub sum_low : {tenants : ℕ} {row : List ℕ} {workers : List HostedWorker}
    → AreSums tenants row workers → (tenant : ℕ) → tenant < tenants
    → slice_index row tenant ≤ length workers * 2 ^ 35
sum_low {workers = workers} sums tenant less =
    let all : All (λ worker. charge_at worker tenant ≤ 2 ^ 35) workers =
    λ core other below.
    sums.few core (get_or workers core other) (slice_get-get_or workers core other below) tenant
    less
    in
    let most = sum_by-le (λ worker. charge_at worker tenant) (2 ^ 35) workers all in
    let is = sums.each tenant less in
    omega arith

module _ {tenants : ℕ} {row : List ℕ} {workers : List HostedWorker} {core : ℕ}
    {was : HostedWorker} (sums : AreSums tenants row workers)
    (there : IsAt workers core was) where
  -- what one core's worker is charged is a part of the sum
  pub part_of : (tenant : ℕ) → charge_at was tenant ≤ charge_over workers tenant
  part_of tenant =
      let part = get_or-le-sum_by (λ worker. charge_at worker tenant) workers core was
      (slice_get_within workers core was there.there) in
      let same = ap (λ worker. charge_at worker tenant)
      (get_or_from_slice_get workers core was was there.there) in
      omega arith

  pub covered : (tenant : ℕ) → tenant < tenants → charge_at was tenant ≤ slice_index row tenant
  covered tenant less =
      let part = part_of tenant in
      let is = sums.each tenant less in
      omega arith

  module _ (next : HostedWorker) where
    pub over_set : (tenant : ℕ)
        → charge_over (slice_set workers core next) tenant + charge_at was tenant
        ≡ charge_over workers tenant + charge_at next tenant
    over_set tenant =
        let set = sum_by-set (λ worker. charge_at worker tenant) workers core next was
        (slice_get_within workers core was there.there) in
        let same = ap (λ worker. charge_at worker tenant)
        (get_or_from_slice_get workers core was was there.there) in
        omega arith

    -- a call that leaves the charges leaves the sums
    pub sums_stay : ((tenant : ℕ) → charge_at next tenant ≡ charge_at was tenant)
        → AreSums tenants row (slice_set workers core next)
    sums_stay same = record {
      each = λ tenant less.
          let set = over_set tenant in
          let is = sums.each tenant less in
          let kept = same tenant in
          omega arith;
      few = each_set (λ worker. (tenant : ℕ) → tenant < tenants → charge_at worker tenant ≤ 2 ^ 35)
          workers core next sums.few
          (λ tenant less.
          let low = sums.few core was there.there tenant less in
          let kept = same tenant in
          omega arith);
    }

    -- what was taken out before a call, and put in behind it
    pub sums_follow : (out in_again : List ℕ)
        → ((tenant : ℕ) → tenant < tenants
        → slice_index out tenant + charge_at was tenant ≡ slice_index row tenant)
        → ((tenant : ℕ) → tenant < tenants
        → slice_index in_again tenant ≡ slice_index out tenant + charge_at next tenant)
        → ((tenant : ℕ) → tenant < tenants → charge_at next tenant ≤ 2 ^ 35)
        → AreSums tenants in_again (slice_set workers core next)
    sums_follow out in_again taken put few = record {
      each = λ tenant less.
          let set = over_set tenant in
          let is = sums.each tenant less in
          let before = taken tenant less in
          let after = put tenant less in
          omega arith;
      few = each_set (λ worker. (tenant : ℕ) → tenant < tenants → charge_at worker tenant ≤ 2 ^ 35)
          workers core next sums.few few;
    }
