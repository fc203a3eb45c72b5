-- The range of a whole number that is read.
use Rattle.std.proofs.Common.{◌≡◌, ℕ, ◌≤◌, ◌<◌, ◌^◌, Option, Some, None, pos, negsuc, Ok, Err, inl, inr, nat_le, nat_lt, ◌&&◌, arith}
use Rattle.std.proofs.lemmas.Bool.{cases_Bool, and_parts}
use Rattle.toml.specs.Data.{Data, Members, string, integer, float, boolean, datetime, array, table}
use Rattle.hg_policy_text.specs.declared.key.Key.{Key}
use Rattle.hg_policy_text.specs.Faults.{kind, too_many}
use Rattle.hg_policy_text.specs.Values.{field_at, whole_at, whole_in, value_at, or_else}
use Rattle.hg_policy_text.specs.declared.key.Key.TheVariants as key
use Rattle.hg_policy_text.specs.declared.key.Counted.TheVariants as counted
use Rattle.hg_policy_text.specs.Heads.{workers_at, workers_in, max_generation_at}
use Rattle.hg_policy_text.proofs.Chains.{bind_at}
use Rattle.std.proofs.lemmas.Bool.{leb-true, ltb-false}

whole_in-range : (k : Key) (low high : ℕ) (d : Data) (n : ℕ) → whole_in k low high d ≡ Ok n → (low ≤ n) × (n ≤ high)
whole_in-range k low high (string s) n e = cc
whole_in-range k low high (float x) n e = cc
whole_in-range k low high (boolean b) n e = cc
whole_in-range k low high (datetime t) n e = cc
whole_in-range k low high (array a) n e = cc
whole_in-range k low high (table m) n e = cc
whole_in-range k low high (integer (negsuc m)) n e = cc
whole_in-range k low high (integer (pos m)) n e =
    elim (cases_Bool (nat_le low m && nat_le m high)) [
      | inl within ↦
          let f : Ok m ≡ Ok n = rw within at e in
          let same : m ≡ n = cc in
          let both = and_parts (nat_le low m) (nat_le m high) within in
          rw (← same) (leb-true low m both.0, leb-true m high both.1)
      | inr outside ↦ let f : Err (kind k) ≡ Ok n = rw outside at e in cc
    ]

pub whole_at-range : (k : Key) (low high : ℕ) (members : Members) (n : ℕ) → whole_at k low high members ≡ Ok n → (low ≤ n) × (n ≤ high)
unfolding whole_at
whole_at-range k low high members n e =
    let (d, at, rest) = bind_at (value_at k members) (whole_in k low high) n e in
    whole_in-range k low high d n rest

pub workers_at-range : (members : Members) (n : ℕ) → workers_at members ≡ Ok n → (1 ≤ n) × (n ≤ 16)
unfolding workers_at
workers_at-range members n e =
    let (m, at, rest) = bind_at (whole_at key.Workers 1 9223372036854775807 members) workers_in n e in
    let range = whole_at-range key.Workers 1 9223372036854775807 members m at in
    elim (cases_Bool (nat_lt 16 m)) [
      | inl over ↦ let f : Err (too_many counted.Workers) ≡ Ok n = rw over at rest in cc
      | inr fits ↦
          let f : Ok m ≡ Ok n = rw fits at rest in
          let same : m ≡ n = cc in
          rw (← same) (range.0, omega (arith, ltb-false 16 m fits))
    ]

or_else-range : (value : Option Data) (n : ℕ) → or_else 4294967295 (whole_in key.MaxGeneration 1 4294967295) value ≡ Ok n → (1 ≤ n) × (n ≤ 4294967295)
or_else-range None n e = let same : 4294967295 ≡ n = cc in rw (← same) (omega arith, omega arith)
or_else-range (Some d) n e = whole_in-range key.MaxGeneration 1 4294967295 d n e

pub max_generation_at-range : (members : Members) (n : ℕ) → max_generation_at members ≡ Ok n → (1 ≤ n) × (n < 2 ^ 32)
unfolding max_generation_at
max_generation_at-range members n e =
    let range = or_else-range (field_at key.MaxGeneration members) n e in
    (range.0, omega (arith, range.1))
