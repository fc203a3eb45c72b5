-- The turns in which cores are asked.
use Rattle.std.proofs.Common.{◌≡◌, ℕ, ◌+◌, ◌-◌, ◌<◌, ◌≤◌, inl, inr, if◌then◌else◌, ap, arith}
use Rattle.std.proofs.lemmas.Bool.{cases_lt, le-ltb, lt-ltb}
use Rattle.hg_bank_service.specs.Order.{turn}

-- those from the current one on come first, then those before it
pub turn_from : (current count core : ℕ) → current ≤ core → turn current count core ≡ core - current
turn_from current count core high =
    ap (λ b. if b then core + (count - current) else core - current) (le-ltb core current high)

pub turn_before : (current count core : ℕ) → core < current
    → turn current count core ≡ core + (count - current)
turn_before current count core low =
    ap (λ b. if b then core + (count - current) else core - current) (lt-ltb core current low)

-- each core has its own turn, below their count
pub turn_below : (current count core : ℕ) → core < count → current < count
    → turn current count core < count
turn_below current count core below inside = elim (cases_lt core current) [
  | inl low ↦ (let is = turn_before current count core low in omega arith)
  | inr high ↦ (let is = turn_from current count core high in omega arith)
]

pub turns_apart : (current count core other : ℕ) → core < count → other < count → current < count
    → turn current count core ≡ turn current count other → core ≡ other
turns_apart current count core other below under inside same =
    elim (cases_lt core current) [
      | inl low ↦ (let is = turn_before current count core low in
          elim (cases_lt other current) [
            | inl low_too ↦ (let at = turn_before current count other low_too in omega arith)
            | inr high ↦ (let at = turn_from current count other high in omega arith)
          ])
      | inr high ↦ (let is = turn_from current count core high in
          elim (cases_lt other current) [
            | inl low ↦ (let at = turn_before current count other low in omega arith)
            | inr high_too ↦ (let at = turn_from current count other high_too in omega arith)
          ])
    ]
