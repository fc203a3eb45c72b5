-- The stores that parts make.
use Rattle.std.proofs.Common.{◌≡◌, ℕ, ◌<◌, ◌≤◌, Bool, true, false, List, length, Option, Some, None}
use Rattle.std.proofs.Common.{slice_index_or, refl, sym, ap, ◌∙◌, arith, inl, inr}
use Rattle.std.specs.Box.{boxed_slice_items}
use Rattle.std.specs.List.{range_with_len}
use Rattle.std.proofs.lemmas.Bool.{cases_lt, false_from_ne_true}
use Rattle.std.proofs.lemmas.List.{get_or_past}
use Rattle.std.proofs.lemmas.List.FromFn.{length-map-range_with_len}
use Rattle.hg_machine.specs.State.{fresh, holder_at}
use Rattle.hg_agreement.specs.Holdings.{has}
use Rattle.hg_agreement.specs.Parts.{heap_at, holdings, worker_of, holder_by, holder_of}
use Rattle.hg_agreement.proofs.Leaves.{none_passes}
use Rattle.hg_agreement.proofs.Told.{holder_is}
use Rattle.hg_parts.specs.Tidy.{IsTidy}
use Rattle.hg_parts.proofs.Sorted.{tidy_sorted}
use Rattle.hg_events.specs.Core.{Core, parts_of}
use Rattle.hg_audit.specs.Handed.{core_in}
use Rattle.hg_audit.specs.declared.parts.Parts.{Parts as Handed}
use Rattle.hg_core.specs.declared.stores.Stores.TheInside.{Inside}
use Rattle.hg_core.specs.Keeping.{state_in}
use Rattle.hg_core.specs.Held.{worker_in}
use Rattle.hg_core.specs.Stored.{core_of, AreHolders}

-- they stand for the same
pub same_core : (a : Inside) (p : Handed) → a.policy ≡ p.policy
    → boxed_slice_items a.heaps ≡ p.heaps.items → boxed_slice_items a.remotes ≡ p.remotes.items
    → a.pool ≡ p.pool → boxed_slice_items a.hands ≡ p.hands.items → core_of a ≡ core_in p
same_core a p policy heaps remotes pool hands = cc

pub worker_by : (o : Option ℕ) (b : Bool) → worker_in (holder_by o b) ≡ o
worker_by (Some w) b = refl
worker_by None true = refl
worker_by None false = refl

module _ (core : Core) (tidy : IsTidy (parts_of core)) (n : ℕ) where
  unheld : length core.policy.segments ≤ n → worker_of (parts_of core) n ≡ None
  unheld past =
      none_passes (λ w. has (holdings (heap_at (parts_of core) w)) n)
      (range_with_len 0 (length (parts_of core).heaps))
      (λ w. false_from_ne_true (has (holdings (heap_at (parts_of core) w)) n)
      (λ t. (let below = (tidy_sorted (parts_of core) tidy).below w n t in
      omega (arith, below, past))))

  held_past : length core.policy.segments ≤ n → worker_in (holder_at (state_in core) n) ≡ None
  held_past past =
      ap worker_in (get_or_past (state_in core).holders n fresh (omega (
        arith,
        past,
        length-map-range_with_len (holder_of (parts_of core)) 0 (length core.policy.segments),
      )))

-- the table of those that hold segments
pub are_holders : (core : Core) (holders : List (Option ℕ)) → IsTidy (parts_of core)
    → length core.policy.segments ≤ 64 → length holders ≡ 64
    → ((n : ℕ) → n < 64 → slice_index_or holders n None ≡ worker_of (parts_of core) n)
    → AreHolders holders (state_in core)
are_holders core holders tidy few all each n = elim (cases_lt n (length core.policy.segments)) [
  | inl lt ↦ each n (omega (arith, lt, few))
      ∙ sym (ap worker_in (holder_is (parts_of core) n lt) ∙ worker_by (worker_of (parts_of core) n) _)
  | inr ge ↦ elim (cases_lt n 64) [
    | inl lt ↦ each n lt ∙ unheld core tidy n ge ∙ sym (held_past core tidy n ge)
    | inr past ↦ get_or_past holders n None (omega (arith, past, all))
        ∙ sym (held_past core tidy n ge)
  ]
]
