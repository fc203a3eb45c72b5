-- A step that is no allocation and no refill raises no charge.
use Rattle.std.proofs.Common.{◌≡◌, ◌⊎◌, inl, inr, ℕ, ◌≤◌, Bool, true, false}
use Rattle.std.proofs.Common.{if◌then◌else◌, length, get_or, set, map, refl, sym, ap, subst}
use Rattle.std.proofs.Common.{◌∙◌, arith}
use Rattle.std.specs.List.{range_with_len, sum_by}
use Rattle.std.proofs.lemmas.Bool.{true≢false}
use Rattle.std.proofs.lemmas.List.{length-set}
use Rattle.std.proofs.lemmas.List.FromFn.{length-map-range_with_len}
use Rattle.hg_place.specs.declared.Actor.{Actor}
use Rattle.hg_place.specs.declared.Handle.{Handle}
use Rattle.hg_place.specs.Places.{number_of, segment_of}
use Rattle.hg_machine.specs.declared.Event.{Event}
use Rattle.hg_machine.specs.declared.Event.TheVariants as event
use Rattle.hg_machine.specs.declared.Answer.{Answer}
use Rattle.hg_machine.specs.declared.Answer.TheVariants as answer
use Rattle.hg_machine.specs.Life.{Life, home, live, parted, Record, never_used}
use Rattle.hg_machine.specs.State.{State, fresh, orphan, record_at, places_in}
use Rattle.hg_machine.specs.Holders.{holds, is_held_by}
use Rattle.hg_machine.specs.Changes.{part, with_life, abandoned}
use Rattle.hg_machine.specs.Charge.{share, charge}
use Rattle.hg_machine.specs.Sweeps.{is_sent_to, settled}
use Rattle.hg_machine.specs.Steps.{Step, successor}
use Rattle.hg_machine.proofs.Cases.{step_cases}
use Rattle.hg_machine.proofs.Keeps.{set_cases}
use Rattle.hg_machine.proofs.Takes.{settled_at}
use Rattle.hg_laws.proofs.MachineFacts.{free_cases}
use Rattle.hg_laws.proofs.Sums.{sum_le}
use Rattle.hg_bank.specs.Requests.{names_core}
use Rattle.hg_bank.proofs.ChargeLemmas.{share_of, home_share, calm_keeps}

-- a charge is no higher where no share is
pub charge_le : (s t : State) (worker tenant : ℕ) → length t.records ≡ length s.records
    → ((q : ℕ) → share t worker tenant q ≤ share s worker tenant q)
    → charge t worker tenant ≤ charge s worker tenant
charge_le s t worker tenant same less =
    let all = sum_le (share s worker tenant) (share t worker tenant) (places_in s) less in
    subst (λ n. sum_by (share t worker tenant) (range_with_len 0 n) ≤ charge s worker tenant)
    (sym same) all

part_share : (tenant : ℕ) (b : Bool) (l : Life) → share_of tenant b (part l) ≡ share_of tenant b l
part_share tenant b home = refl
part_share tenant b (live owner words) = refl
part_share tenant b (parted owner words) = refl

-- another life at a place, which adds no more
life_le : (s : State) (p : ℕ) (l : Life) (worker tenant : ℕ)
    → ((b : Bool) → share_of tenant b l ≤ share_of tenant b (record_at s p).life)
    → charge (with_life s p l) worker tenant ≤ charge s worker tenant
life_le s p l worker tenant less =
    let r : Record = record { generation = (record_at s p).generation; life = l } in
    charge_le s (with_life s p l) worker tenant (length-set s.records p r) (λ q.
    let b = holds s worker (segment_of q) in
    elim (set_cases s.records p q r never_used) as
    (λ _. share_of tenant b (get_or (set s.records p r) q never_used).life
    ≤ share_of tenant b (record_at s q).life) [
      | inl here ↦
          let e = ap (λ x. share_of tenant b x.life) here.1 in
          let f = ap (λ n. share_of tenant b (record_at s n).life) here.0 in
          let low = less b in
          omega arith
      | inr other ↦ let e = ap (λ x. share_of tenant b x.life) other in omega arith
    ])

settled_share : (tenant : ℕ) (b sent : Bool) (r : Record)
    → share_of tenant b (if sent then record { generation = r.generation; life = home } else r).life
    ≤ share_of tenant b r.life
settled_share tenant b true r = let e = home_share tenant b home refl in omega arith
settled_share tenant b false r = omega arith

taken_le : (s : State) (segment worker tenant : ℕ)
    → charge (record s { records = map (settled s segment) (places_in s) }) worker tenant
    ≤ charge s worker tenant
taken_le s segment worker tenant =
    charge_le s (record s { records = map (settled s segment) (places_in s) }) worker tenant
    (length-map-range_with_len (settled s segment) 0 (length s.records)) (λ q.
    let b = holds s worker (segment_of q) in
    let low = settled_share tenant b (is_sent_to s segment q) (record_at s q) in
    let e = ap (λ r. share_of tenant b r.life) (settled_at s segment q) in
    omega arith)

-- where a worker doesn't hold a place, it counts nothing
unheld_le : (tenant : ℕ) (b c : Bool) (l : Life) → (b ≡ c) ⊎ (b ≡ false)
    → share_of tenant b l ≤ share_of tenant c l
unheld_le tenant b c l o = elim o as (λ _. share_of tenant b l ≤ share_of tenant c l) [
  | inl same ↦ let e = ap (λ x. share_of tenant x l) same in omega arith
  | inr none ↦ let e : share_of tenant b l ≡ 0 = ap (λ x. share_of tenant x l) none in omega arith
]

left_le : (s : State) (segment worker tenant : ℕ)
    → charge (abandoned s segment) worker tenant ≤ charge s worker tenant
left_le s segment worker tenant =
    charge_le s (abandoned s segment) worker tenant refl (λ q.
    unheld_le tenant (holds (abandoned s segment) worker (segment_of q))
    (holds s worker (segment_of q)) (record_at s q).life
    (elim (set_cases s.holders segment (segment_of q) orphan fresh) as
    (λ _. (holds (abandoned s segment) worker (segment_of q) ≡ holds s worker (segment_of q))
    ⊎ (holds (abandoned s segment) worker (segment_of q) ≡ false)) [
      | inl here ↦ inr (ap (is_held_by worker) here.1)
      | inr other ↦ inl (ap (is_held_by worker) other)
    ]))

-- a charge after a step
abbrev IsLow : State → State → Type 0
IsLow s new = (worker tenant : ℕ) → charge new worker tenant ≤ charge s worker tenant

same_low : (s new : State) → new ≡ s → IsLow s new
same_low s new e worker tenant = let same = ap (λ t. charge t worker tenant) e in omega arith

calm_low : (s : State) (w : ℕ) (e : Event) (a : Answer) (new : State)
    → ((worker tenant : ℕ) → charge new worker tenant ≡ charge s worker tenant) → IsLow s new
calm_low s w e a new same worker tenant = let e = same worker tenant in omega arith

-- by the answer that was given
by_answer : (s : State) (w : ℕ) (e : Event) (a given : Answer) (new : State)
    → new ≡ successor s w e a → a ≡ given → IsLow s (successor s w e given) → IsLow s new
by_answer s w e a given new after is low =
    subst (IsLow s) (sym (after ∙ ap (successor s w e) is)) low

freed_low : (s : State) (w : ℕ) (actor : Actor) (handle : Handle) (a : Answer) (new : State)
    → new ≡ successor s w (event.Free actor handle) a
    → (a ≡ answer.Done) ⊎ (a ≡ answer.Parted) → IsLow s new
freed_low s w actor handle a new after told =
    let p = number_of handle.place in
    let e = event.Free actor handle in
    elim told as (λ _. IsLow s new) [
      | inl done ↦
          by_answer s w e a answer.Done new after done (λ worker tenant.
          life_le s p home worker tenant (λ b.
          let none = home_share tenant b home refl in omega arith))
      | inr away ↦
          by_answer s w e a answer.Parted new after away (λ worker tenant.
          life_le s p (part (record_at s p).life) worker tenant (λ b.
          let same = part_share tenant b (record_at s p).life in omega arith))
    ]

pub falls : (s : State) (w : ℕ) (e : Event) (a : Answer) (new : State) → names_core e ≡ true
    → Step s w e a new → IsLow s new
falls s w (event.Free actor handle) a new names h =
    elim (step_cases s w (event.Free actor handle) a new h) as (λ _. IsLow s new) [
      | inl is ↦
          freed_low s w actor handle a new is.after
          (free_cases (holds s w handle.place.segment) a is.serves)
      | inr is ↦ same_low s new is.same
    ]
falls s w (event.Take segment) a new names h =
    elim (step_cases s w (event.Take segment) a new h) as (λ _. IsLow s new) [
      | inl is ↦
          by_answer s w (event.Take segment) a _ new is.after is.serves (taken_le s segment)
      | inr is ↦ same_low s new is.same
    ]
falls s w (event.Abandon segment) a new names h =
    elim (step_cases s w (event.Abandon segment) a new h) as (λ _. IsLow s new) [
      | inl is ↦
          by_answer s w (event.Abandon segment) a answer.Done new is.after is.serves
          (left_le s segment)
      | inr is ↦ same_low s new is.same
    ]
falls s w (event.Alloc actor arena bytes) a new names h = absurd (true≢false (sym names))
falls s w (event.Refill arena) a new names h = absurd (true≢false (sym names))
falls s w e a new names h = calm_low s w e a new (calm_keeps s w e a new refl h)
