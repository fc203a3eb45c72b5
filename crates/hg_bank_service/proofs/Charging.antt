-- Events by which no charge changes.
use Rattle.std.proofs.Common.{◌≡◌, ℕ, ◌+◌, true, inl, inr, List, [], ◌∷◌, map, Option, None}
use Rattle.std.proofs.Common.{Some, MatchOption, option_map, unwrap_or, refl, ap, sym, ◌∙◌}
use Rattle.std.specs.List.{sum_by}
use Rattle.std.proofs.lemmas.Bool.{cases_Bool, false≢true}
use Rattle.std.proofs.lemmas.List.Sums.{sum_by-cons}
use Rattle.hg_machine.specs.declared.Answer.{Answer}
use Rattle.hg_machine.specs.declared.Event.{Event}
use Rattle.hg_machine.specs.declared.Event.TheVariants as event
use Rattle.hg_place.specs.declared.Place.{Place}
use Rattle.hg_segment.specs.Charges.{charge_of}
use Rattle.hg_segment.specs.Kept.{Kept}
use Rattle.hg_heap.specs.Charges.{charge_in}
use Rattle.hg_heap.specs.Keeping.{KeepsAll, Rest, Wrote, rest_of}
use Rattle.hg_heap.proofs.ChargeChanged.{charge_same}
use Rattle.hg_table.specs.declared.segment.UnnamedSegment.{UnnamedSegment}
use Rattle.hg_worker.specs.Answers.{is_done}
use Rattle.hg_worker.specs.Seats.{number_in, records_in}
use Rattle.hg_worker.specs.declared.state.WorkerState.{WorkerState}
use Rattle.hg_hosted.specs.declared.worker.HostedWorker.{HostedWorker}
use Rattle.hg_hosted.specs.Charges.{charge_at}
use Rattle.hg_hosted.specs.Serving.{Serves}
use Rattle.hg_hosted.specs.Steps.{Does}
use Rattle.hg_hosted.specs.Waiting.{Waits}
use Rattle.hg_bank_service.specs.Named.{keeps_charges}

-- what a worker in this state is charged
abbrev pub charge_by : WorkerState → ℕ → ℕ
charge_by state tenant = charge_in records_in state.heap.segments tenant

-- each charge is as it was
abbrev pub SameCharges : WorkerState → WorkerState → Type 0
SameCharges old new = (tenant : ℕ) → charge_by new tenant ≡ charge_by old tenant

sum_map : {X Y : Type 0} (f : Y → ℕ) (g : X → Y) (xs : List X)
    → sum_by f (map g xs) ≡ sum_by (λ x. f (g x)) xs
sum_map f g [] = refl
sum_map f g (x ∷ xs) =
    sum_by-cons f (g x) (map g xs) ∙ ap (λ n. f (g x) + n) (sum_map f g xs)
    ∙ sym (sum_by-cons (λ y. f (g y)) x xs)

abbrev rest_charge : ℕ → Rest → ℕ
rest_charge tenant r = charge_of r.standings r.classes tenant

pub kept_charges : (old new : List (Kept UnnamedSegment)) (tenant : ℕ)
    → KeepsAll number_in records_in old new
    → charge_in records_in new tenant ≡ charge_in records_in old tenant
kept_charges old new tenant kept =
    sym (sum_map (rest_charge tenant) (rest_of number_in records_in) new)
    ∙ ap (sum_by (rest_charge tenant)) kept
    ∙ sum_map (rest_charge tenant) (rest_of number_in records_in) old

wrote_charges : (place : Place) (index value : ℕ) (old new : List (Kept UnnamedSegment))
    (tenant : ℕ) → Wrote number_in records_in place index value old new
    → charge_in records_in new tenant ≡ charge_in records_in old tenant
wrote_charges place index value old new tenant w =
    ap (λ segments. charge_in records_in segments tenant) w.now
    ∙ charge_same records_in old w.found w.before w.after tenant w.at
    (ap (λ rs. charge_of rs w.after.classes tenant) w.same_records
    ∙ ap (λ (k : Kept UnnamedSegment). charge_of (records_in w.before.slots) k.classes tenant)
    w.rest)

pub calm_does : (e : Event) → keeps_charges e ≡ true → (a : Answer) (old new : WorkerState)
    → Does e a old new → SameCharges old new
calm_does event.Deliver calm a old new d tenant =
    ap (λ heap. charge_in records_in heap.segments tenant) d.heap
calm_does (event.Read actor handle index) calm a old new d tenant =
    kept_charges old.heap.segments new.heap.segments tenant d.kept
calm_does (event.Write actor handle index value) calm a old new d tenant =
    elim (cases_Bool (is_done a)) [
      | inl done ↦
          wrote_charges handle.place index value old.heap.segments new.heap.segments tenant
          (d.wrote done)
      | inr refused ↦
          kept_charges old.heap.segments new.heap.segments tenant (d.kept refused)
    ]
calm_does (event.Look actor place) calm a old new d tenant =
    kept_charges old.heap.segments new.heap.segments tenant d.kept
calm_does (event.Alloc actor arena bytes) calm a old new d tenant = absurd (false≢true calm)
calm_does (event.Free actor handle) calm a old new d tenant = absurd (false≢true calm)
calm_does (event.Take segment) calm a old new d tenant = absurd (false≢true calm)
calm_does event.Collect calm a old new d tenant = absurd (false≢true calm)
calm_does (event.Abandon segment) calm a old new d tenant = absurd (false≢true calm)
calm_does (event.Refill arena) calm a old new d tenant = absurd (false≢true calm)

-- what a worker is charged, by its state
pub charge_is : (worker : HostedWorker) (own : _) (tenant : ℕ) → worker.state ≡ Some own
    → charge_at worker tenant ≡ charge_by own.value tenant
charge_is worker own tenant is =
    ap (λ o. unwrap_or (option_map (λ s. charge_by s.value tenant) o) 0) is

pub serves_same : {Do : WorkerState → WorkerState → Type 0} {was next : HostedWorker}
    → ((old new : WorkerState) → Do old new → SameCharges old new) → Serves Do was next
    → (tenant : ℕ) → charge_at next tenant ≡ charge_at was tenant
serves_same {was = was} {next = next} same s tenant =
    charge_is next s.after tenant s.is ∙ same s.before.value s.after.value s.does tenant
    ∙ sym (charge_is was s.before tenant s.was)

waits_same : (e : Event) (old new : WorkerState) → Waits e old new → SameCharges old new
waits_same e old new w tenant = ap (λ (s : WorkerState). charge_by s tenant) w.same

pub answered_same : (e : Event) → keeps_charges e ≡ true → (o : Option Answer)
    (was next : HostedWorker)
    → MatchOption o (Serves (Waits e) was next) (λ a. Serves (Does e a) was next)
    → (tenant : ℕ) → charge_at next tenant ≡ charge_at was tenant
answered_same e calm None was next s = serves_same (waits_same e) s
answered_same e calm (Some a) was next s = serves_same (calm_does e calm a) s
