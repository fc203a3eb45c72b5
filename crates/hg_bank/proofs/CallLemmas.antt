-- What a call on one core makes of the bank.
use Rattle.std.proofs.Common.{◌≡◌, ◌≢◌, ℕ, ◌+◌, ◌^◌, ◌<◌, ◌≤◌, true, List, [], length, get_or}
use Rattle.std.proofs.Common.{set, slice_index_or, refl, sym, ap, subst, ◌∙◌, arith}
use Rattle.std.specs.Vec.{with_item}
use Rattle.std.proofs.lemmas.List.{get_or_default}
use Rattle.std.proofs.lemmas.Option.{slice_get-get_or}
use Rattle.hg_core.specs.Opening.{opened}
use Rattle.hg_machine.specs.declared.Answer.{Answer}
use Rattle.hg_machine.specs.declared.Event.{Event}
use Rattle.hg_machine.specs.Charge.{charge}
use Rattle.hg_machine.specs.Lists.{Kept, IsPartition}
use Rattle.hg_machine.specs.Soundness.{IsSound}
use Rattle.hg_machine.proofs.Preserves.{steps_keep_policy}
use Rattle.hg_choice.specs.ChosenSteps.{ChosenStep}
use Rattle.hg_bank.specs.declared.bank.Bank.TheInside.{Inside}
use Rattle.hg_bank.specs.AtOnce.{IsDoneIn}
use Rattle.hg_bank.specs.Charges.{AreSameCharges}
use Rattle.hg_bank.specs.Kept.{bank_of, AreSums, IsKept}
use Rattle.hg_bank.specs.Requests.{named, names_core, absent}
use Rattle.hg_bank.specs.Sound.{IsCoreOf, IsSoundBank}
use Rattle.hg_bank.specs.State.{BankState, charge_over}
use Rattle.hg_bank.specs.Steps.{BankStep}
use Rattle.hg_bank.proofs.BankLemmas.{away_step, there_step, core_sound}
use Rattle.hg_bank.proofs.ChargeLemmas.{is_calm, calm_keeps, charge_small, others_keep}
use Rattle.hg_bank.proofs.SumLemmas.{over_small, part_of_sum, sums_stay, sums_follow}

-- what holds of the fields, as callers see it
pub sound_as_seen : (a : Inside) (s : BankState) → bank_of a ≡ s → IsKept a → IsSoundBank s
sound_as_seen a s view kept = subst IsSoundBank view kept.sound

-- a core that isn't there
pub away : (a : Inside) (s : BankState) → bank_of a ≡ s → (worker at core : ℕ) (e : Event)
    (answer : Answer) → names_core e ≡ true → at ≡ core → length a.cores.items ≤ at
    → answer ≡ absent a.policy e → BankStep s worker (named core e) answer s
away a s view worker at core e answer names same past is =
    subst (λ b. BankStep b worker (named core e) answer b) view
    (away_step (bank_of a) worker core e answer names
    (subst (λ n. length a.cores.items ≤ n) same past)
    is)

-- what a call on a worker's rows finds
pub record IsRead (a : Inside) (s : BankState) (worker wat : ℕ) (row : List ℕ) : Type 0 where
  pub kept : IsKept a
  pub view : bank_of a ≡ s
  pub below : worker < s.policy.workers
  pub same : wat ≡ worker
  pub there : row ≡ slice_index_or a.sums.items wat row

pub read_of : {a : Inside} {s : BankState} {worker wat : ℕ} {row : List ℕ} → IsKept a
    → bank_of a ≡ s → worker < s.policy.workers → wat ≡ worker
    → row ≡ slice_index_or a.sums.items wat row → IsRead a s worker wat row
read_of kept view below same there =
    record { kept = kept; view = view; below = below; same = same; there = there }

module _ {a : Inside} {s : BankState} {worker wat : ℕ} {row : List ℕ}
    (read : IsRead a s worker wat row) where
  pub inside : worker < a.policy.workers
  inside = subst (λ b. worker < b.policy.workers) (sym read.view) read.below

  pub row_is : (tenant : ℕ) → tenant < length a.policy.tenants
      → get_or row tenant 0 ≡ charge_over a.cores.items worker tenant
  row_is tenant less =
      let long = read.kept.sums.workers in
      let there = inside in
      let same = read.same in
      let at_row : get_or a.sums.items wat [] ≡ row =
      get_or_default a.sums.items wat [] row (omega arith) ∙ sym read.there in
      ap (λ r. get_or r tenant 0) (sym at_row)
      ∙ ap (λ w. get_or (get_or a.sums.items w []) tenant 0) same
      ∙ read.kept.sums.each worker tenant there less

  pub row_low : (tenant : ℕ) → tenant < length a.policy.tenants → get_or row tenant 0 ≤ 2 ^ 49
  row_low tenant less =
      let counts = row_is tenant less in
      let small = over_small a.cores.items (opened a.policy) worker tenant
      (λ core below. (read.kept.sound.cores core (opened a.policy) below).sound) in
      let within = read.kept.sound.within in
      let most = read.kept.sound.most in
      omega arith

-- a core that is there, as the call found it
pub record IsFound (a : Inside) (s : BankState) (at worker : ℕ) (was : Kept) : Type 0 where
  pub kept : IsKept a
  pub view : bank_of a ≡ s
  pub there : was ≡ slice_index_or a.cores.items at was
  pub below : at < length a.cores.items
  pub worker_is : worker < s.policy.workers

pub found : {a : Inside} {s : BankState} {at worker : ℕ} {was : Kept} → IsKept a → bank_of a ≡ s
    → was ≡ slice_index_or a.cores.items at was → at < length a.cores.items
    → worker < s.policy.workers → IsFound a s at worker was
found kept view there below worker_is = record {
  kept = kept;
  view = view;
  there = there;
  below = below;
  worker_is = worker_is;
}

-- and as the core's call left it
pub record IsCalled (worker : ℕ) (was next : Kept) (e : Event) (answer : Answer) : Type 0 where
  pub step : ChosenStep was worker e answer next
  pub kept : IsSound next.state × IsPartition next

-- or as it left it after many events
pub record IsRan (was next : Kept) : Type 0 where
  pub policy : next.state.policy ≡ was.state.policy
  pub kept : IsSound next.state × IsPartition next

-- the bank afterwards
pub record IsDone (s : BankState) (core : ℕ) (does : Kept → Kept → Type 0) (after : Inside) : Type 0
  where
    pub kept : IsKept after
    pub done : IsDoneIn s core does (bank_of after)

pub record IsAfter (s : BankState) (worker core : ℕ) (e : Event) (answer : Answer) (after : Inside)
    : Type 0 where
  pub kept : IsKept after
  pub step : BankStep s worker (named core e) answer (bank_of after)

module _ {a : Inside} {s : BankState} {at worker : ℕ} {was : Kept}
    (found : IsFound a s at worker was) where
  pub inside_worker : worker < a.policy.workers
  inside_worker = subst (λ b. worker < b.policy.workers) (sym found.view) found.worker_is

  core_is : IsCoreOf a.policy was
  core_is = subst (IsCoreOf a.policy) (sym found.there) (found.kept.sound.cores at was found.below)

  pub core_sound_is : IsSound was.state
  core_sound_is = core_is.sound

  pub core_worker : worker < was.state.policy.workers
  core_worker = subst (λ p. worker < p.workers) (sym core_is.policy) inside_worker

  -- the worker's row of the sums: the core's charges can be taken out, and what it has after the
  -- call put back
  module _ {wat : ℕ} {row : List ℕ} (same : wat ≡ worker)
      (there : row ≡ slice_index_or a.sums.items wat row) where
    row_read : IsRead a s worker wat row
    row_read = read_of found.kept found.view found.worker_is same there

    pub covered : (tenant : ℕ) → tenant < length a.policy.tenants
        → charge was.state worker tenant ≤ get_or row tenant 0
    covered tenant less =
        let counts = row_is row_read tenant less in
        let part = part_of_sum a.cores.items at was worker tenant found.below in
        let is = ap (λ k. charge k.state worker tenant) found.there in
        omega arith

    pub room_for : (mid : List ℕ) (next : Kept) → IsSound next.state
        → ((tenant : ℕ) → tenant < length a.policy.tenants
        → get_or mid tenant 0 + charge was.state worker tenant ≡ get_or row tenant 0)
        → (tenant : ℕ) → tenant < length a.policy.tenants
        → get_or mid tenant 0 + charge next.state worker tenant < 2 ^ 64
    room_for mid next sound out tenant less =
        let low = out tenant less in
        let few = row_low row_read tenant less in
        let more = charge_small next.state worker tenant sound in
        omega arith

  -- another core of the policy in its place
  module _ {next : Kept} (next_is : IsCoreOf a.policy next) where
    after_sound : IsSoundBank (bank_of (record a { cores = with_item a.cores at next }))
    after_sound = core_sound (bank_of a) at next found.kept.sound found.below next_is

    -- where no charge changes
    pub calm_kept : AreSameCharges was.state next.state
        → IsKept (record a { cores = with_item a.cores at next })
    calm_kept same = record {
      sound = after_sound;
      room = found.kept.room;
      rows = found.kept.rows;
      sums = sums_stay at was next found.kept.sums found.below (λ w tenant.
          same w tenant ∙ ap (λ k. charge k.state w tenant) found.there);
    }

    -- where the worker's sums follow, and no other's charges change
    pub counted_kept : {wat : ℕ} {row : List ℕ} (mid last : List ℕ) → wat ≡ worker
        → row ≡ slice_index_or a.sums.items wat row
        → ((tenant : ℕ) → tenant < length a.policy.tenants
        → get_or mid tenant 0 + charge was.state worker tenant ≡ get_or row tenant 0)
        → ((tenant : ℕ) → tenant < length a.policy.tenants
        → get_or last tenant 0 ≡ get_or mid tenant 0 + charge next.state worker tenant)
        → ((other tenant : ℕ) → other ≢ worker
        → charge next.state other tenant ≡ charge was.state other tenant)
        → IsKept (record a { cores = with_item a.cores at next; sums = with_item a.sums wat last })
    counted_kept {wat} {row} mid last wsame there out in_again others = record {
      sound = after_sound;
      room = found.kept.room;
      rows = found.kept.rows;
      sums = subst (λ w. AreSums a.policy (set a.sums.items w last)
          (set a.cores.items at next)) (sym wsame)
          (sums_follow at was next found.kept.sums found.below worker last inside_worker
          (λ tenant less.
          let long = found.kept.sums.workers in
          let inside = inside_worker in
          let at_row : get_or a.sums.items worker [] ≡ row =
          ap (λ w. get_or a.sums.items w []) (sym wsame)
          ∙ get_or_default a.sums.items wat [] row (omega arith) ∙ sym there in
          let e1 = ap (λ r. get_or r tenant 0) at_row in
          let e2 = out tenant less in
          let e3 = in_again tenant less in
          let is = ap (λ k. charge k.state worker tenant) found.there in
          omega arith)
          (λ other tenant ne.
          others other tenant ne ∙ ap (λ k. charge k.state other tenant) found.there));
    }

  -- a call that is one event
  module _ {next : Kept} {e : Event} {answer : Answer} (called : IsCalled worker was next e answer)
    where
      next_is : IsCoreOf a.policy next
      next_is = record {
        policy =
            steps_keep_policy was.state worker e answer next.state called.step.step
            ∙ core_is.policy;
        sound = called.kept.0;
        lists = called.kept.1;
      }

      stepped : (core : ℕ) → names_core e ≡ true → at ≡ core
          → BankStep s worker (named core e) answer
          (bank_of (record a { cores = with_item a.cores at next }))
      stepped core names same =
          subst (λ b. BankStep b worker (named core e) answer
          (bank_of (record a { cores = with_item a.cores at next }))) found.view
          (subst (λ n. BankStep (bank_of a) worker (named n e) answer
          (bank_of (record a { cores = with_item a.cores at next }))) same
          (there_step (bank_of a) worker at e answer was next names found.below
          (subst (λ k. ChosenStep k worker e answer next) found.there called.step)))

      -- one that changes no charge
      pub calm_call : (core : ℕ) → names_core e ≡ true → is_calm e ≡ true → at ≡ core
          → IsAfter s worker core e answer (record a { cores = with_item a.cores at next })
      calm_call core names calm same = record {
        kept =
            calm_kept next_is
            (calm_keeps was.state worker e answer next.state calm called.step.step);
        step = stepped core names same;
      }

      -- one with the worker's sums before and after it
      pub counted_call : (core : ℕ) {wat : ℕ} {row : List ℕ} (mid last : List ℕ)
          → names_core e ≡ true → at ≡ core → wat ≡ worker → row ≡ slice_index_or a.sums.items wat row
          → ((tenant : ℕ) → tenant < length a.policy.tenants
          → get_or mid tenant 0 + charge was.state worker tenant ≡ get_or row tenant 0)
          → ((tenant : ℕ) → tenant < length a.policy.tenants
          → get_or last tenant 0 ≡ get_or mid tenant 0 + charge next.state worker tenant)
          → IsAfter s worker core e answer
          (record a { cores = with_item a.cores at next; sums = with_item a.sums wat last })
      counted_call core mid last names same wsame there out in_again = record {
        kept =
            counted_kept next_is mid last wsame there out in_again
            (others_keep was.state worker e answer next.state core_is.sound core_worker
            called.step.step);
        step = stepped core names same;
      }

  -- a call that is many events of the worker
  module _ {next : Kept} (ran : IsRan was next) where
    ran_is : IsCoreOf a.policy next
    ran_is = record {
      policy = ran.policy ∙ core_is.policy;
      sound = ran.kept.0;
      lists = ran.kept.1;
    }

    done_in : {does : Kept → Kept → Type 0} (core : ℕ) → at ≡ core → does was next
        → IsDoneIn s core does (bank_of (record a { cores = with_item a.cores at next }))
    done_in {does} core same done =
        subst (λ b. IsDoneIn b core does
        (bank_of (record a { cores = with_item a.cores at next }))) found.view
        (subst (λ n. IsDoneIn (bank_of a) n does
        (bank_of (record a { cores = with_item a.cores at next }))) same
        (record {
          was = get_or a.cores.items at was;
          next = next;
          there = slice_get-get_or a.cores.items at was found.below;
          done = subst (λ k. does k next) found.there done;
          after = refl;
        }))

    -- that change no charge
    pub calm_run : {does : Kept → Kept → Type 0} (core : ℕ) → at ≡ core
        → AreSameCharges was.state next.state → does was next
        → IsDone s core does (record a { cores = with_item a.cores at next })
    calm_run core same charges done = record {
      kept = calm_kept ran_is charges;
      done = done_in core same done;
    }

    -- with the worker's sums before and after them
    pub counted_run : {does : Kept → Kept → Type 0} (core : ℕ) {wat : ℕ} {row : List ℕ}
        (mid last : List ℕ) → at ≡ core → wat ≡ worker → row ≡ slice_index_or a.sums.items wat row
        → ((tenant : ℕ) → tenant < length a.policy.tenants
        → get_or mid tenant 0 + charge was.state worker tenant ≡ get_or row tenant 0)
        → ((tenant : ℕ) → tenant < length a.policy.tenants
        → get_or last tenant 0 ≡ get_or mid tenant 0 + charge next.state worker tenant)
        → ((other tenant : ℕ) → other ≢ worker
        → charge next.state other tenant ≡ charge was.state other tenant) → does was next
        → IsDone s core does
        (record a { cores = with_item a.cores at next; sums = with_item a.sums wat last })
    counted_run core mid last same wsame there out in_again others done = record {
      kept = counted_kept ran_is mid last wsame there out in_again others;
      done = done_in core same done;
    }
