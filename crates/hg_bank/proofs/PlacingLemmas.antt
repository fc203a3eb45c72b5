-- What an allocation and a refill make of the bank.
use Rattle.std.proofs.Common.{◌≡◌, ◌≢◌, inl, inr, ℕ, ◌+◌, ◌*◌, ◌<◌, ◌≤◌, List, [], length}
use Rattle.std.proofs.Common.{get_or}
use Rattle.std.proofs.Common.{set, slice_index_or, find, Option, Some, None, sym, ap, subst, ◌∙◌}
use Rattle.std.proofs.Common.{arith, All}
use Rattle.std.proofs.lemmas.Bool.{cases_eq}
use Rattle.std.proofs.lemmas.List.{get_or_default, set-get_or, length-set}
use Rattle.hg_core.specs.Opening.{opened}
use Rattle.hg_place.specs.declared.Actor.{Actor}
use Rattle.hg_place.specs.declared.Handle.{Handle}
use Rattle.hg_machine.specs.declared.AllocVerdict.{AllocVerdict}
use Rattle.hg_machine.specs.declared.AllocVerdict.TheVariants as verdict
use Rattle.hg_machine.specs.declared.Answer.{Answer}
use Rattle.hg_machine.specs.declared.Answer.TheVariants as answer
use Rattle.hg_machine.specs.declared.Event.{Event}
use Rattle.hg_machine.specs.declared.Event.TheVariants as event
use Rattle.hg_machine.specs.Charge.{charge}
use Rattle.hg_machine.specs.Lists.{Kept}
use Rattle.hg_machine.specs.Request.{alloc_verdict, words_for, size_of}
use Rattle.hg_bank.specs.declared.bank.Bank.TheInside.{Inside}
use Rattle.hg_bank.specs.Choosing.{FitsIn, IsServedIn}
use Rattle.hg_bank.specs.Kept.{bank_of, AreSums}
use Rattle.hg_bank.specs.Order.{round_from}
use Rattle.hg_bank.specs.Requests.{Request, alloc, event_of, server, bank_verdict}
use Rattle.hg_bank.specs.Requests.{core_with_room, alloc_refused, has_room_in}
use Rattle.hg_bank.specs.Sound.{IsSoundBank}
use Rattle.hg_bank.specs.State.{BankState, current_of, charge_over, with_current}
use Rattle.hg_bank.specs.Steps.{BankStep, moved}
use Rattle.hg_bank.proofs.AllocLemmas.{verdict_by_sum, size_is, core_fits, charged, uncharged}
use Rattle.hg_bank.proofs.BankLemmas.{by_none, current_sound}
use Rattle.hg_bank.proofs.CallLemmas.{IsRead, inside, row_is}
use Rattle.hg_bank.proofs.CountedLemmas.{sums_counted, served_below, served_over, served_others}
use Rattle.hg_bank.proofs.CountedLemmas.{with_cores, served_sound, served_step, was_there}
use Rattle.hg_bank.proofs.OpeningLemmas.{bank_with}
use Rattle.hg_bank.proofs.SumLemmas.{part_of_sum}

-- a policy of a bank has few tenants
pub few_tenants : (b : BankState) → IsSoundBank b → length b.policy.tenants ≤ 64
few_tenants b sound =
    let one = sound.cores 0 (opened b.policy) sound.some in
    subst (λ p. length p.tenants ≤ 64) one.policy one.sound.policy.few_tenants

module _ {a : Inside} {s : BankState} {worker wat : ℕ} {row : List ℕ}
    (read : IsRead a s worker wat row) where
  -- the verdict that was asked for by what the row counts is the bank's
  pub verdict_told : (actor : Actor) (arena bytes : ℕ) {words counted : ℕ} {v w : AllocVerdict}
      → words ≡ words_for bytes → (actor.0 < 64 → counted ≡ get_or row actor.0 0)
      → v ≡ alloc_verdict a.policy actor.0 arena words counted → v ≡ w
      → bank_verdict (bank_of a) worker actor arena bytes ≡ w
  verdict_told actor arena bytes {counted = counted} words_is counts is told =
      let few = few_tenants (bank_of a) read.kept.sound in
      sym (is ∙ ap (λ n. alloc_verdict a.policy actor.0 arena n counted) words_is
      ∙ verdict_by_sum a.policy actor.0 arena (words_for bytes) counted
      (charge_over a.cores.items worker actor.0)
      (λ less. counts (omega arith) ∙ row_is read actor.0 less))
      ∙ told

  -- the row of the current cores
  module _ {cat : ℕ} {current : List ℕ} (csame : cat ≡ worker)
      (cthere : current ≡ slice_index_or a.currents.items cat current) where
    currents_row : get_or a.currents.items worker [] ≡ current
    currents_row =
        let long = read.kept.rows in
        let there = inside read in
        ap (λ w. get_or a.currents.items w []) (sym csame)
        ∙ get_or_default a.currents.items cat [] current (omega arith) ∙ sym cthere

    current_is : {arena aat : ℕ} → aat ≡ arena
        → get_or current aat 0 ≡ current_of a.currents.items worker arena
    current_is {arena} {aat} same =
        ap (λ r. get_or r aat 0) (sym currents_row)
        ∙ ap (λ n. get_or (get_or a.currents.items worker []) n 0) same

    pub current_below : {arena aat : ℕ} → aat ≡ arena
        → get_or current aat 0 < length a.cores.items
    current_below {arena} {aat} same =
        let e = current_is same in
        let below = read.kept.sound.currents worker arena in
        omega arith

    currents_left : set a.currents.items cat current ≡ a.currents.items
    currents_left = ap (set a.currents.items cat) cthere ∙ set-get_or a.currents.items cat current

    currents_moved : (arena aat core : ℕ) → aat ≡ arena
        → set a.currents.items worker (set (get_or a.currents.items worker []) arena core)
        ≡ set a.currents.items cat (set current aat core)
    currents_moved arena aat core same =
        ap (λ r. set a.currents.items worker (set r arena core)) currents_row
        ∙ ap (λ n. set a.currents.items worker (set current n core)) (sym same)
        ∙ ap (λ w. set a.currents.items w (set current aat core)) (sym csame)

    -- the bank after a core served, which is current now
    pub placed_sound : {arena aat core : ℕ} {e : Event} {told : Answer} {new : List Kept}
        → aat ≡ arena → IsServedIn a.cores.items worker e core told new
        → IsSoundBank (bank_with a.policy a.room new
        (set a.currents.items cat (set current aat core)))
    placed_sound {arena} {aat} {core} {e} {told} {new} same served =
        let there : core < length new =
        subst (λ n. core < n) (sym (ap length served.after
        ∙ length-set a.cores.items core served.next)) (served_below served) in
        subst (λ xs. IsSoundBank (bank_with a.policy a.room new xs))
        (currents_moved arena aat core same)
        (current_sound (with_cores (bank_of a) new) worker arena core
        (served_sound (bank_of a) worker core e told new read.kept.sound served) there)

    pub placed_step : {arena aat core : ℕ} (request : Request) {told : Answer} {new : List Kept}
        → aat ≡ arena → moved request worker core (with_cores (bank_of a) new)
        ≡ with_current (with_cores (bank_of a) new) worker arena core
        → IsServedIn a.cores.items worker (event_of request) core told new
        → server s worker request ≡ Some core
        → BankStep s worker request told (bank_with a.policy a.room new
        (set a.currents.items cat (set current aat core)))
    placed_step {arena} {aat} {core} request {told} {new} same moves served e =
        subst (λ b. BankStep b worker request told (bank_with a.policy a.room new
        (set a.currents.items cat (set current aat core)))) read.view
        (subst (λ xs. BankStep (bank_of a) worker request told (bank_with a.policy a.room new xs))
        (currents_moved arena aat core same)
        (subst (BankStep (bank_of a) worker request told) moves
        (served_step (bank_of a) worker core request told new served
        (ap (λ b. server b worker request) read.view ∙ e))))

    -- which core serves an allocation that the verdict allows
    module _ (actor : Actor) (arena bytes : ℕ) {size : ℕ}
        (fits : bank_verdict (bank_of a) worker actor arena bytes ≡ verdict.Fits size) where
      pub tenant_is : actor.0 < length a.policy.tenants
      tenant_is =
          (size_is a.policy actor.0 arena bytes (charge_over a.cores.items worker actor.0) size
          fits).0

      sized : size ≡ size_of bytes
      sized =
          (size_is a.policy actor.0 arena bytes (charge_over a.cores.items worker actor.0) size
          fits).1

      pub alloc_server : {aat : ℕ} {o : Option ℕ} → aat ≡ arena
          → find (has_room_in a.cores.items worker arena (size_of bytes))
          (round_from (get_or current aat 0) (length a.cores.items)) ≡ o
          → server s worker (alloc actor arena bytes) ≡ o
      alloc_server {aat} same e =
          ap (λ b. server b worker (alloc actor arena bytes)) (sym read.view)
          ∙ ap (core_with_room (bank_of a) worker arena) fits
          ∙ ap (λ n. find (has_room_in a.cores.items worker arena n)
          (round_from (current_of a.currents.items worker arena) (length a.cores.items))) sized
          ∙ ap (λ n. find (has_room_in a.cores.items worker arena (size_of bytes))
          (round_from n (length a.cores.items))) (sym (current_is same))
          ∙ e

      -- where none has room
      pub no_room_step : {new : List Kept} → new ≡ a.cores.items
          → server s worker (alloc actor arena bytes) ≡ None
          → BankStep s worker (alloc actor arena bytes) answer.NoRoom
          (bank_with a.policy a.room new (set a.currents.items cat current))
      no_room_step {new} items e =
          let none = ap (λ b. server b worker (alloc actor arena bytes)) read.view ∙ e in
          let step = by_none (bank_of a) worker (alloc actor arena bytes) answer.NoRoom none
          (sym (ap alloc_refused fits)) in
          subst (λ xs. BankStep s worker (alloc actor arena bytes) answer.NoRoom
          (bank_with a.policy a.room new xs)) (sym currents_left)
          (subst (λ xs. BankStep s worker (alloc actor arena bytes) answer.NoRoom
          (bank_with a.policy a.room xs a.currents.items)) (sym items)
          (subst (λ b. BankStep b worker (alloc actor arena bytes) answer.NoRoom (bank_of a))
          read.view step))

  -- a verdict that denies
  pub denied_step : (actor : Actor) (arena bytes : ℕ) (v : AllocVerdict) (told : Answer)
      → bank_verdict (bank_of a) worker actor arena bytes ≡ v
      → core_with_room (bank_of a) worker arena v ≡ None → alloc_refused v ≡ told
      → BankStep s worker (alloc actor arena bytes) told (bank_of a)
  denied_step actor arena bytes v told is none why =
      subst (λ b. BankStep b worker (alloc actor arena bytes) told (bank_of a)) read.view
      (by_none (bank_of a) worker (alloc actor arena bytes) told
      (ap (core_with_room (bank_of a) worker arena) is ∙ none)
      (sym (ap alloc_refused is ∙ why)))

  -- each core judges as the bank does
  pub all_fit : (actor : Actor) (arena bytes size : ℕ)
      → bank_verdict (bank_of a) worker actor arena bytes ≡ verdict.Fits size
      → All (FitsIn worker actor arena bytes) a.cores.items
  all_fit actor arena bytes size fits = λ core d below.
      let is = read.kept.sound.cores core d below in
      core_fits (bank_of a) worker actor arena bytes size (get_or a.cores.items core d) fits
      is.policy is.sound (inside read) (part_of_sum a.cores.items core d worker actor.0 below)

  -- the sums after a search that served
  pub placed_sums : {core : ℕ} {e : Event} {told : Answer} {new : List Kept} (last : List ℕ)
      → IsServedIn a.cores.items worker e core told new
      → ((tenant : ℕ) → tenant < length a.policy.tenants
      → get_or last tenant 0 ≡ charge_over new worker tenant)
      → AreSums a.policy (set a.sums.items wat last) new
  placed_sums {new = new} last served own =
      subst (λ w. AreSums a.policy (set a.sums.items w last) new) (sym read.same)
      (sums_counted a.policy a.sums.items a.cores.items new worker last read.kept.sums (inside read)
      own (served_others served a.policy read.kept.sound.cores (inside read)))

  -- an allocation is counted with its actor
  pub alloc_counted : (actor : Actor) (arena bytes : ℕ) {size core : ℕ} {handle : Handle}
      {new : List Kept} (last : List ℕ)
      → bank_verdict (bank_of a) worker actor arena bytes ≡ verdict.Fits size
      → IsServedIn a.cores.items worker (event.Alloc actor arena bytes) core
      (answer.Block handle) new
      → get_or last actor.0 0 ≡ get_or row actor.0 0 + 8 * size
      → ((tenant : ℕ) → tenant ≢ actor.0 → get_or last tenant 0 ≡ get_or row tenant 0)
      → (tenant : ℕ) → tenant < length a.policy.tenants
      → get_or last tenant 0 ≡ charge_over new worker tenant
  alloc_counted actor arena bytes {size} {core} {handle} {new} last fits served own others tenant
      less =
      let fit = subst (FitsIn worker actor arena bytes) (was_there served)
      (all_fit actor arena bytes size fits core served.was (served_below served)) in
      let over = served_over served worker tenant in
      let was = row_is read tenant less in
      let sum = charge_over a.cores.items worker actor.0 in
      let sized = (size_is a.policy actor.0 arena bytes sum size fits).1 in
      elim (cases_eq tenant actor.0) as
      (λ _. get_or last tenant 0 ≡ charge_over new worker tenant) [
        | inl here ↦
            let more = charged served.next.state fit handle served.step.step in
            let e1 = ap (λ t. get_or last t 0) here in
            let e2 = ap (λ t. get_or row t 0) here in
            let e3 = ap (λ t. charge served.next.state worker t) here in
            let e4 = ap (λ t. charge served.was.state worker t) here in
            omega arith
        | inr ne ↦
            let same = uncharged served.next.state fit handle served.step.step worker tenant ne in
            let left = others tenant ne in
            omega arith
      ]
