-- A bank with hidden words chooses and judges as that bank does.
use Rattle.std.proofs.Common.{◌≡◌, ℕ, ◌&&◌, Bool, List, [], ◌∷◌, map, find}
use Rattle.std.proofs.Common.{nat_lt, if◌then◌else◌, Option, Some, None, is_some, refl, ap}
use Rattle.std.proofs.Common.{◌∙◌, arith}
use Rattle.std.proofs.Math.Path.{fun_ext}
use Rattle.std.specs.Prelude.{slice_get, option_map}
use Rattle.std.proofs.lemmas.List.{length-map, map-set}
use Rattle.std.proofs.lemmas.List.Sums.{sum_by-cons}
use Rattle.std.proofs.lemmas.Option.{slice_get-map}
use Rattle.hg_choice.specs.Masks.{masked_kept}
use Rattle.hg_choice.proofs.MaskedFacts.{same_charge, same_has_room}
use Rattle.hg_place.specs.declared.Actor.{Actor}
use Rattle.hg_machine.specs.declared.AllocVerdict.{AllocVerdict}
use Rattle.hg_machine.specs.declared.AllocVerdict.TheVariants as verdict
use Rattle.hg_machine.specs.Charge.{charge}
use Rattle.hg_machine.specs.Holders.{next_of}
use Rattle.hg_machine.specs.Lists.{Kept}
use Rattle.hg_machine.specs.Request.{alloc_verdict, words_for}
use Rattle.hg_machine.specs.Room.{has_room}
use Rattle.hg_bank.specs.Hidden.{masked_bank}
use Rattle.hg_bank.specs.Order.{round_from}
use Rattle.hg_bank.specs.Requests.{Request, alloc, refill, named, names_core, passes, asked}
use Rattle.hg_bank.specs.Requests.{has_room_in, has_segment_in, core_with_room, bank_verdict}
use Rattle.hg_bank.specs.Requests.{alloc_refused, server, unserved}
use Rattle.hg_bank.specs.State.{BankState, current_of, charge_over, with_core}
use Rattle.hg_bank.specs.Steps.{moved}

module _ (hides : ℕ → ℕ → Bool) where
  abbrev m : Kept → Kept
  m k = masked_kept hides k

  same_over : (cores : List Kept) (worker tenant : ℕ)
      → charge_over (map m cores) worker tenant ≡ charge_over cores worker tenant
  same_over [] worker tenant = refl
  same_over (k ∷ cores) worker tenant =
      let a = sum_by-cons (λ x. charge x.state worker tenant) (m k) (map m cores) in
      let b = sum_by-cons (λ x. charge x.state worker tenant) k cores in
      let here = same_charge hides k.state worker tenant in
      let rest = same_over cores worker tenant in
      omega arith

  same_passes : (test : Kept → Bool) → ((k : Kept) → test (m k) ≡ test k) → (o : Option Kept)
      → passes test (option_map m o) ≡ passes test o
  same_passes test same None = refl
  same_passes test same (Some k) = same k

  same_test : (test : Kept → Bool) (cores : List Kept) → ((k : Kept) → test (m k) ≡ test k)
      → (core : ℕ) → passes test (slice_get (map m cores) core) ≡ passes test (slice_get cores core)
  same_test test cores same core =
      ap (passes test) (slice_get-map m cores core)
      ∙ same_passes test same (slice_get cores core)

  same_room_in : (cores : List Kept) (worker arena size : ℕ)
      → has_room_in (map m cores) worker arena size ≡ has_room_in cores worker arena size
  same_room_in cores worker arena size = fun_ext
      (same_test (λ k. has_room k.state worker arena size) cores
      (λ k. same_has_room hides k.state worker arena size))

  same_segment_in : (cores : List Kept) (arena : ℕ)
      → has_segment_in (map m cores) arena ≡ has_segment_in cores arena
  same_segment_in cores arena = fun_ext
      (same_test (λ k. is_some (next_of k.state arena)) cores (λ k. refl))

  same_asked : (b : BankState) (worker arena : ℕ)
      → asked (masked_bank hides b) worker arena ≡ asked b worker arena
  same_asked b worker arena =
      ap (round_from (current_of b.currents worker arena)) (length-map b.cores m)

  same_verdict : (b : BankState) (worker : ℕ) (actor : Actor) (arena bytes : ℕ)
      → bank_verdict (masked_bank hides b) worker actor arena bytes
      ≡ bank_verdict b worker actor arena bytes
  same_verdict b worker actor arena bytes =
      ap (alloc_verdict b.policy actor.0 arena (words_for bytes))
      (same_over b.cores worker actor.0)

  same_with_room : (b : BankState) (worker arena : ℕ) (v : AllocVerdict)
      → core_with_room (masked_bank hides b) worker arena v ≡ core_with_room b worker arena v
  same_with_room b worker arena (verdict.Denied rule) = refl
  same_with_room b worker arena verdict.TooLarge = refl
  same_with_room b worker arena (verdict.Fits size) =
      ap (λ p. find p (asked (masked_bank hides b) worker arena))
      (same_room_in b.cores worker arena size)
      ∙ ap (find (has_room_in b.cores worker arena size)) (same_asked b worker arena)

  pub same_server : (b : BankState) (worker : ℕ) (request : Request)
      → server (masked_bank hides b) worker request ≡ server b worker request
  same_server b worker (alloc actor arena bytes) =
      ap (core_with_room (masked_bank hides b) worker arena)
      (same_verdict b worker actor arena bytes)
      ∙ same_with_room b worker arena (bank_verdict b worker actor arena bytes)
  same_server b worker (refill arena) =
      ap (λ p. find p (asked (masked_bank hides b) worker arena)) (same_segment_in b.cores arena)
      ∙ ap (find (has_segment_in b.cores arena)) (same_asked b worker arena)
  same_server b worker (named core event) =
      ap (λ n. if names_core event && nat_lt core n then Some core else None)
      (length-map b.cores m)

  pub same_unserved : (b : BankState) (worker : ℕ) (request : Request)
      → unserved (masked_bank hides b) worker request ≡ unserved b worker request
  same_unserved b worker (alloc actor arena bytes) =
      ap alloc_refused (same_verdict b worker actor arena bytes)
  same_unserved b worker (refill arena) = refl
  same_unserved b worker (named core event) = refl

  pub moved_masked : (request : Request) (worker core : ℕ) (b : BankState)
      → masked_bank hides (moved request worker core b)
      ≡ moved request worker core (masked_bank hides b)
  moved_masked (alloc actor arena bytes) worker core b = refl
  moved_masked (refill arena) worker core b = refl
  moved_masked (named other event) worker core b = refl

  pub with_core_masked : (b : BankState) (core : ℕ) (k : Kept)
      → masked_bank hides (with_core b core k) ≡ with_core (masked_bank hides b) core (m k)
  with_core_masked b core k =
      ap (λ xs. record {
        policy = b.policy;
        room = b.room;
        cores = xs;
        currents = b.currents;
      }) (map-set m b.cores core k)
