-- What a bank opens with and grows by is sound, and nothing is charged in it.
use Rattle.std.proofs.Common.{◌≡◌, ℕ, ◌*◌, ◌<◌, ◌≤◌, List, [], ◌∷◌, ◌++◌}
use Rattle.std.proofs.Common.{length, get_or, replicate, zero, suc, refl, sym, ap, subst, ◌∙◌}
use Rattle.std.proofs.Common.{arith}
use Rattle.std.proofs.lemmas.List.{length-replicate, length-append}
use Rattle.std.proofs.lemmas.List.Elements.{All-push, All-cons, All-nil}
use Rattle.std.proofs.lemmas.List.Sums.{sum_by_push, sum_by-cons}
use Rattle.hg_core.specs.Opening.{opened}
use Rattle.hg_place.specs.Places.{segment_of}
use Rattle.hg_machine.specs.Charge.{share, charge}
use Rattle.hg_machine.specs.Holders.{holds}
use Rattle.hg_machine.specs.Life.{is_home, never_used}
use Rattle.hg_machine.specs.Lists.{Kept}
use Rattle.hg_machine.specs.Policy.{Policy}
use Rattle.hg_machine.specs.State.{opening, record_at}
use Rattle.hg_machine.proofs.Opening.{all_same}
use Rattle.hg_machine.proofs.Times.{sum_by_none}
use Rattle.hg_bank.specs.Kept.{AreSums}
use Rattle.hg_bank.specs.Opening.{IsOpenCore, opened_bank, grown}
use Rattle.hg_bank.specs.Parts.{AreParts, bank_from}
use Rattle.hg_bank.specs.Sound.{IsCoreOf, IsSoundBank}
use Rattle.hg_bank.specs.State.{BankState}
use Rattle.hg_bank.proofs.ChargeLemmas.{home_share}

-- rows of zeros
abbrev zeros : ℕ → List ℕ
zeros m = replicate m 0

pub zero_rows : (n m i j : ℕ) → get_or (get_or (replicate n (zeros m)) i []) j 0 ≡ 0
zero_rows zero m i j = refl
zero_rows (suc n) m zero j = all_same m j 0
zero_rows (suc n) m (suc i) j = zero_rows n m i j

-- nothing is charged in a core that opens
pub nothing_charged : (policy : Policy) (worker tenant : ℕ)
    → charge (opening policy) worker tenant ≡ 0
nothing_charged policy worker tenant =
    let s = opening policy in
    sum_by_none (share s worker tenant) 0
    (λ place _. home_share tenant (holds s worker (segment_of place)) (record_at s place).life
    (ap (λ r. is_home r.life) (all_same (length policy.segments * 8192) place never_used)))
    0 (length s.records) (omega arith)

open_core : (policy : Policy) → IsOpenCore policy → IsCoreOf policy (opened policy)
open_core policy is = record { policy = refl; sound = is.sound; lists = is.lists }

-- a bank of parts is sound, as its first core is the current one everywhere
pub made_sound : (policy : Policy) (room : ℕ) (cores : List Kept) → AreParts policy room cores
    → IsSoundBank (bank_from policy room cores)
made_sound policy room cores are = record {
  some = are.some;
  within = are.within;
  most = are.most;
  cores = are.each;
  currents = λ worker arena.
      let e = zero_rows policy.workers 256 worker arena in omega (arith, are.some);
}

pub opened_sound : (policy : Policy) (room : ℕ) → IsOpenCore policy → 1 ≤ room → room ≤ 16384
    → IsSoundBank (opened_bank policy room)
opened_sound policy room is some most =
    made_sound policy room (opened policy ∷ []) record {
      some = omega arith;
      within = some;
      most = most;
      each = All-cons (IsCoreOf policy) (opened policy) [] (open_core policy is)
          (All-nil (IsCoreOf policy));
    }

pub opened_sums : (policy : Policy)
    → AreSums policy (replicate policy.workers (replicate 64 0)) (opened policy ∷ [])
opened_sums policy = record {
  workers = length-replicate policy.workers (zeros 64);
  each = λ worker tenant a b.
      let rows = zero_rows policy.workers 64 worker tenant in
      let one = sum_by-cons (λ k. charge k.state worker tenant) (opened policy) [] in
      let none = nothing_charged policy worker tenant in
      omega arith;
}

pub grown_sound : (b : BankState) → IsSoundBank b → IsOpenCore b.policy → length b.cores < b.room
    → IsSoundBank (grown b)
grown_sound b sound is less =
    let long = length-append b.cores (opened b.policy ∷ []) in
    record {
      some = omega arith;
      within = omega arith;
      most = sound.most;
      cores = All-push (IsCoreOf b.policy) b.cores (opened b.policy) sound.cores
          (open_core b.policy is);
      currents = λ worker arena. let c = sound.currents worker arena in omega arith;
    }

pub grown_sums : (policy : Policy) (rows : List (List ℕ)) (cores : List Kept)
    → AreSums policy rows cores → AreSums policy rows (cores ++ opened policy ∷ [])
grown_sums policy rows cores sums = record {
  workers = sums.workers;
  each = λ worker tenant a b.
      let was = sums.each worker tenant a b in
      let more = sum_by_push (λ k. charge k.state worker tenant) cores (opened policy) in
      let none = nothing_charged policy worker tenant in
      omega arith;
}

abbrev pub bank_with : Policy → ℕ → List Kept → List (List ℕ) → BankState
bank_with policy room cores currents = record {
  policy = policy;
  room = room;
  cores = cores;
  currents = currents;
}

-- the fields that a bank opens with
pub as_opened : (policy : Policy) (room workers : ℕ) (cores : List Kept)
    (currents : List (List ℕ)) → workers ≡ policy.workers → cores ≡ opened policy ∷ []
    → currents ≡ replicate workers (replicate 256 0)
    → bank_with policy room cores currents ≡ opened_bank policy room
as_opened policy room workers cores currents w c r =
    ap (λ x. bank_with policy room x currents) c
    ∙ ap (bank_with policy room (opened policy ∷ []))
    (r ∙ ap (λ n. replicate n (replicate 256 0)) w)

pub opened_fields : (policy : Policy) (room workers : ℕ) (cores : List Kept)
    (currents sums : List (List ℕ)) → IsOpenCore policy → 1 ≤ room → room ≤ 16384
    → workers ≡ policy.workers → cores ≡ opened policy ∷ []
    → currents ≡ replicate workers (replicate 256 0) → sums ≡ replicate workers (replicate 64 0)
    → IsSoundBank (bank_with policy room cores currents) × (length currents ≡ policy.workers)
    × AreSums policy sums cores
opened_fields policy room workers cores currents sums is some most w c r q = (
  subst IsSoundBank (sym (as_opened policy room workers cores currents w c r))
      (opened_sound policy room is some most),
  ap length r ∙ length-replicate workers (zeros 256) ∙ w,
  subst (λ rows. AreSums policy rows cores)
      (sym (q ∙ ap (λ n. replicate n (replicate 64 0)) w))
      (subst (AreSums policy (replicate policy.workers (replicate 64 0))) (sym c)
      (opened_sums policy)),
)
