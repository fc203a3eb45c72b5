-- Services close, one after the other.
use Rattle.std.proofs.Common.{◌≡◌, ℕ, zero, suc, List, [], ◌∷◌, ◌++◌, length, reverse, All}
use Rattle.std.proofs.Common.{refl, sym, ap, subst, ◌∙◌, arith}
use Rattle.std.proofs.lemmas.List.{append_assoc, length-append, nil_from_length, reverse-append}
use Rattle.std.proofs.lemmas.List.Elements.{All-append}
use Rattle.hg_close.specs.Closed.{AreLost, IsQuiet}
use Rattle.hg_close.specs.declared.fault.CloseFault.{CloseFault}
use Rattle.hg_machine.specs.Lists.{Kept}
use Rattle.hg_machine.specs.Policy.{Policy}
use Rattle.hg_bank.specs.Parts.{bank_from}
use Rattle.hg_bank.specs.Sound.{IsCoreOf}
use Rattle.hg_bank.specs.State.{BankState}
use Rattle.hg_hosted.specs.declared.service.HostedService.{HostedService}
use Rattle.hg_bank_service.specs.Closing.{ClosesOne, HaveClosed, IsClosedBank, IsUnclosedBank}
use Rattle.hg_bank_service.specs.Closing.{KeepsAllClosed, LosesOne, StopsAt}
use Rattle.hg_bank_service.specs.State.{ServicesState}
use Rattle.hg_bank_service.specs.declared.closing.BankUnclosed.{BankUnclosed}
use Rattle.hg_bank_service.specs.declared.closing.BankUnclosed.TheVariants as unclosed
use Rattle.hg_bank_service.specs.declared.closing.LostCore.{LostCore}

pub all_one : {X : Type 0} (P : X → Type 0) (x : X) → P x → All P (x ∷ [])
all_one P x p zero d below = p
all_one P x p (suc k) d below = absurd (omega (arith, below))

pub all_none : {X : Type 0} (P : X → Type 0) → All P []
all_none P k d below = absurd (omega (arith, below))

pub all_reverse : {X : Type 0} (P : X → Type 0) (xs : List X) → All P xs → All P (reverse xs)
all_reverse P [] all = all_none P
all_reverse P (x ∷ xs) all =
    subst (All P) (sym (reverse-append (x ∷ []) xs))
    (All-append P (reverse xs) (x ∷ [])
    (all_reverse P xs (λ k d below. all (suc k) d (omega (arith, below))))
    (all_one P x (all 0 x (omega arith))))

-- a quiet core is one that a bank may have
pub cores_of : (policy : Policy) (cores : List Kept) → All (IsQuiet policy) cores
    → All (IsCoreOf policy) cores
cores_of policy cores quiet k d below =
    let is = quiet k d below in
    record { policy = is.policy_is; sound = is.sound; lists = is.partition }

-- nothing has closed yet
pub none_closed : (old : ServicesState) → HaveClosed old old.running old.closed
none_closed old = record {
  gone = [];
  cores = [];
  taken = sym (append_nil old.running);
  made = sym (append_nil old.closed);
  all = refl;
  quiet = all_none (IsQuiet old.policy);
}
  where
    append_nil : {X : Type 0} (xs : List X) → xs ++ [] ≡ xs
    append_nil [] = refl
    append_nil (x ∷ xs) = ap (λ ys. x ∷ ys) (append_nil xs)

-- what has closed up to a service, and from it on
pub closed_then : {old mid : ServicesState} {left : List HostedService} {closed : List Kept}
    → mid.policy ≡ old.policy → HaveClosed old mid.running mid.closed
    → HaveClosed mid left closed → HaveClosed old left closed
closed_then {old} {mid} {left} same first then = record {
  gone = then.gone ++ first.gone;
  cores = first.cores ++ then.cores;
  taken =
      first.taken ∙ ap (λ xs. xs ++ first.gone) then.taken
      ∙ append_assoc left then.gone first.gone;
  made =
      then.made ∙ ap (λ xs. xs ++ then.cores) first.made
      ∙ append_assoc old.closed first.cores then.cores;
  all =
      length-append first.cores then.cores
      ∙ (let a = first.all in let b = then.all in
      let c = length-append then.gone first.gone in omega arith);
  quiet = All-append (IsQuiet old.policy) first.cores then.cores first.quiet
      (subst (λ p. All (IsQuiet p) then.cores) same then.quiet);
}

pub closed_bank_then : (old mid : ServicesState) (bank : BankState) → mid.policy ≡ old.policy
    → HaveClosed old mid.running mid.closed → IsClosedBank mid bank
    → IsClosedBank old bank
closed_bank_then old mid bank same first is = record {
  closed = is.closed;
  have = closed_then same first is.have;
  quiet = subst (λ (p : Policy). All (IsQuiet p) (reverse is.closed)) same is.quiet;
  is = is.is ∙ ap (λ p. bank_from p (length is.closed) (reverse is.closed)) same;
}

pub unclosed_then : (old mid : ServicesState) (why : BankUnclosed) → mid.policy ≡ old.policy
    → HaveClosed old mid.running mid.closed → IsUnclosedBank mid why
    → IsUnclosedBank old why
unclosed_then old mid (unclosed.Running new core fault) same first stops = record {
  policy = stops.policy ∙ same;
  below = stops.below;
  was = stops.was;
  next = stops.next;
  closed = closed_then same first stops.closed;
  left = stops.left;
  number = stops.number;
  goes_on = stops.goes_on;
}
unclosed_then old mid (unclosed.Memory new) same first keeps = record {
  policy = keeps.policy ∙ same;
  closed = closed_then same first keeps.closed;
  none = keeps.none;
}
unclosed_then old mid (unclosed.Lost lost) same first loses = record {
  policy = loses.policy ∙ same;
  was = loses.was;
  closed = closed_then same first loses.closed;
  number = loses.number;
  lost = subst (λ p. AreLost p lost.place lost.parts) same loses.lost;
}

-- what is so of each is so of the last
pub last_of : {X : Type 0} (P : X → Type 0) (xs : List X) (x : X) → All P (xs ++ x ∷ []) → P x
last_of P [] x all = all 0 x (omega arith)
last_of P (y ∷ xs) x all =
    last_of P xs x (λ k d below. all (suc k) d (omega (arith, below)))

-- none runs, and those that were closed are all
pub all_closed : (old : ServicesState) → length old.running ≡ 0
    → HaveClosed old [] old.closed
all_closed old done =
    subst (λ xs. HaveClosed old xs old.closed) (nil_from_length old.running done)
    (none_closed old)

-- and of those before it
pub init_of : {X : Type 0} (P : X → Type 0) (xs : List X) (x : X) → All P (xs ++ x ∷ []) → All P xs
init_of P [] x all k d below = absurd (omega (arith, below))
init_of P (y ∷ xs) x all zero d below = all zero d (omega arith)
init_of P (y ∷ xs) x all (suc k) d below =
    init_of P xs x (λ j e low. all (suc j) e (omega (arith, low))) k d (omega (arith, below))

-- what is said of what the fields stand for is said of the value
module _ {a b : ServicesState} (same : a ≡ b) where
  pub closes_of : {new : ServicesState} → ClosesOne a new → ClosesOne b new
  closes_of {new} = subst (λ s. ClosesOne s new) same

  pub stops_of : {new : ServicesState} {core : ℕ} {why : CloseFault} → StopsAt a new core why
      → StopsAt b new core why
  stops_of {new} {core} {why} = subst (λ s. StopsAt s new core why) same

  pub loses_of : {left : LostCore} → LosesOne a left → LosesOne b left
  loses_of {left} = subst (λ s. LosesOne s left) same

  pub keeps_of : {new : ServicesState} → KeepsAllClosed a new → KeepsAllClosed b new
  keeps_of {new} = subst (λ s. KeepsAllClosed s new) same

  pub bank_of : {bank : BankState} → IsClosedBank a bank → IsClosedBank b bank
  bank_of {bank} = subst (λ s. IsClosedBank s bank) same

  pub none_of : length b.running ≡ 0 → length a.running ≡ 0
  none_of none = ap (λ s. length s.running) same ∙ none
