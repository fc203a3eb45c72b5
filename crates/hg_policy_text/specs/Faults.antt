-- What is read of a document, up to its first fault.
use Rattle.std.specs.Prelude.{◌≡◌, ℕ, List, [], ◌∷◌, Option, Some, None, Result, Ok, Err}
use Rattle.std.specs.Prelude.{string_bytes}
use Rattle.hg_policy_text.specs.declared.key.Key.{Key}
use Rattle.hg_policy_text.specs.declared.key.Counted.{Counted}
use Rattle.hg_policy_text.specs.declared.fault.PolicyFault.{PolicyFault}
use Rattle.hg_policy_text.specs.declared.fault.PolicyFault.TheVariants as fault

-- a fault of a document, with the texts of the document that it names
pub data Fault : Type 0 where
  not_toml : Fault
  missing : Key → Fault
  kind : Key → Fault
  unknown : List ℕ → Fault
  repeated : List ℕ → Fault
  no_such_name : List ℕ → Fault
  too_many : Counted → Fault
  version : Fault

-- what is read, or the first fault
abbrev pub Read : Type 0 → Type 0
Read A = Result A Fault

-- first one thing, and then the next
infixl 10 ◌>>=◌
abbrev pub ◌>>=◌ : {A B : Type 0} → Read A → (A → Read B) → Read B
(Ok x) >>= next = next x
(Err f) >>= next = Err f

-- one after the other: each takes what the ones before it gave
unfoldable pub in_turn : {A X : Type 0} → (A → X → Read A) → A → List X → Read A
in_turn step done [] = Ok done
in_turn step done (x ∷ xs) = step done x >>= λ next. in_turn step next xs

abbrev pub or_fault : {A : Type 0} → Fault → Option A → Read A
or_fault f None = Err f
or_fault f (Some x) = Ok x

-- the fault that is answered, which is none of the document for want of memory
abbrev pub fault_of : PolicyFault → Option Fault
fault_of fault.NotToml = Some not_toml
fault_of (fault.Missing key) = Some (missing key)
fault_of (fault.Kind key) = Some (kind key)
fault_of (fault.Unknown key) = Some (unknown (string_bytes key))
fault_of (fault.Repeated name) = Some (repeated (string_bytes name))
fault_of (fault.NoSuchName name) = Some (no_such_name (string_bytes name))
fault_of (fault.TooMany counted) = Some (too_many counted)
fault_of fault.Version = Some version
fault_of fault.Memory = None

abbrev pub FailsAs : {A : Type 0} → Option Fault → Read A → Type 0
FailsAs None read = Prim.Unit {0}
FailsAs (Some f) read = read ≡ Err f

-- a call gives what is read, or its first fault, unless memory ran out
abbrev pub Gives : {X A : Type 0} → (X → A) → Result X PolicyFault → Read A → Type 0
Gives view (Ok x) read = read ≡ Ok (view x)
Gives view (Err e) read = FailsAs (fault_of e) read
