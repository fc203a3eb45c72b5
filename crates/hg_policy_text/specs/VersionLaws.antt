-- Laws of the two versions of a document.
use Rattle.std.specs.Prelude.{◌≡◌, ◌≢◌, ℕ, ℤ, pos, true, List, [], ◌∷◌, Some, None, Ok, Err}
use Rattle.toml.specs.Data.{Data, Members, integer, no_members, member}
use Rattle.hg_machine.specs.Policy.{Policy}
use Rattle.hg_policy_text.specs.declared.key.Key.{Key}
use Rattle.hg_policy_text.specs.declared.key.Key.TheVariants as key
use Rattle.hg_policy_text.specs.declared.key.Level.TheVariants as level
use Rattle.hg_policy_text.specs.Faults.{missing, kind, version}
use Rattle.hg_policy_text.specs.Values.{field_at, known_keys}
use Rattle.hg_policy_text.specs.Document.{top_at, policy_at}

-- the keys of a table
abbrev pub keys_in : Members → List (List ℕ)
keys_in no_members = []
keys_in (member key value rest) = key ∷ keys_in rest

-- the two say the same but for the version
pub record IsSameButVersion (one two : Members) : Type 0 where
  pub keys : keys_in two ≡ keys_in one
  pub fields : (k : Key) → k ≢ key.Version → field_at k two ≡ field_at k one

-- where the top keys are those of version 1, both versions give the same policy or the same fault
abbrev pub VersionsAgree : Type 0
VersionsAgree =
    (one two : Members)
    → IsSameButVersion one two
    → top_at one ≡ Ok level.Top → top_at two ≡ Ok level.SecondTop
    → known_keys level.Top one ≡ Ok true
    → policy_at two ≡ policy_at one

-- what version 1 accepts means the same policy in version 2
abbrev pub VersionTwoIsVersionOne : Type 0
VersionTwoIsVersionOne =
    (one two : Members) (policy : Policy)
    → IsSameButVersion one two
    → top_at one ≡ Ok level.Top → top_at two ≡ Ok level.SecondTop
    → policy_at one ≡ Ok policy → policy_at two ≡ Ok policy

-- the versions 1 and 2 are read, each with its own keys; any other number is the fault of the
-- version, another value is none of its kind, and without a value it is missing
pub record IsOneOrTwo (document : Members) : Type 0 where
  pub one : field_at key.Version document ≡ Some (integer (pos 1)) → top_at document ≡ Ok level.Top
  pub two :
      field_at key.Version document ≡ Some (integer (pos 2))
      → top_at document ≡ Ok level.SecondTop
  pub other :
      (n : ℤ) → n ≢ pos 1 → n ≢ pos 2
      → field_at key.Version document ≡ Some (integer n) → policy_at document ≡ Err version
  pub no_number :
      (value : Data) → ((n : ℤ) → value ≢ integer n)
      → field_at key.Version document ≡ Some value → policy_at document ≡ Err (kind key.Version)
  pub none : field_at key.Version document ≡ None → policy_at document ≡ Err (missing key.Version)

-- there are two versions
abbrev pub VersionsAreTwo : Type 0
VersionsAreTwo = (document : Members) → IsOneOrTwo document
