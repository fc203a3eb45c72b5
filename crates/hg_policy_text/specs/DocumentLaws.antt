-- Laws of what a document means.
use Rattle.std.specs.Prelude.{◌≡◌, ◌≢◌, ℕ, true, List, length, Ok, All, AllPairs}
use Rattle.hg_machine.specs.Policy.{Policy}
use Rattle.hg_machine.specs.SoundPolicy.{IsSoundPolicy}
use Rattle.hg_policy_text.specs.NameForm.{is_name}
use Rattle.hg_policy.specs.Names.{tenant_names}
use Rattle.hg_policy_text.specs.Document.{document_of}

-- no two are the same, and each has the form of a name
pub record AreNames (names : List (List ℕ)) : Type 0 where
  pub distinct : AllPairs (λ name other. name ≢ other) names
  pub formed : All (λ name. is_name name ≡ true) names

-- the tables of a policy have a place for each arena and each tenant, and no more
pub record HasWholeTables (policy : Policy) : Type 0 where
  pub arenas : length policy.admitted ≡ length policy.arenas
  pub admitted : All (λ admitted. length admitted ≡ length policy.tenants) policy.admitted
  pub owners : length policy.granted ≡ length policy.tenants
  pub granted : All (λ granted. length granted ≡ length policy.tenants) policy.granted
  pub forbidden_owners : length policy.forbidden ≡ length policy.tenants
  pub forbidden : All (λ forbidden. length forbidden ≡ length policy.tenants) policy.forbidden

-- the tenants of a policy that was read have names, and so have its arenas
abbrev pub NamesAreDistinct : Type 0
NamesAreDistinct =
    (text : List ℕ) (policy : Policy) → document_of text ≡ Ok policy
    → AreNames (tenant_names policy.tenants) × AreNames policy.arenas

-- the tables of a policy that was read fit its arenas and tenants
abbrev pub TablesAreWhole : Type 0
TablesAreWhole =
    (text : List ℕ) (policy : Policy) → document_of text ≡ Ok policy → HasWholeTables policy

-- a policy that was read is sound
abbrev pub DocumentsAreSound : Type 0
DocumentsAreSound =
    (text : List ℕ) (policy : Policy) → document_of text ≡ Ok policy → IsSoundPolicy policy
