-- The number that a text names is a tenant's.
use Rattle.std.proofs.Common.{◌≡◌, ℕ, ◌<◌, List, length, position, Option, Some, None, Ok}
use Rattle.std.specs.Str.{bytes_eq}
use Rattle.std.proofs.lemmas.List.Quantifiers.{position-Some}
use Rattle.toml.specs.Data.{Data, string, integer, float, boolean, datetime, array, table}
use Rattle.hg_machine.specs.Policy.{Tenant, nobody}
use Rattle.hg_policy_text.specs.declared.key.Key.{Key}
use Rattle.hg_policy_text.specs.Faults.{Fault, or_fault, no_such_name}
use Rattle.hg_policy_text.specs.Tenants.{number_in}

or_fault-Ok : {A : Type 0} (f : Fault) (o : Option A) (x : A) → or_fault f o ≡ Ok x → o ≡ Some x
or_fault-Ok f None x e = cc
or_fault-Ok f (Some y) x e = cc

pub number_in-below : (k : Key) (tenants : List Tenant) (d : Data) (n : ℕ) → number_in k tenants d ≡ Ok n → n < length tenants
number_in-below k tenants (string text) n e =
    (position-Some (λ (tenant : Tenant). bytes_eq text tenant.name) tenants n nobody (or_fault-Ok (no_such_name text) (position (λ (tenant : Tenant). bytes_eq text tenant.name) tenants) n e)).0
number_in-below k tenants (integer z) n e = cc
number_in-below k tenants (float x) n e = cc
number_in-below k tenants (boolean b) n e = cc
number_in-below k tenants (datetime t) n e = cc
number_in-below k tenants (array a) n e = cc
number_in-below k tenants (table m) n e = cc
