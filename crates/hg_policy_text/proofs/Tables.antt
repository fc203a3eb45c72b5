-- What stands at a value of each type.
use Rattle.std.proofs.Common.{◌≡◌, ℕ, position, List, [], ◌∷◌, ◌++◌, Some, None, Ok, Err, refl}
use Rattle.std.proofs.lemmas.Option.{same_Some}
use Rattle.toml.specs.Data.{Data, Items, Members, as_str, as_array, as_table, string, integer, float, boolean, datetime, array, table}
use Rattle.hg_policy_text.specs.declared.key.Key.{Key}
use Rattle.hg_policy_text.specs.Faults.{kind, or_fault, no_such_name}
use Rattle.hg_policy_text.specs.Values.{with_table, elements, elements_in}
use Rattle.hg_policy_text.specs.Tenants.{number_in}
use Rattle.hg_machine.specs.Policy.{Tenant}
use Rattle.std.specs.Str.{bytes_eq}

module _ (k : Key) (done : List Members) where
  pub with_table-Some : (d : Data) (m : Members) → Some m ≡ as_table d → with_table k done d ≡ Ok (done ++ m ∷ [])
  with_table-Some (string s) m e = cc
  with_table-Some (integer z) m e = cc
  with_table-Some (float x) m e = cc
  with_table-Some (boolean b) m e = cc
  with_table-Some (datetime t) m e = cc
  with_table-Some (array a) m e = cc
  with_table-Some (table ms) m e = rw (same_Some _ _ e)

  pub with_table-None : (d : Data) → None ≡ as_table d → with_table k done d ≡ Err (kind k)
  with_table-None (string s) e = refl
  with_table-None (integer z) e = refl
  with_table-None (float x) e = refl
  with_table-None (boolean b) e = refl
  with_table-None (datetime t) e = refl
  with_table-None (array a) e = refl
  with_table-None (table ms) e = cc

pub elements_in-Some : (k : Key) (d : Data) (items : Items) → Some items ≡ as_array d → elements_in k d ≡ Ok (elements items)
elements_in-Some k (string s) items e = cc
elements_in-Some k (integer z) items e = cc
elements_in-Some k (float x) items e = cc
elements_in-Some k (boolean b) items e = cc
elements_in-Some k (datetime t) items e = cc
elements_in-Some k (array a) items e = rw (same_Some _ _ e)
elements_in-Some k (table ms) items e = cc

pub number_in-text : (k : Key) (tenants : List Tenant) (d : Data) (text : List ℕ) → Some text ≡ as_str d → number_in k tenants d ≡ or_fault (no_such_name text) (position (λ tenant. bytes_eq text tenant.name) tenants)
number_in-text k tenants (string s) text e = rw (same_Some _ _ e)
number_in-text k tenants (integer z) text e = cc
number_in-text k tenants (float x) text e = cc
number_in-text k tenants (boolean b) text e = cc
number_in-text k tenants (datetime t) text e = cc
number_in-text k tenants (array a) text e = cc
number_in-text k tenants (table ms) text e = cc
