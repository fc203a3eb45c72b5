-- Going over the keys of a table for one that it may not have.
use Rattle.std.proofs.Common.{◌≡◌, ℕ, List, [], ◌∷◌, Option, Some, None, true, false, String, Global, string_bytes, if◌then◌else◌, refl, sym}
use Rattle.std.specs.Map.{keys_of}
use Rattle.toml.specs.declared.value.Value.{Value}
use Rattle.toml.specs.View.{members_view}
use Rattle.hg_policy_text.specs.declared.key.Level.{Level}
use Rattle.hg_policy_text.specs.Values.{knows, first_unknown}

-- the first of these keys that isn't known
abbrev pub unknown_in : Level → List (String Global) → Option (List ℕ)
unknown_in l [] = None
unknown_in l (k ∷ ks) = if knows l (string_bytes k) then unknown_in l ks else Some (string_bytes k)

pub unknown_in-keys : (l : Level) (es : List (String Global × Value)) → unknown_in l (keys_of es) ≡ first_unknown l (members_view es)
unfolding first_unknown
unknown_in-keys l [] = refl
unknown_in-keys l (e ∷ es) = rw (unknown_in-keys l es)

module _ (l : Level) (ks : List (String Global)) (k : String Global) (rest : List (String Global)) (total : Option (List ℕ)) where
  -- a known key is passed over
  pub unknown_in-passes : ks ≡ k ∷ rest → knows l (string_bytes k) ≡ true → unknown_in l ks ≡ total → unknown_in l rest ≡ total
  unknown_in-passes at known so_far = rw (at, known) at so_far

  -- an unknown key is the first one
  pub unknown_in-stops : ks ≡ k ∷ rest → knows l (string_bytes k) ≡ false → unknown_in l ks ≡ total → total ≡ Some (string_bytes k)
  unknown_in-stops at strange so_far = sym (rw (at, strange) at so_far)
