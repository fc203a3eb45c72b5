-- The form of a name.
use Rattle.std.specs.Prelude.{◌&&◌, ◌||◌, ◌==◌, ℕ, Bool, false, List, [], ◌∷◌, length}
use Rattle.std.specs.Prelude.{Ok, Err, nat_lt, nat_le, if◌then◌else◌}
use Rattle.std.specs.List.{list_all}
use Rattle.toml.specs.Data.{Data, Members, string}
use Rattle.hg_policy_text.specs.declared.key.Key.{Key}
use Rattle.hg_policy_text.specs.Faults.{Read, ◌>>=◌, kind}
use Rattle.hg_policy_text.specs.Values.{value_at}

-- `a` to `z`
abbrev pub is_lower : ℕ → Bool
is_lower b = nat_le 97 b && nat_le b 122

-- and `0` to `9`, `_` and `-`
abbrev pub is_name_byte : ℕ → Bool
is_name_byte b = is_lower b || ((nat_le 48 b && nat_le b 57) || (b == 95 || b == 45))

-- 1 to 16 of these bytes, the first a letter
abbrev pub is_name : List ℕ → Bool
is_name [] = false
is_name (b ∷ bs) = is_lower b && (nat_lt (length bs) 16 && list_all is_name_byte bs)

abbrev pub name_in : Key → Data → Read (List ℕ)
name_in key (string text) = if is_name text then Ok text else Err (kind key)
name_in key _ = Err (kind key)

unfoldable pub name_at : Key → Members → Read (List ℕ)
name_at key members = value_at key members >>= name_in key
