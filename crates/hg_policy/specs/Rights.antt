-- Sets of rights as bits.
use Rattle.std.specs.Prelude.{ℕ, ◌≡◌, ◌==◌, ◌&&◌, Bool, true, not, List, [], ◌∷◌, codes}
use Rattle.std.specs.Int.RustNames.{bit_and}
use Rattle.hg_place.specs.declared.Right.{Right}
use Rattle.hg_place.specs.declared.Right.TheVariants as right
use Rattle.hg_machine.specs.Policy as meaning
use Rattle.hg_machine.specs.Policy.{has_right}
use Rattle.hg_policy.specs.declared.rights.Rights.{Rights}

-- the bits' names
abbrev pub rights_table : List (List ℕ × ℕ)
rights_table =
    (codes "READ", 1) ∷ (codes "WRITE", 2) ∷ (codes "LIST", 4) ∷ (codes "FREE", 8) ∷ []

-- the bit of a right
abbrev pub bit_of : Right → ℕ
bit_of right.Read = 1
bit_of right.Write = 2
bit_of right.List = 4
bit_of right.Free = 8

abbrev pub is_same : Right → Right → Bool
is_same a b = bit_of a == bit_of b

abbrev pub has_bit : Rights → Right → Bool
has_bit rights right = bit_and rights.0 (bit_of right) == bit_of right

-- the set of none
abbrev pub nothing : Rights
nothing = record { 0 = 0 }

-- the rights that a set has
abbrev pub rights_of : Rights → meaning.Rights
rights_of rights = record {
  read = has_bit rights right.Read;
  write = has_bit rights right.Write;
  list = has_bit rights right.List;
  free = has_bit rights right.Free;
}

-- the rights of one set that another lacks, as a third
abbrev pub IsWithout : Rights → Rights → Rights → Type 0
IsWithout rights less rest =
    (right : Right) → has_right (rights_of rest) right
    ≡ (has_right (rights_of rights) right && not (has_right (rights_of less) right))

abbrev pub all_rights : meaning.Rights
all_rights = record { read = true; write = true; list = true; free = true }

-- one right more
abbrev pub and_right : meaning.Rights → Right → meaning.Rights
and_right rights right.Read = record rights { read = true }
and_right rights right.Write = record rights { write = true }
and_right rights right.List = record rights { list = true }
and_right rights right.Free = record rights { free = true }
