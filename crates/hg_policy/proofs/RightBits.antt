-- Sets of rights, bit by bit.
use Rattle.std.proofs.Common.{◌≡◌, ℕ, ◌*◌, ◌-◌, ◌<◌, ◌≤◌, not, ◌||◌, ◌&&◌, ◌==◌, min, zero, suc, bit_or, bit_and, refl, ap, ◌∙◌, eq-eqb, w8, arith}
use Rattle.std.specs.Int.{bit_at}
use Rattle.std.proofs.lemmas.Nat.Bits.{and_pow, bit_at_and, bit_at_not}
use Rattle.hg_place.specs.declared.Right.{Right}
use Rattle.hg_place.specs.declared.Right.TheVariants as right
use Rattle.hg_machine.specs.Policy.{has_right}
use Rattle.hg_policy.specs.declared.rights.Rights.{Rights}
use Rattle.hg_policy.specs.Rights.{rights_of, IsWithout}
use Rattle.hg_policy.proofs.GrantTable.{ne-eqb}
use Rattle.hg_policy.proofs.TenantBits.{or_bits}

-- the place of the bit of a right
place : Right → ℕ
place right.Read = 0
place right.Write = 1
place right.List = 2
place right.Free = 3

place-small : (r : Right) → place r < 8
unfolding place
place-small right.Read = omega arith
place-small right.Write = omega arith
place-small right.List = omega arith
place-small right.Free = omega arith

-- the mask of a bit is there where the bit is 1
masked : (k x : ℕ) → x ≤ 1 → (x * suc k == suc k) ≡ (x == 1)
masked k zero small = rw (ne-eqb (0 * suc k) (suc k) (λ e. omega (arith, e))) refl
masked k (suc zero) small = rw (eq-eqb (1 * suc k) (suc k) (omega arith)) refl
masked k (suc (suc x)) small = absurd (omega arith)

has-bit : (set : Rights) (r : Right) → has_right (rights_of set) r ≡ (bit_at set.0 (place r) == 1)
unfolding place
has-bit set right.Read = rw (and_pow set.0 0) (masked 0 (bit_at set.0 0) (omega arith))
has-bit set right.Write = rw (and_pow set.0 1) (masked 1 (bit_at set.0 1) (omega arith))
has-bit set right.List = rw (and_pow set.0 2) (masked 3 (bit_at set.0 2) (omega arith))
has-bit set right.Free = rw (and_pow set.0 3) (masked 7 (bit_at set.0 3) (omega arith))

pub or_rights : (x y z : Rights) → x.0 ≡ bit_or y.0 z.0 → (r : Right) → has_right (rights_of x) r ≡ (has_right (rights_of y) r || has_right (rights_of z) r)
or_rights x y z e r = rw (has-bit x r, has-bit y r, has-bit z r, e) (or_bits y.0 z.0 (place r))

one_alone : (x y : ℕ) → x ≤ 1 → y ≤ 1 → (min x (1 - y) == 1) ≡ ((x == 1) && not (y == 1))
one_alone zero zero a b = refl
one_alone zero (suc zero) a b = refl
one_alone (suc zero) zero a b = refl
one_alone (suc zero) (suc zero) a b = refl
one_alone (suc (suc x)) y a b = absurd (omega arith)
one_alone x (suc (suc y)) a b = absurd (omega arith)

pub without_rights : (y z x : Rights) → z.0 < 256 → x.0 ≡ bit_and y.0 (255 - z.0) → IsWithout y z x
without_rights y z x fits e = λ r.
    rw (has-bit x r, has-bit y r, has-bit z r, e)
    (ap (λ b. b == 1) (bit_at_and y.0 (255 - z.0) (place r) ∙ ap (min (bit_at y.0 (place r))) (bit_at_not w8 z.0 (place r) fits (place-small r)))
    ∙ one_alone (bit_at y.0 (place r)) (bit_at z.0 (place r)) (omega arith) (omega arith))
