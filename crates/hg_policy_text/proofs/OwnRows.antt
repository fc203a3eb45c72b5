-- The rights on one's own blocks.
use Rattle.std.proofs.Common.{◌≡◌, ℕ, List, refl, ap, ◌∙◌, eq-eqb}
use Rattle.hg_place.specs.declared.Right.{Right}
use Rattle.hg_place.specs.declared.Right.TheVariants as right
use Rattle.hg_machine.specs.Policy as meaning
use Rattle.hg_machine.specs.Policy.{has_right}
use Rattle.hg_policy_text.specs.Lines as lines
use Rattle.hg_policy_text.specs.Lines.{rights_by}

pub same_rights : (a b : meaning.Rights) → ((r : Right) → has_right a r ≡ has_right b r) → a ≡ b
same_rights a b h =
    ap (λ x. record { read = x; write = a.write; list = a.list; free = a.free }) (h right.Read)
    ∙ ap (λ x. record { read = b.read; write = x; list = a.list; free = a.free }) (h right.Write)
    ∙ ap (λ x. record { read = b.read; write = b.write; list = x; free = a.free }) (h right.List)
    ∙ ap (λ x. record { read = b.read; write = b.write; list = b.list; free = x }) (h right.Free)

pub own_here : (own : meaning.Rights) (named_by : List lines.Line) (owner : ℕ) → rights_by own named_by owner owner ≡ own
own_here own named_by owner = same_rights _ own (λ r. elim r as (λ r. has_right (rights_by own named_by owner owner) r ≡ has_right own r) [
  | right.Read ↦ rw (eq-eqb owner owner refl) refl
  | right.Write ↦ rw (eq-eqb owner owner refl) refl
  | right.List ↦ rw (eq-eqb owner owner refl) refl
  | right.Free ↦ rw (eq-eqb owner owner refl) refl
])
