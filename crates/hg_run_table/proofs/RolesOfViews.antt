-- Views whose parts have roles: one after another, cut, and after a step.
use Rattle.std.proofs.Common.{◌≡◌, ⊎_elim, ℕ, zero, suc, ◌+◌, ◌<◌, List, [], ◌∷◌, ◌++◌, length}
use Rattle.std.proofs.Common.{take, drop, map, refl, sym, subst, ◌∙◌, arith, length-append}
use Rattle.std.proofs.lemmas.List.{take-append-drop, length-take-le, length-map}
use mathlib.Core.Option.{some}
use lib.ListN.{get_elem?}
use Rattle.hg_history.specs.Service.{IsIn}
use Rattle.hg_history.proofs.Views.{at_append, at_below, at_first, at_map, at_second}
use Rattle.hg_machine.specs.declared.Event.{Event}
use Rattle.hg_roles.specs.Roles.{Role}
use Rattle.hg_run_table.specs.declared.part.Part.{Part}
use Rattle.hg_run_table.specs.Asked.{asking}
use Rattle.hg_run_table.specs.Seated.{HasRole, HaveRoles}

-- some entry stands at each place below the length
pub there : {A : Type 0} (xs : List A) (i : ℕ) → i < length xs → (a : A) × (get_elem? xs i ≡ some a)
there [] i below = absurd (omega arith)
there (x ∷ xs) zero below = (x, refl)
there (x ∷ xs) (suc i) below = there xs i (omega arith)

module _ (view : List Part) (roles : List Role) (has : HaveRoles view roles) where
  -- the role of a part, and the part of a role
  pub role_at : (j : ℕ) (part : Part) → IsIn view j part
      → (role : Role) × IsIn roles j role × HasRole part role
  role_at j part at =
      let h = at_below view j part at in
      let n = has.count in
      let r = there roles j (omega arith) in
      (r.0, r.1, has.each j part r.0 at r.1)

  pub part_at : (j : ℕ) (role : Role) → IsIn roles j role
      → (part : Part) × IsIn view j part × HasRole part role
  part_at j role at =
      let h = at_below roles j role at in
      let n = has.count in
      let p = there view j (omega arith) in
      (p.0, p.1, has.each j p.0 role p.1 at)

  pub joined_have : (more : List Part) (theirs : List Role) → HaveRoles more theirs
      → HaveRoles (view ++ more) (roles ++ theirs)
  joined_have more theirs have = record {
    count =
        let a = length-append view more in
        let b = length-append roles theirs in
        let n = has.count in
        let k = have.count in
        omega arith;
    each = λ j part role hp hr. ⊎_elim
        (λ (p : IsIn view j part). ⊎_elim (λ (r : IsIn roles j role). has.each j part role p r)
        (λ (r : (k : ℕ) × (j ≡ length roles + k) × IsIn theirs k role).
        let below = at_below view j part p in
        let n = has.count in
        let e = r.1 in
        absurd (omega arith))
        (at_append roles theirs j role hr))
        (λ (p : (k : ℕ) × (j ≡ length view + k) × IsIn more k part). ⊎_elim
        (λ (r : IsIn roles j role).
        let below = at_below roles j role r in
        let n = has.count in
        let e = p.1 in
        absurd (omega arith))
        (λ (r : (k : ℕ) × (j ≡ length roles + k) × IsIn theirs k role).
        let n = has.count in
        let e = p.1 in
        let f = r.1 in
        have.each p.0 part role p.2
        (subst (λ (i : ℕ). IsIn theirs i role) (omega arith) r.2))
        (at_append roles theirs j role hr))
        (at_append view more j part hp);
  }

-- two views one after the other, of which the first has as many parts as the first roles are
both_have : (view more : List Part) (one other : List Role) → length view ≡ length one
    → HaveRoles (view ++ more) (one ++ other) → HaveRoles view one × HaveRoles more other
both_have view more one other same has = (
  record {
    count = same;
    each = λ j part role p r.
        has.each j part role (at_first view more j part p) (at_first one other j role r);
  },
  record {
    count =
        let a = length-append view more in
        let b = length-append one other in
        let n = has.count in
        omega arith;
    each = λ j part role p r.
        has.each (length view + j) part role (at_second view more j part p)
        (subst (λ (i : ℕ). IsIn (one ++ other) (i + j) role) (sym same)
        (at_second one other j role r));
  },
)

pub cut_have : (view : List Part) (n : ℕ) (one other : List Role) → length one ≡ n
    → HaveRoles view (one ++ other) → HaveRoles (take n view) one × HaveRoles (drop n view) other
cut_have view n one other is has =
    let k = has.count in
    let a = length-append one other in
    both_have (take n view) (drop n view) one other
    (length-take-le n view (omega arith) ∙ sym is)
    (subst (λ (v : List Part). HaveRoles v (one ++ other)) (sym (take-append-drop n view)) has)

-- whatever it is asked, a part has the roles that it has
pub asked_have : (asked : List (List Event)) (view : List Part) (roles : List Role)
    → HaveRoles view roles → HaveRoles (map (asking asked) view) roles
asked_have asked view roles has = record {
  count = length-map view (asking asked) ∙ has.count;
  each = λ j part role p r.
      let x = at_map (asking asked) view j part p in
      let h = has.each j x.0 role x.1 r in
      subst (λ (z : Part). HasRole z role) x.2
      (record { named = h.named; log = h.log; agrees = h.agrees });
}
