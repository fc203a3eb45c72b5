-- The table at the end.
use Rattle.std.proofs.Common.{◌≡◌, ℕ, zero, suc, ◌<◌, List, [], ◌∷◌, map, length, refl, sym, ap, subst, ◌∙◌}
use mathlib.Core.Option.{some-injective, some-ne-none}
use Rattle.atomic_table.specs.Table.{Final, Seen}
use Rattle.hg_machine.specs.Policy.{Policy}
use Rattle.hg_history.specs.History.{log_of}
use Rattle.hg_history.specs.Service.{IsIn, Stands}
use Rattle.hg_history.specs.OneRun.{IsOneRun, HasAll}
use Rattle.hg_history.proofs.Views.{map_at}
use Rattle.hg_roles.specs.Histories.{IsRunOfAll}
use Rattle.hg_roles.specs.Names.{IsOf}
use Rattle.hg_roles.specs.Roles.{Role, of_worker, of_remote, of_pool, of_segment, name_of}
use Rattle.hg_roles.specs.Served.{running}
use Rattle.hg_roles.proofs.HistoryLemmas.{ends_are_runs}
use Rattle.hg_run_table.specs.declared.part.Part.{Part}
use Rattle.hg_run_table.specs.Seated.{name_in, number_of_name, IsThere, HasRole, HaveRoles, seated}
use Rattle.hg_run_table.specs.declared.part.SeatView.{SeatView}
use Rattle.hg_run_table.specs.Rule.{KeepsBoth}
use Rattle.hg_run_table.proofs.Alike.{number_is}
use Rattle.hg_run_table.proofs.Counts.{all_named}
use Rattle.hg_run_table.proofs.RolesOfViews.{part_at}

there_is : (policy : Policy) (role : Role) → IsThere policy (name_in role) → IsOf policy role
there_is policy (of_worker view log) is = is
there_is policy (of_remote segment sent) is = is
there_is policy (of_pool pooled) is = is
there_is policy (of_segment segment) is = is

module _ (policy : Policy) (words : List ℕ) (views : List (List Part)) (i : ℕ) (view : List Part)
    (roles : List Role) (r : IsOneRun (seated policy) words views) (seat : IsIn views i view)
    (has : HaveRoles view roles) where
  only : (k j : ℕ) (role : Role) → Stands (roles ∷ []) k j role → (k ≡ 0) × IsIn roles j role
  only zero j role it =
      (refl, subst (λ (v : List Role). IsIn v j role) (sym (some-injective roles it.0 it.1)) it.2)
  only (suc k) j role it = absurd (some-ne-none it.0 (sym it.1))

  -- the part of a role, as it stands
  part_of : (j : ℕ) (role : Role) → IsIn roles j role
      → (part : Part) × Stands views i j part × HasRole part role
  part_of j role at =
      let p = part_at view roles has j role at in (p.0, (view, seat, p.1), p.2)

  number_of : (part : Part) (role : Role) → HasRole part role
      → number_of_name policy part.name ≡ name_of policy role
  number_of part role h = ap (number_of_name policy) (sym h.named) ∙ number_is policy role

  -- of the roles alone the same history is one run
  roles_run : IsOneRun (running policy) words (roles ∷ [])
  roles_run = record {
    history = r.history;
    state = r.state;
    legal = r.legal;
    shown = r.shown;
    agrees = λ k j role it.
        let p = part_of j role (only k j role it).1 in
        (r.agrees i j p.0 p.1).like role p.2.named p.2.agrees;
    logs = λ k j role it.
        let p = part_of j role (only k j role it).1 in
        ap (λ n. log_of n r.history) (sym (number_of p.0 role p.2)) ∙ r.logs i j p.0 p.1 ∙ p.2.log;
    one_part = λ k j l n a b ha hb e.
        let u = only k j a ha in
        let v = only l n b hb in
        let p = part_of j a u.1 in
        let q = part_of n b v.1 in (
          u.0 ∙ sym v.0,
          (r.one_part i j i n p.0 q.0 p.1 q.1
              (number_of p.0 a p.2 ∙ e ∙ sym (number_of q.0 b q.2))).1,
        );
    below = λ k j role it.
        let p = part_of j role (only k j role it).1 in
        subst (λ n. n < (running policy).count) (number_of p.0 role p.2) (r.below i j p.0 p.1);
    beyond = r.beyond;
  }

  -- as many as there are names have all of them
  counted : length roles ≡ (running policy).count → HasAll (running policy) roles
  counted many name low =
      all_named (name_of policy) (running policy).count roles many
      (λ j l a b ha hb same. (roles_run.one_part 0 j 0 l a b (roles, refl, ha) (roles, refl, hb) same).1)
      (λ j role at. roles_run.below 0 j role (roles, refl, at)) name low

  whole_run : HasAll (running policy) roles → IsRunOfAll policy words roles
  whole_run all =
      ends_are_runs policy words (roles ∷ []) 0 roles roles_run refl all
      (λ j role at.
      let p = part_of j role at in
      there_is policy role (subst (IsThere policy) (sym p.2.named) (r.agrees i j p.0 p.1).there))

  counted_run : length roles ≡ (running policy).count → IsRunOfAll policy words roles
  counted_run many = whole_run (counted many)

pub ends : (policy : Policy) (i : ℕ) (view : SeatView) (words : List ℕ) (slots : List (Unit {0}))
    → Final (Seen (KeepsBoth policy) i view) words slots → (roles : List Role)
    → HaveRoles view.run roles → length roles ≡ (running policy).count
    → IsRunOfAll policy words roles
ends policy i view words slots final roles has many =
    let runs : List (List Part) = map (λ v. v.run) final.0.views in
    counted_run policy words runs i view.run roles
    (subst (λ (ws : List ℕ). IsOneRun (seated policy) ws runs) final.2 final.1.0.run)
    (map_at (λ (v : SeatView). v.run) final.0.views i view final.1.1) has many
