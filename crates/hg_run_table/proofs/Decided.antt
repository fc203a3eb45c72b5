-- A step that decides calls of roles keeps the rule of parts that have these roles.
use Rattle.std.proofs.Common.{◌≡◌, ℕ, List, ◌++◌, map, set, refl, sym, ap, subst, ◌∙◌}
use Rattle.std.proofs.lemmas.List.{length-map}
use Rattle.hg_machine.specs.Policy.{Policy}
use Rattle.hg_machine.specs.State.{State}
use Rattle.hg_machine.specs.Soundness.{IsSound}
use Rattle.hg_history.specs.History.{log_of}
use Rattle.hg_history.specs.Service.{IsIn, IsStranger}
use Rattle.hg_history.specs.OneRun.{IsOneRun}
use Rattle.hg_history.specs.Steps.{Decides}
use Rattle.hg_history.proofs.OneRunLemmas.{decided}
use Rattle.hg_history.proofs.Views.{at_map}
use Rattle.hg_roles.specs.Roles.{Call, Role, RoleAgrees, name_of, calls_in}
use Rattle.hg_roles.specs.Served.{running}
use Rattle.hg_run_table.specs.declared.part.Part.{Part}
use Rattle.hg_run_table.specs.Owing.{IsDecided}
use Rattle.hg_run_table.specs.Seated.{name_in, number_of_name, HasRole, HaveRoles, PartAgrees, seated}
use Rattle.hg_run_table.proofs.Alike.{alike, number_is}
use Rattle.hg_run_table.proofs.RolesOfViews.{role_at, part_at}

module _ (policy : Policy) (words later : List ℕ) (view : List Part) (roles : List Role)
    (made : List (ℕ × Call)) (change : Role → Role) (has : HaveRoles view roles)
    (is : IsDecided policy words later roles made change) where
  abbrev step : Decides (running policy) made words later roles change
  step = is.decides

  abbrev kept : (j : ℕ) (role : Role) → IsIn roles j role → name_in (change role) ≡ name_in role
  kept = is.names

  -- the number of a part is that of its role
  number_at : (part : Part) (role : Role) → HasRole part role
      → number_of_name policy part.name ≡ name_of policy role
  number_at part role h = ap (number_of_name policy) (sym h.named) ∙ number_is policy role

  strange : (n : ℕ) → IsStranger (seated policy) view n → IsStranger (running policy) roles n
  strange n none j role at is =
      let p = part_at view roles has j role at in
      none j p.0 p.1 (number_at p.0 role p.2 ∙ is)

  agreed : (m : State) → ((j : ℕ) (part : Part) → IsIn view j part → PartAgrees policy part m)
      → (j : ℕ) (role : Role) → IsIn roles j role → RoleAgrees role m
  agreed m all j role at =
      let p = part_at view roles has j role at in
      (all j p.0 p.1).like role p.2.named p.2.agrees

  -- a part after the step, which has of the state t what it has
  abbrev carried : State → Part → Part
  carried t part = record {
    name = part.name;
    log = part.log ++ log_of (number_of_name policy part.name) made;
    asked = part.asked;
    witness = t;
  }

  module _ (t : State) (sound : IsSound t)
      (agrees : (j : ℕ) (role : Role) → IsIn roles j role → RoleAgrees (change role) t) where
    parts_decide : Decides (seated policy) made words later view (carried t)
    parts_decide = record {
      names = λ j part at. refl;
      logs = λ j part at. refl;
      own = λ n none. step.own n (strange n none);
      moves = λ m shows all.
          let mv = step.moves m shows (agreed m all) in record {
            new = mv.new;
            run = mv.run;
            shown = mv.shown;
            agrees = λ j part at. record {
              there = (all j part at).there;
              like = λ role named with.
                  let r = role_at view roles has j part at in
                  alike t mv.new (change r.0) role
                  (kept j r.0 r.1 ∙ r.2.named ∙ sym named) sound mv.shown.sound
                  (agrees j r.0 r.1) (mv.agrees j r.0 r.1) with;
            };
            others = λ other has_it none. record {
              there = has_it.there;
              like = λ role named with.
                  mv.others role (has_it.like role named with)
                  (strange (name_of policy role)
                  (subst (IsStranger (seated policy) view)
                  (ap (number_of_name policy) (sym named) ∙ number_is policy role) none));
            };
          };
    }

    carried_have : HaveRoles (map (carried t) view) (map change roles)
    carried_have = record {
      count = length-map view (carried t) ∙ has.count ∙ sym (length-map roles change);
      each = λ j part role p r.
          let a = at_map (carried t) view j part p in
          let b = at_map change roles j role r in
          let h = has.each j a.0 b.0 a.1 b.1 in
          subst (λ (part : Part). HasRole part role) a.2
          (subst (HasRole (carried t a.0)) b.2 (record {
            named = kept j b.0 b.1 ∙ h.named;
            log =
                ap (λ (l : List Call). l ++ log_of (number_of_name policy a.0.name) made) h.log
                ∙ ap (λ n. calls_in b.0 ++ log_of n made) (number_at a.0 b.0 h)
                ∙ sym (step.logs j b.0 b.1);
            agrees = agrees j b.0 b.1;
          }));
    }

  -- so there is a view with which the rule is kept, of which the parts have the roles after the step
  pub keeps_on : (views : List (List Part)) (i : ℕ) → IsOneRun (seated policy) words views
      → IsIn views i view
      → (new : List Part) × IsOneRun (seated policy) later (set views i new)
      × HaveRoles new (map change roles)
  keeps_on views i r at =
      let mv =
      step.moves r.state r.shown
      (agreed r.state (λ j part e. r.agrees i j part (view, at, e))) in (
        map (carried mv.new) view,
        decided (seated policy) words later views i view made (carried mv.new) r at
            (parts_decide mv.new mv.shown.sound mv.agrees),
        carried_have mv.new mv.shown.sound mv.agrees,
      )
