-- The rule holds at the start, each step keeps it, and it tells the end.
use Rattle.std.proofs.Common.{◌≡◌, ◌≢◌, ◌⊎◌, ℕ, ◌<◌, List, [], ◌++◌, map, set}
use Rattle.std.proofs.Common.{sym, refl, ap, ◌∙◌, subst, inl, inr, ⊎_elim, arith, lt_of_not-le}
use Rattle.std.proofs.Common.{append-nil}
use mathlib.Core.Logic.{dite}
use mathlib.Core.Option.{some}
use native.Mathlib.Decide.{dec_le}
use lib.ListN.{get_elem?}
use Rattle.hg_history.specs.History.{log_of}
use Rattle.hg_history.specs.Service.{Service, IsIn, Stands, IsStranger}
use Rattle.hg_history.specs.OneRun.{IsOneRun, IsNew, HasAll, IsWhole}
use Rattle.hg_history.specs.Steps.{Moves, Decides}
use Rattle.hg_history.specs.Laws.{OneHistory}
use Rattle.hg_history.proofs.Views.{at_set, at_map}
use Rattle.hg_history.proofs.Logs.{log_append, run_append}
use Rattle.hg_history.proofs.Seats.{joined_keeps, split_keeps}

module _ {M C W P : Type 0} (x : Service M C W P) where
  pub opened : (shared : W) (views : List (List P)) → IsNew x shared views → IsOneRun x shared views
  opened shared views new = record {
    history = [];
    state = x.start;
    legal = refl;
    shown = new.shown;
    agrees = new.agrees;
    logs = λ i j part has. sym (new.no_call i j part has);
    one_part = new.one_part;
    below = new.below;
    beyond = λ name far. refl;
  }

  -- a step of the seat id, which has this view, from the state to which the history has come
  module _ (shared after : W) (views : List (List P)) (id : ℕ) (view : List P) (made : List (ℕ × C))
      (f : P → P)
      (r : IsOneRun x shared views) (at : IsIn views id view)
      (names : (j : ℕ) (part : P) → IsIn view j part → x.name (f part) ≡ x.name part)
      (logs : (j : ℕ) (part : P) → IsIn view j part
      → x.log (f part) ≡ x.log part ++ log_of (x.name part) made)
      (own : (name : ℕ) → IsStranger x view name → log_of name made ≡ [])
      (moves : Moves x r.state made after view f) where
    abbrev history' : List (ℕ × C)
    history' = r.history ++ made

    abbrev Mine : ℕ → ℕ → P → Type 0
    Mine i j b = (i ≡ id) × (a : P) × IsIn view j a × (f a ≡ b)

    abbrev Other : ℕ → ℕ → P → Type 0
    Other i j b = (i ≢ id) × Stands views i j b

    stood : (i j : ℕ) (b : P) → Stands (set views id (map f view)) i j b → Mine i j b ⊎ Other i j b
    stood i j b has = ⊎_elim
        (λ (t : (i ≡ id) × (map f view ≡ has.0)).
        let o =
        at_map f view j b (subst (λ (z : List P). get_elem? z j ≡ some b) (sym t.1) has.2) in
        inl (t.0, o.0, o.1, o.2))
        (λ (t : (i ≢ id) × (get_elem? views i ≡ some has.0)). inr (t.0, (has.0, t.1, has.2)))
        (at_set views id i (map f view) has.0 has.1)

    -- where it stood before the step, it had the name
    abbrev Before : ℕ → ℕ → P → Type 0
    Before i j b = (o : P) × Stands views i j o × (x.name o ≡ x.name b)

    was : (i j : ℕ) (b : P) → Mine i j b ⊎ Other i j b → Before i j b
    was i j b = ⊎_elim
        (λ (t : Mine i j b). (
          t.1,
          subst (λ (z : ℕ). Stands views z j t.1) (sym t.0) (view, at, t.2),
          sym (names j t.1 t.2) ∙ ap x.name t.3,
        ))
        (λ (t : Other i j b). (b, t.1, refl))

    -- a part of another seat is a stranger to the view
    strange : (i j : ℕ) (b : P) → Other i j b → IsStranger x view (x.name b)
    strange i j b t k a e is = t.0 (sym (r.one_part id k i j a b (view, at, e) t.1 is).0)

    mine_logs : (i j : ℕ) (b : P) → Mine i j b → log_of (x.name b) history' ≡ x.log b
    mine_logs i j b t =
        let a = t.1 in
        subst (λ (z : P). log_of (x.name z) history' ≡ x.log z) t.3
        (subst (λ (n : ℕ). log_of n history' ≡ x.log (f a)) (sym (names j a t.2))
        (log_append (x.name a) r.history made
        ∙ ap (λ (l : List C). l ++ log_of (x.name a) made) (r.logs id j a (view, at, t.2))
        ∙ sym (logs j a t.2)))

    -- who has made none of the calls has the log that it had
    kept_log : (name : ℕ) (log : List C) → log_of name made ≡ [] → log_of name r.history ≡ log
        → log_of name history' ≡ log
    kept_log name log none is =
        log_append name r.history made ∙ ap (λ (l : List C). log_of name r.history ++ l) none
        ∙ append-nil (log_of name r.history) ∙ is

    pub moved_on : IsOneRun x after (set views id (map f view))
    moved_on = record {
      history = history';
      state = moves.new;
      legal = run_append x.Steps x.start r.state moves.new r.history made r.legal moves.run;
      shown = moves.shown;
      agrees = λ i j b has. ⊎_elim
          (λ (t : Mine i j b). subst (λ (z : P). x.Agrees z moves.new) t.3 (moves.agrees j t.1 t.2))
          (λ (t : Other i j b). moves.others b (r.agrees i j b t.1) (strange i j b t))
          (stood i j b has);
      logs = λ i j b has. ⊎_elim (mine_logs i j b)
          (λ (t : Other i j b).
          kept_log (x.name b) (x.log b) (own (x.name b) (strange i j b t)) (r.logs i j b t.1))
          (stood i j b has);
      one_part = λ i j k l y z hy hz e.
          let by = was i j y (stood i j y hy) in
          let bz = was k l z (stood k l z hz) in
          r.one_part i j k l by.0 bz.0 by.1 bz.1 (by.2 ∙ (e ∙ sym bz.2));
      below = λ i j b has.
          let o = was i j b (stood i j b has) in
          subst (λ (z : ℕ). z < x.count) o.2 (r.below i j o.0 o.1);
      beyond = λ name far.
          kept_log name []
          (own name (λ k a e is. let l = r.below id k a (view, at, e) in absurd (omega arith)))
          (r.beyond name far);
    }

  pub decided : (shared after : W) (views : List (List P)) (id : ℕ) (view : List P)
      (made : List (ℕ × C)) (f : P → P) → IsOneRun x shared views → IsIn views id view
      → Decides x made shared after view f → IsOneRun x after (set views id (map f view))
  decided shared after views id view made f r at step =
      moved_on shared after views id view made f r at step.names step.logs step.own
      (step.moves r.state r.shown (λ j a e. r.agrees id j a (view, at, e)))

  pub ended : (shared : W) (views : List (List P)) (i : ℕ) (view : List P) → IsOneRun x shared views
      → IsIn views i view → HasAll x view → IsWhole x shared view
  ended shared views i view r at all = record {
    history = r.history;
    state = r.state;
    legal = r.legal;
    shown = r.shown;
    agrees = λ j part e. r.agrees i j part (view, at, e);
    logs = λ j part e. r.logs i j part (view, at, e);
    no_other = λ name none. dite (dec_le x.count name)
        (λ far. r.beyond name far)
        (λ near. let t = all name (lt_of_not-le near) in absurd (none t.0 t.1 t.2 t.3));
  }

pub one_history : OneHistory
one_history M C W P x = record {
  opened = opened x;
  decided = λ shared after views id view made f r at step.
      decided x shared after views id view made f r at step;
  joined = λ shared views i k one other r at differ theirs.
      joined_keeps x shared views i k one other r at differ theirs;
  split = λ shared views i one other r at. split_keeps x shared views i one other r at;
  ended = ended x;
}
