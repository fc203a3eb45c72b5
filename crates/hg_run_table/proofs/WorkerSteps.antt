-- A tied call of a worker is a decision of its seat.
use Rattle.std.proofs.Common.{◌≡◌, ◌+◌, ◌<◌, inl, ℕ, zero, suc, List, [], ◌∷◌, ◌++◌, map, get_or, set, length}
use Rattle.std.proofs.Common.{Option, Some, None, refl, sym, ap, subst, ◌∙◌, arith, append-nil}
use Rattle.std.proofs.lemmas.List.{set-get_or}
use mathlib.Core.Option.{some-injective, some-ne-none}
use Rattle.hg_machine.specs.Policy.{Policy}
use Rattle.hg_agreement.specs.Views.{View}
use Rattle.hg_history.specs.Service.{IsIn}
use Rattle.hg_history.specs.Steps.{Decides}
use Rattle.hg_roles.specs.Deciding.{IsSeatOf, called}
use Rattle.hg_roles.specs.Joined.{both_called}
use Rattle.hg_roles.specs.Roles.{Call, Role, of_worker, calls_in}
use Rattle.hg_roles.specs.Served.{running, places_of_policy, WordsShow}
use Rattle.hg_roles.proofs.DecidingLemmas.{ties_decide, private_calls_decide, refusals_decide}
use Rattle.hg_run_table.specs.declared.part.PartName.TheVariants.{Worker}
use Rattle.hg_run_table.specs.declared.part.Part.{Part}
use Rattle.hg_run_table.specs.Calls.{first_log, with_call, view_by, MayCall, IsTiedAlone}
use Rattle.hg_run_table.specs.Calls.{IsRefused}
use Rattle.hg_run_table.specs.JoinedCalls.{IsTiedTogether}
use Rattle.hg_table.specs.Told.{IsShownTo}
use Rattle.hg_table.specs.View as lives
use Rattle.hg_run_table.specs.Owing.{DecidesAt, DecidesAlone}
use Rattle.hg_run_table.specs.Picks.{made_by, change_by}
use Rattle.hg_run_table.specs.Seated.{name_in, HaveRoles}

-- of one role
at_one : (P : Role → Type 0) (one : Role) → P one → (j : ℕ) (role : Role) → IsIn (one ∷ []) j role
    → P role
at_one P one has zero role at = subst P (some-injective one role at) has
at_one P one has (suc j) role at = absurd (some-ne-none role (sym at))

alone : (before : View) (log : List Call) → IsSeatOf before log (of_worker before log ∷ [])
alone before log = record {
  place = 0;
  there = refl;
  others = λ j part at. inl (sym (at_one (λ r. of_worker before log ≡ r) (of_worker before log) refl j part at));
}

-- a step that leaves all words decides nothing
nothing_decided : (policy : Policy) (words later : List ℕ) (roles : List Role) → words ≡ later
    → Decides (running policy) [] words later roles (λ role. role)
nothing_decided policy words later roles same = record {
  names = λ j role at. refl;
  logs = λ j role at. sym (append-nil (calls_in role));
  own = λ name none. refl;
  moves = λ m shows agreed. record {
    new = m;
    run = refl;
    shown = subst (λ (ws : List ℕ). WordsShow policy ws m) same shows;
    agrees = agreed;
    others = λ other has none. has;
  };
}

module _ (policy : Policy) (place : ℕ) (before : View) (log : List Call) where
  abbrev roles : List Role
  roles = of_worker before log ∷ []

  tied_names : (word left : ℕ) (call : Option Call) (after : View)
      → MayCall policy place word left before call after
      → name_in (change_by call after (of_worker before log)) ≡ name_in (of_worker before log)
  tied_names word left None after may = refl
  tied_names word left (Some call) after may = ap Worker may.own.same

  tied_step : (words : List ℕ) (left : ℕ) (call : Option Call) (after : View)
      → place < places_of_policy policy
      → MayCall policy place (get_or words (place + 1) 0) left before call after
      → Decides (running policy) (made_by before call) words (set words (place + 1) left) roles
      (change_by call after)
  tied_step words left None after inside may =
      nothing_decided policy words (set words (place + 1) left) roles
      (sym (ap (λ n. set words (place + 1) n) may ∙ set-get_or words (place + 1) 0))
  tied_step words left (Some call) after inside may =
      ties_decide policy words roles log before after call.0 call.1 place left (alone before log)
      may.own inside may.alone may.ties

  pub decides_at : (known : lives.View) (leaves : ℕ → ℕ) (call : ℕ → Option Call) (after : ℕ → View)
      → ((word : ℕ) → IsShownTo (place + 1) word known
      → MayCall policy place word (leaves word) before (call word) (after word))
      → place < places_of_policy policy
      → DecidesAt policy (place + 1) known leaves roles (λ word. made_by before (call word))
      (λ word. change_by (call word) (after word))
  decides_at known leaves call after may inside words shown =
      let w : ℕ = get_or words (place + 1) 0 in record {
        decides = tied_step words (leaves w) (call w) (after w) inside (may w shown);
        names = λ j role at.
            at_one (λ r. name_in (change_by (call w) (after w) r) ≡ name_in r)
            (of_worker before log) (tied_names w (leaves w) (call w) (after w) (may w shown)) j role
            at;
      }

-- a call that rests on no word
module _ (policy : Policy) (before after : View) (log : List Call) (call : Call) where
  abbrev own_roles : List Role
  own_roles = of_worker before log ∷ []

  own_names : after.worker ≡ before.worker → (j : ℕ) (role : Role) → IsIn own_roles j role
      → name_in (called after call role) ≡ name_in role
  own_names same j role at =
      at_one (λ r. name_in (called after call r) ≡ name_in r) (of_worker before log)
      (ap Worker same) j role at

  pub decides_alone : IsTiedAlone policy before call after → (word : ℕ)
      → DecidesAlone policy own_roles ((before.worker, call) ∷ []) (called after call)
  decides_alone tied word words = record {
    decides =
        private_calls_decide policy words own_roles log before after call.0 call.1
        (alone before log) tied.own tied.none tied.ties;
    names = own_names tied.own.same;
  }

pub decides_refused : (policy : Policy) (before : View) (log : List Call) (call : Call)
    → IsRefused policy before call → (word : ℕ)
    → DecidesAlone policy (of_worker before log ∷ []) ((before.worker, call) ∷ [])
    (called before call)
decides_refused policy before log call is word words = record {
  decides =
      refusals_decide policy words (of_worker before log ∷ []) log before call.0 call.1
      (alone before log) is.worker is.refused;
  names = own_names policy before before log call refl;
}

-- the log of the first part, which is a worker's
pub log_is : (view : List Part) (before : View) (log : List Call) (rest : List Role)
    → HaveRoles view (of_worker before log ∷ rest) → first_log view ≡ log
log_is [] before log rest has = let n = has.count in absurd (omega arith)
log_is (part ∷ more) before log rest has = (has.each 0 part (of_worker before log) refl refl).log

pub own_log : (view : List Part) (before : View) (log : List Call)
    → HaveRoles view (of_worker before log ∷ [])
    → HaveRoles view (of_worker before (first_log view) ∷ [])
own_log view before log has =
    subst (λ l. HaveRoles view (of_worker before l ∷ [])) (sym (log_is view before log [] has)) has

-- what a seat has after a step that decides a call, or none
pub called_is : (view : List Part) (before after : View) (log : List Call) (call : Option Call)
    → HaveRoles view (map (change_by call after) (of_worker before log ∷ []))
    → (first_log view ≡ with_call log call)
    × HaveRoles view (of_worker (view_by before call after) (first_log view) ∷ [])
called_is view before after log None has = (log_is view before log [] has, own_log view before log has)
called_is view before after log (Some call) has =
    (log_is view after (log ++ call ∷ []) [] has, own_log view after (log ++ call ∷ []) has)

pub called_alone : (view : List Part) (after : View) (log : List Call)
    → HaveRoles view (of_worker after log ∷ [])
    → (first_log view ≡ log) × HaveRoles view (of_worker after (first_log view) ∷ [])
called_alone view after log has = (log_is view after log [] has, own_log view after log has)

-- of a worker and another part
pub together : (policy : Policy) (before after : View) (log : List Call) (call : Call)
    (role left : Role) → IsTiedTogether policy before log call after role left → (word : ℕ)
    → DecidesAlone policy (of_worker before log ∷ role ∷ []) ((before.worker, call) ∷ [])
    (both_called after left call)
together policy before after log call role left is word words = record {
  decides = is.decides words;
  names = named;
}
  where
    named : (j : ℕ) (other : Role) → IsIn (of_worker before log ∷ role ∷ []) j other
        → name_in (both_called after left call other) ≡ name_in other
    named zero other at =
        subst (λ r. name_in (both_called after left call r) ≡ name_in r)
        (some-injective (of_worker before log) other at) (ap Worker is.worker)
    named (suc zero) other at =
        subst (λ r. name_in (both_called after left call r) ≡ name_in r)
        (some-injective role other at) (ap name_in is.left_is ∙ is.named)
    named (suc (suc j)) other at = absurd (some-ne-none other (sym at))

-- the seats joined: the log is the worker's still, and the call is tied there
module _ (policy : Policy) (joined view : List Part) (before after : View) (call : Call)
    (role left : Role) (is : IsTiedTogether policy before (first_log view) call after role left)
    (has : HaveRoles joined (of_worker before (first_log view) ∷ role ∷ [])) where
  same_log : first_log view ≡ first_log joined
  same_log = sym (log_is joined before (first_log view) (role ∷ []) has)

  pub joined_roles : HaveRoles joined (of_worker before (first_log joined) ∷ role ∷ [])
  joined_roles = subst (λ l. HaveRoles joined (of_worker before l ∷ role ∷ [])) same_log has

  pub joined_tied : IsTiedTogether policy before (first_log joined) call after role left
  joined_tied = subst (λ l. IsTiedTogether policy before l call after role left) same_log is

  -- what the two seats have after the step and the cut
  module _ (now one other : List Part)
      (stepped : HaveRoles now
      (map (both_called after left call) (of_worker before (first_log joined) ∷ role ∷ [])))
      (cut : (roles theirs : List Role) → length roles ≡ 1 → HaveRoles now (roles ++ theirs)
      → HaveRoles one roles × HaveRoles other theirs) where
    parted : HaveRoles one (of_worker after (first_log joined ++ call ∷ []) ∷ [])
        × HaveRoles other (left ∷ [])
    parted =
        cut (of_worker after (first_log joined ++ call ∷ []) ∷ []) (left ∷ []) refl
        (subst (λ r. HaveRoles now (of_worker after (first_log joined ++ call ∷ []) ∷ r ∷ []))
        is.left_is stepped)

    pub together_log : first_log one ≡ first_log view ++ call ∷ []
    together_log =
        (called_alone one after (first_log joined ++ call ∷ []) parted.0).0
        ∙ ap (λ (l : List Call). l ++ call ∷ []) (sym same_log)

    pub together_worker : HaveRoles one (of_worker after (first_log one) ∷ [])
    together_worker = (called_alone one after (first_log joined ++ call ∷ []) parted.0).1

    pub together_other : HaveRoles other (left ∷ [])
    together_other = parted.1
