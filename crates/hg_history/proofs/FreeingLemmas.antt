-- Of workers that free one block the first one that is answered frees it.
use Rattle.std.proofs.Common.{◌≡◌, ◌≢◌, inl, inr, ℕ, zero, suc, ◌+◌, ◌<◌, Bool, true, false, List}
use Rattle.std.proofs.Common.{[], ◌∷◌, ◌++◌}
use Rattle.std.proofs.Common.{map, refl, sym, ap, subst, ◌∙◌, arith}
use Rattle.std.specs.List.{All, range_with_len}
use mathlib.Core.Option.{Option, none, some, some-injective, some-ne-none}
use lib.ListN.{get_elem?}
use Rattle.hg_history.specs.History.{log_of, IsRun}
use Rattle.hg_history.specs.Service.{IsIn, Stands}
use Rattle.hg_history.specs.OneRun.{IsOneRun, IsNew}
use Rattle.hg_history.specs.Steps.{Decides}
use Rattle.hg_history.specs.Freeing.{Frees, Stage, before, looked, knows, Worker, left, stage_after}
use Rattle.hg_history.specs.Freeing.{said, moved, after_one, after_all, new_worker, after_schedule}
use Rattle.hg_history.specs.Freeing.{freeing, SeatsKeepOneHistory, FirstAlone, FirstFreesAlone}
use Rattle.hg_history.proofs.Views.{at_set, at_map, map_at, map_set}
use Rattle.hg_history.proofs.Logs.{log_own, log_else}
use Rattle.hg_history.proofs.OneRunLemmas.{opened, decided, one_history}

-- a worker is the one part of its view
abbrev alone : Worker → List Worker
alone worker = worker ∷ []

at_alone : (worker : Worker) (j : ℕ) (part : Worker) → IsIn (alone worker) j part
    → (j ≡ 0) × (worker ≡ part)
at_alone worker zero part e = (refl, some-injective worker part e)
at_alone worker (suc j) part e = absurd (some-ne-none part (sym e))

abbrev calls : ℕ → List Bool → List (ℕ × Bool)
calls name answers = map (λ answer. (name, answer)) answers

unlooked : looked ≢ knows
unlooked e = absurd (cc)

unbegun : before ≢ knows
unbegun e = absurd (cc)

-- what the machine does at a step of a worker at this stage
record Goes (stage : Stage) (name : ℕ) (word old : Bool) : Type 0 where
  pub new : Bool
  pub run : IsRun Frees old (calls name (said stage word)) new
  pub shown : left stage word ≡ new
  pub knowing : stage_after stage word ≡ knows → new ≡ false
  pub falls : old ≡ false → new ≡ false

goes : (stage : Stage) (name : ℕ) (word old : Bool) → word ≡ old → (stage ≡ knows → old ≡ false)
    → Goes stage name word old
goes before name true old shows knew = record {
  new = old;
  run = refl;
  shown = shows;
  knowing = λ e. absurd (unlooked e);
  falls = λ e. e;
}
goes before name false old shows knew = record {
  new = false;
  run = (false, (shows, refl), refl);
  shown = refl;
  knowing = λ e. refl;
  falls = λ e. refl;
}
goes looked name word old shows knew = record {
  new = false;
  run = (false, (shows, refl), refl);
  shown = refl;
  knowing = λ e. refl;
  falls = λ e. refl;
}
goes knows name word old shows knew = record {
  new = false;
  run = (false, (sym (knew refl), refl), refl);
  shown = shows ∙ knew refl;
  knowing = λ e. refl;
  falls = λ e. refl;
}

-- so each step of a worker decides what it says
decides : (count : ℕ) (word : Bool) (worker : Worker)
    → Decides (freeing count) (calls worker.name (said worker.stage word)) word
    (left worker.stage word) (alone worker) (moved word)
decides count word worker = record {
  names = λ j part has. refl;
  logs = λ j part has.
      subst
      (λ (p : Worker).
      p.log ++ said p.stage word
      ≡ p.log ++ log_of p.name (calls worker.name (said worker.stage word)))
      ((at_alone worker j part has).1)
      (ap (λ (l : List Bool). worker.log ++ l)
      (sym (log_own worker.name (said worker.stage word))));
  own = λ name strange. log_else worker.name name (said worker.stage word) (strange 0 worker refl);
  moves = λ m shows agrees.
      let g = goes worker.stage worker.name word m shows (agrees 0 worker refl) in record {
        new = g.new;
        run = g.run;
        shown = g.shown;
        agrees = λ j part has.
            subst (λ (p : Worker). stage_after p.stage word ≡ knows → g.new ≡ false)
            ((at_alone worker j part has).1) g.knowing;
        others = λ other agreed strange. λ knew. g.falls (agreed knew);
      };
}

abbrev views_of : List Worker → List (List Worker)
views_of workers = map alone workers

abbrev Now : ℕ → Bool × List Worker → Type 0
Now count now = IsOneRun (freeing count) now.0 (views_of now.1)

one_step : (count i : ℕ) (word : Bool) (workers : List Worker) (o : Option Worker)
    → get_elem? workers i ≡ o → Now count (word, workers) → Now count (after_one o i word workers)
one_step count i word workers none at r = r
one_step count i word workers (some worker) at r =
    subst (λ (views : List (List Worker)). IsOneRun (freeing count) (left worker.stage word) views)
    (sym (map_set alone workers i (moved word worker)))
    (decided (freeing count) word (left worker.stage word) (views_of workers) i (alone worker)
    (calls worker.name (said worker.stage word)) (moved word) r
    (map_at alone workers i worker at) (decides count word worker))

-- each worker has its number as its name
abbrev Named : List Worker → Type 0
Named workers = (i : ℕ) (worker : Worker) → IsIn workers i worker → worker.name ≡ i

named_step : (i : ℕ) (word : Bool) (workers : List Worker) (o : Option Worker)
    → get_elem? workers i ≡ o → Named workers → Named (after_one o i word workers).1
named_step i word workers none at named = named
named_step i word workers (some worker) at named = λ k other has.
    elim (at_set workers i k (moved word worker) other has) as (λ _. other.name ≡ k) [
      | inl here ↦ ap (λ (w : Worker). w.name) (sym here.1) ∙ named i worker at ∙ sym here.0
      | inr there ↦ named k other there.1
    ]

all_steps : (count : ℕ) (schedule : List ℕ) (word : Bool) (workers : List Worker)
    → Now count (word, workers) → Named workers
    → Now count (after_all schedule word workers) × Named (after_all schedule word workers).1
all_steps count [] word workers r named = (r, named)
all_steps count (i ∷ schedule) word workers r named =
    let o = get_elem? workers i in
    let now = after_one o i word workers in
    all_steps count schedule now.0 now.1 (one_step count i word workers o refl r)
    (named_step i word workers o refl named)

-- the workers at the start
started : (first count i : ℕ) (worker : Worker)
    → IsIn (map new_worker (range_with_len first count)) i worker
    → (new_worker (first + i) ≡ worker) × (i < count)
started first zero i worker has = absurd (some-ne-none worker (sym has))
started first (suc count) zero worker has =
    (ap new_worker (omega arith) ∙ some-injective _ worker has, omega arith)
started first (suc count) (suc i) worker has =
    let rest = started (first + 1) count i worker has in
    (ap new_worker (omega arith) ∙ rest.0, (let h = rest.1 in omega arith))

abbrev fresh : ℕ → List Worker
fresh count = map new_worker (range_with_len 0 count)

stands_new : (count i j : ℕ) (worker : Worker) → Stands (views_of (fresh count)) i j worker
    → (j ≡ 0) × (new_worker i ≡ worker) × (i < count)
stands_new count i j worker has =
    let one = at_map alone (fresh count) i has.0 has.1 in
    let it =
    at_alone one.0 j worker (subst (λ (v : List Worker). IsIn v j worker) (sym one.2) has.2) in
    let new = started 0 count i one.0 one.1 in
    (it.0, ap new_worker (omega arith) ∙ new.0 ∙ it.1, new.1)

new_views : (count : ℕ) → IsNew (freeing count) true (views_of (fresh count))
new_views count = record {
  shown = refl;
  agrees = λ i j worker has knew.
      absurd (unbegun (ap (λ (w : Worker). w.stage) (stands_new count i j worker has).1 ∙ knew));
  no_call = λ i j worker has. ap (λ (w : Worker). w.log) (sym (stands_new count i j worker has).1);
  one_part = λ i j k l a b ha hb e.
      let x = stands_new count i j a ha in
      let y = stands_new count k l b hb in
      (ap (λ (w : Worker). w.name) x.1 ∙ e ∙ ap (λ (w : Worker). w.name) (sym y.1), x.0 ∙ sym y.0);
  below = λ i j worker has.
      let x = stands_new count i j worker has in
      subst (λ (w : Worker). w.name < count) x.1 x.2;
}

-- once the block is freed each call is answered no
none_frees : (history : List (ℕ × Bool)) (new : Bool) → IsRun Frees false history new
    → All (λ made. made.1 ≡ false) history
none_frees [] new run k d below = absurd (omega arith)
none_frees (made ∷ more) new run zero d below = run.1.0
none_frees (made ∷ more) new run (suc k) d below =
    none_frees more new (subst (λ (z : Bool). IsRun Frees z more new) run.1.1 run.2) k d
    (omega arith)

first_alone : (history : List (ℕ × Bool)) (new : Bool) → IsRun Frees true history new
    → FirstAlone history
first_alone [] new run = tt
first_alone (made ∷ more) new run =
    (run.1.0, none_frees more new (subst (λ (z : Bool). IsRun Frees z more new) run.1.1 run.2))

pub first_frees_alone : FirstFreesAlone
first_frees_alone count schedule =
    let start : Now count (true, fresh count) =
    opened (freeing count) true (views_of (fresh count)) (new_views count) in
    let named : Named (fresh count) = λ i worker has.
    ap (λ (w : Worker). w.name) (sym (started 0 count i worker has).0) ∙ omega arith in
    let end = all_steps count schedule true (fresh count) start named in
    let r = end.0 in (
      r.history,
      first_alone r.history r.state r.legal,
      λ i worker has.
          subst (λ (n : ℕ). log_of n r.history ≡ worker.log) (end.1 i worker has)
          (r.logs i 0 worker
          (alone worker, map_at alone (after_schedule count schedule).1 i worker has, refl)),
      r.beyond,
    )

pub seats_keep_one_history : SeatsKeepOneHistory
seats_keep_one_history count = one_history Bool Bool Bool Worker (freeing count)
