-- Calls that do nothing, and what is parked again.
use Rattle.std.proofs.Common.{◌≡◌, ◌<◌, ℕ, zero, suc, true, false, List, [], ◌∷◌, slice_get, slice_set, Option, None, Some, Result, Ok, Err, IfSome, IfNone, MatchOption, MatchResult, option_map, sym, ap, subst, refl, arith, ◌∙◌}
use Rattle.std.proofs.lemmas.Option.{none-some, same_Some}
use Rattle.hg_machine.specs.declared.Answer.{Answer}
use Rattle.hg_machine.specs.declared.Answer.TheVariants as answer
use Rattle.hg_heap.specs.Held.{is_held}
use Rattle.hg_heap.specs.Policies.{AreOf}
use Rattle.hg_machine.specs.Policy.{Policy}
use Rattle.hg_machine.specs.declared.Event.{Event}
use Rattle.hg_place.specs.declared.Handle.{Handle}
use Rattle.hg_service.proofs.Behind.{abandons_nothing, delivers_nothing, takes_nothing}
use Rattle.hg_table.specs.declared.view.Part.{Part}
use Rattle.hg_worker.proofs.Records.{stay_goes}
use Rattle.hg_worker.specs.Seats.{number_in, records_in, seat_shows, seat_steps}
use Rattle.hg_worker.specs.declared.state.WorkerState.{WorkerState}
use Rattle.hg_hosted.specs.declared.of_service.Way.{Way}
use Rattle.hg_hosted.specs.declared.worker.HostedWorker.{HostedWorker}
use Rattle.hg_hosted.specs.Behind.{GivesUp, Sends, Stays, TakesIn, TakesOne}
use Rattle.hg_hosted.specs.Parking.{FitsKept, FitsKnown, HasTaken, IsHome}
use Rattle.hg_hosted.specs.Serving.{Serves}
use Rattle.hg_hosted.specs.Waiting.{Waits}
use Rattle.hg_hosted.specs.States.{LeavesLives}

no_place :
    (hand : Option Handle) → None ≡ option_map (λ handle. handle.place) hand → hand ≡ None
no_place None empty = refl
no_place (Some handle) empty = absurd (none-some _ empty)

pub sends_nothing :
    (state : WorkerState) → None ≡ option_map (λ handle. handle.place) state.hand
    → Sends answer.NothingInHand state state
sends_nothing state empty = record {
  sent = delivers_nothing state.hand empty;
  empty = ((λ _. no_place state.hand empty), λ _. refl);
  heap = refl;
  seats = record { own = refl; segments = λ segment. refl };
  home = stay_goes number_in records_in state.heap.segments;
  rest = (refl, refl);
}

same_part : (a b : Part) (o : Option Part) → o ≡ Some a → o ≡ Some b → b.ended ≡ a.ended
same_part a b None was now = absurd (none-some _ was)
same_part a b (Some one) was now =
    ap (λ part. part.ended) (sym (same_Some one b now)) ∙ ap (λ part. part.ended) (same_Some one a was)

stay_lives : (state : WorkerState) → LeavesLives state state
stay_lives state = record {
  own = refl;
  segments = λ segment a b was now. same_part a b _ was now;
}

pub takes_in_nothing :
    (state : WorkerState) (segment : ℕ) → is_held number_in state.heap.segments segment ≡ false
    → TakesIn segment answer.NotHeld state state
takes_in_nothing state segment away = record {
  taken = takes_nothing number_in records_in seat_shows seat_steps segment state.heap away;
  unheld = ((λ _. away), λ _. refl);
  own = refl;
  lives = stay_lives state;
  rest = record { policy = refl; number = refl; hand = refl };
}

no_segments : (policy : Policy) → AreOf number_in policy []
no_segments policy = record {
  arena = λ k there. let low : there.0 < 0 = there.1 in absurd (omega (arith, low));
  greatest = λ k there. let low : there.0 < 0 = there.1 in absurd (omega (arith, low));
}

-- from where there is no segment, none comes
pub takes_no_segment :
    (state : WorkerState) (arena : ℕ) → TakesOne arena answer.NoSegment state state
takes_no_segment state arena = record {
  refilled = record {
    old = record { orphans = []; fresh = [] };
    new = record { orphans = []; fresh = [] };
    of = no_segments state.policy;
    refilled = (refl, refl, refl);
  };
  came = λ segment told. absurd (cc);
  lives = stay_lives state;
  home = stay_goes number_in records_in state.heap.segments;
  rest = record { policy = refl; number = refl; hand = refl };
}

pub gives_up_nothing :
    (state : WorkerState) (segment : ℕ) → is_held number_in state.heap.segments segment ≡ false
    → GivesUp segment answer.NotHeld state state
gives_up_nothing state segment away = record {
  abandoned = abandons_nothing number_in segment state.heap away;
  unheld = ((λ _. away), λ _. refl);
  gone = away;
  others = λ other apart. refl;
  own = refl;
  lives = stay_lives state;
  home = stay_goes number_in records_in state.heap.segments;
  rest = record { policy = refl; number = refl; hand = refl };
}

-- what was taken, by another name
pub taken_as :
    {T : Type 0} (result there kept : Option T) (old : List T) {new after : List T}
    → result ≡ there → after ≡ new → HasTaken result kept old new
    → HasTaken there kept old after
taken_as {T = T} result there kept old {new = new} {after = after} is same taken =
    subst (λ (o : Option T). HasTaken o kept old after) is
    (subst (λ (xs : List T). HasTaken result kept old xs) (sym same) taken)

-- what is kept of a part that was put is that part
pub kept_fits :
    {T : Type 0} (of_service : WorkerState → T → Type 0) {known : Option WorkerState} {part : T}
    (Out : Type 0) (kept : Option T) → IfSome kept (λ one. (one ≡ part) × Out)
    → FitsKnown of_service known part → FitsKept of_service known kept
kept_fits of_service Out None same fits one is = absurd (none-some _ is)
kept_fits of_service {known = known} Out (Some kept) same fits one is =
    subst (λ p. FitsKnown of_service known p) (sym same.0 ∙ same_Some kept one is) fits

-- and a part that was out is home once it was put, or kept
pub put_home :
    {T : Type 0} (part : T) (before after : Way T) (kept : Option T)
    → IfSome kept (λ one. (one ≡ part) × (after.out ≡ before.out))
    → IfNone kept (after.out ≡ false) → before.out ≡ true → IsHome after kept
put_home part before after None same none out = none
put_home part before after (Some kept) same none out = same.1 ∙ out

-- what holds of each in a list holds of each where one more was set of which it holds
pub each_set :
    {X : Type 0} (P : X → Type 0) (xs : List X) (i : ℕ) (y : X)
    → ((k : ℕ) (x : X) → slice_get xs k ≡ Some x → P x) → P y
    → (k : ℕ) (x : X) → slice_get (slice_set xs i y) k ≡ Some x → P x
each_set P [] i y all one k x e = absurd (none-some _ e)
each_set P (z ∷ zs) zero y all one zero x e = subst P (same_Some y x e) one
each_set P (z ∷ zs) zero y all one (suc k) x e = all (suc k) x e
each_set P (z ∷ zs) (suc i) y all one zero x e = all 0 x e
each_set P (z ∷ zs) (suc i) y all one (suc k) x e =
    each_set P zs i y (λ k. all (suc k)) one k x e

-- a worker serves by what its state does, or stays
pub serves_or_waits :
    (event : Event) (old new : HostedWorker) (Do : Answer → WorkerState → WorkerState → Type 0) (before after : _)
    → old.state ≡ Some before → new.state ≡ Some after → (o : Option Answer)
    → MatchOption o (Waits event before.value after.value) (λ a. Do a before.value after.value)
    → MatchOption o (Serves (Waits event) old new) (λ a. Serves (Do a) old new)
serves_or_waits event old new Do before after was is None stays = record {
  before = before;
  after = after;
  was = was;
  is = is;
  does = stays;
}
serves_or_waits event old new Do before after was is (Some a) does = record {
  before = before;
  after = after;
  was = was;
  is = is;
  does = does;
}

-- the same of what is told, or refused
pub serves_or_refused :
    (old new : HostedWorker) {A E : Type 0} (Do : A → WorkerState → WorkerState → Type 0)
    (before after : _) → old.state ≡ Some before → new.state ≡ Some after → (o : Result A E)
    → MatchResult o (λ a. Do a before.value after.value) (λ e. Stays before.value after.value)
    → MatchResult o (λ a. Serves (Do a) old new) (λ e. Serves Stays old new)
serves_or_refused old new Do before after was is (Ok a) does = record {
  before = before;
  after = after;
  was = was;
  is = is;
  does = does;
}
serves_or_refused old new Do before after was is (Err e) stays = record {
  before = before;
  after = after;
  was = was;
  is = is;
  does = stays;
}
