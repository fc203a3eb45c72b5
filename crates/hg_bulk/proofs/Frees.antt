-- Frees of an owner's blocks, place by place.
use Rattle.std.proofs.Common.{◌≡◌, ℕ, ◌+◌, ◌-◌, ◌<◌, ◌≤◌, true, false, List, [], ◌∷◌, ◌++◌, map}
use Rattle.std.proofs.Common.{refl, sym, ap, subst, ◌∙◌, cond, append-nil, arith}
use Rattle.std.specs.List.{range_with_len, count_by}
use Rattle.std.proofs.lemmas.List.{map-append}
use Rattle.std.proofs.lemmas.List.Sums.{sum_by-append}
use Rattle.hg_place.specs.declared.Actor.{Actor}
use Rattle.hg_place.specs.declared.Handle.{Handle}
use Rattle.hg_place.specs.declared.Place.{Place}
use Rattle.hg_heap.specs.declared.refused.Refused.{Refused}
use Rattle.hg_heap.specs.declared.refused.Refused.TheVariants as refused
use Rattle.hg_heap.specs.Answers.{refused_answer}
use Rattle.hg_core.specs.declared.refusals.Freed.{Freed}
use Rattle.hg_core.specs.declared.refusals.Freed.TheVariants as freed
use Rattle.hg_core.specs.declared.refusals.NotFreed.{NotFreed}
use Rattle.hg_core.specs.declared.refusals.NotFreed.TheVariants as not_freed
use Rattle.hg_core.specs.Answers.{free_answer}
use Rattle.std.specs.Prelude.{Ok, Err, Some}
use Rattle.hg_machine.specs.Lists.{Kept}
use Rattle.hg_machine.specs.Listing.{Line, is_listed}
use Rattle.hg_machine.specs.declared.Event.{Event}
use Rattle.hg_machine.specs.declared.Event.TheVariants as event
use Rattle.hg_machine.specs.declared.Answer.{Answer}
use Rattle.hg_machine.proofs.Answered.{state_is_determined}
use Rattle.hg_choice.specs.ChosenSteps.{ChosenStep, Chosen}
use Rattle.hg_choice.proofs.ChoiceLemmas.{same_kept}
use Rattle.hg_bulk.specs.Freeing.{FreesAmong, frees, is_freed}
use Rattle.hg_bulk.specs.Later.{IsSameFrom}
use Rattle.hg_bulk.specs.OwnBlocks.{own_lines, life_of, life_of_line, IsOwnBlock}
use Rattle.hg_bulk.proofs.OwnBlockLemmas.{is_row, no_lines, own_lines-append, own_lines_range}
use Rattle.hg_bulk.proofs.OwnBlockLemmas.{range_then}

-- a Look leaves all that is kept
pub look_leaves : (k new : Kept) (worker : ℕ) (actor : Actor) (place : Place) (a : Answer) → ChosenStep k worker (event.Look actor place) a new → new ≡ k
look_leaves k new worker actor place a look =
    same_kept k new (state_is_determined k.state worker (event.Look actor place) a new.state look.step) look.lists look.queues

pub no_row : (why : Refused) → is_row (refused_answer why) ≡ false
no_row (refused.Denied rule) = refl
no_row refused.TooLarge = refl
no_row refused.NoRoom = refl
no_row refused.Elsewhere = refl
no_row refused.OutOfBlock = refl

pub is_freed_here : (f : Freed) → is_freed (free_answer (Ok f)) ≡ true
is_freed_here freed.Here = refl
is_freed_here freed.InHand = refl

pub is_not_freed : (why : NotFreed) → is_freed (free_answer (Err why)) ≡ false
is_not_freed (not_freed.Denied rule) = refl
is_not_freed not_freed.Busy = refl

pub frees_none : (k : Kept) (worker : ℕ) (actor : Actor) (owner : ℕ) (places : List ℕ) → own_lines k.state worker owner places ≡ [] → FreesAmong k worker actor owner places 0 k
frees_none k worker actor owner places none = record {
  handles = [];
  named = sym (ap (map life_of_line) none);
  answers = [];
  run = refl;
  counted = refl;
}

pub frees_one : (k new : Kept) (worker : ℕ) (actor : Actor) (owner place : ℕ) (handle : Handle) (a : Answer)
    → IsOwnBlock k.state worker owner place (Some handle) → ChosenStep k worker (event.Free actor handle) a new
    → FreesAmong k worker actor owner (place ∷ []) (count_by is_freed (a ∷ [])) new
frees_one k new worker actor owner place handle a own free = record {
  handles = handle ∷ [];
  named = sym own.1;
  answers = a ∷ [];
  run = (new, free, refl);
  counted = refl;
}

chosen_then : (events more : List (ℕ × Event)) (answers rest : List Answer) (old mid new : Kept)
    → Chosen old events answers mid → Chosen mid more rest new → Chosen old (events ++ more) (answers ++ rest) new
chosen_then [] more [] rest old mid new run then = subst (λ k. Chosen k more rest new) run then
chosen_then [] more (a ∷ answers) rest old mid new run then = absurd run
chosen_then (e ∷ es) more [] rest old mid new run then = absurd run
chosen_then (e ∷ es) more (a ∷ answers) rest old mid new run then = (run.0, run.1, chosen_then es more answers rest run.0 mid new run.2 then)

-- those of the places before, and then those of the next
pub frees_more : (old mid new : Kept) (worker : ℕ) (actor : Actor) (owner a n k at next m count : ℕ)
    → at ≡ a + n → next ≡ n + k
    → IsSameFrom old.state mid.state at
    → FreesAmong old worker actor owner (range_with_len a n) m mid → FreesAmong mid worker actor
    owner (range_with_len at k) count new
    → FreesAmong old worker actor owner (range_with_len a next) (m + count) new
frees_more old mid new worker actor owner a n k at next m count here then later one two = record {
  handles = one.handles ++ two.handles;
  named =
      map-append life_of one.handles two.handles
      ∙ ap (λ l. l ++ map life_of two.handles) one.named
      ∙ ap (λ l. map life_of_line (lines (range_with_len a n)) ++ l)
      (two.named ∙ ap (map life_of_line) (own_lines_range old.state mid.state worker owner at k
      later))
      ∙ sym (map-append life_of_line (lines (range_with_len a n)) (lines (range_with_len at k)))
      ∙ ap (map life_of_line)
      (sym (own_lines-append old.state worker owner (range_with_len a n) (range_with_len at k))
      ∙ ap (λ p. lines (range_with_len a n ++ range_with_len p k)) here
      ∙ ap lines (sym (range_then a n k)) ∙ ap (λ p. lines (range_with_len a p)) (sym then));
  answers = one.answers ++ two.answers;
  run =
      subst (λ events. Chosen old events (one.answers ++ two.answers) new) (sym (map-append (λ handle. (worker, event.Free actor handle)) one.handles two.handles))
      (chosen_then (frees worker actor one.handles) (frees worker actor two.handles) one.answers two.answers old mid new one.run two.run);
  counted = rw (one.counted, two.counted) (sym (sum_by-append (λ a. cond (is_freed a) 1 0) one.answers two.answers));
} where
  lines : List ℕ → List Line
  lines = own_lines old.state worker owner

-- those of the first places of a range are all, where no other is listed
pub frees_past : (old new : Kept) (worker : ℕ) (actor : Actor) (owner a n all m : ℕ) → n ≤ all
    → ((place : ℕ) → a + n ≤ place → place < a + all → is_listed old.state worker owner place
    ≡ false)
    → FreesAmong old worker actor owner (range_with_len a n) m new → FreesAmong old worker actor
    owner (range_with_len a all) m new
frees_past old new worker actor owner a n all m low none freed =
    let s = old.state in
    let rest = all - n in
    let split : n + rest ≡ all = omega arith in
    let first = own_lines s worker owner (range_with_len a n) in
    record {
      handles = freed.handles;
      named =
          freed.named
          ∙ ap (map life_of_line)
          (sym (append-nil first)
          ∙ ap (λ l. first ++ l) (sym (no_lines s worker owner (a + n) rest
          (λ place from below. none place from (omega arith))))
          ∙ sym (own_lines-append s worker owner (range_with_len a n) (range_with_len (a + n) rest))
          ∙ ap (own_lines s worker owner) (sym (range_then a n rest) ∙ ap (range_with_len a)
          split));
      answers = freed.answers;
      run = freed.run;
      counted = freed.counted;
    }
