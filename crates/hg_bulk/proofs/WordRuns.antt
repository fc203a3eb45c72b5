-- Runs of Reads and of Writes go on by one word, or end.
use Rattle.std.proofs.Common.{◌≡◌, ℕ, zero, suc, ◌+◌, ◌<◌, ◌≤◌, List, [], ◌∷◌, ◌++◌, length, take}
use Rattle.std.proofs.Common.{slice_index, map, refl, sym, ap, subst, ◌∙◌, append-nil, add-zero}
use Rattle.std.proofs.Common.{arith, replicate, Option, Some, None}
use Rattle.std.specs.Prelude.{IfSome, MatchOption}
use Rattle.std.proofs.lemmas.List.{map_push, take_more, get_or_default}
use Rattle.std.proofs.lemmas.List.FromFn.{map-range_with_len_more}
use Rattle.hg_place.specs.declared.Actor.{Actor}
use Rattle.hg_place.specs.declared.Handle.{Handle}
use Rattle.hg_machine.specs.declared.Event.{Event}
use Rattle.hg_machine.specs.declared.Event.TheVariants as event
use Rattle.hg_machine.specs.declared.Answer.{Answer}
use Rattle.hg_machine.specs.declared.Answer.TheVariants as answer
use Rattle.hg_machine.specs.Lists.{Kept}
use Rattle.hg_choice.specs.ChosenSteps.{ChosenStep, Chosen}
use Rattle.hg_core.proofs.Runs.{chosen_more}
use Rattle.hg_core.proofs.WordWrites.{write_more}
use Rattle.hg_heap.specs.declared.refused.Refused.{Refused}
use Rattle.hg_heap.specs.Answers.{refused_answer}
use Rattle.hg_bulk.specs.WordEvents.{reads, writes}
use Rattle.hg_bulk.specs.Words.{refusals}

module _ (worker : ℕ) (actor : Actor) (handle : Handle) (first n : ℕ) where
  reads_more : reads worker actor handle first (n + 1) ≡ reads worker actor handle first n
      ++ (worker, event.Read actor handle (first + n)) ∷ []
  reads_more = map-range_with_len_more (λ index. (worker, event.Read actor handle index)) first n (first + n) refl

  -- one more Read, whatever it is answered
  pub read_more : (old mid new : Kept) (answers : List Answer) (a : Answer)
      → Chosen old (reads worker actor handle first n) answers mid → ChosenStep mid worker
      (event.Read actor handle (first + n)) a new
      → Chosen old (reads worker actor handle first (n + 1)) (answers ++ a ∷ []) new
  read_more old mid new answers a run step =
      subst (λ events. Chosen old events (answers ++ a ∷ []) new) (sym reads_more)
      (chosen_more (reads worker actor handle first n) answers old mid new
      (worker, event.Read actor handle (first + n)) a run step)

  -- all were served
  pub read_all : (old new : Kept) (answers : List Answer) → Chosen old
      (reads worker actor handle first n) answers new
      → Chosen old (reads worker actor handle first (n + 0)) (answers ++ []) new
  read_all old new answers run = rw (add-zero, append-nil) run

  pub written_all : (old new : Kept) (words : List ℕ) (answers : List Answer) → Chosen old
      (writes worker actor handle first (take n words)) answers new
      → Chosen old (writes worker actor handle first (take (n + 0) words)) (answers ++ []) new
  written_all old new words answers run = rw (add-zero, append-nil) run

module _ (worker : ℕ) (actor : Actor) (handle : Handle) (first : ℕ) (told : List ℕ) where
  -- Reads that leave all as it is, one after another
  reads_run : (k : Kept) (n : ℕ) → n ≤ length told
      → ((at : ℕ) → at < n → ChosenStep k worker (event.Read actor handle (first + at))
      (answer.Value (slice_index told at)) k)
      → Chosen k (reads worker actor handle first n) (map answer.Value (take n told)) k
  reads_run k zero few each = refl
  reads_run k (suc n) few each =
      let next : n + 1 ≡ suc n = omega arith in
      let one : map answer.Value (take (n + 1) told) ≡ map answer.Value (take n told)
      ++ answer.Value (slice_index told n) ∷ [] =
      ap (map answer.Value) (take_more told n 0 (omega arith)) ∙ map_push answer.Value (take n told)
      (slice_index told n) in
      subst (λ m. Chosen k (reads worker actor handle first m) (map answer.Value (take m told)) k)
      next
      (subst (λ answers. Chosen k (reads worker actor handle first (n + 1)) answers k) (sym one)
      (read_more worker actor handle first n k k k (map answer.Value (take n told))
      (answer.Value (slice_index told n))
      (reads_run k n (omega arith) (λ at lt. each at (omega arith))) (each n (omega arith))))

  pub reads_served : (old new : Kept) → new ≡ old → (n : ℕ) → n ≤ length told
      → ((at : ℕ) → at < n → ChosenStep old worker (event.Read actor handle (first + at))
      (answer.Value (slice_index told at)) new)
      → Chosen old (reads worker actor handle first n) (map answer.Value (take n told)) new
  reads_served old new same n few each =
      subst (λ k. Chosen old (reads worker actor handle first n) (map answer.Value (take n told)) k)
      (sym same)
      (reads_run old n few (λ at lt. subst (λ k. ChosenStep old worker
      (event.Read actor handle (first + at)) (answer.Value (slice_index told at)) k) same
      (each at lt)))

module _ (worker : ℕ) (actor : Actor) (handle : Handle) (first : ℕ) (old new : Kept) where
  -- Reads of so many words, and one that is refused, if one is
  pub reads_end : (told : List ℕ) (n : ℕ) (o : Option Refused) → new ≡ old → n ≤ length told
      → ((at : ℕ) → at < n → ChosenStep old worker (event.Read actor handle (first + at))
      (answer.Value (slice_index told at)) new)
      → IfSome o (λ why. ChosenStep old worker (event.Read actor handle (first + n))
      (refused_answer why) new)
      → Chosen old (reads worker actor handle first (n + length (refusals o)))
      (map answer.Value (take n told) ++ refusals o) new
  reads_end told n None same few each next =
      read_all worker actor handle first n old new (map answer.Value (take n told))
      (reads_served worker actor handle first told old new same n few each)
  reads_end told n (Some why) same few each next =
      read_more worker actor handle first n old new new (map answer.Value (take n told))
      (refused_answer why) (reads_served worker actor handle first told old new same n few each)
      (subst (λ k. ChosenStep k worker (event.Read actor handle (first + n)) (refused_answer why)
      new) (sym same) next)

  -- Writes of so many words, and one that is refused, if one is
  pub writes_end : (words : List ℕ) (n : ℕ) (o : Option Refused)
      → MatchOption o (n ≡ length words) (λ why. n < length words)
      → Chosen old (writes worker actor handle first (take n words)) (replicate n answer.Done) new
      → IfSome o (λ why. ChosenStep new worker
      (event.Write actor handle (first + n) (slice_index words n)) (refused_answer why) new)
      → Chosen old (writes worker actor handle first (take (n + length (refusals o)) words))
      (replicate n answer.Done ++ refusals o) new
  writes_end words n None end run next =
      written_all worker actor handle first n old new words (replicate n answer.Done) run
  writes_end words n (Some why) below run next =
      let word : ℕ = slice_index words n in
      write_more old worker actor handle first n new new words (replicate n answer.Done)
      (refused_answer why) word (first + n) below (get_or_default words n 0 word below) refl run
      next
