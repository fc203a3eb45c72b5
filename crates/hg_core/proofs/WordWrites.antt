-- A run of Writes of the words of a block goes on by one word.
use Rattle.std.proofs.Common.{◌≡◌, ℕ, ◌+◌, ◌<◌, List, [], ◌∷◌, ◌++◌, length, take, get_or, map}
use Rattle.std.proofs.Common.{refl, sym, ap, subst, ◌∙◌, arith}
use Rattle.std.specs.List.{enumerate_from}
use Rattle.std.proofs.lemmas.List.{map_push, take_more, length-take-le}
use Rattle.hg_place.specs.declared.Actor.{Actor}
use Rattle.hg_place.specs.declared.Handle.{Handle}
use Rattle.hg_machine.specs.declared.Event.{Event}
use Rattle.hg_machine.specs.declared.Event.TheVariants as event
use Rattle.hg_machine.specs.declared.Answer.{Answer}
use Rattle.hg_machine.specs.Lists.{Kept}
use Rattle.hg_choice.specs.ChosenSteps.{ChosenStep, Chosen}
use Rattle.hg_core.specs.WordEvents.{writes}
use Rattle.hg_core.proofs.Runs.{chosen_more}

enumerated : (first at : ℕ) (words : List ℕ) (word : ℕ) → first + length words ≡ at
    → enumerate_from first (words ++ word ∷ []) ≡ enumerate_from first words ++ (at, word) ∷ []
enumerated first at [] word is = ap (λ n. (n, word) ∷ []) (omega arith)
enumerated first at (w ∷ words) word is =
    ap (λ l. (first, w) ∷ l) (enumerated (first + 1) at words word (omega arith))

module _ (worker : ℕ) (actor : Actor) (handle : Handle) (first n : ℕ) where
  writes_more : (words : List ℕ) (word : ℕ) → n < length words → word ≡ get_or words n word
      → writes worker actor handle first (take (n + 1) words)
      ≡ writes worker actor handle first (take n words)
      ++ (worker, event.Write actor handle (first + n) word) ∷ []
  writes_more words word below is =
      let event_of : ℕ × ℕ → ℕ × Event = λ w. (worker, event.Write actor handle w.0 w.1) in
      ap (λ l. map event_of (enumerate_from first l))
      (take_more words n word below ∙ ap (λ w. take n words ++ w ∷ []) (sym is))
      ∙ ap (map event_of) (enumerated first (first + n) (take n words) word
      (ap (λ k. first + k) (length-take-le n words (omega arith))))
      ∙ map_push event_of (enumerate_from first (take n words)) (first + n, word)

module _ (old : Kept) (worker : ℕ) (actor : Actor) (handle : Handle) (first n : ℕ)
    (mid new : Kept) where
  -- one more Write, whatever it is answered
  pub write_more : (words : List ℕ) (answers : List Answer) (a : Answer) (word index : ℕ)
      → n < length words → word ≡ get_or words n word → index ≡ first + n
      → Chosen old (writes worker actor handle first (take n words)) answers mid
      → ChosenStep mid worker (event.Write actor handle index word) a new
      → Chosen old (writes worker actor handle first (take (n + 1) words)) (answers ++ a ∷ []) new
  write_more words answers a word index below is at run step =
      let here =
      subst (λ i. ChosenStep mid worker (event.Write actor handle i word) a new) at step in
      subst (λ events. Chosen old events (answers ++ a ∷ []) new)
      (sym (writes_more worker actor handle first n words word below is))
      (chosen_more (writes worker actor handle first (take n words)) answers old mid new
      (worker, event.Write actor handle (first + n) word) a run here)
