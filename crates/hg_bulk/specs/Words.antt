-- How many words of a block were read or written, one after another.
use Rattle.std.specs.Prelude.{◌≡◌, ℕ, ◌+◌, ◌<◌, List, [], ◌∷◌, ◌++◌, length, map, take, drop}
use Rattle.std.specs.Prelude.{replicate, Option, Some, None, MatchOption}
use Rattle.hg_place.specs.declared.Actor.{Actor}
use Rattle.hg_place.specs.declared.Handle.{Handle}
use Rattle.hg_machine.specs.Lists.{Kept}
use Rattle.hg_machine.specs.declared.Answer.{Answer}
use Rattle.hg_machine.specs.declared.Answer.TheVariants as answer
use Rattle.hg_heap.specs.declared.refused.Refused.{Refused}
use Rattle.hg_heap.specs.Answers.{refused_answer}
use Rattle.hg_choice.specs.ChosenSteps.{Chosen}
use Rattle.hg_bulk.specs.declared.progress.Progress.{Progress}
use Rattle.hg_bulk.specs.WordEvents.{reads, writes}

-- the answer to the event that was refused, if one was
abbrev pub refusals : Option Refused → List Answer
refusals None = []
refusals (Some why) = refused_answer why ∷ []

-- how many events there were: those that were served, and the one that was refused, if one was
abbrev pub tried : Progress → ℕ
tried made = made.done + length (refusals made.refused)

-- of so many words it comes to the last, or is refused before
abbrev pub ComesTo : ℕ → Progress → Type 0
ComesTo all made = MatchOption made.refused (made.done ≡ all) (λ why. made.done < all)

-- From old, the block's words are read one after another, until all are or one is refused: those
-- that were read stand in front in the room, and what is behind them is as it was
pub record ReadsWords (old : Kept) (worker : ℕ) (actor : Actor) (handle : Handle) (first : ℕ)
    (room : List ℕ) (made : Progress) (new : Kept) (told : List ℕ) : Type 0 where
  pub run :
      Chosen old (reads worker actor handle first (tried made))
      (map answer.Value (take made.done told) ++ refusals made.refused) new
  pub rest : drop made.done told ≡ drop made.done room
  pub end : ComesTo (length room) made

-- from old, the words are written into the block one after another, until all are or one is refused
pub record WritesWords (old : Kept) (worker : ℕ) (actor : Actor) (handle : Handle) (first : ℕ)
    (words : List ℕ) (made : Progress) (new : Kept) : Type 0 where
  pub run :
      Chosen old (writes worker actor handle first (take (tried made) words))
      (replicate made.done answer.Done ++ refusals made.refused) new
  pub end : ComesTo (length words) made
