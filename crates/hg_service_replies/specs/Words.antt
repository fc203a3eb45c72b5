-- Many words of a block, for a worker.
use Rattle.std.specs.Prelude.{◌≡◌, ◌≢◌, ℕ, suc, ◌+◌, ◌<◌, min, List, [], ◌∷◌, length, take, drop}
use Rattle.std.specs.Prelude.{Option, Some, MatchOption, slice_get}
use Rattle.hg_machine.specs.declared.Answer.{Answer}
use Rattle.hg_machine.specs.declared.Answer.TheVariants as answer
use Rattle.hg_place.specs.declared.Actor.{Actor}
use Rattle.hg_place.specs.declared.Handle.{Handle}
use Rattle.hg_worker.specs.declared.state.WorkerState.{WorkerState}
use Rattle.hg_hosted.specs.Calls.{Reads, Writes}
use Rattle.hg_hosted.specs.Serving.{Serves}
use Rattle.hg_hosted.specs.declared.worker.HostedWorker.{HostedWorker}
use Rattle.hg_reply.specs.declared.reply.Reply.{Reply}
use Rattle.hg_reply.specs.Replies.{reply_of, valued}
use Rattle.hg_service_replies.specs.declared.part.HostedPart.{HostedPart}
use Rattle.hg_service_replies.specs.declared.part.HostedPart.TheVariants as part
use Rattle.hg_service_replies.specs.Serving.{IsOther}

-- the index of the word that is so many behind the first. What is more than 32 bits hold is the most
-- that they do, which no block has
abbrev pub word_index : ℕ → ℕ → ℕ
word_index first many = min (first + many) 4294967295

-- the reply to what was refused, with how many were done before
abbrev pub stopped : ℕ → Answer → Reply
stopped done said = record (reply_of said) { value = done }

module _ (actor : Actor) (handle : Handle) (first : ℕ) where
  -- Reads, one after another, that show these words, of which the first is so many behind
  abbrev pub ReadsEach : ℕ → List ℕ → WorkerState → WorkerState → Type 0
  ReadsEach many [] old new = new ≡ old
  ReadsEach many (word ∷ words) old new =
      (mid : WorkerState)
      × Reads actor handle (word_index first many) (answer.Value word) old mid
      × ReadsEach (suc many) words mid new

  -- Writes of these words, one after another, that are done
  abbrev pub WritesEach : ℕ → List ℕ → WorkerState → WorkerState → Type 0
  WritesEach many [] old new = new ≡ old
  WritesEach many (word ∷ words) old new =
      (mid : WorkerState)
      × Writes actor handle (word_index first many) word answer.Done old mid
      × WritesEach (suc many) words mid new

  -- The words that were read stand in front in the room, and what is behind them is as it was. They
  -- are all, or the next Read is refused
  pub record ReadsAll (room : List ℕ) (reply : Reply) (told : List ℕ) (old new : WorkerState)
      : Type 0 where
    pub done : ℕ
    pub mid : WorkerState
    pub each : ReadsEach 0 (take done told) old mid
    pub rest : drop done told ≡ drop done room
    pub refused : Option Answer
    pub end :
        MatchOption refused
        ((done ≡ length room) × (new ≡ mid) × (reply ≡ valued 2 done))
        (λ said. (done < length room) × ((word : ℕ) → said ≢ answer.Value word)
        × Reads actor handle (word_index first done) said mid new
        × (reply ≡ stopped done said))

  -- the words that were written are all, or the Write of the next is refused
  pub record WritesAll (words : List ℕ) (reply : Reply) (old new : WorkerState) : Type 0 where
    pub done : ℕ
    pub mid : WorkerState
    pub each : WritesEach 0 (take done words) old mid
    pub refused : Option Answer
    pub end :
        MatchOption refused
        ((done ≡ length words) × (new ≡ mid) × (reply ≡ valued 2 done))
        (λ said. (said ≢ answer.Done) × (word : ℕ) × (slice_get words done ≡ Some word)
        × Writes actor handle (word_index first done) word said mid new
        × (reply ≡ stopped done said))

-- a worker reads them, and what is shared stays; any other part is answered as closed, and stays, as
-- the room does
abbrev pub PartReads
    : HostedPart → Actor → Handle → ℕ → List ℕ → Reply → HostedPart → List ℕ → Type 0
PartReads (part.Worker old) actor handle first room reply new told =
    (left : HostedWorker) × (new ≡ part.Worker left)
    × Serves (ReadsAll actor handle first room reply told) old left
    × (left.shared ≡ old.shared)
PartReads (part.Service old) actor handle first room reply new told =
    IsOther (part.Service old) reply new × (told ≡ room)
PartReads (part.Core old) actor handle first room reply new told =
    IsOther (part.Core old) reply new × (told ≡ room)
PartReads (part.Left gone) actor handle first room reply new told =
    IsOther (part.Left gone) reply new × (told ≡ room)
PartReads part.Gone actor handle first room reply new told =
    IsOther part.Gone reply new × (told ≡ room)

-- a worker writes them, and what is shared stays; any other part is answered as closed, and stays
abbrev pub PartWrites : HostedPart → Actor → Handle → ℕ → List ℕ → Reply → HostedPart → Type 0
PartWrites (part.Worker old) actor handle first words reply new =
    (left : HostedWorker) × (new ≡ part.Worker left)
    × Serves (WritesAll actor handle first words reply) old left
    × (left.shared ≡ old.shared)
PartWrites (part.Service old) actor handle first words reply new =
    IsOther (part.Service old) reply new
PartWrites (part.Core old) actor handle first words reply new = IsOther (part.Core old) reply new
PartWrites (part.Left gone) actor handle first words reply new = IsOther (part.Left gone) reply new
PartWrites part.Gone actor handle first words reply new = IsOther part.Gone reply new
