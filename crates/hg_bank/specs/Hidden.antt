-- What is the same of two banks but for words that an actor may not read.
use Rattle.std.specs.Prelude.{◌≡◌, ◌⊎◌, ℕ, Bool, List, [], ◌∷◌, map, All}
use Rattle.hg_choice.specs.Masks.{masked_kept}
use Rattle.hg_choice.specs.SameBut.{is_unreadable, IsHiddenWrite, IsHiddenRead}
use Rattle.hg_choice.specs.WordLaws.{IsOfNoOther}
use Rattle.hg_machine.specs.declared.Answer.{Answer}
use Rattle.hg_machine.specs.declared.Event.{Event}
use Rattle.hg_bank.specs.Histories.{Entry, grew, answered, History}
use Rattle.hg_bank.specs.Opening.{core_at, grown}
use Rattle.hg_bank.specs.Requests.{Request, named, event_of}
use Rattle.hg_bank.specs.State.{BankState}
use Rattle.hg_bank.specs.Steps.{BankStep}

-- which blocks have hidden words, by segment and owner
module _ (hides : ℕ → ℕ → Bool) where
  -- the bank with zeros for hidden words
  abbrev pub masked_bank : BankState → BankState
  masked_bank b = record {
    policy = b.policy;
    room = b.room;
    cores = map (masked_kept hides) b.cores;
    currents = b.currents;
  }

  -- in one core one writes this value and the other that into a hidden word
  pub record IsHiddenWriteIn (b : BankState) (one other : Request) : Type 0 where
    pub core : ℕ
    pub written : Event
    pub rewritten : Event
    pub asks : one ≡ named core written
    pub asks_other : other ≡ named core rewritten
    pub hidden : IsHiddenWrite hides (core_at b core).state written rewritten

  abbrev pub IsSameRequest : BankState → Request → Request → Type 0
  IsSameRequest b one other = (other ≡ one) ⊎ IsHiddenWriteIn b one other

  -- beside these entries the others: the bank grew where it grew here, and else was asked the same
  -- by the same worker, but for values written into hidden words
  abbrev pub AreSameRequests : BankState → List Entry → List Entry → Type 0
  AreSameRequests b [] [] = Unit {0}
  AreSameRequests b (grew ∷ later) (grew ∷ others) = AreSameRequests (grown b) later others
  AreSameRequests b (answered w one core told ∷ later) (answered v two at given ∷ others) =
      (v ≡ w) × IsSameRequest b one two
      × ((mid : BankState) → BankStep b w one told mid → AreSameRequests mid later others)
  AreSameRequests b entries others = ⊥

  -- an actor that may read the block is told this value and that, of a hidden word in one core
  pub record IsHiddenReadIn (b : BankState) (asked : Request) (one other : Answer) : Type 0 where
    pub core : ℕ
    pub read : Event
    pub asks : asked ≡ named core read
    pub hidden : IsHiddenRead hides (core_at b core).state read one other

  -- beside these entries the others: each request was served by the same core, or by none, and
  -- answered the same, but for values of hidden words that the reader may read
  abbrev pub AreSameAnswers : BankState → List Entry → List Entry → Type 0
  AreSameAnswers b [] [] = Unit {0}
  AreSameAnswers b (grew ∷ later) (grew ∷ others) = AreSameAnswers (grown b) later others
  AreSameAnswers b (answered w one core told ∷ later) (answered v two at given ∷ others) =
      (at ≡ core) × ((given ≡ told) ⊎ IsHiddenReadIn b one told given)
      × ((mid : BankState) → BankStep b w one told mid → AreSameAnswers mid later others)
  AreSameAnswers b entries others = ⊥

-- two banks that begin the same but for words that the actor may not read, each core of them of
-- their policy, and what happens to them, the same but for values written there
pub record AreAlike (actor : ℕ) (old other : BankState) (entries others : List Entry)
    (new last : BankState) : Type 0 where
  pub policies : All (λ k. k.state.policy ≡ old.policy) old.cores
  pub begin :
      masked_bank (is_unreadable old.policy actor) other
      ≡ masked_bank (is_unreadable old.policy actor) old
  pub same : AreSameRequests (is_unreadable old.policy actor) old entries others
  pub one : History old entries new
  pub second : History other others last

-- then they end so; the same cores serve, and all answers are the same but for values of such
-- words, told to others who may read them
abbrev pub WordsStayHidden : Type 0
WordsStayHidden =
    (actor : ℕ) (old other : BankState) (entries others : List Entry) (new last : BankState)
    → AreAlike actor old other entries others new last
    → AreSameAnswers (is_unreadable old.policy actor) old entries others
    × (masked_bank (is_unreadable old.policy actor) last
    ≡ masked_bank (is_unreadable old.policy actor) new)

-- which core serves is the same, and what the actor itself is told, and what workers are that ask
-- for nobody
abbrev pub AreSameTo : ℕ → List Entry → List Entry → Type 0
AreSameTo actor [] [] = Unit {0}
AreSameTo actor (grew ∷ later) (grew ∷ others) = AreSameTo actor later others
AreSameTo actor (answered w one core told ∷ later) (answered v two at given ∷ others) =
    (at ≡ core) × (IsOfNoOther actor (event_of one) → given ≡ told) × AreSameTo actor later others
AreSameTo actor entries others = ⊥

-- so no answer, and no choice of a core, tells the actor anything of what is written there
abbrev pub ActorsAreToldNothing : Type 0
ActorsAreToldNothing =
    (actor : ℕ) (old other : BankState) (entries others : List Entry) (new last : BankState)
    → AreAlike actor old other entries others new last
    → AreSameTo actor entries others

-- and no hidden word decides whether a request is answered: where it is in one of two such banks it
-- is in the other
abbrev pub SecondStepsAre : Type 0
SecondStepsAre =
    (actor : ℕ) (old other new : BankState) (worker : ℕ) (one two : Request) (told : Answer)
    → All (λ k. k.state.policy ≡ old.policy) old.cores
    → masked_bank (is_unreadable old.policy actor) other
    ≡ masked_bank (is_unreadable old.policy actor) old
    → IsSameRequest (is_unreadable old.policy actor) old one two
    → BankStep old worker one told new
    → (given : Answer) × (last : BankState) × BankStep other worker two given last
