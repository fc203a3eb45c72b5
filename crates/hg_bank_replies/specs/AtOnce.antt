-- What calls of a bank for many words, and for many blocks, do.
use Rattle.std.specs.Prelude.{◌≡◌, ℕ, ◌<◌, ◌≤◌, List, length}
use Rattle.hg_place.specs.declared.Actor.{Actor}
use Rattle.hg_place.specs.declared.Handle.{Handle}
use Rattle.hg_bulk.specs.declared.progress.Progress.{Progress}
use Rattle.hg_bulk.specs.Freeing.{FreesAll}
use Rattle.hg_bulk.specs.Words.{ReadsWords, WritesWords}
use Rattle.hg_bank.specs.AtOnce.{DoesIn, IsUnreached}
use Rattle.hg_bank.specs.Sound.{IsSoundBank}
use Rattle.hg_bank.specs.State.{BankState}
use Rattle.hg_reply.specs.declared.reply.Reply.{Reply}
use Rattle.hg_reply.specs.Counts.{count_reply}
use Rattle.hg_reply.specs.Replies.{no_worker, valued}

-- A worker that the policy lacks is answered so, and the bank stays; else the bank does what is said
-- of it, and stays sound. What else there is stays as it is where the worker is unknown
pub record Does (old : BankState) (worker : ℕ) (does : BankState → Type 0) (stays : Type 0)
    (reply : Reply) (new : BankState) : Type 0 where
  pub unknown : old.policy.workers ≤ worker → (reply ≡ no_worker) × (new ≡ old) × stays
  pub done : worker < old.policy.workers → does new × IsSoundBank new

-- the words of a block of a core are read into the room, as far as none is refused
abbrev pub ReadsInto
    : ℕ → Actor → ℕ → ℕ → List ℕ → List ℕ → Reply → Handle → BankState → BankState → Type 0
ReadsInto worker actor core first room told reply handle old new =
    (made : Progress)
    × DoesIn old core (λ was next. ReadsWords was worker actor handle first room made next told)
    (IsUnreached old.policy actor.0 (length room) made × (told ≡ room)) new
    × (reply ≡ count_reply made.done made.refused)

-- the words are written into a block of a core, as far as none is refused
abbrev pub WritesFrom
    : ℕ → Actor → ℕ → ℕ → List ℕ → Reply → Handle → BankState → BankState → Type 0
WritesFrom worker actor core first words reply handle old new =
    (made : Progress)
    × DoesIn old core (λ was next. WritesWords was worker actor handle first words made next)
    (IsUnreached old.policy actor.0 (length words) made) new
    × (reply ≡ count_reply made.done made.refused)

-- the owner's blocks of a core that the worker holds are freed, as far as the actor may: none in a
-- core that isn't there
abbrev pub Unloads : ℕ → Actor → ℕ → ℕ → Reply → BankState → BankState → Type 0
Unloads worker actor core owner reply old new =
    (count : ℕ)
    × DoesIn old core (λ was next. FreesAll was worker actor owner count next) (count ≡ 0) new
    × (reply ≡ valued 2 count)
