-- How the program ends that shows a policy: its status, and what it writes.
use Rattle.std.specs.Prelude.{◌≡◌, ◌⊎◌, ℕ, List}
use Rattle.hg_replay.specs.Sinks.{Seen}
use Rattle.hg_replay.specs.Statuses.{NoPolicy}
use Rattle.hg_replay.specs.Writes.{Wrote, StopsIn}
use Rattle.hg_replay.specs.declared.run.status.Status.{Status}
use Rattle.hg_replay.specs.declared.run.status.Status.TheVariants as status
use Rattle.hg_show.specs.Shown.{IsShown, IsShownAsJson}

-- by the status, where this relation says what is shown of bytes: Done where the bytes mean a policy
-- and what is shown of it is written; BadPolicy where they mean none and nothing is written; Failed
-- for want of memory, and for a write that stopped in that text
abbrev pub EndsShown : (List ℕ → List ℕ → Type 0) → Status → List ℕ → Seen → Seen → Type 0
EndsShown Shows status.Done bytes old new =
    (text : List ℕ) × Shows bytes text × Wrote old new text
EndsShown Shows status.BadPolicy bytes old new = NoPolicy bytes × (new ≡ old)
EndsShown Shows status.Failed bytes old new =
    (new ≡ old) ⊎ ((text : List ℕ) × Shows bytes text × StopsIn old new text)
EndsShown Shows _ bytes old new = ⊥

-- as text, and as JSON
abbrev pub EndsShow : Status → List ℕ → Seen → Seen → Type 0
EndsShow ended bytes old new = EndsShown IsShown ended bytes old new

abbrev pub EndsShowJson : Status → List ℕ → Seen → Seen → Type 0
EndsShowJson ended bytes old new = EndsShown IsShownAsJson ended bytes old new
