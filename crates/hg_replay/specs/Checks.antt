-- How a check of a policy's bytes ends: its status, and what it writes.
use Rattle.std.specs.Prelude.{◌≡◌, ◌⊎◌, ℕ, ◌++◌, List, Ok, length, codes, decimal}
use Rattle.hg_machine.specs.Policy.{Policy}
use Rattle.hg_policy_text.specs.Document.{document_of}
use Rattle.hg_replay.specs.declared.run.status.Status.{Status}
use Rattle.hg_replay.specs.declared.run.status.Status.TheVariants as status
use Rattle.hg_replay.specs.Statuses.{NoPolicy}
use Rattle.hg_replay.specs.Sinks.{Seen}
use Rattle.hg_replay.specs.Writes.{Wrote, StopsIn}

-- how much a policy names
unfoldable pub counts_line : Policy → List ℕ
counts_line policy =
    codes "ok workers " ++ decimal policy.workers
    ++ codes " tenants " ++ decimal (length policy.tenants)
    ++ codes " arenas " ++ decimal (length policy.arenas)
    ++ codes " segments " ++ decimal (length policy.segments)
    ++ codes "\n"

-- by the status: Done where the bytes mean a policy and its line is written; BadPolicy where they
-- mean none and nothing is written; Failed for want of memory, and for a write that stopped in that
-- line
abbrev pub EndsCheck : Status → List ℕ → Seen → Seen → Type 0
EndsCheck status.Done bytes old new =
    (policy : Policy) × (document_of bytes ≡ Ok policy) × Wrote old new (counts_line policy)
EndsCheck status.BadPolicy bytes old new = NoPolicy bytes × (new ≡ old)
EndsCheck status.Failed bytes old new =
    (new ≡ old)
    ⊎ ((policy : Policy) × (document_of bytes ≡ Ok policy)
    × StopsIn old new (counts_line policy))
EndsCheck _ bytes old new = ⊥
