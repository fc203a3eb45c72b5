-- Files longer than the limit.
use Rattle.std.proofs.Common.{◌≡◌, ◌<◌, ℕ, List, Option, Some, length, ap, inl, inr, arith}
use Rattle.hg_replay.specs.Sinks.{Seen}
use Rattle.hg_replay.specs.declared.run.input.TheConstants.{LIMIT}
use Rattle.hg_replay.specs.declared.run.status.Status.{Status}
use Rattle.hg_reasons.specs.declared.form.Form.{Form}
use Rattle.hg_program.specs.Ends.{IsOf, ReadsNone, EndsOnChecked, EndsOnFile, EndsOnFiles}
use Rattle.hg_program.specs.Ends.{EndsOnExplained, EndsOnRace}
use Rattle.hg_program.specs.EndLaws.{LongFilesFail}

-- what was read of such a file
long_is_of : (bytes read : List ℕ) → LIMIT < length bytes → IsOf (Some bytes) read → ⊥
long_is_of bytes read long (is, fits) =
    let same : length read ≡ length bytes = ap (λ l. length l) is in
    omega (arith, long, fits, same)

module _ (bytes : List ℕ) (other : Option (List ℕ)) (rounds : ℕ) (form : Form) (ended : Status) (old new : Seen) (long : LIMIT < length bytes) where
  long_checked : EndsOnFile (Some bytes) ended old new → ReadsNone ended old new
  long_checked (inl none) = none
  long_checked (inr (read, is, ends)) = absurd (long_is_of bytes read long is)

  long_raced : EndsOnRace (Some bytes) rounds ended old new → ReadsNone ended old new
  long_raced (inl none) = none
  long_raced (inr (read, is, ends)) = absurd (long_is_of bytes read long is)

  long_policy : EndsOnFiles (Some bytes) other ended old new → ReadsNone ended old new
  long_policy (inl none) = none
  long_policy (inr ends) = absurd (long_is_of bytes ends.0 long ends.2)

  long_trace : EndsOnFiles other (Some bytes) ended old new → ReadsNone ended old new
  long_trace (inl none) = none
  long_trace (inr ends) = absurd (long_is_of bytes ends.1 long ends.3)

  long_explained_policy : EndsOnExplained form (Some bytes) other ended old new → ReadsNone ended old new
  long_explained_policy (inl none) = none
  long_explained_policy (inr ends) = absurd (long_is_of bytes ends.0 long ends.2)

  long_explained_trace : EndsOnExplained form other (Some bytes) ended old new → ReadsNone ended old new
  long_explained_trace (inl none) = none
  long_explained_trace (inr ends) = absurd (long_is_of bytes ends.1 long ends.3)

  long_checked_policy : EndsOnChecked (Some bytes) other ended old new → ReadsNone ended old new
  long_checked_policy (inl none) = none
  long_checked_policy (inr ends) = absurd (long_is_of bytes ends.0 long ends.2)

  long_checked_trace : EndsOnChecked other (Some bytes) ended old new → ReadsNone ended old new
  long_checked_trace (inl none) = none
  long_checked_trace (inr ends) = absurd (long_is_of bytes ends.1 long ends.3)

pub long_files_fail : LongFilesFail
long_files_fail bytes other rounds form ended old new long = (
  long_checked bytes other rounds form ended old new long,
  long_raced bytes other rounds form ended old new long,
  long_policy bytes other rounds form ended old new long,
  long_trace bytes other rounds form ended old new long,
  long_explained_policy bytes other rounds form ended old new long,
  long_explained_trace bytes other rounds form ended old new long,
  long_checked_policy bytes other rounds form ended old new long,
  long_checked_trace bytes other rounds form ended old new long,
)
