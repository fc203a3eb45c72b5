-- How a policy's text opens a core.
use Rattle.std.specs.Prelude.{◌≡◌, ◌≢◌, ℕ, List, Ok}
use Rattle.hg_machine.specs.Lists.{Kept, IsPartition}
use Rattle.hg_machine.specs.Policy.{Policy}
use Rattle.hg_machine.specs.Soundness.{IsSound}
use Rattle.hg_core.specs.Opening.{opened}
use Rattle.hg_policy_text.specs.declared.fault.PolicyFault.{PolicyFault}
use Rattle.hg_policy_text.specs.declared.fault.PolicyFault.TheVariants as fault
use Rattle.hg_policy_text.specs.Document.{document_of}
use Rattle.hg_policy_text.specs.Faults.{FailsAs, fault_of}
use Rattle.hg_policy_text.specs.FaultLines.{fault_line}
use Rattle.hg_reply.specs.declared.reply.Reply.{Reply}
use Rattle.hg_ffi.specs.declared.host_core.HostCore.{HostCore}
use Rattle.hg_ffi.specs.Calls.{IsSame}
use Rattle.hg_ffi.specs.Owning.{open_mark}
use Rattle.hg_reply.specs.Replies.{valued, held}
use Rattle.hg_reply.specs.Telling.{IsToldOrNot}

-- 48 and the number that the fault has in its line; 57 is want of memory
abbrev pub fault_status : PolicyFault → ℕ
fault_status fault.NotToml = 49
fault_status (fault.Missing key) = 50
fault_status (fault.Kind key) = 51
fault_status (fault.Unknown key) = 52
fault_status (fault.Repeated name) = 53
fault_status (fault.NoSuchName name) = 54
fault_status (fault.TooMany counted) = 55
fault_status fault.Version = 56
fault_status fault.Memory = 57

-- a core in which nothing has happened yet, of the policy that the text is, with empty lists
pub record IsOpening (text : List ℕ) (core : Kept) : Type 0 where
  pub policy : Policy
  pub read : document_of text ≡ Ok policy
  pub first : core ≡ opened policy
  pub sound : IsSound core.state
  pub partition : IsPartition core

-- the reply tells the first fault of the text, or want of memory, and how many bytes of its line
-- stand in the room for them
pub record Faults (text old : List ℕ) (reply : Reply) (new : List ℕ) : Type 0 where
  pub fault : PolicyFault
  pub first : FailsAs (fault_of fault) (document_of text)
  pub status : reply ≡ valued (fault_status fault) reply.value
  pub line : IsToldOrNot (fault_line fault) old reply.value new

-- a core that is open stays as it was; a closed one opens, or stays closed and tells why
pub record Opens (old : HostCore) (text room : List ℕ) (reply : Reply) (new : HostCore)
    (told : List ℕ) : Type 0 where
  pub held : old.mark ≡ open_mark → (reply ≡ held) × IsSame old new × (told ≡ room)
  pub opened :
      old.mark ≢ open_mark → reply.status ≡ 2
      → (reply ≡ valued 2 0) × (new.mark ≡ open_mark) × IsOpening text new.core × (told ≡ room)
  pub refused :
      old.mark ≢ open_mark → reply.status ≢ 2 → IsSame old new × Faults text room reply told
