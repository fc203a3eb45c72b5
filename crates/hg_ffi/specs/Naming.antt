-- Which number goes by a name, and which name by a number, in a core's policy.
use Rattle.std.specs.Prelude.{◌≡◌, ◌≢◌, ℕ, List, Option}
use Rattle.hg_machine.specs.Lists.{Kept}
use Rattle.hg_policy.specs.Names.{tenant_name}
use Rattle.hg_reply.specs.declared.reply.Reply.{Reply}
use Rattle.hg_reply.specs.Naming.{IsNamed, named, nobody}
use Rattle.hg_reply.specs.Replies.{closed, valued}
use Rattle.hg_ffi.specs.declared.lent_core.LentCore.{LentCore}
use Rattle.hg_ffi.specs.Owning.{open_mark}

-- Where a look-up finds no number, since the core is closed or nothing has the name, the value is
-- nobody's
pub record Finds (host : LentCore) (number : Kept → Option ℕ) (reply : Reply) : Type 0 where
  pub shut : host.mark ≢ open_mark → reply ≡ valued 64 nobody
  pub found : host.mark ≡ open_mark → reply ≡ named (number host.core)

-- the name of a tenant is asked for
pub record TellsName (host : LentCore) (tenant : ℕ) (room : List ℕ) (reply : Reply)
    (told : List ℕ) : Type 0 where
  pub shut : host.mark ≢ open_mark → (reply ≡ closed) × (told ≡ room)
  pub named :
      host.mark ≡ open_mark → IsNamed (tenant_name host.core.state.policy tenant) room reply told
