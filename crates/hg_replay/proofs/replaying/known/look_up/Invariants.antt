use Rattle.std.proofs.Common.{◌≡◌, ◌≤◌, length, take, vec_len, vec_capacity}
use Rattle.hg_labels.specs.Indexes.{texts}
use Rattle.hg_replay.specs.KnownNames.{meanings}
use Rattle.hg_replay.proofs.replaying.known.look_up.Given as goal

-- the names so far are looked up
abbrev pub invariant-loop-name : goal.invariant-loop-name
invariant-loop-name l = record {
  meant : l.meant.items ≡ meanings l.policy (texts (take l.name-index l.names));
  count : vec_len l.meant ≡ l.name-index;
  room : length l.names ≤ vec_capacity l.meant;
}
