use Rattle.std.proofs.Common.{◌≡◌, false, take}
use Rattle.std.specs.List.{list_any}
use Rattle.hg_place.specs.Places.{number_of}
use Rattle.hg_machine.specs.Holders.{is_number}
use Rattle.hg_state.proofs.sent.is_in_hand.Given as goal

-- no worker so far has it in hand
abbrev pub invariant-loop-worker : goal.invariant-loop-worker
invariant-loop-worker l = list_any (is_number (number_of l.place)) (take l.worker l.core.state.hands) ≡ false
