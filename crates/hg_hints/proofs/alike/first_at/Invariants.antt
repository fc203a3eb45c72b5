use Rattle.std.proofs.Common.{◌≡◌, drop, find}
use Rattle.hg_hints.specs.Near.{is_at}
use Rattle.hg_hints.proofs.Finds.{texts}
use Rattle.hg_hints.proofs.alike.first_at.Given as goal

-- no name so far is at so many edits
abbrev pub invariant-loop-other : goal.invariant-loop-other
invariant-loop-other l =
    find (is_at l.n l.name) (texts (drop l.other-index l.names)) ≡ find (is_at l.n l.name) (texts l.names)
