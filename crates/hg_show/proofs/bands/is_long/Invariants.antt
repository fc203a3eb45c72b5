use Rattle.std.proofs.Common.{◌≡◌, ◌≤◌, take}
use Rattle.hg_show.specs.Bands.{line_width}
use Rattle.hg_show.proofs.bands.is_long.Given as goal

-- the owners so far fit
abbrev pub invariant-loop-one : goal.invariant-loop-one
invariant-loop-one l = (l.width ≡ line_width l.policy (take l.one-index l.band)) × (l.width ≤ 100)
