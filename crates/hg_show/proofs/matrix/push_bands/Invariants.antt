use Rattle.std.proofs.Common.{◌≡◌, ◌-◌, ◌++◌, length}
use Rattle.std.specs.List.{range_with_len}
use Rattle.hg_show.specs.Bands.{bands, bands_from}
use Rattle.hg_show.specs.Matrix.{bands_text}
use Rattle.hg_show.proofs.matrix.push_bands.Given as goal

-- with the bands of the owners to come the text is whole
abbrev pub invariant-loop-owner : goal.invariant-loop-owner
invariant-loop-owner l = l.out.items ++ bands_text l.policy (bands_from l.policy l.band.items (range_with_len l.owner (length l.policy.tenants - l.owner))) ≡ l.fn.out.items ++ bands_text l.policy (bands l.policy)
