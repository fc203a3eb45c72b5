use Rattle.hg_state.proofs.CellsDrawn.{cells_are_kinds as law}
use Rattle.hg_state.proofs.laws.cells_are_kinds.Goals as goal

pub returns : goal.returns
returns c = law
