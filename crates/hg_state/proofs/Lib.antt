mod CellsDrawn
mod Coming
mod CostsTold
mod OrphansTold
mod Texts
