-- Which table it is: what a caller picks the name of a table by.
use Rattle.atomic_table.specs.Seated.{TableId}
use Rattle.hg_table.specs.declared.life_table.LifeTable.{LifeTable}
use Rattle.hg_table.specs.declared.segment.UnnamedSegment.{UnnamedSegment}
use Rattle.hg_table.specs.declared.worker.UnnamedWorker.{UnnamedWorker}

abbrev pub table_of : LifeTable → TableId
table_of table = table.initial.table_id

abbrev pub table_of_segment : UnnamedSegment → TableId
table_of_segment seat = seat.seat.table_id

abbrev pub table_of_worker : UnnamedWorker → TableId
table_of_worker seat = seat.badge.table_id
