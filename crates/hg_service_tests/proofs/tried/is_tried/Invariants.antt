use Rattle.hg_table.specs.Named.{table_of}
use Rattle.hg_service_tests.proofs.tried.is_tried.Given as goal

-- the table that was just made, and its policy
abbrev pub ghosts-on_service-N-TableName : goal.ghosts-on_service-N-TableName
ghosts-on_service-N-TableName g a = record { table = table_of a.made.1 }

abbrev pub ghosts-on_service-N-ServiceName : goal.ghosts-on_service-N-ServiceName
ghosts-on_service-N-ServiceName g a = record { policy = a.made.0 }

abbrev pub ghosts-on_parts-N-TableName : goal.ghosts-on_parts-N-TableName
ghosts-on_parts-N-TableName g a = record { table = table_of a.made.1 }

abbrev pub ghosts-on_parts-N-ServiceName : goal.ghosts-on_parts-N-ServiceName
ghosts-on_parts-N-ServiceName g a = record { policy = a.made.0 }
