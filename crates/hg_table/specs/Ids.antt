-- Two names of a table are equal in one way at most.
use Rattle.std.specs.Prelude.{◌≡◌}
use base.Stored.{Coded-set}
use Rattle.atomic_table.specs.Seated.{TableId, table_id_coded}

pub TableId-set : (a b : TableId) → IsProp (a ≡ b)
TableId-set = Coded-set table_id_coded
