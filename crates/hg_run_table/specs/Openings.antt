-- The parts with which a table begins.
use Rattle.std.specs.Prelude.{List, [], map}
use Rattle.hg_machine.specs.Policy.{Policy}
use Rattle.hg_machine.specs.State.{opening}
use Rattle.hg_roles.specs.FirstParts.{first_roles}
use Rattle.hg_roles.specs.Roles.{Role}
use Rattle.hg_run_table.specs.declared.part.Part.{Part}
use Rattle.hg_run_table.specs.Seated.{name_in}

-- no call was made of a part, which is asked nothing and has what the opening has
abbrev pub first_part : Policy → Role → Part
first_part policy role =
    record { name = name_in role; log = []; asked = []; witness = opening policy }

-- one of each name
abbrev pub first_parts : Policy → List Part
first_parts policy = map (first_part policy) (first_roles policy)
