use Rattle.std.proofs.Common.{rules, arith, ◌≡◌, ◌+◌}
use Rattle.hg_table.specs.Steps.{nothing}
use Rattle.hg_table.proofs.ManyParts.{cuts}
use Rattle.hg_table.proofs.life_table.worker_seat.Goals as goal

pub split_seat-seat-requires : goal.split_seat-seat-requires
split_seat-seat-requires c =
    let wide : c.deref.result.now.shared.table_id.words ≡ c.deref.result.now.shared.key + 1 = search rules in
    (search rules, omega arith, cuts _ _ nothing _ (c.requires.one, c.requires.left))
