use Rattle.std.proofs.Common.{◌≡◌, ◌-◌, length, find, sym, ap, ◌∙◌, arith}
use Rattle.std.specs.List.{range_with_len}
use Rattle.hg_machine.specs.Request.{size_of}
use Rattle.hg_bank.specs.Answers.{core_of}
use Rattle.hg_bank.specs.Requests.{has_room_in}
use Rattle.hg_bank.proofs.Searches.{found_first, found_later}
use Rattle.hg_bank.proofs.allocating.next_with_room.Goals as goal

pub returns-in-Some-clause-found : goal.returns-in-Some-clause-found
returns-in-Some-clause-found c =
    let p = has_room_in c.args.cores.now.items c.args.worker c.args.arena (size_of c.args.bytes) in
    let count : length c.args.cores.now.items ≡ c.len-count.result =
    omega (arith, c.args.cores.now.ok.0) in
    found_first p c.args.current (length c.args.cores.now.items) c.in-Some.block.core
    (ap (λ n. find p (range_with_len c.args.current (n - c.args.current))) count
    ∙ c.in-Some.ensures.found)

pub returns-clause-found : goal.returns-clause-found
returns-clause-found c =
    let size = size_of c.args.bytes in
    let p = has_room_in c.args.cores.now.items c.args.worker c.args.arena size in
    let count : length c.args.cores.now.items ≡ c.len-count.result =
    omega (arith, c.args.cores.now.ok.0) in
    found_later p c.args.current (length c.args.cores.now.items)
    (core_of c.first_with_room-2.result)
    (ap (λ n. find p (range_with_len c.args.current (n - c.args.current))) count
    ∙ c.in_default.ensures.found)
    (ap (λ xs. find (has_room_in xs c.args.worker c.args.arena size)
    (range_with_len 0 (c.args.current - 0))) (sym c.in_default.ensures.none)
    ∙ c.first_with_room-2.ensures.found)
