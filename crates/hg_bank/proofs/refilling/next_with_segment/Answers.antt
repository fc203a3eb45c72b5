use Rattle.std.proofs.Common.{◌≡◌, ◌-◌, length, find, sym, ap, ◌∙◌, arith}
use Rattle.std.specs.List.{range_with_len}
use Rattle.hg_bank.specs.Answers.{core_of_segment}
use Rattle.hg_bank.specs.Requests.{has_segment_in}
use Rattle.hg_bank.proofs.Searches.{found_first, found_later}
use Rattle.hg_bank.proofs.refilling.next_with_segment.Goals as goal

pub returns-in-Some-clause-found : goal.returns-in-Some-clause-found
returns-in-Some-clause-found c =
    let p = has_segment_in c.args.cores.now.items c.args.arena in
    let count : length c.args.cores.now.items ≡ c.len-count.result =
    omega (arith, c.args.cores.now.ok.0) in
    found_first p c.args.current (length c.args.cores.now.items) c.in-Some.segment.core
    (ap (λ n. find p (range_with_len c.args.current (n - c.args.current))) count
    ∙ c.in-Some.ensures.found)

pub returns-clause-found : goal.returns-clause-found
returns-clause-found c =
    let p = has_segment_in c.args.cores.now.items c.args.arena in
    let count : length c.args.cores.now.items ≡ c.len-count.result =
    omega (arith, c.args.cores.now.ok.0) in
    found_later p c.args.current (length c.args.cores.now.items)
    (core_of_segment c.first_with_segment-2.result)
    (ap (λ n. find p (range_with_len c.args.current (n - c.args.current))) count
    ∙ c.in_default.ensures.found)
    (ap (λ xs. find (has_segment_in xs c.args.arena) (range_with_len 0 (c.args.current - 0)))
    (sym c.in_default.ensures.none)
    ∙ c.first_with_segment-2.ensures.found)
