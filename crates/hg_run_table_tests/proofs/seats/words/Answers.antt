use Rattle.std.proofs.Common.{sym, ◌∙◌, arith}
use Rattle.std.proofs.lemmas.Option.{slice_get_read}
use Rattle.hg_run_table_tests.proofs.seats.words.Goals as goal

pub look-by_worker-requires-clause-same : goal.look-by_worker-requires-clause-same
look-by_worker-requires-clause-same c =
    let opened = c.in_ok-table.ensures in
    let two = sym (opened.workers ∙ c.requires.workers) in
    (opened.each_worker 1 _ (slice_get_read _ 2 1 _ two (omega arith) c.index_mut.ensures.value)).same

pub look-by_list-requires-clause-same : goal.look-by_list-requires-clause-same
look-by_list-requires-clause-same c =
    let opened = c.in_ok-table.ensures in
    let two = sym (opened.lists ∙ c.requires.segments) in
    (opened.each_list 1 _ (slice_get_read _ 2 1 _ two (omega arith) c.index_mut-2.ensures.value)).same

pub look-by_segment-requires-clause-same : goal.look-by_segment-requires-clause-same
look-by_segment-requires-clause-same c =
    let opened = c.in_ok-table.ensures in
    let two = sym (opened.segments ∙ c.requires.segments) in
    (opened.each_segment 1 _ (slice_get_read _ 2 1 _ two (omega arith) c.index_mut-3.ensures.value)).same
