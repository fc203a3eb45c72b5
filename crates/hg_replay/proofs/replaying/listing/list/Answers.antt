use Rattle.std.proofs.Common.{length, filter, subst}
use Rattle.hg_replay.specs.Rows.{is_row}
use Rattle.hg_replay.specs.Text.{answer_lines, listing_end}
use Rattle.hg_replay.specs.Writes.{Emits}
use Rattle.hg_replay.proofs.Writes.{emits_then}
use Rattle.hg_replay.proofs.replaying.listing.list.Goals as goal

pub returns-clause-listed : goal.returns-clause-listed
returns-clause-listed g c =
    let s = c.args.core.now.state in
    let seen = g.W.Sink.seen in
    let looked = c.list_rows-rows.ensures.looked in
    let lines = filter is_row looked.answers in
    let mid = c.list_rows-rows.new in
    let last = c.put_listing_end.new in
    let end : Emits (seen mid.out) mid.output (seen last.out) last.self (listing_end (length lines)) =
    subst (λ n. Emits (seen mid.out) mid.output (seen last.out) last.self (listing_end n)) looked.counted c.put_listing_end.ensures in (
      looked.answers,
      looked.chosen,
      emits_then (seen c.args.out.now) (seen mid.out) (seen last.out) c.args.output.now mid.output last.self
          (answer_lines s.policy lines) (listing_end (length lines)) looked.given end,
    )
