use Rattle.std.proofs.Common.{◌≡◌, ◌+◌, ◌*◌, refl, sym, ap, subst, ◌∙◌, arith}
use Rattle.std.specs.List.{range_with_len}
use Rattle.hg_machine.specs.Holders.{holds}
use Rattle.hg_replay.specs.Looked.{Looked}
use Rattle.hg_replay.proofs.Looking.{looked_none, looked_more, held_none, held_whole}
use Rattle.hg_replay.proofs.replaying.listing.list_held.Goals as goal

pub returns-then-not-holds-clause-looked : goal.returns-then-not-holds-clause-looked
returns-then-not-holds-clause-looked g c =
    let s = c.args.core.now.state in
    let seen = g.W.Sink.seen in
    subst (λ places. Looked c.args.core.now c.args.worker c.args.actor places 0 (seen c.args.out.now) c.args.output.now (seen c.args.out.now) c.args.output.now)
    (sym (held_none s c.args.worker c.args.segment (sym c.holds.ensures ∙ c.if-not-holds.true)))
    (looked_none c.args.core.now c.args.worker c.args.actor (seen c.args.out.now) c.args.output.now)

pub list_page-rows-requires-clause-held : goal.list_page-rows-requires-clause-held
list_page-rows-requires-clause-held g c =
    ap (λ k. holds k.state c.args.worker c.args.segment) c.loop-page.invariant.same ∙ sym
    c.holds.ensures ∙ c.if-not-holds.false

pub loop-page-init : goal.loop-page-init
loop-page-init g c =
    let seen = g.W.Sink.seen in
    record {
      same = refl;
      looked = looked_none c.args.core.now c.args.worker c.args.actor (seen c.args.out.now)
          c.args.output.now;
      few = omega arith;
    }

pub loop-page-preserved : goal.loop-page-preserved
loop-page-preserved g c =
    let k = c.args.core.now in
    let w = c.args.worker in
    let actor = c.args.actor in
    let first = c.args.segment * 8192 in
    let l = c.loop-page in
    let at = first + l.page * 512 in
    let seen = g.W.Sink.seen in
    let so_far = l.invariant in
    let rows = c.list_page-rows.result in
    let new = c.list_page-rows.new in
    let here = subst (λ t. Looked t w actor (range_with_len at 512) rows (seen l.out) l.output
    (seen new.out) new.output) so_far.same c.list_page-rows.ensures.looked in
    record {
      same = c.list_page-rows.ensures.same ∙ so_far.same;
      looked =
          looked_more k w actor first (l.page * 512) 512 at ((l.page + 1) * 512) l.rows rows
          (seen c.args.out.now) (seen l.out) (seen new.out)
          c.args.output.now l.output new.output refl (omega arith) so_far.looked here;
      few = let a = so_far.few in let b = c.list_page-rows.ensures.few in omega arith;
    }

pub returns-clause-looked : goal.returns-clause-looked
returns-clause-looked g c =
    let k = c.args.core.now in
    let l = c.loop-page in
    let seen = g.W.Sink.seen in
    let first = c.args.segment * 8192 in
    let end : l.page * 512 ≡ 8192 = omega arith in
    subst (λ places. Looked k c.args.worker c.args.actor places l.rows (seen c.args.out.now)
    c.args.output.now (seen l.out) l.output)
    (ap (range_with_len first) end ∙ sym (held_whole k.state c.args.worker c.args.segment
    (sym c.holds.ensures ∙ c.if-not-holds.false)))
    l.invariant.looked
