use Rattle.std.proofs.Common.{◌≡◌, ◌+◌, ◌*◌, length, sym, ap, subst, ◌∙◌, arith}
use Rattle.std.specs.List.{range_with_len}
use Rattle.hg_replay.specs.Listings.{held_among}
use Rattle.hg_replay.specs.Looked.{Looked}
use Rattle.hg_replay.proofs.Looking.{looked_then, held_more}
use Rattle.hg_replay.proofs.replaying.listing.list_rows.Goals as goal

pub loop-segment-preserved : goal.loop-segment-preserved
loop-segment-preserved g c =
    let k = c.args.core.now in
    let s = k.state in
    let w = c.args.worker in
    let actor = c.args.actor in
    let i = c.loop-segment.segment in
    let m = c.loop-segment.rows in
    let n = c.list_held-rows.result in
    let seen = g.W.Sink.seen in
    let so_far = c.loop-segment.invariant in
    let new = c.list_held-rows.new in
    let places = range_with_len (i * 8192) 8192 in
    let here : Looked k w actor (held_among s w places) n (seen c.loop-segment.out) c.loop-segment.output (seen new.out) new.output =
    subst (λ t. Looked t w actor (held_among t.state w places) n (seen c.loop-segment.out) c.loop-segment.output (seen new.out) new.output)
    so_far.same c.list_held-rows.ensures.looked in
    record {
      same = c.list_held-rows.ensures.same ∙ so_far.same;
      looked =
          subst (λ all. Looked k w actor all (m + n) (seen c.args.out.now) c.args.output.now (seen new.out) new.output)
          (sym (held_more s w i))
          (looked_then k w actor (held_among s w (range_with_len 0 (i * 8192))) (held_among s w places) m n (seen c.args.out.now)
          (seen c.loop-segment.out) (seen new.out) c.args.output.now c.loop-segment.output new.output so_far.looked here);
      few = let a = so_far.few in let b = c.list_held-rows.ensures.few in omega arith;
    }

pub returns-clause-looked : goal.returns-clause-looked
returns-clause-looked g c =
    let s = c.args.core.now.state in
    let w = c.args.worker in
    let seen = g.W.Sink.seen in
    let count : c.segments-segment-end.result ≡ length s.policy.segments =
    c.segments-segment-end.ensures.segments ∙ ap (λ p. length p.segments) c.policy.ensures.value in
    let end : c.loop-segment.segment * 8192 ≡ length s.records =
    (let a : c.loop-segment.segment ≡ c.segments-segment-end.result = omega arith in ap (λ n. n * 8192) (a ∙ count)) ∙ sym c.policy.ensures.kept.0.whole.records in
    subst
    (λ n. Looked c.args.core.now w c.args.actor (held_among s w (range_with_len 0 n)) c.loop-segment.rows (seen c.args.out.now) c.args.output.now
    (seen c.loop-segment.out) c.loop-segment.output)
    end c.loop-segment.invariant.looked
