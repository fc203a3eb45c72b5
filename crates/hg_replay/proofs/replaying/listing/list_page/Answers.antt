use Rattle.std.proofs.Common.{◌≡◌, ℕ, ◌+◌, ◌-◌, ◌*◌, [], ◌∷◌, refl, ap, subst, ◌∙◌, arith}
use Rattle.hg_machine.specs.State.{record_at}
use Rattle.hg_core.specs.BlockPlaces.{first_place}
use Rattle.hg_replay.specs.Looked.{Looked}
use Rattle.hg_replay.proofs.Looking.{looked_more, looked_past_home}
use Rattle.hg_replay.proofs.replaying.listing.list_page.Goals as goal

pub loop-index-preserved : goal.loop-index-preserved
loop-index-preserved g c =
    let k = c.args.core.now in
    let w = c.args.worker in
    let actor = c.args.actor in
    let first = c.args.segment * 8192 + c.args.page * 512 in
    let l = c.loop-index in
    let seen = g.W.Sink.seen in
    let so_far = l.invariant in
    let rows = c.look-rows.result in
    let new = c.look-rows.new in
    let number : c.args.segment * 8192 + (c.from-first.result * 512 + c.from.result) ≡ first
    + l.index =
    omega (arith, c.from-first.ensures, c.from.ensures) in
    let looked =
    subst (λ t. Looked t w actor ((c.args.segment * 8192
    + (c.from-first.result * 512 + c.from.result)) ∷ []) rows (seen l.out) l.output (seen new.out)
    new.output)
    so_far.same c.look-rows.ensures.looked in
    let here = subst (λ (n : ℕ). Looked k w actor (n ∷ []) rows (seen l.out) l.output (seen new.out)
    new.output) number looked in
    record {
      same = c.look-rows.ensures.same ∙ so_far.same;
      looked =
          looked_more k w actor first l.index 1 (first + l.index) (l.index + 1) l.rows rows
          (seen c.args.out.now) (seen l.out) (seen new.out)
          c.args.output.now l.output new.output refl refl so_far.looked here;
      few = let a = so_far.few in let b = c.look-rows.ensures.few in omega arith;
    }

pub returns-clause-looked : goal.returns-clause-looked
returns-clause-looked g c =
    let k = c.args.core.now in
    let w = c.args.worker in
    let segment = c.args.segment in
    let page = c.args.page in
    let first = segment * 8192 + page * 512 in
    let l = c.loop-index in
    let seen = g.W.Sink.seen in
    let told = c.block_places-index-end.ensures in
    looked_past_home k w c.args.actor first l.index 512 l.rows (seen c.args.out.now) (seen l.out)
    c.args.output.now l.output
    (let few = told.few in omega arith)
    (omega (arith, c.requires.segment, c.requires.page))
    (λ p from below.
    let there : p ≡ first_place segment page + (p - first) = omega (arith, from) in
    ap (λ (n : ℕ). (record_at k.state n).life) there
    ∙ told.home w c.requires.held c.requires.page (p - first) (omega (arith, from))
    (omega (arith, from, below)))
    l.invariant.looked
