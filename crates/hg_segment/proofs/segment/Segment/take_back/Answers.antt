use Rattle.std.proofs.Common.{◌≡◌, ◌+◌, ◌*◌, ◌<◌, sym, ap, ◌∙◌, arith, refl}
use Rattle.hg_place.specs.declared.standing.Standing.TheVariants.{Open}
use Rattle.hg_place.specs.Standings.{standing_at, is_home, standing_generation}
use Rattle.hg_segment.proofs.KeptBlocks.{class_there, class_read}
use Rattle.hg_segment.proofs.WentHome.{homed, taken_home, taken_same, owner_small}
use Rattle.hg_segment.proofs.segment.Segment.take_back.Goals as goal

pub unreachable-requires : goal.unreachable-requires
unreachable-requires g c =
    let i = c.self.inside in let rs = g.S.SlotWords.records i.slots in let at = c.args.page * 512 + c.args.index in
    let below : at < 8192 = omega (arith, c.requires.page, c.requires.index) in
    let was : standing_at rs at ≡ Open c.in-Open.generation c.in-Open.owner = sym c.standing.ensures ∙ c.in-Open.is in
    class_there _ _ _ _ _ _ c.args.page c.args.index c.self.invariant c.requires.page c.requires.index (ap is_home was) c.get.result c.get.ensures c.in_default-get.is

pub lower-requires-clause-left : goal.lower-requires-clause-left
lower-requires-clause-left g c =
    let i = c.self.inside in let rs = g.S.SlotWords.records i.slots in let at = c.args.page * 512 + c.args.index in
    let below : at < 8192 = omega (arith, c.requires.page, c.requires.index) in
    let was : standing_at rs at ≡ Open c.in-Open.generation c.in-Open.owner = sym c.standing.ensures ∙ c.in-Open.is in
    let took = c.in-Ok.ensures.ok in
    let owned = owner_small (standing_at rs at) c.in-Open.generation c.in-Open.owner was (g.met.S.SlotWords.sane i.slots at below) in
    let now = taken_home rs (g.S.SlotWords.records c.take.new.self) at c.in-Open.generation c.in-Open.owner took.0 was (g.met.S.SlotWords.fits i.slots at took.0 below took.2).1 took.4 in
    let class = class_read _ c.args.page c.in-Some.class c.get.result c.get.ensures c.in-Some.is in
    (homed _ _ _ _ _ _ _ _ _ _ _ _ _ _ _ _ _ _ c.self.invariant c.requires.page c.requires.index (g.met.S.SlotWords.sized i.slots) class was owned now
    c.index_mut-lists.ensures.value refl c.put_back.ensures.linked c.put_back.ensures.returned c.put_back.ensures.others c.put_back.ensures.shape refl c.block_bytes.ensures).left

pub invariant_of-self-in-Ok : goal.invariant_of-self-in-Ok
invariant_of-self-in-Ok g c =
    let i = c.self.inside in let rs = g.S.SlotWords.records i.slots in let at = c.args.page * 512 + c.args.index in
    let below : at < 8192 = omega (arith, c.requires.page, c.requires.index) in
    let was : standing_at rs at ≡ Open c.in-Open.generation c.in-Open.owner = sym c.standing.ensures ∙ c.in-Open.is in
    let took = c.in-Ok.ensures.ok in
    let owned = owner_small (standing_at rs at) c.in-Open.generation c.in-Open.owner was (g.met.S.SlotWords.sane i.slots at below) in
    let now = taken_home rs (g.S.SlotWords.records c.take.new.self) at c.in-Open.generation c.in-Open.owner took.0 was (g.met.S.SlotWords.fits i.slots at took.0 below took.2).1 took.4 in
    let class = class_read _ c.args.page c.in-Some.class c.get.result c.get.ensures c.in-Some.is in
    rw c.lower.ensures ((homed _ _ _ _ _ _ _ _ _ _ _ _ _ _ _ _ _ _ c.self.invariant c.requires.page c.requires.index (g.met.S.SlotWords.sized i.slots) class was owned now
    c.index_mut-lists.ensures.value refl c.put_back.ensures.linked c.put_back.ensures.returned c.put_back.ensures.others c.put_back.ensures.shape refl c.block_bytes.ensures).right)

pub returns-in-Some-clause-taken : goal.returns-in-Some-clause-taken
returns-in-Some-clause-taken g c =
    let i = c.self.inside in let rs = g.S.SlotWords.records i.slots in let at = c.args.page * 512 + c.args.index in
    let below : at < 8192 = omega (arith, c.requires.page, c.requires.index) in
    let was : standing_at rs at ≡ Open c.in-Open.generation c.in-Open.owner = sym c.standing.ensures ∙ c.in-Open.is in
    let took = c.in-Ok.ensures.ok in
    let owned = owner_small (standing_at rs at) c.in-Open.generation c.in-Open.owner was (g.met.S.SlotWords.sane i.slots at below) in
    let now = taken_home rs (g.S.SlotWords.records c.take.new.self) at c.in-Open.generation c.in-Open.owner took.0 was (g.met.S.SlotWords.fits i.slots at took.0 below took.2).1 took.4 in
    rw (← c.self.view_is) (λ _. record {
      was = ap is_home was;
      word = took.0;
      ended = took.1;
      shown = took.2;
      step = took.3;
      home = taken_same rs (g.S.SlotWords.records c.take.new.self) at c.in-Open.generation c.in-Open.owner was now;
    })

pub returns-in-Some-clause-lists : goal.returns-in-Some-clause-lists
returns-in-Some-clause-lists g c =
    let i = c.self.inside in let rs = g.S.SlotWords.records i.slots in let at = c.args.page * 512 + c.args.index in
    let below : at < 8192 = omega (arith, c.requires.page, c.requires.index) in
    let was : standing_at rs at ≡ Open c.in-Open.generation c.in-Open.owner = sym c.standing.ensures ∙ c.in-Open.is in
    let took = c.in-Ok.ensures.ok in
    let owned = owner_small (standing_at rs at) c.in-Open.generation c.in-Open.owner was (g.met.S.SlotWords.sane i.slots at below) in
    let now = taken_home rs (g.S.SlotWords.records c.take.new.self) at c.in-Open.generation c.in-Open.owner took.0 was (g.met.S.SlotWords.fits i.slots at took.0 below took.2).1 took.4 in
    let class = class_read _ c.args.page c.in-Some.class c.get.result c.get.ensures c.in-Some.is in
    let e : standing_generation (standing_at rs at) ≡ c.in-Open.generation = ap standing_generation was in
    rw (← c.self.view_is) (λ _. rw e ((homed _ _ _ _ _ _ _ _ _ _ _ _ _ _ _ _ _ _ c.self.invariant c.requires.page c.requires.index (g.met.S.SlotWords.sized i.slots) class was owned now
    c.index_mut-lists.ensures.value refl c.put_back.ensures.linked c.put_back.ensures.returned c.put_back.ensures.others c.put_back.ensures.shape refl c.block_bytes.ensures).lists))

pub returns-in-Some-clause-blocks : goal.returns-in-Some-clause-blocks
returns-in-Some-clause-blocks g c =
    let i = c.self.inside in let rs = g.S.SlotWords.records i.slots in let at = c.args.page * 512 + c.args.index in
    let below : at < 8192 = omega (arith, c.requires.page, c.requires.index) in
    let was : standing_at rs at ≡ Open c.in-Open.generation c.in-Open.owner = sym c.standing.ensures ∙ c.in-Open.is in
    let took = c.in-Ok.ensures.ok in
    let owned = owner_small (standing_at rs at) c.in-Open.generation c.in-Open.owner was (g.met.S.SlotWords.sane i.slots at below) in
    let now = taken_home rs (g.S.SlotWords.records c.take.new.self) at c.in-Open.generation c.in-Open.owner took.0 was (g.met.S.SlotWords.fits i.slots at took.0 below took.2).1 took.4 in
    let class = class_read _ c.args.page c.in-Some.class c.get.result c.get.ensures c.in-Some.is in
    rw (← c.self.view_is) (homed _ _ _ _ _ _ _ _ _ _ _ _ _ _ _ _ _ _ c.self.invariant c.requires.page c.requires.index (g.met.S.SlotWords.sized i.slots) class was owned now
    c.index_mut-lists.ensures.value refl c.put_back.ensures.linked c.put_back.ensures.returned c.put_back.ensures.others c.put_back.ensures.shape refl c.block_bytes.ensures).blocks
