use Rattle.std.proofs.Common.{◌≢◌, ℕ, None, sym, ap, subst}
use Rattle.hg_place.specs.declared.standing.Standing.{Standing}
use Rattle.hg_place.specs.Standings.{slot_of, Fits}
use Rattle.hg_segment.specs.Kept.{Kept}
use Rattle.hg_heap.specs.Freeing.{free_denial, IsNeverFreed}
use Rattle.hg_heap.proofs.Looking.{looked_of, slot_below}
use Rattle.hg_heap.proofs.freeing.close_block.Goals as goal
use Rattle.hg_heap.proofs.freeing.close_block.Goals.{After-standing-standing}
use Rattle.hg_heap.proofs.freeing.close_block.Given.{Over}

-- each word that is shown but one is denied
never : (g : Over) (c : After-standing-standing g) (word : ℕ) → IsNeverFreed c.args.policy.now c.args.actor.0 c.args.handle c.standing-standing.result
    → g.S.SlotWords.shows c.args.segment.now.slots (slot_of c.args.handle.place) word
    → free_denial c.args.policy.now c.args.actor.0 c.args.handle word ≢ None
never g c word none shown =
    let f = g.met.S.SlotWords.fits c.args.segment.now.slots (slot_of c.args.handle.place) word (slot_below c.args.handle.place) shown in
    λ e. none word f.0 (subst (λ (s : Standing). Fits s word) (sym c.standing-standing.ensures) f.1) e

pub look-word-requires-clause-allowed : goal.look-word-requires-clause-allowed
look-word-requires-clause-allowed g c = λ word shown.
    c.requires.allowed.denied word shown (never g (goal.at.look-word-requires-clause-allowed g c).After-standing-standing word c.in_default.ensures.none shown)

pub close_here-requires-clause-hit : goal.close_here-requires-clause-hit
close_here-requires-clause-hit g c = λ shown. c.requires.allowed.served c.in-Some.expected shown c.in-Some.ensures.some.undenied

pub close_here-requires-clause-miss : goal.close_here-requires-clause-miss
close_here-requires-clause-miss g c = λ word other shown.
    let f = g.met.S.SlotWords.fits c.args.segment.now.slots (slot_of c.args.handle.place) word (slot_below c.args.handle.place) shown in
    c.requires.allowed.denied word shown
    (λ e. other (c.in-Some.ensures.some.only word f.0 (subst (λ (s : Standing). Fits s word) (sym c.standing-standing.ensures) f.1) e))

pub denied-requires : goal.denied-requires
denied-requires g c = let l = c.look-word.ensures in
    let f = g.met.S.SlotWords.fits c.args.segment.now.slots
    (slot_of c.args.handle.place) c.look-word.result (slot_below c.args.handle.place) l.shown in
    λ e. c.in_default.ensures.none c.look-word.result f.0
    (subst (λ (s : Standing). Fits s c.look-word.result) (sym c.standing-standing.ensures) f.1)
    e

pub denied-requires-in-Err : goal.denied-requires-in-Err
denied-requires-in-Err g c = let l = c.in-Err.ensures.err in
    let f = g.met.S.SlotWords.fits c.args.segment.now.slots
    (slot_of c.args.handle.place) c.in-Err.word (slot_below c.args.handle.place) l.1 in
    λ e. l.0 (c.in-Some.ensures.some.only c.in-Err.word f.0
    (subst (λ (s : Standing). Fits s c.in-Err.word) (sym c.standing-standing.ensures) f.1) e)

pub returns-in_default : goal.returns-in_default
returns-in_default g c = let w = g.S.SlotWords in let l = c.look-word.ensures in record {
  closed = tt;
  denied = (
    c.look-word.result,
    looked_of w.number w.records w.shows w.steps c.args.handle.place c.look-word.result
        c.args.segment.now c.look-word.new.self l.shown l.step l.number l.records l.others,
    c.denied.ensures,
  );
  words = ap (λ (k : Kept g.row.S.Denot). k.words) l.others;
}

pub returns-in-Err : goal.returns-in-Err
returns-in-Err g c = let w = g.S.SlotWords in let r = c.in-Err.ensures in let l = r.err in record {
  closed = tt;
  denied = (
    c.in-Err.word,
    looked_of w.number w.records w.shows w.steps c.args.handle.place c.in-Err.word
        c.args.segment.now c.close_here.new.self l.1 l.2 r.number l.3 l.4,
    c.denied-in-Err.ensures,
  );
  words = ap (λ (k : Kept g.row.S.Denot). k.words) l.4;
}

pub returns : goal.returns
returns g c = let r = c.in_default-close_here.ensures in let o = c.in-Some.ensures.some in record {
  closed = (
    c.in-Some.expected,
    record {
      live = o.live;
      shown = r.ok.0;
      step = r.ok.1;
      same_number = r.number;
      fixed =
          r.fixed;
      home = r.ok.2;
      lists = r.lists;
      blocks = r.blocks;
    },
    o.undenied,
    c.word_owner.ensures.value,
  );
  denied = tt;
  words = tt;
}
