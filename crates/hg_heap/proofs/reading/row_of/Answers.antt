use Rattle.std.proofs.Common.{◌∙◌, ◌*◌, ◌≤◌, sym, ap, arith, subst, refl, ℕ}
use Rattle.hg_place.specs.declared.Right.TheVariants as right
use Rattle.hg_segment.specs.Kept.{Kept}
use Rattle.hg_heap.proofs.Looking.{looked_of, open_after, listed_as, generation_shown}
use Rattle.hg_heap.proofs.Reached.{denied_by, allowed_by}
use Rattle.hg_heap.proofs.reading.row_of.Goals as goal

pub size_of-requires-clause-open : goal.size_of-requires-clause-open
size_of-requires-clause-open g c = let w = g.S.SlotWords in let l = c.look-word.ensures in
    open_after g.met.S.SlotWords.fits c.args.policy.now c.args.actor.0 right.List (record {
      place = c.args.place;
      generation = c.listed_generation.result;
      given_out =
          subst (λ n. 1 ≤ n) (sym c.listed_generation.ensures) (omega arith);
    }) (looked_of w.number w.records w.shows w.steps c.args.place c.look-word.result
    c.args.segment.now
    c.look-word.new.self l.shown l.step l.number l.records l.others) (allowed_by _ (sym
    c.in_default.is ∙ c.judge.ensures))

pub returns-in-Denied : goal.returns-in-Denied
returns-in-Denied g c = let w = g.S.SlotWords in let l = c.look-word.ensures in
    let looked = looked_of w.number w.records w.shows w.steps c.args.place c.look-word.result
    c.args.segment.now c.look-word.new.self l.shown l.step l.number l.records l.others in
    record {
      looked = looked;
      words = ap (λ (k : Kept g.row.S.Denot). k.words) l.others;
      none = (
        c.in-Denied.field-0,
        listed_as c.args.policy.now c.args.actor c.args.place c.look-word.result
            c.listed_generation.result c.listed_generation.ensures
            ∙ denied_by _ c.in-Denied.field-0 (sym c.in-Denied.is ∙ c.judge.ensures),
      );
      allowed = tt;
      row = tt;
    }

pub returns : goal.returns
returns g c = let w = g.S.SlotWords in let l = c.look-word.ensures in
    let looked = looked_of w.number w.records w.shows w.steps c.args.place c.look-word.result
    c.args.segment.now c.look-word.new.self l.shown l.step l.number l.records l.others in
    record {
      looked = looked;
      words = ap (λ (k : Kept g.row.S.Denot). k.words) l.others;
      none = tt;
      allowed = listed_as c.args.policy.now c.args.actor c.args.place c.look-word.result
          c.listed_generation.result c.listed_generation.ensures
          ∙ allowed_by _ (sym c.in_default.is ∙ c.judge.ensures);
      row = record {
        stands = refl;
        generation = generation_shown g.met.S.SlotWords.fits c.args.policy.now c.args.actor.0
            right.List (record {
              place = c.args.place;
              generation = c.listed_generation.result;
              given_out =
                  subst (λ n. 1 ≤ n) (sym c.listed_generation.ensures) (omega arith);
            }) looked
            (allowed_by _ (sym c.in_default.is ∙ c.judge.ensures));
        owner = c.word_owner.ensures.value;
        bytes = ap (λ (n : ℕ). 8 * n) (c.from.ensures ∙ c.size_of.ensures.words);
      };
    }
