use Rattle.std.proofs.Common.{◌≡◌, ◌-◌, [], ◌∷◌, not, is_some, Some, None, refl, sym, ap}
use Rattle.std.proofs.Common.{◌∙◌, arith}
use Rattle.hg_place.specs.declared.Right.TheVariants as right
use Rattle.hg_place.specs.Lives.{word_generation, IsLiveWord}
use Rattle.hg_heap.specs.Ties.{shown_at}
use Rattle.hg_heap.proofs.Reached.{denied_by, allowed_by}
use Rattle.hg_heap.proofs.Options.{none_is, some_of}
use Rattle.hg_heap.proofs.Undenied.{undenied_live}
use Rattle.hg_machine.specs.declared.Answer.TheVariants as answer
use Rattle.hg_machine.specs.declared.Event.TheVariants as event
use Rattle.hg_machine.specs.Policy.{arena_of}
use Rattle.hg_table.specs.Seats.{part_on}
use Rattle.hg_table.proofs.Knowing.{itself}
use Rattle.hg_table.proofs.Told.{is_ended}
use Rattle.hg_table.proofs.WordSteps.{freed_word_after}
use Rattle.hg_worker.specs.Judged.{rule_of}
use Rattle.hg_worker.specs.Seats.{number_in, records_in, part_of_seat}
use Rattle.hg_worker.specs.Seen.{word_of, Decided, Looked}
use Rattle.hg_worker.specs.Workers.{had_in}
use Rattle.hg_worker.proofs.Frees.{word_within, within_reach, hand_full}
use Rattle.hg_worker.proofs.Frees.{lost_is_denied, own_decides_twice, free_denied, free_busy}
use Rattle.hg_worker.proofs.Frees.{free_parted, own_steps_twice}
use Rattle.hg_worker.proofs.Hands.{own_saw, saw_freed, knows_new}
use Rattle.hg_worker.proofs.Judged.{judged_by}
use Rattle.hg_worker.proofs.Seats.{machines_unseen, machines_looked, machines_shown}
use Rattle.hg_worker.proofs.Steps.{no_step, own_looked, own_steps, seats_stay, looked_ends}
use Rattle.hg_worker.proofs.Tables.{same_together, same_words}
use Rattle.hg_worker.proofs.Workers.{held_by, whole_of}
use Rattle.hg_worker.proofs.worker.Worker.free_away.Given.{Over}
use Rattle.hg_worker.proofs.worker.Worker.free_away.Goals as goal
use Rattle.hg_worker.proofs.worker.Worker.free_away.Goals.{After-self-in-Err-2-1, After-self-3-1}
use Rattle.hg_worker.proofs.worker.Worker.free_away.Goals.{After-look-word}

-- a look at the place's word
looked : (g : Over) (c : After-look-word g)
    → Looked number_in part_of_seat c.args.handle.place
    (shown_at c.args.handle.place c.look-word.result) (had_in c.deref_mut-inner.result.now)
    (record (had_in c.deref_mut-inner.result.now) { own = part_on c.look-word.new.self.badge })
looked g c = own_looked number_in part_of_seat c.args.handle.place c.look-word.result _ _
    (ap is_some (sym c.arena_of.ensures) ∙ (c.is_none.ensures ∙ ap not c.if-is_none.false))
    (held_by _ c.deref_mut-inner.ensures.value c.requires) refl c.look-word.ensures.shown
    c.look-word.ensures.step

-- where its exchange failed, it has found a word twice
looked_twice : (g : Over) (c : After-self-in-Err-2-1 g)
    → Looked number_in part_of_seat c.args.handle.place
    (shown_at c.args.handle.place c.in-Err.found) (had_in c.deref_mut-inner.result.now)
    (record (had_in c.deref_mut-inner.result.now) { own = part_on c.part.new.self.badge })
looked_twice g c = (
  ap is_some (sym c.arena_of.ensures) ∙ (c.is_none.ensures ∙ ap not c.if-is_none.false),
  refl,
  own_decides_twice number_in part_of_seat c.args.handle.place c.look-word.result c.in-Err.found
      c.in-Err.found [] (had_in c.deref_mut-inner.result.now) _
      (part_on c.look-word.new.self.badge)
      (held_by _ c.deref_mut-inner.ensures.value c.requires) refl
      c.deref_mut-inner.result.now.seat.plain c.look-word.ensures.step c.in-Err.ensures.err.1
      c.in-Err.ensures.err.2 (itself c.in-Err.found)
      (looked_ends (word_of c.args.handle.place) c.in-Err.found),
)

-- and where it didn't, the life is over and in hand
live : (g : Over) (c : After-self-3-1 g)
    → IsLiveWord c.look-word.result
    × (word_generation c.look-word.result ≡ c.args.handle.generation)
live g c =
    let l = undenied_live c.deref_mut-inner.result.now.policy c.args.actor.0 right.Free
    c.args.handle c.look-word.result c.look-word.ensures.shown.slot_word
    (allowed_by _ c.in_default.ensures) in
    (l.0, l.1)

decided : (g : Over) (c : After-self-3-1 g)
    → Decided number_in part_of_seat c.args.handle.place c.look-word.result
    (c.look-word.result - 1)
    ((word_of c.args.handle.place, word_generation c.look-word.result) ∷ [])
    (had_in c.deref_mut-inner.result.now)
    (record (had_in c.deref_mut-inner.result.now) {
      own = part_on c.part.new.self.badge;
      hand = Some c.args.handle;
    })
decided g c =
    let at = word_of c.args.handle.place in
    let word = c.look-word.result in
    let ok = c.in_default-part.ensures.ok in
    own_decides_twice number_in part_of_seat c.args.handle.place word word (word - 1)
    ((at, word_generation word) ∷ []) (had_in c.deref_mut-inner.result.now) _
    (part_on c.look-word.new.self.badge) (held_by _ c.deref_mut-inner.ensures.value c.requires) refl
    c.deref_mut-inner.result.now.seat.plain c.look-word.ensures.step ok.0 ok.1
    (freed_word_after word (live g c).0).0 (λ es. is_ended at word es (live g c).0)

pub returns-then-is_none-clause-refused : goal.returns-then-is_none-clause-refused
returns-then-is_none-clause-refused g c =
    rw (sym c.deref_mut-inner.ensures.value)
    (λ _.
    let s = c.deref_mut-inner.result.now in
    let old = had_in s in
    let e = c.denied_answer.ensures in
    let at : arena_of s.policy c.args.handle.place.segment ≡ None =
    sym c.arena_of.ensures
    ∙ none_is c.arena_of.result (c.is_none.ensures ∙ ap not c.if-is_none.true) in
    let ties = free_denied number_in records_in old None s.below c.args.actor c.args.handle at e.0
    e.1 in (
      None,
      (at, seats_stay number_in part_of_seat old old refl refl),
      machines_unseen old old (event.Free c.args.actor c.args.handle) c.denied_answer.result None
          (whole_of s c.settled.ensures.each) (rw e.2 ties),
    ))

pub look-word-requires : goal.look-word-requires
look-word-requires g c =
    let s = c.deref_mut-inner.result.now in
    word_within s.policy c.args.handle.place _ s.words
    (ap is_some (sym c.arena_of.ensures) ∙ (c.is_none.ensures ∙ ap not c.if-is_none.false))

pub returns-in-Denied-clause-refused : goal.returns-in-Denied-clause-refused
returns-in-Denied-clause-refused g c =
    rw (sym c.deref_mut-inner.ensures.value)
    (λ _.
    let s = c.deref_mut-inner.result.now in
    let old = had_in s in
    let shown = shown_at c.args.handle.place c.look-word.result in
    let looked = looked g (goal.at.returns-in-Denied-clause-refused g c).After-look-word in
    let ties = free_denied number_in records_in old shown s.below c.args.actor c.args.handle
    refl c.in-Denied.rule (denied_by _ c.in-Denied.rule c.in-Denied.ensures) in (
      shown,
      looked,
      machines_looked old _ c.args.handle.place shown
          (event.Free c.args.actor c.args.handle) (answer.Denied c.in-Denied.rule)
          (whole_of s c.settled.ensures.each) looked ties,
    ))

pub returns-then-is_some-clause-refused : goal.returns-then-is_some-clause-refused
returns-then-is_some-clause-refused g c =
    rw (sym c.deref_mut-inner.ensures.value)
    (λ _.
    let s = c.deref_mut-inner.result.now in
    let old = had_in s in
    let shown = shown_at c.args.handle.place c.look-word.result in
    let looked = looked g (goal.at.returns-then-is_some-clause-refused g c).After-look-word in
    let ties = free_busy number_in records_in old shown s.below c.args.actor c.args.handle
    refl (held_by _ c.deref_mut-inner.ensures.value c.requires) (allowed_by _ c.in_default.ensures)
    (hand_full s.hand (sym c.if-is_some.ensures)) in (
      shown,
      looked,
      machines_looked old _ c.args.handle.place shown
          (event.Free c.args.actor c.args.handle) answer.Busy
          (whole_of s c.settled.ensures.each) looked ties,
    ))

pub invariant_of-inner : goal.invariant_of-inner
invariant_of-inner g c =
    let s = c.deref_mut-inner.result.now in
    record {
      sound = s.sound;
      below = s.below;
      words = same_words c.look-word.ensures.same s.words;
      of = s.of;
      together = same_together s.heap.segments c.look-word.ensures.same s.together;
      reach = s.reach;
      known = own_saw number_in part_of_seat
          ((word_of c.args.handle.place, c.look-word.result) ∷ [])
          c.look-word.ensures.step.1 s.known;
    }

pub invariant_of-inner-then-is_some : goal.invariant_of-inner-then-is_some
invariant_of-inner-then-is_some g c =
    let s = c.deref_mut-inner.result.now in
    record {
      sound = s.sound;
      below = s.below;
      words = same_words c.look-word.ensures.same s.words;
      of = s.of;
      together = same_together s.heap.segments c.look-word.ensures.same s.together;
      reach = s.reach;
      known = own_saw number_in part_of_seat
          ((word_of c.args.handle.place, c.look-word.result) ∷ [])
          c.look-word.ensures.step.1 s.known;
    }

pub part-requires-clause-place : goal.part-requires-clause-place
part-requires-clause-place g c =
    let s = c.deref_mut-inner.result.now in
    word_within s.policy c.args.handle.place _ (same_words c.look-word.ensures.same s.words)
    (ap is_some (sym c.arena_of.ensures) ∙ (c.is_none.ensures ∙ ap not c.if-is_none.false))

pub denied_answer-requires-in-Err : goal.denied_answer-requires-in-Err
denied_answer-requires-in-Err g c = λ e.
    let s = c.deref_mut-inner.result.now in
    let err = c.in-Err.ensures.err in
    lost_is_denied s.policy c.args.actor.0 right.Free c.args.handle
    (word_of c.args.handle.place) c.look-word.result c.in-Err.found
    (part_on s.seat.badge) (part_on c.look-word.new.self.badge)
    c.look-word.ensures.shown.slot_word (allowed_by _ c.in_default.ensures)
    c.look-word.ensures.step.1 err.1 err.0 e

pub returns-in-Err-clause-refused : goal.returns-in-Err-clause-refused
returns-in-Err-clause-refused g c =
    rw (sym c.deref_mut-inner.ensures.value)
    (λ _.
    let s = c.deref_mut-inner.result.now in
    let old = had_in s in
    let shown = shown_at c.args.handle.place c.in-Err.found in
    let e = c.denied_answer-in-Err.ensures in
    let ties = free_denied number_in records_in old shown s.below c.args.actor c.args.handle
    refl e.0 e.1 in (
      shown,
      looked_twice g c,
      machines_looked old _ c.args.handle.place shown
          (event.Free c.args.actor c.args.handle) c.denied_answer-in-Err.result
          (whole_of s c.settled.ensures.each) (looked_twice g c) (rw e.2 ties),
    ))

pub invariant_of-inner-in-Err-1 : goal.invariant_of-inner-in-Err-1
invariant_of-inner-in-Err-1 g c =
    let s = c.deref_mut-inner.result.now in
    record {
      sound = s.sound;
      below = s.below;
      words = same_words (c.part.ensures.same ∙ c.look-word.ensures.same) s.words;
      of = s.of;
      together = same_together s.heap.segments (c.part.ensures.same ∙
          c.look-word.ensures.same) s.together;
      reach = s.reach;
      known = own_saw number_in part_of_seat
          {own = part_on c.look-word.new.self.badge}
          ((word_of c.args.handle.place, c.in-Err.found) ∷ []) c.in-Err.ensures.err.2.1
          (own_saw number_in part_of_seat ((word_of c.args.handle.place, c.look-word.result) ∷ [])
          c.look-word.ensures.step.1 s.known);
    }

pub invariant_of-inner-2 : goal.invariant_of-inner-2
invariant_of-inner-2 g c =
    let s = c.deref_mut-inner.result.now in
    record {
      sound = s.sound;
      below = s.below;
      words = same_words (c.part.ensures.same ∙ c.look-word.ensures.same) s.words;
      of = s.of;
      together = same_together s.heap.segments (c.part.ensures.same ∙
          c.look-word.ensures.same) s.together;
      reach = within_reach s.policy c.args.handle
          (ap is_some (sym c.arena_of.ensures) ∙ (c.is_none.ensures ∙ ap not c.if-is_none.false));
      known =
          let live = undenied_live s.policy c.args.actor.0 right.Free c.args.handle
          c.look-word.result c.look-word.ensures.shown.slot_word
          (allowed_by _ c.in_default.ensures) in
          knows_new number_in part_of_seat c.args.handle (part_on c.part.new.self.badge)
          s.heap.segments
          (saw_freed c.args.handle c.look-word.result (part_on c.look-word.new.self.badge)
          (part_on c.part.new.self.badge) live.0 live.1
          c.in_default-part.ensures.ok.1.1) (held_by _ c.deref_mut-inner.ensures.value c.requires);
    }

pub returns-clause-freed : goal.returns-clause-freed
returns-clause-freed g c =
    rw (sym c.deref_mut-inner.ensures.value)
    (λ _.
    let s = c.deref_mut-inner.result.now in
    let old = had_in s in
    let place = c.args.handle.place in
    let word = c.look-word.result in
    let arena = some_of (arena_of s.policy place.segment)
    (ap is_some (sym c.arena_of.ensures) ∙ (c.is_none.ensures ∙ ap not c.if-is_none.false)) in
    let ties = free_parted number_in records_in old word c.args.actor c.args.handle s.below
    (held_by _ c.deref_mut-inner.ensures.value c.requires) (allowed_by _ c.in_default.ensures)
    (none_is s.hand (sym c.if-is_some.ensures)) in (
      word,
      ((live g c).0, decided g c),
      machines_shown old _ place word arena.0
          (event.Free c.args.actor c.args.handle) answer.Parted (shown_at place (word - 1))
          (whole_of s c.settled.ensures.each) arena.1 (decided g c).shown ties,
    ))

pub returns-then-is_none-clause-judged : goal.returns-then-is_none-clause-judged
returns-then-is_none-clause-judged g c =
    rw (sym c.deref_mut-inner.ensures.value)
    (λ _.
    let s = c.deref_mut-inner.result.now in
    let old = had_in s in
    let e = c.denied_answer.ensures in
    let at : arena_of s.policy c.args.handle.place.segment ≡ None =
    sym c.arena_of.ensures
    ∙ none_is c.arena_of.result (c.is_none.ensures ∙ ap not c.if-is_none.true) in
    let looked : Looked number_in part_of_seat c.args.handle.place None old old =
    (at, seats_stay number_in part_of_seat old old refl refl) in (
      None,
      looked,
      judged_by number_in part_of_seat s.policy c.args.actor.0 right.Free c.args.handle None old
          old (rule_of c.denied_answer.result) looked (e.1 ∙ sym (ap rule_of e.2)),
    ))

pub returns-in-Denied-clause-judged : goal.returns-in-Denied-clause-judged
returns-in-Denied-clause-judged g c =
    rw (sym c.deref_mut-inner.ensures.value)
    (λ _.
    let old = had_in c.deref_mut-inner.result.now in
    let shown = shown_at c.args.handle.place c.look-word.result in
    let looked = looked g (goal.at.returns-in-Denied-clause-judged g c).After-look-word in (
      shown,
      looked,
      judged_by number_in part_of_seat c.deref_mut-inner.result.now.policy c.args.actor.0
          right.Free c.args.handle shown old _ (Some c.in-Denied.rule) looked
          (denied_by _ c.in-Denied.rule c.in-Denied.ensures),
    ))

pub returns-then-is_some-clause-judged : goal.returns-then-is_some-clause-judged
returns-then-is_some-clause-judged g c =
    rw (sym c.deref_mut-inner.ensures.value)
    (λ _.
    let old = had_in c.deref_mut-inner.result.now in
    let shown = shown_at c.args.handle.place c.look-word.result in
    let looked = looked g (goal.at.returns-then-is_some-clause-judged g c).After-look-word in (
      shown,
      looked,
      judged_by number_in part_of_seat c.deref_mut-inner.result.now.policy c.args.actor.0
          right.Free c.args.handle shown old _ None looked
          (allowed_by _ c.in_default.ensures),
    ))

pub returns-in-Err-clause-judged : goal.returns-in-Err-clause-judged
returns-in-Err-clause-judged g c =
    rw (sym c.deref_mut-inner.ensures.value)
    (λ _.
    let shown = shown_at c.args.handle.place c.in-Err.found in
    let e = c.denied_answer-in-Err.ensures in (
      shown,
      looked_twice g c,
      judged_by number_in part_of_seat c.deref_mut-inner.result.now.policy c.args.actor.0
          right.Free c.args.handle shown (had_in c.deref_mut-inner.result.now) _
          (rule_of c.denied_answer-in-Err.result) (looked_twice g c)
          (e.1 ∙ sym (ap rule_of e.2)),
    ))

pub returns-clause-served : goal.returns-clause-served
returns-clause-served g c =
    rw (sym c.deref_mut-inner.ensures.value)
    (λ _. (
      c.look-word.result,
      ((live g c).0, decided g c),
      record {
        named = allowed_by _ c.in_default.ensures;
        live = λ _. (live g c).0;
        generation = λ _. (live g c).1;
      },
    ))

pub returns-then-is_none-clause-few : goal.returns-then-is_none-clause-few
returns-then-is_none-clause-few g c =
    rw (sym c.deref_mut-inner.ensures.value)
    (no_step number_in part_of_seat 2 c.args.handle.place (had_in c.deref_mut-inner.result.now))

pub returns-in-Denied-clause-few : goal.returns-in-Denied-clause-few
returns-in-Denied-clause-few g c =
    rw (sym c.deref_mut-inner.ensures.value)
    (own_steps number_in part_of_seat 2 c.args.handle.place (c.look-word.result ∷ []) (had_in
    c.deref_mut-inner.result.now)
    (record (had_in c.deref_mut-inner.result.now) { own = part_on c.look-word.new.self.badge })
    (held_by _ c.deref_mut-inner.ensures.value c.requires) refl (omega arith)
    c.look-word.ensures.step.1)

pub returns-then-is_some-clause-few : goal.returns-then-is_some-clause-few
returns-then-is_some-clause-few g c =
    rw (sym c.deref_mut-inner.ensures.value)
    (own_steps number_in part_of_seat 2 c.args.handle.place (c.look-word.result ∷ []) (had_in
    c.deref_mut-inner.result.now)
    (record (had_in c.deref_mut-inner.result.now) { own = part_on c.look-word.new.self.badge })
    (held_by _ c.deref_mut-inner.ensures.value c.requires) refl (omega arith)
    c.look-word.ensures.step.1)

pub returns-in-Err-clause-few : goal.returns-in-Err-clause-few
returns-in-Err-clause-few g c =
    rw (sym c.deref_mut-inner.ensures.value)
    (own_steps_twice number_in part_of_seat c.args.handle.place c.look-word.result c.in-Err.found
    (had_in c.deref_mut-inner.result.now)
    (record (had_in c.deref_mut-inner.result.now) { own = part_on c.part.new.self.badge }) (part_on
    c.look-word.new.self.badge) (held_by _ c.deref_mut-inner.ensures.value c.requires) refl
    c.look-word.ensures.step.1 c.in-Err.ensures.err.2.1)

pub returns-clause-few : goal.returns-clause-few
returns-clause-few g c =
    rw (sym c.deref_mut-inner.ensures.value)
    (own_steps_twice number_in part_of_seat c.args.handle.place c.look-word.result
    (c.look-word.result - 1) (had_in c.deref_mut-inner.result.now)
    (record (had_in c.deref_mut-inner.result.now) {
      own = part_on c.part.new.self.badge;
      hand = Some c.args.handle;
    }) (part_on c.look-word.new.self.badge) (held_by _ c.deref_mut-inner.ensures.value c.requires)
    refl c.look-word.ensures.step.1 c.in_default-part.ensures.ok.1.1)
