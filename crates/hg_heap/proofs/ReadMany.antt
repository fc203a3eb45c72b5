-- Many words, read at one step, tied.
use Rattle.std.proofs.Common.{◌≡◌, ℕ, ◌+◌, ◌<◌, ◌≤◌, List, ◌++◌, length, slice_index, slice_set}
use Rattle.std.proofs.Common.{take, drop, refl, sym, ap, subst, ◌∙◌, arith}
use Rattle.std.proofs.Common.{Option, Some, None}
use Rattle.std.specs.Prelude.{Result, Ok, Err, IfSome}
use Rattle.std.proofs.lemmas.List.{get_or_append_left, drop_at, length-take-le}
use Rattle.hg_place.specs.declared.Actor.{Actor}
use Rattle.hg_place.specs.declared.Handle.{Handle}
use Rattle.hg_place.specs.declared.Right.TheVariants as right
use Rattle.hg_place.specs.declared.standing.Standing.{Standing}
use Rattle.hg_machine.specs.declared.Rule.{Rule}
use Rattle.hg_machine.specs.declared.Event.TheVariants as event
use Rattle.hg_machine.specs.declared.Answer.TheVariants as answer
use Rattle.hg_machine.specs.Policy.{Policy}
use Rattle.hg_segment.specs.Kept.{Kept}
use Rattle.hg_segment.specs.Blocks.{block_at}
use Rattle.hg_heap.specs.Ties.{shown_at, HeapTies, Stepped}
use Rattle.hg_heap.specs.Answers.{read_answer}
use Rattle.hg_heap.specs.Stays.{Looked}
use Rattle.hg_heap.specs.Reading.{use_denial, reached}
use Rattle.hg_heap.specs.Many.{ReadsMany, ComesTo}
use Rattle.hg_heap.specs.declared.how_far.HowFar.{HowFar}
use Rattle.hg_heap.specs.declared.refused.Refused.{Refused}
use Rattle.hg_heap.specs.declared.refused.Refused.TheVariants as refused
use Rattle.hg_heap.proofs.Founds.{Found}
use Rattle.hg_heap.proofs.HowFars.{comes_few, on_end}
use Rattle.hg_heap.proofs.Looking.{FitsLaw, stepped}
use Rattle.hg_heap.proofs.ReadCall.{read_tied}
use Rattle.hg_heap.proofs.Reached.{reached_denied, reached_inside, reached_outside}

-- none is read where a rule denies it, or from the block's end on
pub reads_denied : (o : Option Rule) (rule : Rule) (block : List ℕ) (first : ℕ) (room : List ℕ)
    → o ≡ Some rule → 0 < length room
    → ReadsMany o block first room (record { done = 0; refused = Some (refused.Denied rule) }) room
reads_denied o rule block first room denied some = record {
  each = λ at lt. absurd (omega arith);
  next = sym (reached_denied o rule block (first + 0) _ denied);
  end = some;
  rest = refl;
}

pub reads_outside : (o : Option Rule) (block : List ℕ) (first : ℕ) (room : List ℕ) → o ≡ None
    → length block ≤ first → 0 < length room
    → ReadsMany o block first room (record { done = 0; refused = Some refused.OutOfBlock }) room
reads_outside o block first room allowed out some = record {
  each = λ at lt. absurd (omega arith);
  next = sym (reached_outside o block (first + 0) _ allowed (omega arith));
  end = some;
  rest = refl;
}

-- as many as the block has and the room holds
pub reads_inside : (o : Option Rule) (block : List ℕ) (first : ℕ) (room : List ℕ) (count : ℕ)
    (far : HowFar) (copied : List ℕ) → o ≡ None → far.done ≡ count → ComesTo (length room) far
    → IfSome far.refused (λ why. why ≡ refused.OutOfBlock) → first + count ≤ length block
    → (count < length room → length block ≤ first + count)
    → length copied ≡ length (take count room)
    → ((at : ℕ) → at < length (take count room)
    → slice_index copied at ≡ slice_index block (first + at))
    → ReadsMany o block first room far (copied ++ drop count room)
reads_inside o block first room count far copied allowed done end outside inside ends as_long each =
    let few : count ≤ length room =
    subst (λ n. n ≤ length room) done (comes_few (length room) far end) in
    let all : length (take count room) ≡ count = length-take-le count room few in record {
      each = λ at lt.
          sym (reached_inside o block (first + at) _ allowed (omega (arith, lt, inside, done)))
          ∙ ap Ok (sym (get_or_append_left copied (drop count room) 0 at
          (omega (arith, lt, all, as_long, done)) ∙ each at (omega (arith, lt, all, done))));
      next =
          on_end far.refused end
          (λ lt why is.
          sym (reached_outside o block (first + far.done) _ allowed
          (let past : length block ≤ first + count = ends (omega (arith, lt, done)) in
          omega (arith, past, done)))
          ∙ ap Err (sym is)) outside;
      end = end;
      rest =
          subst (λ n. drop n (copied ++ drop count room) ≡ drop n room) (sym done)
          (drop_at copied (drop count room) count (as_long ∙ all));
    }

module _ {S : Type 0} (number : S → ℕ) (records : S → List Standing) (shows : S → ℕ → ℕ → Type 0)
    (steps : S → ℕ → ℕ → ℕ → S → Type 0) (fits : FitsLaw number records shows steps)
    (policy : Policy) (items : List (Kept S)) (found word first : ℕ) (actor : Actor)
    (handle : Handle) (one after : Kept S)
    (here : Found number items handle.place.segment found one)
    (looked : Looked number records shows steps handle.place word one after)
    (words : after.words ≡ one.words) where
  -- by the block of the segment after the look
  pub many_end : (room told : List ℕ) (far : HowFar)
      → ReadsMany (use_denial policy actor.0 right.Read handle word)
      (block_at after.words after.classes handle.place.page handle.place.index) first room far
      told
      → (x : ℕ) × (next : Result ℕ Refused)
      × Stepped number shows steps handle.place x x items (slice_set items found after)
      × ((at : ℕ) → at < far.done → HeapTies number records policy (shown_at handle.place x)
      (shown_at handle.place x) (event.Read actor handle (first + at))
      (answer.Value (slice_index told at)) items (slice_set items found after))
      × HeapTies number records policy (shown_at handle.place x) (shown_at handle.place x)
      (event.Read actor handle (first + far.done)) (read_answer next) items
      (slice_set items found after)
      × IfSome far.refused (λ why. next ≡ Err why)
  many_end room told far many =
      let denial = use_denial policy actor.0 right.Read handle word in
      let block = block_at after.words after.classes handle.place.page handle.place.index in
      let next = reached denial block (first + far.done) (slice_index block (first + far.done)) in (
        word,
        next,
        stepped here looked,
        λ at lt. read_tied number records shows steps fits policy items found word (first + at)
            actor handle one after here looked words (Ok (slice_index told at))
            (sym (many.each at lt)),
        read_tied number records shows steps fits policy items found word (first + far.done)
            actor handle one after here looked words next refl,
        many.next,
      )
