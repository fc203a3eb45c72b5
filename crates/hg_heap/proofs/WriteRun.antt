-- Words that are written into a block one after another are a run of Writes.
use Rattle.std.proofs.Common.{◌≡◌, ℕ, ◌+◌, ◌<◌, ◌≤◌, List, [], ◌∷◌, length, slice_get, slice_index}
use Rattle.std.proofs.Common.{slice_set, Some, None, Ok, Err, refl, sym, ap, subst, ◌∙◌, arith}
use Rattle.std.proofs.Common.{⊎_elim, ◌⊎◌, inl, inr, Option, take, nat_lt, if◌then◌else◌}
use Rattle.std.specs.Prelude.{Contains, IfSome}
use Rattle.std.proofs.lemmas.Bool.{cases_eq}
use Rattle.std.proofs.lemmas.List.{length-set, set-get_or, set-set}
use Rattle.std.proofs.lemmas.Option.{get_or_from_slice_get}
use Rattle.hg_place.specs.declared.Actor.{Actor}
use Rattle.hg_place.specs.declared.Handle.{Handle}
use Rattle.hg_place.specs.declared.Right.TheVariants as right
use Rattle.hg_place.specs.declared.plain.PlainWords.{PlainWords}
use Rattle.hg_place.specs.Lives.{IsSlotWord}
use Rattle.hg_place.specs.Plain.{plain_words, plain_records}
use Rattle.hg_place.specs.Standings.{slot_of, standing_at, Fits}
use Rattle.hg_place.specs.declared.standing.Standing.{Standing}
use Rattle.hg_segment.specs.Kept.{Kept}
use Rattle.hg_segment.specs.Blocks.{block_at}
use Rattle.hg_segment.specs.Parted.{plain_number}
use Rattle.hg_segment.specs.WordWrites.{IsWordWritten, AreWordsWritten}
use Rattle.hg_machine.specs.Policy.{Policy}
use Rattle.hg_machine.specs.declared.Rule.{Rule}
use Rattle.hg_machine.specs.declared.Answer.TheVariants as answer
use Rattle.hg_heap.specs.Answers.{refused_answer}
use Rattle.hg_heap.specs.CopiedIn.{block_there, AreCopied, CopiedIn}
use Rattle.hg_heap.specs.Reading.{use_denial, reached}
use Rattle.hg_heap.specs.Settled.{IsSettled}
use Rattle.hg_heap.specs.Stays.{Looked}
use Rattle.hg_heap.specs.WriteRuns.{shows_plain, steps_plain, WritesOne, WritesRun}
use Rattle.hg_heap.specs.declared.how_far.HowFar.{HowFar}
use Rattle.hg_heap.specs.declared.refused.Refused.{Refused}
use Rattle.hg_heap.specs.declared.refused.Refused.TheVariants as refused
use Rattle.hg_heap.proofs.Founds.{Found, found_after, contained_set, Contains-get}
use Rattle.hg_heap.proofs.HowFars.{on_next}
use Rattle.hg_heap.proofs.Looking.{FitsLaw, heap_lists}
use Rattle.hg_heap.proofs.Reached.{reached_inside}
use Rattle.hg_heap.proofs.WriteCall.{write_ends}

-- a plain word fits the record of its place
pub plain_fits : FitsLaw plain_number plain_records shows_plain steps_plain
plain_fits s at word below shown =
    subst (λ w. IsSlotWord w × Fits (standing_at (plain_records s) at) w) (sym shown)
    (s.fit at below)

-- what stood in a list is put back
pub put_same : {X : Type 0} (xs : List X) (n : ℕ) (x : X) → slice_get xs n ≡ Some x
    → slice_set xs n x ≡ xs
put_same xs n x at =
    ap (slice_set xs n) (sym (get_or_from_slice_get xs n x x at)) ∙ set-get_or xs n x

-- the segment with other words
abbrev pub with_words : Kept PlainWords → List ℕ → Kept PlainWords
with_words k words = record k { words = words }

module _ (handle : Handle) (word : ℕ) where
  -- a look at a plain word, and a write behind it, leave the slot words
  pub looked_at : (one : Kept PlainWords) (words : List ℕ)
      → shows_plain one.slots (slot_of handle.place) word
      → Looked plain_number plain_records shows_plain steps_plain handle.place word one
      (with_words one words)
  looked_at one words shown = record {
    shown = shown;
    step =
        let at = slot_of handle.place in
        sym (ap (slice_set (plain_words one.slots) at) shown
        ∙ set-get_or (plain_words one.slots) at 0);
    same_number = refl;
    same_records = refl;
    rest = refl;
  }

  -- a segment of which one word of a block is another is settled
  settled_on : (one : Kept PlainWords) (words : List ℕ) (at value : ℕ)
      → IsWordWritten (plain_records one.slots) one.classes handle.place.page handle.place.index
      at value one.words words
      → IsSettled plain_records one → IsSettled plain_records (with_words one words)
  settled_on one words at value is s = record {
    lists = s.lists;
    sizes = s.sizes;
    runs = s.runs;
    bounded = s.bounded;
    opened = s.opened;
    listed = s.listed;
    blocks = λ page index size low small away class.
        let was = s.blocks page index size low small away class in
        elim (cases_eq page handle.place.page) [
          | inl e ↦ elim (cases_eq index handle.place.index) [
            | inl i ↦ (
                let own : length (block_at words one.classes handle.place.page handle.place.index)
                ≡ length (block_at one.words one.classes handle.place.page handle.place.index) =
                ap length is.written
                ∙ length-set (block_there one handle) at value in
                ap (λ p. length (block_at words one.classes p index)) e
                ∙ ap (λ n. length (block_at words one.classes handle.place.page n)) i
                ∙ own
                ∙ sym (ap (λ n. length (block_at one.words one.classes handle.place.page n)) i)
                ∙ sym (ap (λ p. length (block_at one.words one.classes p index)) e)
                ∙ was)
            | inr ne ↦ ap length (is.others page index low small away (inr ne)) ∙ was
          ]
          | inr ne ↦ ap length (is.others page index low small away (inl ne)) ∙ was
        ];
    pages = s.pages;
    classes = s.classes;
    words = is.all ∙ s.words;
  }

module _ (policy : Policy) (found word : ℕ) (actor : Actor) (handle : Handle) where
  abbrev AreSettled : List (Kept PlainWords) → Type 0
  AreSettled items = (k : Kept PlainWords) → Contains items k → IsSettled plain_records k

  -- with one segment settled, all are
  all_settled : (items : List (Kept PlainWords)) (after : Kept PlainWords)
      → AreSettled items → IsSettled plain_records after
      → AreSettled (slice_set items found after)
  all_settled items after settled one k in_it =
      ⊎_elim (λ e. subst (IsSettled plain_records) (sym e) one) (λ was. settled k was)
      (contained_set items found after k in_it)

  module _ (none : use_denial policy actor.0 right.Write handle word ≡ None) where
    -- one word
    one_written : (items : List (Kept PlainWords)) (one : Kept PlainWords) (words : List ℕ)
        (at value : ℕ) → Found plain_number items handle.place.segment found one
        → shows_plain one.slots (slot_of handle.place) word → AreSettled items
        → at < length (block_there one handle)
        → IsWordWritten (plain_records one.slots) one.classes handle.place.page
        handle.place.index at value one.words words
        → WritesOne policy actor handle at value answer.Done items
        (slice_set items found (with_words one words))
    one_written items one words at value here shown settled inside is =
        let looked = looked_at handle word one words shown in
        let ends = write_ends plain_number plain_records shows_plain steps_plain plain_fits policy
        items found word at value actor handle one (with_words one words) here looked (Ok tt)
        (reached_inside (use_denial policy actor.0 right.Write handle word)
        (block_there one handle) at (tt {0}) none inside)
        tt is.written is.others in record {
          word = ends.0;
          step = ends.1;
          ties = ends.2;
          lists = heap_lists here looked;
          settled =
              all_settled items (with_words one words) settled
              (settled_on handle word one words at value is
              (settled one (Contains-get items found one here.at)));
        }

    -- and many
    pub run_of : (values : List ℕ) (at : ℕ) (items : List (Kept PlainWords))
        (one : Kept PlainWords) (last : List ℕ)
        → Found plain_number items handle.place.segment found one
        → shows_plain one.slots (slot_of handle.place) word → AreSettled items
        → at + length values ≤ length (block_there one handle)
        → AreWordsWritten (plain_records one.slots) one.classes handle.place.page
        handle.place.index at values one.words last
        → WritesRun policy actor handle at values items
        (slice_set items found (with_words one last))
    run_of [] at items one last here shown settled inside is =
        ap (λ ws. slice_set items found (with_words one ws)) is ∙ put_same items found one here.at
    run_of (value ∷ values) at items one last here shown settled inside is =
        let mid = with_words one is.0 in
        let first = one_written items one is.0 at value here shown settled (omega arith) is.1 in
        let long : length (block_there mid handle) ≡ length (block_there one handle) =
        ap length is.1.written ∙ length-set (block_there one handle) at value in (
          slice_set items found mid,
          first,
          subst (λ xs. WritesRun policy actor handle (at + 1) values (slice_set items found mid) xs)
              (set-set items found mid (with_words one last))
              (run_of values (at + 1) (slice_set items found mid) mid last
              (found_after plain_number items handle.place.segment found one mid here refl) shown
              first.settled (omega (arith, long, inside)) is.2),
        )

  -- the Write of a word that isn't reached leaves all
  pub refused_on : (items : List (Kept PlainWords)) (one : Kept PlainWords) (at value : ℕ)
      (why : Refused) → Found plain_number items handle.place.segment found one
      → shows_plain one.slots (slot_of handle.place) word → AreSettled items
      → reached (use_denial policy actor.0 right.Write handle word) (block_there one handle) at
      (tt {0}) ≡ Err why
      → WritesOne policy actor handle at value (refused_answer why) items items
  refused_on items one at value why here shown settled is =
      let looked = looked_at handle word one one.words shown in
      let ends = write_ends plain_number plain_records shows_plain steps_plain plain_fits policy
      items found word at value actor handle one one here looked (Err why) (sym is) refl tt tt in
      subst (λ xs. WritesOne policy actor handle at value (refused_answer why) items xs)
      (put_same items found one here.at) (record {
        word = ends.0;
        step = ends.1;
        ties = ends.2;
        lists = heap_lists here looked;
        settled = all_settled items one settled
            (settled one (Contains-get items found one here.at));
      })

-- words that are written leave a block as long as it was
written_long : (records : List Standing) (classes : List (Option ℕ)) (page index at : ℕ)
    (values old new : List ℕ) → AreWordsWritten records classes page index at values old new
    → length (block_at new classes page index) ≡ length (block_at old classes page index)
written_long records classes page index at [] old new is =
    ap (λ ws. length (block_at ws classes page index)) is
written_long records classes page index at (value ∷ values) old new is =
    written_long records classes page index (at + 1) values is.0 new is.2
    ∙ ap length is.1.written ∙ length-set (block_at old classes page index) at value

-- what is reached of a block goes by how long it is
reached_long : (o : Option Rule) (block other : List ℕ) (index : ℕ) (why : Refused)
    → length other ≡ length block → reached o block index (tt {0}) ≡ Err why
    → reached o other index (tt {0}) ≡ Err why
reached_long (Some rule) block other index why same is = is
reached_long None block other index why same is =
    ap (λ n. if nat_lt index n then Ok (tt {0}) else Err refused.OutOfBlock) same ∙ is

module _ (policy : Policy) (found first : ℕ) (actor : Actor) (handle : Handle) (words : List ℕ)
    (items : List (Kept PlainWords)) (one last : Kept PlainWords) (far : HowFar)
    (here : Found plain_number items handle.place.segment found one)
    (copied : CopiedIn policy actor handle first words one far last) where
  last_by : ((far.done ≡ 0) × (last ≡ one))
      ⊎ ((use_denial policy actor.0 right.Write handle copied.word ≡ None)
      × AreCopied handle first (take far.done words) one last)
      → last ≡ with_words one last.words
  last_by (inl none) =
      none.1 ∙ ap (with_words one) (sym (ap (λ (k : Kept PlainWords). k.words) none.1))
  last_by (inr some) = some.1.rest

  last_is : last ≡ with_words one last.words
  last_is = last_by copied.put

  -- a look, and writes behind it
  pub last_looked : Looked plain_number plain_records shows_plain steps_plain handle.place
      copied.word one last
  last_looked = subst (Looked plain_number plain_records shows_plain steps_plain handle.place
      copied.word one) (sym last_is) (looked_at handle copied.word one last.words copied.shown)

  long_by : ((far.done ≡ 0) × (last ≡ one))
      ⊎ ((use_denial policy actor.0 right.Write handle copied.word ≡ None)
      × AreCopied handle first (take far.done words) one last)
      → length (block_there last handle) ≡ length (block_there one handle)
  long_by (inl none) = ap (λ k. length (block_there k handle)) none.1
  long_by (inr some) =
      ap (λ (k : Kept PlainWords). length (block_at last.words k.classes handle.place.page
      handle.place.index)) last_is
      ∙ written_long (plain_records one.slots) one.classes handle.place.page handle.place.index
      first (take far.done words) one.words last.words some.1.written

  module _ (settled : AreSettled policy found copied.word actor handle items)
      (own : IsSettled plain_records last) where
    run_by : ((far.done ≡ 0) × (last ≡ one))
        ⊎ ((use_denial policy actor.0 right.Write handle copied.word ≡ None)
        × AreCopied handle first (take far.done words) one last)
        → WritesRun policy actor handle first (take far.done words) items
        (slice_set items found last)
    run_by (inl none) =
        subst (λ n. WritesRun policy actor handle first (take n words) items
        (slice_set items found last)) (sym none.0)
        (ap (slice_set items found) none.1 ∙ put_same items found one here.at)
    run_by (inr some) =
        subst (λ k. WritesRun policy actor handle first (take far.done words) items
        (slice_set items found k)) (sym some.1.rest)
        (run_of policy found copied.word actor handle some.0 (take far.done words) first items one
        last.words here copied.shown settled some.1.inside some.1.written)

    -- the words that are written
    pub copied_run : WritesRun policy actor handle first (take far.done words) items
        (slice_set items found last)
    copied_run = run_by copied.put

    -- and the next
    pub copied_next : IfSome far.refused (λ why. WritesOne policy actor handle (first + far.done)
        (slice_index words far.done) (refused_answer why) (slice_set items found last)
        (slice_set items found last))
    copied_next = on_next far.refused
        (λ why is. refused_on policy found copied.word actor handle (slice_set items found last)
        last (first + far.done) (slice_index words far.done) why
        (found_after plain_number items handle.place.segment found one last here
        last_looked.same_number)
        (subst (λ s. shows_plain s (slot_of handle.place) copied.word)
        (sym (ap (λ (k : Kept PlainWords). k.slots) last_is)) copied.shown)
        (all_settled policy found copied.word actor handle items last settled own)
        (reached_long (use_denial policy actor.0 right.Write handle copied.word)
        (block_there one handle) (block_there last handle) (first + far.done) why
        (long_by copied.put) is)) copied.next
