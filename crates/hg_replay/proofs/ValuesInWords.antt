-- Replays of traces that differ in written values alone.
use Rattle.std.proofs.Common.{◌≡◌, inl, inr, ℕ, Bool, true, false, if◌then◌else◌, List, [], ◌∷◌, ◌++◌, Option, None, Some, filter, refl, sym, ap, subst, ◌∙◌, append-nil}
use Rattle.std.proofs.lemmas.Bool.{true≢false}
use Rattle.std.proofs.lemmas.List.Elements.{All-cons, All-nil}
use Rattle.hg_place.specs.declared.Handle.{Handle}
use Rattle.hg_place.specs.declared.Actor.{Actor}
use Rattle.hg_machine.specs.Policy.{Policy}
use Rattle.hg_machine.specs.State.{State}
use Rattle.hg_machine.specs.Holders.{holds}
use Rattle.hg_machine.specs.Served.{IsServed}
use Rattle.hg_machine.specs.Steps.{Step}
use Rattle.hg_machine.specs.Lists.{Kept}
use Rattle.hg_machine.specs.declared.Event.{Event}
use Rattle.hg_machine.specs.declared.Event.TheVariants as event
use Rattle.hg_machine.specs.declared.Answer.{Answer}
use Rattle.hg_machine.specs.declared.Answer.TheVariants as answer
use Rattle.hg_machine.proofs.Cases.{step_cases}
use Rattle.hg_laws.proofs.Refusals.{refused_is}
use Rattle.hg_choice.specs.WordLaws.{without_values, without_answer, without_answers, without_words}
use Rattle.hg_choice.specs.ChosenSteps.{Chosen}
use Rattle.hg_trace.specs.declared.line.Command.{Command}
use Rattle.hg_trace.specs.declared.line.Command.TheVariants as command
use Rattle.hg_trace.specs.declared.line.Line.{Line}
use Rattle.hg_replay.specs.declared.replaying.events.Meaning.{Meaning}
use Rattle.hg_replay.specs.declared.replaying.events.Meaning.TheVariants as meaning
use Rattle.hg_replay.specs.Events.{of_block, handle_named, meaning_of, events_of}
use Rattle.hg_replay.specs.Rows.{is_row}
use Rattle.hg_replay.specs.Text.{listing_text, reply_text}
use Rattle.hg_replay.specs.Replays.{Progress, Answered, meaning_at, handles_after}
use Rattle.hg_replay.specs.WrittenValues.{unwritten, unwritten_line, unwritten_lines, AreSameButWords, word_line, IsSameButWord, LinesShowValuesInWords, Printed, PrintSameButWords, ValuesShowInWords}
use Rattle.hg_replay.proofs.Unwritten.{unwritten_meaning, meaning_unwritten, events_unwritten, events_agree, runs_agree, answers_differ, rows_unwritten, handles_agree}

-- an event that is answered a value is a read
abbrev IsRead : Event → Type 0
IsRead e = (actor : Actor) × (handle : Handle) × (index : ℕ) × (e ≡ event.Read actor handle index)

no_value : (b : Bool) (n : ℕ) → answer.Value n ≡ (if b then answer.Done else answer.Parted) → ⊥
no_value true n e = cc
no_value false n e = cc

value_served : (s : State) (worker n : ℕ) (e : Event) → IsServed s worker e (answer.Value n) → IsRead e
value_served s worker n (event.Alloc actor arena bytes) g = let e = g.1 in absurd (cc)
value_served s worker n (event.Free actor handle) is = absurd (no_value (holds s worker handle.place.segment) n is)
value_served s worker n event.Deliver is = absurd (cc)
value_served s worker n (event.Take segment) is = absurd (cc)
value_served s worker n event.Collect is = absurd (cc)
value_served s worker n (event.Read actor handle index) is = (actor, handle, index, refl)
value_served s worker n (event.Write actor handle index value) is = absurd (cc)
value_served s worker n (event.Look actor place) g = let e = g.1 in absurd (cc)
value_served s worker n (event.Abandon segment) is = absurd (cc)
value_served s worker n (event.Refill arena) g = let e = g.1 in absurd (cc)

value_read : (s new : State) (worker n : ℕ) (e : Event) → Step s worker e (answer.Value n) new → IsRead e
value_read s new worker n e step =
    elim (step_cases s worker e (answer.Value n) new step) [
      | inl served ↦ value_served s worker n e served.serves
      | inr refused ↦ absurd (true≢false (sym (refused_is s worker e (answer.Value n) refused.some)))
    ]

-- a command that means a read is one
block_asks : (handle : Option Handle) (asked : Handle → Event) (e : Event) → of_block handle asked ≡ meaning.One e → (h : Handle) × (asked h ≡ e)
block_asks None asked e is = absurd (cc)
block_asks (Some h) asked e is = (h, cc)

same_printed : (c : Command) (one other : List ℕ) → other ≡ one → IsSameButWord c one other
same_printed (command.Alloc actor arena bytes label) one other same = same
same_printed (command.Free actor block) one other same = same
same_printed command.Deliver one other same = same
same_printed (command.Take segment) one other same = same
same_printed command.Collect one other same = same
same_printed (command.Read actor block index) one other same = inl same
same_printed (command.Write actor block index value) one other same = same
same_printed _ one other same = same

module _ (policy : Policy) (handles : List (Option Handle)) (reader : Actor) (handle : Handle) (index m n : ℕ) where
  word_printed : (c : Command) → meaning_of policy handles c ≡ meaning.One (event.Read reader handle index) → IsSameButWord c (word_line m) (word_line n)
  word_printed (command.Alloc actor arena bytes label) is = absurd (cc)
  word_printed (command.Free actor block) is = let asked = (block_asks (handle_named handles block) _ _ is).1 in absurd (cc)
  word_printed command.Deliver is = absurd (cc)
  word_printed (command.Take segment) is = absurd (cc)
  word_printed command.Collect is = absurd (cc)
  word_printed (command.Read actor block at) is = inr (m, n, refl, refl)
  word_printed (command.Write actor block at value) is = let asked = (block_asks (handle_named handles block) _ _ is).1 in absurd (cc)
  word_printed (command.Look actor place) is = absurd (cc)
  word_printed _ is = absurd (cc)

-- what is printed for a line that means one event
module _ (policy : Policy) (handles : List (Option Handle)) (c : Command) (k new : Kept) (worker : ℕ) (e f : Event) (means : meaning_of policy handles c ≡ meaning.One e) where
  one_printed : (a b : Answer) → Step k.state worker e a new.state → without_answer b ≡ without_answer a
      → IsSameButWord c (reply_text policy (meaning.One e) (a ∷ [])) (reply_text policy (meaning.One f) (b ∷ []))
  one_printed a b step same =
      elim (answers_differ a b same) [
        | inl plain ↦ same_printed c _ _ (ap (λ x. reply_text policy (meaning.One f) (x ∷ [])) plain)
        | inr (m, n, is, are) ↦
            let (reader, handle, index, read) = value_read k.state new.state worker m e (subst (λ x. Step k.state worker e x new.state) is step) in
            subst (λ x. IsSameButWord c (reply_text policy (meaning.One e) (x ∷ [])) (reply_text policy (meaning.One f) (b ∷ []))) (sym is)
            (subst (λ x. IsSameButWord c (reply_text policy (meaning.One e) (answer.Value m ∷ [])) (reply_text policy (meaning.One f) (x ∷ []))) (sym are)
            (subst (λ t. IsSameButWord c t (word_line n ++ [])) (sym (append-nil (word_line m)))
            (subst (IsSameButWord c (word_line m)) (sym (append-nil (word_line n)))
            (word_printed policy handles reader handle index m n c (means ∙ ap meaning.One read)))))
      ]

  event_printed : (answers given : List Answer) → Chosen k ((worker, e) ∷ []) answers new → without_answers given ≡ without_answers answers
      → IsSameButWord c (reply_text policy (meaning.One e) answers) (reply_text policy (meaning.One f) given)
  event_printed [] given run same = absurd run
  event_printed (a ∷ x ∷ answers) given run same = absurd run.2
  event_printed (a ∷ []) [] run same = absurd (cc)
  event_printed (a ∷ []) (b ∷ x ∷ given) run same = absurd (cc)
  event_printed (a ∷ []) (b ∷ []) run same =
      let end : new ≡ run.0 = run.2 in
      one_printed a b (subst (λ t. Step k.state worker e a t.state) (sym end) run.1.step) cc

-- what is printed for a line
module _ (policy : Policy) (handles : List (Option Handle)) (c : Command) (k new : Kept) (worker : ℕ) (answers given : List Answer)
    (told : without_answers given ≡ without_answers answers) where
  reply_printed : (m other : Meaning) → meaning_of policy handles c ≡ m → unwritten_meaning other ≡ unwritten_meaning m
      → Chosen k (events_of k.state worker m) answers new → IsSameButWord c (reply_text policy m answers) (reply_text policy other given)
  reply_printed (meaning.One e) (meaning.One f) means same run = event_printed policy handles c k new worker e f means answers given run told
  reply_printed (meaning.One e) (meaning.Listing actor) means same run = absurd (cc)
  reply_printed (meaning.One e) meaning.Unbound means same run = absurd (cc)
  reply_printed (meaning.Listing actor) (meaning.One f) means same run = absurd (cc)
  reply_printed (meaning.Listing actor) (meaning.Listing reader) means same run =
      same_printed c _ _ (ap (listing_text policy) (sym (rows_unwritten given) ∙ ap (filter is_row) told ∙ rows_unwritten answers))
  reply_printed (meaning.Listing actor) meaning.Unbound means same run = absurd (cc)
  reply_printed meaning.Unbound (meaning.One f) means same run = absurd (cc)
  reply_printed meaning.Unbound (meaning.Listing actor) means same run = absurd (cc)
  reply_printed meaning.Unbound meaning.Unbound means same run = same_printed c _ _ refl

-- a line, answered in two replays
module _ (from begin mid end : Progress) (line other : Line) (here there : List ℕ) (alike : AreSameButWords from begin)
    (worker : other.worker ≡ line.worker) (command : unwritten other.command ≡ unwritten line.command)
    (one : Answered from line mid here) (second : Answered begin other end there) where
  policy_agrees : begin.kept.state.policy ≡ from.kept.state.policy
  policy_agrees = ap (λ k. k.state.policy) alike.kept

  meanings_agree : unwritten_meaning (meaning_at begin other) ≡ unwritten_meaning (meaning_at from line)
  meanings_agree =
      meaning_unwritten begin.kept.state.policy begin.handles other.command
      ∙ ap (meaning_of begin.kept.state.policy begin.handles) command
      ∙ ap (λ p. meaning_of p begin.handles (unwritten line.command)) policy_agrees
      ∙ ap (λ h. meaning_of from.kept.state.policy h (unwritten line.command)) alike.handles
      ∙ sym (meaning_unwritten from.kept.state.policy from.handles line.command)

  events_alike : without_values (events_of begin.kept.state other.worker (meaning_at begin other)) ≡ without_values (events_of from.kept.state line.worker (meaning_at from line))
  events_alike =
      events_unwritten begin.kept.state other.worker (meaning_at begin other)
      ∙ ap (λ w. events_of begin.kept.state w (unwritten_meaning (meaning_at begin other))) worker
      ∙ ap (events_of begin.kept.state line.worker) meanings_agree
      ∙ events_agree (λ segment owner. true) from.kept.state begin.kept.state line.worker (unwritten_meaning (meaning_at from line)) (ap (λ k. k.state) alike.kept)
      ∙ sym (events_unwritten from.kept.state line.worker (meaning_at from line))

  answers_agree : (without_answers second.answers ≡ without_answers one.answers) × (without_words end.kept ≡ without_words mid.kept)
  answers_agree =
      runs_agree from.kept begin.kept mid.kept end.kept (events_of from.kept.state line.worker (meaning_at from line))
      (events_of begin.kept.state other.worker (meaning_at begin other)) one.answers second.answers alike.kept events_alike one.chosen second.chosen

  line_goes_on : AreSameButWords mid end
  line_goes_on = record {
    kept = answers_agree.1;
    handles =
        second.handles ∙ ap (λ h. handles_after h other.command second.answers) alike.handles
        ∙ handles_agree from.handles line.command other.command one.answers second.answers command answers_agree.0
        ∙ sym one.handles;
  }

  line_printed : IsSameButWord line.command here there
  line_printed =
      let policy = from.kept.state.policy in
      let printed = reply_printed policy from.handles line.command from.kept mid.kept line.worker one.answers second.answers answers_agree.0
      (meaning_at from line) (meaning_at begin other) refl meanings_agree one.chosen in
      let there_is : there ≡ reply_text policy (meaning_at begin other) second.answers =
      second.told ∙ ap (λ p. reply_text p (meaning_at begin other) second.answers) policy_agrees in
      subst (λ t. IsSameButWord line.command here t) (sym there_is)
      (subst (λ t. IsSameButWord line.command t (reply_text policy (meaning_at begin other) second.answers)) (sym one.told) printed)

pub lines_show_values_in_words : LinesShowValuesInWords
lines_show_values_in_words from begin mid next line other here there same alike one second =
    let worker : other.worker ≡ line.worker = ap (λ p. p.0) same in
    let command : unwritten other.command ≡ unwritten line.command = ap (λ p. p.1) same in (
      line_printed from begin mid next line other here there alike worker command one second,
      line_goes_on from begin mid next line other here there alike worker command one second,
    )

printed_more : (line : Line) (lines : List Line) (here there text rest instead others : List ℕ) → IsSameButWord line.command here there
    → text ≡ here ++ rest → instead ≡ there ++ others → PrintSameButWords lines rest others → PrintSameButWords (line ∷ lines) text instead
printed_more line lines here there text rest instead others first one other more =
    let p : Printed = record { line = line; one = here; other = there } in
    record {
      printed = p ∷ more.printed;
      lines = ap (λ ls. line ∷ ls) more.lines;
      one = one ∙ ap (λ t. here ++ t) more.one;
      other = other ∙ ap (λ t. there ++ t) more.other;
      each = All-cons (λ q. IsSameButWord q.line.command q.one q.other) p more.printed first more.each;
    }

pub values_show_in_words : ValuesShowInWords
values_show_in_words from begin end last [] [] text instead same alike (one, told) (second, retold) = (
  record { printed = []; lines = refl; one = told; other = retold; each = All-nil (λ q. IsSameButWord q.line.command q.one q.other) },
  subst (λ p. AreSameButWords p last) (sym one) (subst (AreSameButWords from) (sym second) alike),
)
values_show_in_words from begin end last [] (other ∷ others) text instead same alike one second = absurd (cc)
values_show_in_words from begin end last (line ∷ lines) [] text instead same alike one second = absurd (cc)
values_show_in_words from begin end last (line ∷ lines) (other ∷ others) text instead same alike (mid, here, rest, one, more, told) (next, there, left, second, further, retold) =
    let head : unwritten_line other ≡ unwritten_line line = cc in
    let tail : unwritten_lines others ≡ unwritten_lines lines = cc in
    let (first, on) = lines_show_values_in_words from begin mid next line other here there head alike one second in
    let (printed, ends) = values_show_in_words mid next end last lines others rest left tail on more further in
    (printed_more line lines here there text rest instead left first told retold printed, ends)
