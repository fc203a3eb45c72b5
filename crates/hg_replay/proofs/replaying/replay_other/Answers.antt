use Rattle.std.proofs.Common.{◌≡◌, sym, ap, ◌∙◌, filter}
use Rattle.hg_trace.specs.Stored.{line_in}
use Rattle.hg_replay.specs.declared.replaying.events.Meaning.TheVariants as meaning
use Rattle.hg_replay.specs.Events.{meaning_of}
use Rattle.hg_replay.specs.Rows.{is_row}
use Rattle.hg_replay.specs.Text.{answer_line, listing_text}
use Rattle.hg_replay.proofs.Answering.{one_answered, listing_answered, unbound_answered}
use Rattle.hg_replay.proofs.LinesSaid.{none_counted}
use Rattle.hg_replay.proofs.replaying.replay_other.Goals as goal

pub returns-in-One-clause-answered : goal.returns-in-One-clause-answered
returns-in-One-clause-answered g c = λ names labels known numbered.
    let s = c.args.core.now.state in
    let handles = c.args.handles.now.items in
    let line = line_in names labels c.args.line.now in
    let meant : meaning_of s.policy handles line.command ≡ meaning.One c.in-One.event =
    sym (c.in-One.ensures.meaning s.policy names labels known numbered ∙ ap (λ hs. meaning_of s.policy hs line.command) c.deref.ensures.value) in (
      answer_line s.policy c.serve-answer.result,
      one_answered (record { kept = c.args.core.now; handles = handles }) line c.in-One.event c.serve-answer.result c.serve-answer.new.core
          c.note.new.handles.items meant c.serve-answer.ensures.chosen (c.note.ensures.handles names labels),
      c.serve-answer.ensures.given,
    )

pub returns-in-Listing-clause-answered : goal.returns-in-Listing-clause-answered
returns-in-Listing-clause-answered g c = λ names labels known numbered.
    let s = c.args.core.now.state in
    let handles = c.args.handles.now.items in
    let line = line_in names labels c.args.line.now in
    let meant : meaning_of s.policy handles line.command ≡ meaning.Listing c.in-Listing.actor =
    sym (c.in-Listing.ensures.meaning s.policy names labels known numbered ∙ ap (λ hs. meaning_of s.policy hs line.command) c.deref.ensures.value) in
    let (answers, chosen, given) = c.list.ensures.listed in (
      listing_text s.policy (filter is_row answers),
      listing_answered (record { kept = c.args.core.now; handles = handles }) line c.in-Listing.actor answers c.list.new.core meant c.list.ensures.same chosen,
      given,
    )

pub returns-in-Unbound-clause-answered : goal.returns-in-Unbound-clause-answered
returns-in-Unbound-clause-answered g c = λ names labels known numbered.
    let s = c.args.core.now.state in
    let handles = c.args.handles.now.items in
    let line = line_in names labels c.args.line.now in
    let meant : meaning_of s.policy handles line.command ≡ meaning.Unbound =
    sym (c.in-Unbound.ensures.meaning s.policy names labels known numbered ∙ ap (λ hs. meaning_of s.policy hs line.command) c.deref.ensures.value) in
    (_, unbound_answered (record { kept = c.args.core.now; handles = handles }) line meant, c.put.ensures)

pub returns-in-Listing-clause-count : goal.returns-in-Listing-clause-count
returns-in-Listing-clause-count g c = none_counted _ _ (λ given. let one = (c.in-Listing.ensures.labelled given).1 in absurd (cc))

pub returns-in-Unbound-clause-count : goal.returns-in-Unbound-clause-count
returns-in-Unbound-clause-count g c = none_counted _ _ (λ given. let one = (c.in-Unbound.ensures.labelled given).1 in absurd (cc))

pub returns-in-One-clause-told : goal.returns-in-One-clause-told
returns-in-One-clause-told g c = λ names labels known numbered.
    let s = c.args.core.now.state in
    let line = line_in names labels c.args.line.now in (
      sym (c.in-One.ensures.meaning s.policy names labels known numbered ∙ ap (λ hs. meaning_of s.policy hs line.command) c.deref.ensures.value),
      c.serve-answer.ensures.chosen,
    )

pub returns-in-Listing-clause-told : goal.returns-in-Listing-clause-told
returns-in-Listing-clause-told g c = λ names labels known numbered.
    let s = c.args.core.now.state in
    let line = line_in names labels c.args.line.now in (
      c.in-Listing.actor,
      sym (c.in-Listing.ensures.meaning s.policy names labels known numbered ∙ ap (λ hs. meaning_of s.policy hs line.command) c.deref.ensures.value),
    )

pub returns-in-Unbound-clause-told : goal.returns-in-Unbound-clause-told
returns-in-Unbound-clause-told g c = λ names labels known numbered.
    let s = c.args.core.now.state in
    let line = line_in names labels c.args.line.now in
    sym (c.in-Unbound.ensures.meaning s.policy names labels known numbered ∙ ap (λ hs. meaning_of s.policy hs line.command) c.deref.ensures.value)
