use Rattle.std.proofs.Common.{◌≡◌, ◌∷◌, ◌++◌, [], Some, None, is_some, true, false, sym, ap, subst, ◌∙◌}
use Rattle.hg_machine.specs.declared.Event.TheVariants as event
use Rattle.hg_trace.specs.Stored.{named, block_in, command_in, line_in, IsNumbered}
use Rattle.hg_replay.specs.declared.replaying.events.Meaning.TheVariants as meaning
use Rattle.hg_replay.specs.Events.{actor_of, handle_named, meaning_of, of_block}
use Rattle.hg_replay.specs.KnownNames.{meant_of}
use Rattle.hg_replay.specs.Replays.{handles_after}
use Rattle.hg_replay.specs.Text.{answer_line}
use Rattle.hg_replay.proofs.Answering.{one_answered, unbound_answered, alloc_binds, alloc_binds_none}
use Rattle.hg_replay.proofs.replaying.replay_line.Goals as goal

pub returns-then-is_some-clause-answered : goal.returns-then-is_some-clause-answered
returns-then-is_some-clause-answered g c = λ names labels known numbered.
    let s = c.args.core.now.state in
    let handles = c.args.handles.now.items in
    let line = line_in names labels c.args.line.now in
    let it = c.in-Alloc in
    let said = ap (command_in names labels) it.is in
    let numbers = subst (IsNumbered names labels) it.is numbered in
    let who = c.actor_at-actor.ensures s.policy names known numbers.0 in
    let place = c.meant_at-arena.ensures s.policy names known numbers.1 in
    let meant : meaning_of s.policy handles line.command ≡ meaning.One (event.Alloc c.actor_at-actor.result c.meant_at-arena.result.arena it.bytes) =
    ap (meaning_of s.policy handles) said ∙ (ap (λ a. meaning.One (event.Alloc a (meant_of s.policy (named names it.arena)).arena it.bytes)) (sym who) ∙ ap (λ m. meaning.One (event.Alloc c.actor_at-actor.result m.arena it.bytes)) (sym place)) in
    let (answer, is, served) = c.serve_alloc-given.ensures in
    let flag : is_some it.label ≡ true = sym c.if-is_some.ensures in
    let noted : c.push_reserved.new.self.items ≡ handles_after handles line.command (answer ∷ []) =
    c.push_reserved.ensures.items ∙ (ap (λ one. handles ++ one ∷ []) is ∙ (alloc_binds handles (named names it.actor) (named names it.arena) it.bytes (named labels) it.label (answer ∷ []) flag
    ∙ sym (ap (λ c. handles_after handles c (answer ∷ [])) said))) in (
      answer_line s.policy answer,
      one_answered (record { kept = c.args.core.now; handles = handles }) line (event.Alloc c.actor_at-actor.result c.meant_at-arena.result.arena it.bytes) answer
          c.serve_alloc-given.new.core c.push_reserved.new.self.items meant served.chosen noted,
      served.given,
    )

pub returns-else-is_some-clause-answered : goal.returns-else-is_some-clause-answered
returns-else-is_some-clause-answered g c = λ names labels known numbered.
    let s = c.args.core.now.state in
    let handles = c.args.handles.now.items in
    let line = line_in names labels c.args.line.now in
    let it = c.in-Alloc in
    let said = ap (command_in names labels) it.is in
    let numbers = subst (IsNumbered names labels) it.is numbered in
    let who = c.actor_at-actor.ensures s.policy names known numbers.0 in
    let place = c.meant_at-arena.ensures s.policy names known numbers.1 in
    let meant : meaning_of s.policy handles line.command ≡ meaning.One (event.Alloc c.actor_at-actor.result c.meant_at-arena.result.arena it.bytes) =
    ap (meaning_of s.policy handles) said ∙ (ap (λ a. meaning.One (event.Alloc a (meant_of s.policy (named names it.arena)).arena it.bytes)) (sym who) ∙ ap (λ m. meaning.One (event.Alloc c.actor_at-actor.result m.arena it.bytes)) (sym place)) in
    let (answer, is, served) = c.serve_alloc-given.ensures in
    let flag : is_some it.label ≡ false = sym c.if-is_some.ensures in
    let noted : handles ≡ handles_after handles line.command (answer ∷ []) =
    (alloc_binds_none handles (named names it.actor) (named names it.arena) it.bytes (named labels) it.label (answer ∷ []) flag
    ∙ sym (ap (λ c. handles_after handles c (answer ∷ [])) said)) in (
      answer_line s.policy answer,
      one_answered (record { kept = c.args.core.now; handles = handles }) line (event.Alloc c.actor_at-actor.result c.meant_at-arena.result.arena it.bytes) answer
          c.serve_alloc-given.new.core handles meant served.chosen noted,
      served.given,
    )

pub returns-in-Some-clause-answered : goal.returns-in-Some-clause-answered
returns-in-Some-clause-answered g c = λ names labels known numbered.
    let s = c.args.core.now.state in
    let handles = c.args.handles.now.items in
    let line = line_in names labels c.args.line.now in
    let it = c.in-Free in
    let handle = c.in-Some.handle in
    let said = ap (command_in names labels) it.is in
    let who = c.actor_at-actor-in-Some.ensures s.policy names known (subst (IsNumbered names labels) it.is numbered) in
    let found : Some handle ≡ handle_named handles (block_in it.block) = c.in-Some.ensures ∙ ap (λ hs. handle_named hs (block_in it.block)) c.deref.ensures.value in
    let meant : meaning_of s.policy handles line.command ≡ meaning.One (event.Free c.actor_at-actor-in-Some.result handle) =
    ap (meaning_of s.policy handles) said
    ∙ (ap (λ h. of_block h (λ one. event.Free (actor_of s.policy (named names it.actor)) one)) (sym found)
    ∙ ap (λ a. meaning.One (event.Free a handle)) (sym who)) in
    let (answer, served) = c.serve_free.ensures in (
      answer_line s.policy answer,
      one_answered (record { kept = c.args.core.now; handles = handles }) line (event.Free c.actor_at-actor-in-Some.result handle) answer c.serve_free.new.core handles meant
          served.chosen (sym (ap (λ said. handles_after handles said (answer ∷ [])) said)),
      served.given,
    )

pub returns-in-None-clause-answered : goal.returns-in-None-clause-answered
returns-in-None-clause-answered g c = λ names labels known numbered.
    let s = c.args.core.now.state in
    let handles = c.args.handles.now.items in
    let line = line_in names labels c.args.line.now in
    let it = c.in-Free in
    let missing : None ≡ handle_named handles (block_in it.block) = c.in-None.ensures ∙ ap (λ hs. handle_named hs (block_in it.block)) c.deref.ensures.value in
    let meant : meaning_of s.policy handles line.command ≡ meaning.Unbound =
    ap (meaning_of s.policy handles) (ap (command_in names labels) it.is)
    ∙ ap (λ h. of_block h (λ one. event.Free (actor_of s.policy (named names it.actor)) one)) (sym missing) in
    (_, unbound_answered (record { kept = c.args.core.now; handles = handles }) line meant, c.put.ensures)

pub returns-in-Some-handle_named-clause-answered : goal.returns-in-Some-handle_named-clause-answered
returns-in-Some-handle_named-clause-answered g c = λ names labels known numbered.
    let s = c.args.core.now.state in
    let handles = c.args.handles.now.items in
    let line = line_in names labels c.args.line.now in
    let it = c.in-Read in
    let handle = c.in-Some-handle_named.handle in
    let said = ap (command_in names labels) it.is in
    let who = c.actor_at-actor-in-Some-handle_named.ensures s.policy names known (subst (IsNumbered names labels) it.is numbered) in
    let found : Some handle ≡ handle_named handles (block_in it.block) = c.in-Some-handle_named.ensures ∙ ap (λ hs. handle_named hs (block_in it.block)) c.deref-in-Read.ensures.value in
    let meant : meaning_of s.policy handles line.command ≡ meaning.One (event.Read c.actor_at-actor-in-Some-handle_named.result handle it.index) =
    ap (meaning_of s.policy handles) said
    ∙ (ap (λ h. of_block h (λ one. event.Read (actor_of s.policy (named names it.actor)) one it.index)) (sym found)
    ∙ ap (λ a. meaning.One (event.Read a handle it.index)) (sym who)) in
    let (answer, served) = c.serve_read.ensures in (
      answer_line s.policy answer,
      one_answered (record { kept = c.args.core.now; handles = handles }) line (event.Read c.actor_at-actor-in-Some-handle_named.result handle it.index) answer c.serve_read.new.core handles meant
          served.chosen (sym (ap (λ said. handles_after handles said (answer ∷ [])) said)),
      served.given,
    )

pub returns-in-None-handle_named-clause-answered : goal.returns-in-None-handle_named-clause-answered
returns-in-None-handle_named-clause-answered g c = λ names labels known numbered.
    let s = c.args.core.now.state in
    let handles = c.args.handles.now.items in
    let line = line_in names labels c.args.line.now in
    let it = c.in-Read in
    let missing : None ≡ handle_named handles (block_in it.block) = c.in-None-handle_named.ensures ∙ ap (λ hs. handle_named hs (block_in it.block)) c.deref-in-Read.ensures.value in
    let meant : meaning_of s.policy handles line.command ≡ meaning.Unbound =
    ap (meaning_of s.policy handles) (ap (command_in names labels) it.is)
    ∙ ap (λ h. of_block h (λ one. event.Read (actor_of s.policy (named names it.actor)) one it.index)) (sym missing) in
    (_, unbound_answered (record { kept = c.args.core.now; handles = handles }) line meant, c.put-in-None-handle_named.ensures)

pub returns-in-Some-handle_named-2-clause-answered : goal.returns-in-Some-handle_named-2-clause-answered
returns-in-Some-handle_named-2-clause-answered g c = λ names labels known numbered.
    let s = c.args.core.now.state in
    let handles = c.args.handles.now.items in
    let line = line_in names labels c.args.line.now in
    let it = c.in-Write in
    let handle = c.in-Some-handle_named-2.handle in
    let said = ap (command_in names labels) it.is in
    let who = c.actor_at-actor-in-Some-handle_named-2.ensures s.policy names known (subst (IsNumbered names labels) it.is numbered) in
    let found : Some handle ≡ handle_named handles (block_in it.block) = c.in-Some-handle_named-2.ensures ∙ ap (λ hs. handle_named hs (block_in it.block)) c.deref-in-Write.ensures.value in
    let meant : meaning_of s.policy handles line.command ≡ meaning.One (event.Write c.actor_at-actor-in-Some-handle_named-2.result handle it.index it.value) =
    ap (meaning_of s.policy handles) said
    ∙ (ap (λ h. of_block h (λ one. event.Write (actor_of s.policy (named names it.actor)) one it.index it.value)) (sym found)
    ∙ ap (λ a. meaning.One (event.Write a handle it.index it.value)) (sym who)) in
    let (answer, served) = c.serve_write.ensures in (
      answer_line s.policy answer,
      one_answered (record { kept = c.args.core.now; handles = handles }) line (event.Write c.actor_at-actor-in-Some-handle_named-2.result handle it.index it.value) answer c.serve_write.new.core handles meant
          served.chosen (sym (ap (λ said. handles_after handles said (answer ∷ [])) said)),
      served.given,
    )

pub returns-in-None-handle_named-2-clause-answered : goal.returns-in-None-handle_named-2-clause-answered
returns-in-None-handle_named-2-clause-answered g c = λ names labels known numbered.
    let s = c.args.core.now.state in
    let handles = c.args.handles.now.items in
    let line = line_in names labels c.args.line.now in
    let it = c.in-Write in
    let missing : None ≡ handle_named handles (block_in it.block) = c.in-None-handle_named-2.ensures ∙ ap (λ hs. handle_named hs (block_in it.block)) c.deref-in-Write.ensures.value in
    let meant : meaning_of s.policy handles line.command ≡ meaning.Unbound =
    ap (meaning_of s.policy handles) (ap (command_in names labels) it.is)
    ∙ ap (λ h. of_block h (λ one. event.Write (actor_of s.policy (named names it.actor)) one it.index it.value)) (sym missing) in
    (_, unbound_answered (record { kept = c.args.core.now; handles = handles }) line meant, c.put-in-None-handle_named-2.ensures)
