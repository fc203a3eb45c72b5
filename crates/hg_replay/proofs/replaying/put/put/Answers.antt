use Rattle.std.proofs.Common.{◌++◌, take, ap, sym, ◌∙◌}
use Rattle.std.proofs.lemmas.List.{take_rest}
use Rattle.std.proofs.KnownBytes.{Appends-trans}
use Rattle.hg_replay.proofs.Writes.{moves_front, front_none, front_kept, some_left}
use Rattle.hg_replay.proofs.replaying.put.put.Goals as goal

pub returns-in-Ok-eq0-clause-stopped : goal.returns-in-Ok-eq0-clause-stopped
returns-in-Ok-eq0-clause-stopped g c =
    let seen = g.W.Sink.seen in
    let (done, split, appended) = c.loop-rest.invariant in
    front_none (seen c.args.out.now) (seen c.loop-rest.out) (seen c.write_some.new.self) c.args.bytes.now done c.loop-rest.rest.now c.in-Ok-eq0.field-0 split c.in-Ok-eq0.field-0-test (some_left _ c.loop-rest-test.ensures) appended c.in-Ok-eq0.ensures.bytes (c.in-Ok-eq0.ensures.stops c.in-Ok-eq0.field-0-test)

pub loop-rest-preserved : goal.loop-rest-preserved
loop-rest-preserved g c =
    let (done, split, appended) = c.loop-rest.invariant in
    (done ++ take c.in-Ok.n c.loop-rest.rest.now, moves_front c.args.bytes.now done c.loop-rest.rest.now c.in-Ok.n split ∙ ap (λ l. (done ++ take c.in-Ok.n c.loop-rest.rest.now) ++ l) (sym (take_rest c.loop-rest.rest.now c.in-Ok.n)), Appends-trans _ _ _ _ _ appended c.in-Ok.ensures.bytes)

pub returns-in-Err-clause-stopped : goal.returns-in-Err-clause-stopped
returns-in-Err-clause-stopped g c =
    let seen = g.W.Sink.seen in
    let (done, split, appended) = c.loop-rest.invariant in
    front_kept (seen c.args.out.now) (seen c.loop-rest.out) (seen c.write_some.new.self) c.args.bytes.now done c.loop-rest.rest.now split (some_left _ c.loop-rest-test.ensures) appended c.in-Err.ensures.bytes c.in-Err.ensures.stops
