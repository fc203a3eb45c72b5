use Rattle.std.proofs.Common.{◌≤◌, Some, length, refl, ap, arith}
use Rattle.std.proofs.lemmas.Option.{slice_get_past}
use Rattle.hg_bank_service.proofs.Calls.{absent_serves, keeps_at, keeps_of, there_serves}
use Rattle.hg_bank_service.proofs.worker.BankWorker.counting.Goals as goal

pub returns-then-from-len : goal.returns-then-from-len
returns-then-from-len c =
    let old = c.args.self.now in
    let past : length old.workers.items ≤ c.args.core =
    omega (arith, old.workers.ok.0, c.if-from-len.true, c.from.ensures, c.len.ensures) in
    absent_serves c.args.core c.args.event old _ (slice_get_past old.workers.items c.args.core past)
    record { told = ap Some c.absent.ensures; same = refl }

pub invariant_of-self : goal.invariant_of-self
invariant_of-self c =
    let k = keeps_at (keeps_of c.args.self.now) c.serve_there.ensures.served
    c.serve_there.ensures.counted in
    record {
      below = k.below;
      some = k.some;
      most = k.most;
      of = k.of;
      there = k.there;
      counted = k.counted;
      here = k.here;
      room = k.room;
    }

pub returns : goal.returns
returns c =
    let at = c.serve_there.ensures.served in
    there_serves c.args.core c.args.event c.args.self.now _ at.there
    record {
      next = at.next;
      after = at.after;
      served = at.served;
      reach = at.reach;
      rest = record { policy = refl; number = refl; currents = refl };
    }
