use Rattle.std.proofs.Common.{◌≡◌, true, false}
use Rattle.hg_audit_tests.proofs.tests.damaged_parts.put.Goals as goal

pub put_fresh-requires : goal.put_fresh-requires
put_fresh-requires g c p =
    let told = rw c.number-number.ensures at c.has.ensures.there in
    let yes : c.has.result ≡ true = told.1 p in
    let away : c.has.result ≡ false = c.if-has.false in cc
