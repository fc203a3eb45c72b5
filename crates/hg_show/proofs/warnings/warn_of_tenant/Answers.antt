use Rattle.std.proofs.Common.{◌++◌}
use Rattle.hg_show.specs.Texts.{texts_in}
use Rattle.hg_show.specs.Warnings.{greedy_warning, lost_warning, small_warning, tenant_warnings}
use Rattle.hg_show.proofs.TextLemmas.{joined}
use Rattle.hg_show.proofs.warnings.warn_of_tenant.Goals as goal

-- the three one after another
pub returns : goal.returns
unfolding tenant_warnings
returns c =
    let policy = c.args.policy.now in
    let tenant = c.args.tenant in
    let old = texts_in c.args.texts.now.items in
    let mid = texts_in c.warn.new.texts.items in
    let next = texts_in c.warn-2.new.texts.items in
    joined old (small_warning policy tenant ++ lost_warning policy tenant) (greedy_warning policy tenant) next (texts_in c.warn-3.new.texts.items)
    (joined old (small_warning policy tenant) (lost_warning policy tenant) mid next
    (rw (c.limit_of-small.ensures.limit, c.as_bytes-name.ensures.value, c.name_of.ensures) at c.in_ok-warn.ensures)
    (rw (c.is_somewhere-lost.ensures, c.as_bytes-name.ensures.value, c.name_of.ensures) at c.in_ok-warn-2.ensures))
    (rw (c.is_greedy-greedy.ensures, c.as_bytes-name.ensures.value, c.name_of.ensures) at c.in_ok-warn-3.ensures)
