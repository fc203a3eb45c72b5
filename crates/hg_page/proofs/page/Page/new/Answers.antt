use Rattle.std.proofs.Common.{arith, refl}
use Rattle.hg_page.specs.Links.{link_at}
use Rattle.hg_page.proofs.Chained.{chain-nil}
use Rattle.hg_page.proofs.Linked.{linked}
use Rattle.hg_page.proofs.Formatted.{new_links, unset_all}
use Rattle.hg_page.proofs.page.Page.new.Goals as goal

pub returns-clause-linked : goal.returns-clause-linked
returns-clause-linked c words whole = linked _ words _ _ (new_links _ words refl refl (omega arith) refl refl refl c.no_flags.ensures.all (unset_all _ c.no_flags.ensures.unset) whole)

pub returns-clause-unlisted : goal.returns-clause-unlisted
returns-clause-unlisted c words = rw (chain-nil 511 (link_at _ words) 0 refl) refl

pub returns-clause-idle : goal.returns-clause-idle
returns-clause-idle c words = unset_all _ c.no_flags.ensures.unset
