use Rattle.std.proofs.Common.{ap, ◌∙◌, vec_capacity, slice_index_or}
use Rattle.hg_reserved.proofs.ShownLemmas.{shown-read}
use Rattle.hg_reserved.proofs.reserved.Reserved.new.Goals as goal

pub returns-clause-blank : goal.returns-clause-blank
returns-clause-blank g c at =
    let made = c.in_ok-touched in
    shown-read g.T.Blank.blank made.touched.items (vec_capacity made.touched) at
    ∙ ap (λ l. slice_index_or l at g.T.Blank.blank) made.ensures.items
