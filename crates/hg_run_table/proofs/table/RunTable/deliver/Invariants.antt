use Rattle.std.specs.Prelude.{◌∷◌}
use Rattle.hg_place.specs.Places.{segment_of}
use Rattle.hg_machine.specs.declared.Answer.TheVariants as answer
use Rattle.hg_machine.specs.declared.Event.TheVariants as event
use Rattle.hg_roles.specs.Joined.{emptied}
use Rattle.hg_roles.specs.Roles.{of_remote}
use Rattle.hg_run_table.proofs.table.RunTable.deliver.Given as goal

abbrev pub ghosts-call_together-W-OwnCall : goal.ghosts-call_together-W-OwnCall
ghosts-call_together-W-OwnCall g a = record {
  before = g.H.HandAndList.before;
  call = (event.Deliver, answer.Done);
  after = emptied g.H.HandAndList.before;
}

abbrev pub ghosts-call_together-P-OtherPart : goal.ghosts-call_together-P-OtherPart
ghosts-call_together-P-OtherPart g a = record {
  role = of_remote (segment_of g.H.HandAndList.place) g.H.HandAndList.sent;
  left = of_remote (segment_of g.H.HandAndList.place) (g.H.HandAndList.place ∷ g.H.HandAndList.sent);
}
