use Rattle.std.proofs.Common.{◌∙◌}
use Rattle.hg_core.specs.declared.stores.Stores.TheInside.{Inside}
use Rattle.hg_core.proofs.Opens.{OpensWith, is_opening, opens}
use Rattle.hg_core.proofs.OpenLists.{is_opened}
use Rattle.hg_core.proofs.stores.Stores.open.Goals as goal

abbrev made : goal.After-no_holders → Inside
made c = record {
  policy = c.args.policy;
  heaps = c.in_ok-heaps.heaps;
  remotes = c.in_ok-remotes.remotes;
  pool = c.in_ok-pool.pool;
  hands = c.in_ok-hands.hands;
  holders = c.no_holders.result;
}

fields : (c : goal.After-no_holders) → OpensWith (made c) c.workers-workers.result c.segments.result
fields c = record {
  sound = c.workers-workers.ensures.sound;
  workers_are = c.workers-workers.ensures.workers;
  segments_are = c.segments.ensures.segments;
  heaps = c.in_ok-heaps.ensures.all;
  none = c.in_ok-heaps.ensures.none;
  queues = c.in_ok-heaps.ensures.queues;
  remotes = c.in_ok-remotes.ensures;
  pool = c.in_ok-pool.ensures;
  hands = c.in_ok-hands.ensures.all ∙ c.from.ensures;
  empty = c.in_ok-hands.ensures.each;
  holders = c.no_holders.ensures;
}

pub invariant_of-result : goal.invariant_of-result
invariant_of-result c = opens (made c) c.workers-workers.result c.segments.result (fields c)

pub returns-clause-opening : goal.returns-clause-opening
returns-clause-opening c = is_opening (made c) c.workers-workers.result c.segments.result (fields c)

pub returns-clause-opened : goal.returns-clause-opened
returns-clause-opened c =
    is_opened (made c) c.workers-workers.result c.segments.result (fields c)

pub returns-clause-kept : goal.returns-clause-kept
returns-clause-kept c = (opens (made c) c.workers-workers.result c.segments.result (fields c)).kept
