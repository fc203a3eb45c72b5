use Rattle.hg_bytes.specs.Bytes.{PutsEach}
use Rattle.hg_bytes.proofs.writing.write_bytes.Given as goal

-- the words below were written
abbrev pub invariant-loop-many : goal.invariant-loop-many
invariant-loop-many g l = record {
  may : g.S.WordStore.may l.by l.store;
  each : PutsEach g.S.WordStore.reads g.S.WordStore.writes l.by l.first l.bytes l.many l.fn.store l.store;
}
