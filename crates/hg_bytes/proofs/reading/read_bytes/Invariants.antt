use Rattle.std.proofs.Common.{◌≡◌, ◌%◌, length, drop}
use Rattle.hg_bytes.specs.Bytes.{ReadsEach}
use Rattle.hg_bytes.specs.Pieces.{before}
use Rattle.hg_bytes.proofs.reading.read_bytes.Given as goal

-- the words below were read, and what lies behind them is as it was
abbrev pub invariant-loop-many : goal.invariant-loop-many
invariant-loop-many g l = record {
  may : g.S.WordStore.may l.by l.store;
  all : length l.room ≡ length l.fn.room;
  each : ReadsEach g.S.WordStore.reads g.S.WordStore.writes l.by l.first l.room l.many l.fn.store l.store;
  rest : drop (before (l.first % 8) l.many) l.room ≡ drop (before (l.first % 8) l.many) l.fn.room;
}
