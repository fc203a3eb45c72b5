use Rattle.std.proofs.Common.{◌≡◌, ℕ, ◌<◌, ◌≤◌, false, length, slice_index, slice_index_or, nat_eq}
use Rattle.hg_page.proofs.worn.Worn.of_generations.Given as goal

abbrev pub invariant-loop-index : goal.invariant-loop-index
invariant-loop-index l = record {
  all : length l.worn ≡ 512;
  done : (at : ℕ) → at < l.index → slice_index_or l.worn at false ≡ nat_eq (slice_index l.generations at) l.greatest;
  rest : (at : ℕ) → l.index ≤ at → slice_index_or l.worn at false ≡ false;
}
