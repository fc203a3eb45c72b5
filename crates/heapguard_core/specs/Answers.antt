-- What the machine answers, by what a call tells.
pub use Rattle.hg_heap.specs.Answers.{refused_answer, alloc_answer, read_answer, done_answer}
pub use Rattle.hg_heap.specs.Answers.{look_answer}
pub use Rattle.hg_core.specs.Answers.{free_answer, deliver_answer, take_answer}
pub use Rattle.hg_core.specs.Answers.{abandon_answer, refill_answer}
