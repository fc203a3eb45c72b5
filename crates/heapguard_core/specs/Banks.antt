-- What the clauses of a bank's calls cite, by one name, but for those of many words at once: its files
-- are named as those of a core are.
pub use Rattle.hg_bank.specs.State.{BankState, current_of, charge_over, with_core, with_current}
pub use Rattle.hg_bank.specs.Order.{round_from}
pub use Rattle.hg_bank.specs.Requests.{Request, alloc, refill, named, event_of, server, unserved}
pub use Rattle.hg_bank.specs.Requests.{missing, has_room_in, has_segment_in}
pub use Rattle.hg_bank.specs.Steps.{BankStep, IsServedBy, moved}
pub use Rattle.hg_bank.specs.Sound.{IsSoundBank, IsCoreOf}
pub use Rattle.hg_bank.specs.Opening.{opened_bank, grown, IsOpenCore}
pub use Rattle.hg_bank.specs.Parts.{AreParts, bank_from}
pub use Rattle.hg_bank.specs.Answers.{bank_alloc_answer, bank_refill_answer}
pub use Rattle.hg_bank.specs.Laws.{BankStepsKeepPolicy}
