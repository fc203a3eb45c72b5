pub mod CommandLemmas
pub mod CommandTexts
pub mod WordJobs
pub mod OptionJobs
pub mod StateJobs
pub mod RequestJobs
pub mod NumberLemmas
pub mod OptionLemmas
