pub mod StepKinds
pub mod WorkersLemmas
pub mod RemotesLemmas
pub mod PoolLemmas
pub mod SlotWordLemmas
