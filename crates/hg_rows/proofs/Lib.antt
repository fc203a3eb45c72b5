mod Computed
pub mod PartitionTests
pub mod PartitionLemmas
pub mod AllocatingRuns
pub mod JudgingRuns
pub mod GrantingRuns
pub mod DenyingRuns
pub mod LivesRuns
pub mod PartingRuns
pub mod HoldingRuns
pub mod WorkedPolicyLemmas
