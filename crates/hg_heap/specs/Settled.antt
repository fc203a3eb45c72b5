-- What each segment keeps, as its callers know it.
pub use Rattle.hg_segment.specs.Settled.{IsSettled}
