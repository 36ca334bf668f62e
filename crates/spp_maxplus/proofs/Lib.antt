pub mod SegLaws
pub mod WeightsOf
