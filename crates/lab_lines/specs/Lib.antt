pub mod Workload
pub mod Given
pub mod Drawing
