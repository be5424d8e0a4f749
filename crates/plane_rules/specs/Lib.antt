pub mod Task
pub mod Plane
pub mod Dc
pub mod AcRead
pub mod AcWrite
pub mod Levels
