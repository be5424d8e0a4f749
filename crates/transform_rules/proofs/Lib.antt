pub mod TransformCases
pub mod Lengths
pub mod KernelCases
