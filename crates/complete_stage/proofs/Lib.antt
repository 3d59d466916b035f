pub mod CompleteStep
pub mod UpdateStep
