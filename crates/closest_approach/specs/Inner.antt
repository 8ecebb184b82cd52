pub mod LongSteps
