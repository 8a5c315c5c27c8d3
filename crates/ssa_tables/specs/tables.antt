pub mod PassedSteps
