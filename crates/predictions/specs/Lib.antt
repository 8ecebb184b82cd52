pub mod PredictFaults
pub mod PredictValues
pub mod Inner
