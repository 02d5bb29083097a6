pub mod Asked
pub mod EndsDrawing
pub mod Standing
pub mod Taking
