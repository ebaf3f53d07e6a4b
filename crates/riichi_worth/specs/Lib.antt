pub mod CountedPoints
pub mod Laws
pub mod PointRows
pub mod Points
pub mod Prizes
pub mod Rows
pub mod Worths
