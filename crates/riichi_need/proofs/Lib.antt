pub mod Rising
pub mod Least
pub mod RowsListed
pub mod SettledSo
