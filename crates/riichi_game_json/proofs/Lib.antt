pub mod FewMoves
pub mod Pieces
