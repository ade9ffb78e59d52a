pub mod Byte
pub mod Comment
pub mod Lex
pub mod Piece
pub mod PlaceAfter
pub mod Symbol
