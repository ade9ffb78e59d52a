pub mod SymbolLemmas
pub mod CommentLemmas
pub mod PieceLemmas
pub mod PlaceLemmas
pub mod LexLemmas
mod Cuts
