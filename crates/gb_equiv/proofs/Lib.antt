mod MemoryBetween
pub mod OneSideIsSound
mod Others
pub mod TransitivityIsSound
mod DrawnIsSound
pub mod Maps
pub mod RndIsSound
pub mod SymmetryIsSound
