-- Equations of optional values and of names.
pub use Rattle.gb_typing.proofs.Interfaces.{none_some, same_some, same_name, itself}
