-- The productions of the grammar by which printed text is read.
pub mod Table
pub mod Programs
pub mod Binders
pub mod Forms
pub mod Operands
pub mod Names
unfoldable pub use Table.{grammar}
pub use Programs.*
pub use Binders.*
pub use Forms.*
pub use Operands.*
pub use Names.*
