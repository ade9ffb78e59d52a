-- Scopes outside of open sections.
use Rattle.gb_meaning.specs.Declared.{Declaration, abstract_module, axiom_of}

-- a declaration that is no axiom, and of no open section
abbrev pub IsFirm : Declaration → Type 0
IsFirm (abstract_module b) = ⊥
IsFirm (axiom_of q) = ⊥
IsFirm _ = Unit {0}
