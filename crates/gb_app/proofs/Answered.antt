-- The status of an answer.
use Rattle.std.proofs.Common.{◌≡◌, ◌⊎◌, inl, inr}
use Rattle.gb_app.specs.declared.status.Status.{Status}
use Rattle.gb_app.specs.declared.status.Status.TheVariants.{Accepted, Refused, WriteFault, NoMemory}

-- a run that ends with a verdict has that of its answer
pub from_kind : (s t : Status) → (s ≡ Accepted) ⊎ (s ≡ Refused) → (s ≡ t) ⊎ (s ≡ WriteFault) ⊎ (s ≡ NoMemory) → s ≡ t
from_kind s t (inl e) (inl is) = is
from_kind s t (inl e) (inr (inl other)) = absurd (cc)
from_kind s t (inl e) (inr (inr other)) = absurd (cc)
from_kind s t (inr e) (inl is) = is
from_kind s t (inr e) (inr (inl other)) = absurd (cc)
from_kind s t (inr e) (inr (inr other)) = absurd (cc)
