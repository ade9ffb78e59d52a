-- Programs that are chosen for binders, one after another, each within its binder.
use Rattle.std.proofs.Common.{◌≡◌, Bool, true, false, if◌then◌else◌, List, [], ◌∷◌, Some, None, bytes_eq, ap, ◌∙◌, subst}
use Rattle.gb_terms.specs.declared.module.Bind.{Bind}
use Rattle.gb_meaning.specs.Names.{Name}
use Rattle.gb_meaning.specs.Declared.{Declarations}
use Rattle.gb_meaning.specs.Programs.{AreInOrder}
use Rattle.gb_meaning.specs.Settings.{Chosen, Interpretation, with_program}
use Rattle.gb_typing.specs.Chosen.{chosen_under}
use Rattle.gb_typing.proofs.Interfaces.{same_some}
use Rattle.gb_arguments.specs.Arguments.{IsChoiceFor}

-- binders of other names
abbrev pub AreOthers : List Bind → Name → Type 0
AreOthers [] n = Unit {0}
AreOthers (b ∷ bs) n = (bytes_eq n b.name ≡ false) × AreOthers bs n

-- what is chosen for a binder
abbrev pub one_chosen : (ds : Declarations) (b : Bind) (bs : List Bind) (i k : Interpretation) → IsChoiceFor ds (b ∷ bs) i k → Chosen
one_chosen ds b bs i k h = record { bind = b; program = h.0 }

-- programs are chosen under the names of the binders alone
pub none_chosen : (ds : Declarations) (bs : List Bind) (i k : Interpretation) → IsChoiceFor ds bs i k → (n : Name) → AreOthers bs n → chosen_under i.programs n ≡ None → chosen_under k.programs n ≡ None
none_chosen ds [] i k h n o e = subst (λ (z : Interpretation). chosen_under z.programs n ≡ None) h e
none_chosen ds (b ∷ bs) i k h n o e =
    none_chosen ds bs (with_program i b h.0) k h.2 n o.1 (ap (λ t. if t then Some (one_chosen ds b bs i k h) else chosen_under i.programs n) o.0 ∙ e)

-- the globals of each program stand in the order of the world
abbrev pub AreOrdered : Interpretation → Type 0
AreOrdered i = (n : Name) (x : Chosen) → chosen_under i.programs n ≡ Some x → AreInOrder i.world x.program.footprint

pub all_ordered : (ds : Declarations) (bs : List Bind) (i k : Interpretation) → IsChoiceFor ds bs i k → AreOrdered i → AreOrdered k
all_ordered ds [] i k h o = subst AreOrdered h o
all_ordered ds (b ∷ bs) i k h o = all_ordered ds bs (with_program i b h.0) k h.2 (λ n x e. step n x (bytes_eq n b.name) e)
  where
    step : (n : Name) (x : Chosen) (t : Bool) → (if t then Some (one_chosen ds b bs i k h) else chosen_under i.programs n) ≡ Some x → AreInOrder i.world x.program.footprint
    step n x true e = subst (λ (z : Chosen). AreInOrder i.world z.program.footprint) (same_some (one_chosen ds b bs i k h) x e) (let w = h.1 in (let p = w.program in p.ordered))
    step n x false e = o n x e
