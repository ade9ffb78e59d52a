-- Types in which names are names are written in the language, where no module is bound.
use Rattle.std.proofs.Common.{◌≡◌, ℕ, true, List, [], ◌∷◌, refl, ap, ◌∙◌}
use Rattle.std.proofs.lemmas.Bool.{false≢true}
use Rattle.std.specs.Prelude.{bytes_eq, if◌then◌else◌}
use Rattle.std.specs.List.{AllByRecursion}
use Rattle.gb_core.specs.declared.ty.Ty as X
use Rattle.gb_core.specs.declared.ty.Ty.{Ty, Row_of-Ty, end_of-Ty, more_of-Ty, out-Ty, items-the_row-Ty, items_shown-the_row-Ty-0}
use Rattle.gb_core.specs.declared.ty.Ty.TheVariants as ty
use Rattle.gb_core.specs.declared.ty.Ty.TheOpen as layer
use Rattle.gb_core.specs.declared.ty.Ty.TheBlock as B
use Rattle.gb_print_names.specs.declared.bound_names.Known.{Known}
use Rattle.gb_print_names.specs.BoundNames.{Name}
use Rattle.gb_print_names.specs.Names.{module_name}
use Rattle.gb_print.specs.Written.{is_path, IsWrittenType, AreWrittenTypes}
use Rattle.gb_print.specs.Written as w
use Rattle.gb_shown.specs.Named.{HasTwo, IsNamedType, AreNamedTypes}
use mathlib.Core.Former.{Count}

-- what is bound is no module
abbrev pub BindsNone : List Known → Type 0
BindsNone ks = AllByRecursion (λ (k : Known). k.stands ≡ []) ks

-- a module of the script has its own name
pub module_kept : (ks : List Known) → BindsNone ks → (x : Name) → is_path x ≡ true → module_name ks x ≡ x
module_kept [] h x p = refl
module_kept (k ∷ ks) h [] p = absurd (false≢true p)
module_kept (k ∷ ks) h (b ∷ x) p =
    ap (λ s. if bytes_eq s (b ∷ x) then k.shown else module_name ks (b ∷ x)) h.0 ∙ module_kept ks h.1 (b ∷ x) p

pub path_kept : (ks : List Known) → BindsNone ks → (x : Name) → is_path x ≡ true → is_path (module_name ks x) ≡ true
path_kept ks h x p = ap is_path (module_kept ks h x p) ∙ p

pub out_unit : out-Ty ty.Unit ≡ layer.Unit
unfolding X.out-Ty denote.Hole.Carrier.out
out_unit = refl

pub out_bool : out-Ty ty.Bool ≡ layer.Bool
unfolding X.out-Ty denote.Hole.Carrier.out
out_bool = refl

out_int : out-Ty ty.Int ≡ layer.Int
unfolding X.out-Ty denote.Hole.Carrier.out
out_int = refl

out_real : out-Ty ty.Real ≡ layer.Real
unfolding X.out-Ty denote.Hole.Carrier.out
out_real = refl

pub out_bits : (n : ℕ) → out-Ty (ty.Bits n) ≡ layer.Bits n
unfolding X.out-Ty denote.Hole.Carrier.out
out_bits n = refl

pub out_mod : (n : ℕ) → out-Ty (ty.Mod n) ≡ layer.Mod n
unfolding X.out-Ty denote.Hole.Carrier.out
out_mod n = refl

pub out_enumeration : (x : Name) (n : ℕ) → out-Ty (ty.Enumeration x n) ≡ layer.Enumeration x n
unfolding X.out-Ty denote.Hole.Carrier.out
out_enumeration x n = refl

out_abstract : (x : Name) → out-Ty (ty.Abstract x) ≡ layer.Abstract x
unfolding X.out-Ty denote.Hole.Carrier.out
out_abstract x = refl

out_glob : (x : Name) → out-Ty (ty.Glob x) ≡ layer.Glob x
unfolding X.out-Ty denote.Hole.Carrier.out
out_glob x = refl

out_opt : (p : _) (x : Ty) → out-Ty (ty.Opt' p (more_of-Ty x end_of-Ty)) ≡ layer.Opt x
unfolding X.out-Ty denote.Hole.Carrier.out B.shown-the_row-Ty-1 denote.Hole.Carrier.shown
out_opt p x = refl

out_map : (p q : _) (k x : Ty) → out-Ty (ty.Map' p (more_of-Ty k end_of-Ty) q (more_of-Ty x end_of-Ty)) ≡ layer.Map k x
unfolding X.out-Ty denote.Hole.Carrier.out B.shown-the_row-Ty-1 denote.Hole.Carrier.shown
out_map p q k x = refl

out_tuple : (n : _) (r : _) → out-Ty (ty.Tuple' n r) ≡ layer.Tuple (items-the_row-Ty _ r)
unfolding X.out-Ty denote.Hole.Carrier.out
out_tuple n r = ap layer.Tuple (items_shown-the_row-Ty-0 n r)

module _ (ks : List Known) (none : BindsNone ks) where
  tuple_written : {n : Count} (t : Ty) (r : Row_of-Ty n) → out-Ty t ≡ layer.Tuple (items-the_row-Ty _ r) → HasTwo r → AreWrittenTypes 1 ks (items-the_row-Ty _ r) → IsWrittenType 1 ks t
  tuple_written t (more_of-Ty u (more_of-Ty v r)) e two all = w.product e all
  tuple_written t (more_of-Ty u end_of-Ty) e two all = absurd two
  tuple_written t end_of-Ty e two all = absurd two

  mutual
    pub type_written : (t : Ty) → IsNamedType t → IsWrittenType 1 ks t
    type_written ty.Unit h = w.unit out_unit
    type_written ty.Bool h = w.bool out_bool
    type_written ty.Int h = w.whole out_int
    type_written ty.Real h = w.real out_real
    type_written (ty.Bits n) h = w.bits (out_bits n) h
    type_written (ty.Mod n) h = w.numbers (out_mod n) h
    type_written (ty.Enumeration x n) h = w.enumeration (out_enumeration x n) h
    type_written (ty.Abstract x) h = w.abstract (out_abstract x) h
    type_written (ty.Glob x) h = w.globals (out_glob x) refl (path_kept ks none x h)
    type_written (ty.Tuple' n r) h = tuple_written (ty.Tuple' n r) r (out_tuple n r) h.0 (types_written r h.1)
    type_written (ty.Opt' p (more_of-Ty x end_of-Ty)) h = w.option (out_opt p x) (type_written x h.0)
    type_written (ty.Map' p (more_of-Ty k end_of-Ty) q (more_of-Ty x end_of-Ty)) h = w.maps (out_map p q k x) (type_written k h.0.0) (type_written x h.1.0)
    type_written (ty.Distr' p x) h = absurd h

    types_written : {n : Count} (r : Row_of-Ty n) → AreNamedTypes r → AreWrittenTypes 1 ks (items-the_row-Ty _ r)
    types_written end_of-Ty h = w.none
    types_written (more_of-Ty t r) h = w.more (type_written t h.0) (types_written r h.1)

  -- a type that is written where nothing is bound
  mutual
    pub type_here : {stage : ℕ} {t : Ty} → IsWrittenType stage [] t → IsWrittenType stage ks t
    type_here (w.unit e) = w.unit e
    type_here (w.bool e) = w.bool e
    type_here (w.whole e) = w.whole e
    type_here (w.real e) = w.real e
    type_here (w.bits e r) = w.bits e r
    type_here (w.numbers e r) = w.numbers e r
    type_here (w.enumeration e p) = w.enumeration e p
    type_here (w.abstract e p) = w.abstract e p
    type_here (w.product e ts) = w.product e (types_here ts)
    type_here (w.option e t) = w.option e (type_here t)
    type_here (w.maps e k t) = w.maps e (type_here k) (type_here t)
    type_here (w.globals {m = m} e n p) = w.globals e n (path_kept ks none m p)

    types_here : {stage : ℕ} {ts : List Ty} → AreWrittenTypes stage [] ts → AreWrittenTypes stage ks ts
    types_here w.none = w.none
    types_here (w.more t ts) = w.more (type_here t) (types_here ts)
