-- The terms of first values have these values, and are typed.
use Rattle.std.proofs.Common.{◌≡◌, ◌<◌, ◌^◌, ℕ, Bool, false, true, List, [], ◌∷◌, ap, sym, ◌∙◌, subst, arith}
use Rattle.std.proofs.lemmas.Bool.{false≢true}
use Rattle.gb_core.specs.declared.ty.Ty.{Ty, Row_of-Ty, more_of-Ty, end_of-Ty}
use Rattle.gb_core.specs.declared.ty.Ty.TheFolds.{fold-roll-Ty}
use Rattle.gb_core.specs.declared.ty.Ty.TheOpen as layer
use Rattle.gb_core.specs.declared.ty.Ty.TheVariants as ty
use Rattle.gb_core.specs.declared.value.Value.TheVariants.{Many, Num}
use Rattle.gb_terms.specs.declared.decl.TypedName.{TypedName}
use Rattle.gb_terms.specs.declared.op.Op.{Op}
use Rattle.gb_terms.specs.declared.op.Op.TheVariants as op
use Rattle.gb_terms.specs.declared.term.Term.{Term}
use Rattle.gb_terms.specs.declared.term.Head.TheVariants as head
use Rattle.gb_terms.specs.Make.{node}
use Rattle.gb_core.specs.Numbering.{Numbering, first_or, parts_in, parts_of}
use Rattle.gb_core.specs.Types.{finite_step, is_finite, numbering, numbering_step}
use Rattle.gb_core.proofs.Lawful.{out-Many}
use Rattle.gb_core.proofs.Steps.{entries_at-zero}
use Rattle.gb_meaning.proofs.Runs.{pow-pos}
use Rattle.gb_meaning.proofs.Nodes.{val_node}
use Rattle.gb_meaning.specs.Meanings.{value_in}
use Rattle.gb_meaning.specs.Memory.{Memory}
use Rattle.gb_meaning.specs.Runs.{valued}
use Rattle.gb_meaning.specs.Setting.{Setting}
use Rattle.gb_meaning.specs.State.{State, inside}
use Rattle.gb_meaning.specs.Terms.{quiet}
use Rattle.gb_meaning.specs.Values.{first, values}
use Rattle.gb_meaning.specs.Written.{type_of}
use Rattle.gb_laws.specs.Plain.{IsPlain}
use Rattle.gb_laws.proofs.Puts.{plain_node}
use Rattle.gb_laws.specs.Finite.{AreFiniteWith, IsFinite, IsVariableType}
use Rattle.gb_laws.specs.Operators.{IsOperator, IsOptionType}
use Rattle.gb_laws.specs.Typing.{IsLiteral}
use Rattle.gb_laws.proofs.Constructors.{option_is}
use Rattle.gb_laws.proofs.Meanings.{number_has}
use Rattle.gb_typing.specs.Changes.{Made}
use Rattle.gb_typing.specs.Context.{Context, of_program}
use Rattle.gb_typing.specs.Programs.{IsValued}
use Rattle.gb_typing.proofs.Made.{made_node}
use Rattle.gb_forms.specs.Firsts.{first_of, none_got}
use mathlib.Core.Former.{Count}

module _ (g : Setting) (s : State) (m : Memory) where
  literal_value : (t : Ty) → valued g s (node (head.Lit (Num 0)) [] t) m ≡ Num 0
  literal_value t = ap value_in (val_node g quiet (head.Lit (Num 0)) [] t (inside s m))

  got_value : (t : Ty) → valued g s (none_got t) m ≡ first g.types t
  got_value t =
      ap value_in (val_node g quiet (head.Builtin op.Oget) (node (head.Builtin op.None) [] (ty.Opt t) ∷ []) t (inside s m))
      ∙ ap (λ x. first_or (parts_of (value_in x)) (first g.types t)) (val_node g quiet (head.Builtin op.None) [] (ty.Opt t) (inside s m))
      ∙ ap (λ v. first_or (parts_in v) (first g.types t)) (out-Many [])

  pub first_value : (t : Ty) → IsVariableType t → valued g s (first_of t) m ≡ first g.types t
  first_value ty.Unit w = literal_value ty.Unit
  first_value ty.Bool w = literal_value ty.Bool
  first_value (ty.Bits n) w = literal_value (ty.Bits n)
  first_value (ty.Mod n) w = literal_value (ty.Mod n)
  first_value (ty.Enumeration x n) w = literal_value (ty.Enumeration x n)
  first_value (ty.Tuple' n ts) w = got_value (ty.Tuple' n ts)
  first_value (ty.Opt' p t) w = ap value_in (val_node g quiet (head.Builtin op.None) [] (ty.Opt' p t) (inside s m))
  first_value (ty.Map' p (more_of-Ty k end_of-Ty) q (more_of-Ty t end_of-Ty)) w =
      ap value_in (val_node g quiet (head.Builtin op.Empty) [] (ty.Map' p (more_of-Ty k end_of-Ty) q (more_of-Ty t end_of-Ty)) (inside s m))
      ∙ ap Many (sym (entries_at-zero (values g.types k) (values g.types t) (values g.types k).size))
  first_value (ty.Abstract x) w = got_value (ty.Abstract x)
  first_value (ty.Glob a) w = got_value (ty.Glob a)
  first_value (ty.Distr' p t) w = absurd w
  first_value ty.Int w = absurd w
  first_value ty.Real w = absurd w

-- Literals of types of numbers.

abbrev IsZero : Ty → Type 0
IsZero t = IsLiteral t (Num 0)

unit_zero : IsZero ty.Unit
unit_zero = (
  ap is_finite (sym ty.rolls-Unit) ∙ fold-roll-Ty Bool finite_step layer.Unit,
  ap (λ (k : Numbering). k.has (Num 0)) (ap numbering (sym ty.rolls-Unit) ∙ fold-roll-Ty Numbering numbering_step layer.Unit) ∙ number_has 1 0 (omega arith),
)

bool_zero : IsZero ty.Bool
bool_zero = (
  ap is_finite (sym ty.rolls-Bool) ∙ fold-roll-Ty Bool finite_step layer.Bool,
  ap (λ (k : Numbering). k.has (Num 0)) (ap numbering (sym ty.rolls-Bool) ∙ fold-roll-Ty Numbering numbering_step layer.Bool) ∙ number_has 2 0 (omega arith),
)

bits_zero : (n : ℕ) → IsZero (ty.Bits n)
bits_zero n = (
  ap is_finite (sym (ty.rolls-Bits n)) ∙ fold-roll-Ty Bool finite_step (layer.Bits n),
  ap (λ (k : Numbering). k.has (Num 0)) (ap numbering (sym (ty.rolls-Bits n)) ∙ fold-roll-Ty Numbering numbering_step (layer.Bits n)) ∙ number_has (2 ^ n) 0 (pow-pos 2 n (omega arith)),
)

mod_zero : (n : ℕ) → 0 < n → IsZero (ty.Mod n)
mod_zero n h = (
  ap is_finite (sym (ty.rolls-Mod n)) ∙ fold-roll-Ty Bool finite_step (layer.Mod n),
  ap (λ (k : Numbering). k.has (Num 0)) (ap numbering (sym (ty.rolls-Mod n)) ∙ fold-roll-Ty Numbering numbering_step (layer.Mod n)) ∙ number_has n 0 h,
)

enumeration_zero : (x : List ℕ) (n : ℕ) → 0 < n → IsZero (ty.Enumeration x n)
enumeration_zero x n h = (
  ap is_finite (sym (ty.rolls-Enumeration x n)) ∙ fold-roll-Ty Bool finite_step (layer.Enumeration x n),
  ap (λ (k : Numbering). k.has (Num 0)) (ap numbering (sym (ty.rolls-Enumeration x n)) ∙ fold-roll-Ty Numbering numbering_step (layer.Enumeration x n)) ∙ number_has n 0 h,
)

-- a type of variables is finite
mutual
  pub finite_variable : (t : Ty) → IsVariableType t → IsFinite t
  finite_variable ty.Unit f = f
  finite_variable ty.Bool f = f
  finite_variable (ty.Bits n) f = f
  finite_variable (ty.Mod n) f = f
  finite_variable (ty.Enumeration x n) f = f
  finite_variable (ty.Tuple' n ts) f = all_finite ts f
  finite_variable (ty.Opt' p x) f = all_finite x f
  finite_variable (ty.Map' p k q x) f = (all_finite k f.0, all_finite x f.1)
  finite_variable (ty.Abstract x) f = f
  finite_variable (ty.Glob a) f = absurd (false≢true f)
  finite_variable (ty.Distr' p x) f = f
  finite_variable ty.Int f = f
  finite_variable ty.Real f = f

  all_finite : {n : Count} (r : Row_of-Ty n) → AreFiniteWith false r → AreFiniteWith true r
  all_finite end_of-Ty f = f
  all_finite (more_of-Ty t r) f = (finite_variable t f.0, all_finite r f.1)

module _ (c : Context) (hs : List TypedName) where
  abbrev d : Context
  d = of_program c hs

  record IsFirst (t : Ty) (e : Term) : Type 0 where
    made : Made d t e
    plain : IsPlain e

  literal : (t : Ty) → IsZero t → IsFirst t (node (head.Lit (Num 0)) [] t)
  literal t w = record { made = made_node d (head.Lit (Num 0)) [] [] t w tt [] tt; plain = plain_node (head.Lit (Num 0)) [] t tt tt }

  constant : (o : Op) (t : Ty) → IsOperator o [] t → IsFirst t (node (head.Builtin o) [] t)
  constant o t w = record { made = made_node d (head.Builtin o) [] [] t w tt [] tt; plain = plain_node (head.Builtin o) [] t tt tt }

  got : (t : Ty) → IsFinite t → IsFirst t (none_got t)
  got t f =
      let n = constant op.None (ty.Opt t) (subst IsOptionType (sym (option_is t)) f) in
      record {
        made = made_node d (head.Builtin op.Oget) (ty.Opt t ∷ []) (node (head.Builtin op.None) [] (ty.Opt t) ∷ []) t (f, option_is t) tt [] n.made;
        plain = plain_node (head.Builtin op.Oget) (node (head.Builtin op.None) [] (ty.Opt t) ∷ []) t tt (n.plain, tt);
      }

  is_first : (t : Ty) → IsVariableType t → IsFirst t (first_of t)
  is_first ty.Unit f = literal ty.Unit unit_zero
  is_first ty.Bool f = literal ty.Bool bool_zero
  is_first (ty.Bits n) f = literal (ty.Bits n) (bits_zero n)
  is_first (ty.Mod n) f = literal (ty.Mod n) (mod_zero n f)
  is_first (ty.Enumeration x n) f = literal (ty.Enumeration x n) (enumeration_zero x n f)
  is_first (ty.Tuple' n ts) f = got (ty.Tuple' n ts) (finite_variable (ty.Tuple' n ts) f)
  is_first (ty.Opt' p (more_of-Ty t end_of-Ty)) f = constant op.None (ty.Opt' p (more_of-Ty t end_of-Ty)) (finite_variable t f.0)
  is_first (ty.Map' p (more_of-Ty k end_of-Ty) q (more_of-Ty t end_of-Ty)) f =
      constant op.Empty (ty.Map' p (more_of-Ty k end_of-Ty) q (more_of-Ty t end_of-Ty)) (finite_variable k f.0.0, finite_variable t f.1.0)
  is_first (ty.Abstract x) f = got (ty.Abstract x) f
  is_first (ty.Glob a) f = absurd (false≢true f)
  is_first (ty.Distr' p t) f = absurd f
  is_first ty.Int f = absurd f
  is_first ty.Real f = absurd f

  pub first_typed : (t : Ty) → IsVariableType t → IsValued c hs (first_of t) × (type_of (first_of t) ≡ t)
  first_typed t f =
      let x = is_first t f in
      let m = x.made in
      (record { expression = record { typed = m.typed; plain = x.plain }; finite = subst IsFinite (sym m.written) (finite_variable t f) }, m.written)
