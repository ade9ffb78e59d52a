-- The goals that show that the loops of a typed body end: their names are names where those of the body are.
use Rattle.std.proofs.Common.{◌≡◌, List, [], ◌∷◌, length, refl, ap, sym, subst}
use Rattle.std.specs.Prelude.{flat_map}
use Rattle.std.specs.List.{AllByRecursion}
use Rattle.gb_core.specs.declared.ty.Ty.{Ty}
use Rattle.gb_core.specs.declared.ty.Ty.TheVariants as ty
use Rattle.gb_core.specs.declared.value.Value.{out-Value}
use Rattle.gb_core.specs.declared.value.Value.TheVariants.{Num}
use Rattle.gb_terms.specs.declared.decl.TypedName.{TypedName}
use Rattle.gb_terms.specs.declared.op.Op.TheVariants.{Less}
use Rattle.gb_terms.specs.declared.op.Read.TheVariants.{Logical}
use Rattle.gb_terms.specs.declared.op.Side.TheVariants.{Own}
use Rattle.gb_terms.specs.declared.term.Term.{Term, Term', end_of-Head, more_of-Head, out-Term}
use Rattle.gb_terms.specs.declared.term.Head.TheVariants.{Lit, Read, Builtin, Assign, Sample, Call', If', While'}
use Rattle.gb_terms.specs.declared.term.Instr.{Instr, Row_of-Instr, end_of-Instr, more_of-Instr}
use Rattle.gb_meaning.specs.Written.{type_of, IsModulo}
use Rattle.gb_laws.proofs.Trees.{out_is}
use Rattle.gb_goal.specs.Goal.Code.{body}
use Rattle.gb_goal.specs.Goal.Goal.{hoare}
use Rattle.gb_typing.specs.Context.{Context}
use Rattle.gb_typing.specs.Programs.{IsStatement, AreStatements, EachStatement}
use Rattle.gb_print_names.specs.declared.bound_names.Enumeration.{Enumeration}
use Rattle.gb_print_names.specs.BoundNames.{Name, is_among}
use Rattle.gb_print_names.specs.Occurring.{judgment_locals}
use Rattle.gb_print.specs.Written.{is_numeral_here}
use Rattle.gb_loops.specs.Loops.{Loop, listed, statement_loops, row_loops, loops}
use Rattle.gb_forms.specs.Variants.{less}
use Rattle.gb_loops.specs.Variants.{variant_type, zero_of, above_zero, value_before, turning, fallen, falling, loop_goals, goals_of}
use Rattle.gb_shown.specs.Named.{IsNamedType, IsNamedResult, IsNamed, IsNamedInstr, AreNamedInstrs, IsNamedSequent}
use Rattle.gb_shown.proofs.Marked.{primed_name, name_k}
use Rattle.gb_shown.proofs.SpeltTypes.{out_mod}
use Rattle.gb_shown.proofs.SpeltTrees.{node_named, parts_named}
use Rattle.gb_shown.proofs.SpeltForms.{as_result, and_named, implies_named, equal_named, every_named}
use Rattle.gb_shown.proofs.Rows.{goal_named, form_named}
use Rattle.gb_shown.proofs.Sequents.{all_append}
use Rattle.gb_shown.proofs.SpeltStatements.{EachNamed}
use mathlib.Core.Former.{Count}

out_type : (t : Term) → type_of t ≡ (out-Term t).ty
out_type (Term' tt (more_of-Head h end_of-Head) n ts ty) = sym (ap (λ z. z.ty) (out_is h n ts ty))

module _ (es : List Enumeration) where
  record NamedLoop (l : Loop) : Type 0 where
    pub guard : IsNamed es l.guard
    pub variant : IsNamed es l.variant
    pub modulo : IsModulo (variant_type l)
    pub body : EachNamed es l.body

  abbrev AllLoops : List Loop → Type 0
  AllLoops ls = AllByRecursion NamedLoop ls

  listed_named : {n : Count} (is : Row_of-Instr n) → AreNamedInstrs es is → EachNamed es (listed is)
  listed_named end_of-Instr h = tt
  listed_named (more_of-Instr i is) h = (h.0, listed_named is h.1)

  module _ (c : Context) (ls : List TypedName) where
    mutual
      statement_named : (i : Instr) → IsStatement c ls i → IsNamedInstr es i → AllLoops (statement_loops i)
      statement_named (Assign xs e) w h = tt
      statement_named (Sample x d) w h = tt
      statement_named (Call' xs p n ts) w h = tt
      statement_named (If' e m a n b) w h = all_append NamedLoop (row_loops a) (row_loops b) (row_named a w.1 h.1) (row_named b w.2 h.2)
      statement_named (While' e v n a) w h =
          all_append NamedLoop (row_loops a) _ (row_named a w.2 h.2) (record { guard = h.0; variant = h.1; modulo = subst IsModulo (out_type v) w.1.1; body = listed_named a h.2 }, tt)

      row_named : {n : Count} (is : Row_of-Instr n) → AreStatements c ls is → AreNamedInstrs es is → AllLoops (row_loops is)
      row_named end_of-Instr w h = tt
      row_named (more_of-Instr i is) w h = all_append NamedLoop (statement_loops i) (row_loops is) (statement_named i w.0 h.0) (row_named is w.1 h.1)

    loops_named : (is : List Instr) → EachStatement c ls is → EachNamed es is → AllLoops (loops is)
    loops_named [] w h = tt
    loops_named (i ∷ is) w h = all_append NamedLoop (statement_loops i) (loops is) (statement_named i w.0 h.0) (loops_named is w.1 h.1)

  -- The goals of a loop.

  modulo_type : (t : Ty) → IsModulo t → IsNamedResult t → IsNamedType t
  modulo_type (ty.Mod n) m h = h
  modulo_type (ty.Distr' p x) m h = absurd m
  modulo_type _ m h = h

  variant_typed : (l : Loop) → NamedLoop l → IsNamedType (variant_type l)
  variant_typed l m = let k = parts_named es l.variant m.variant in modulo_type (variant_type l) m.modulo k.1

  zero_named : (t : Ty) → IsModulo t → IsNamedType t → IsNamed es (zero_of t)
  unfolding out-Value denote.Hole.Carrier.out
  zero_named (ty.Mod n) m h = node_named es (Lit (Num 0)) [] (ty.Mod n) (h, ap (λ l. is_numeral_here es l 0) (out_mod n)) (as_result (ty.Mod n) h) tt
  zero_named _ m h = absurd m

  less_named : (a b : Term) → IsNamed es a → IsNamed es b → IsNamed es (less a b)
  less_named a b x y = node_named es (Builtin Less) (a ∷ b ∷ []) ty.Bool tt tt (x, (y, tt))

  before_named : (l : Loop) → NamedLoop l → IsNamed es (value_before (variant_type l))
  before_named l m = node_named es (Read (Logical 0)) [] (variant_type l) tt (as_result (variant_type l) (variant_typed l m)) tt

  above_named : (l : Loop) → NamedLoop l → IsNamed es (above_zero l)
  above_named l m = every_named es Own _ (implies_named es l.guard _ m.guard (less_named _ l.variant (zero_named (variant_type l) m.modulo (variant_typed l m)) m.variant))

  abbrev taken : Loop → List Name
  taken l = judgment_locals (out-Term (falling l)).head (out-Term (falling l)).args []

  goals_named : (l : Loop) → NamedLoop l → AllByRecursion (IsNamedSequent es) (loop_goals l)
  goals_named l m =
      let value = before_named l m in
      let turn = and_named es l.guard _ m.guard (equal_named es l.variant _ m.variant value) in (
        record { variables = tt; memories = tt; modules = tt; hyps = tt; conclusion = goal_named es (above_zero l) (above_named l m) },
        (
          record {
            variables = ((primed_name 107 refl name_k (length (taken l)) (is_among (taken l)), variant_typed l m), tt);
            memories = tt;
            modules = tt;
            hyps = tt;
            conclusion = form_named es (hoare (body l.body) (turning l) (fallen l)) (m.body, turn, less_named l.variant _ m.variant value);
          },
          tt,
        ),
      )

  all_goals_named : (ls : List Loop) → AllLoops ls → AllByRecursion (IsNamedSequent es) (flat_map loop_goals ls)
  all_goals_named [] h = tt
  all_goals_named (l ∷ ls) h = all_append (IsNamedSequent es) (loop_goals l) (flat_map loop_goals ls) (goals_named l h.0) (all_goals_named ls h.1)

  pub termination_named : (c : Context) (ls : List TypedName) (is : List Instr) → EachStatement c ls is → EachNamed es is → AllByRecursion (IsNamedSequent es) (goals_of is)
  termination_named c ls is w h = all_goals_named (loops is) (loops_named c ls is w h)
