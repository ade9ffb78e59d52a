-- What well-typed terms mean, where probabilities are those after sound procedures.
use Rattle.std.proofs.Common.{◌≡◌, zero, suc, ◌<◌, List, ◌∷◌, Option, Some, None, refl, ap, sym, ◌∙◌, subst, arith}
use Rattle.std.proofs.Math.Path.{fun_ext}
use Rattle.gb_core.specs.declared.ty.Ty.{Ty}
use Rattle.gb_terms.specs.declared.term.Term.{Term, Term', Row_of-Term, end_of-Term, more_of-Term, end_of-Head, more_of-Head}
use Rattle.gb_terms.specs.declared.term.Head.{Head}
use Rattle.gb_terms.specs.declared.term.Head.TheVariants as head
use Rattle.gb_meaning.specs.Fractions.{Fraction}
use Rattle.gb_meaning.specs.Program.{Routine}
use Rattle.gb_meaning.specs.Setting.{Meaning, Setting}
use Rattle.gb_meaning.specs.Setting.Meaning.{fraction}
use Rattle.gb_meaning.specs.State.{State}
use Rattle.gb_meaning.specs.Terms.{Speaks, Part, at_head, val, parts, denominator}
use Rattle.gb_meaning.specs.Judgments.{Judge, speaking, outcome_denominator, IsSoundIfThere, is_sound_at, IsSoundForm, AllSound}
use Rattle.gb_meaning.specs.Written.{type_of}
use Rattle.gb_meaning.proofs.Runs.{routine_positive}
use Rattle.gb_laws.specs.Meant.{IsOf}
use Rattle.gb_laws.specs.Context.{IsFractional}
use Rattle.gb_laws.proofs.Terms.{typed_meaning}
use Rattle.gb_typing.specs.Context.{Context, erased}
use Rattle.gb_typing.specs.Typing.{IsTyped}
use Rattle.gb_typing.specs.Fits.{IsSettingOf, IsStateOf}
use Rattle.gb_typing.proofs.Erased.{erased_typed}
use Rattle.gb_typing.proofs.Sound.{procedures_sound, sound_form}
use mathlib.Core.Former.{Count}

-- a fraction with a denominator, above 0 where there is none
abbrev positive : Fraction → Fraction
positive (n, zero) = (n, 1)
positive (n, suc d) = (n, suc d)

positive_above : (a : Fraction) → 0 < (positive a).1
positive_above (n, zero) = omega arith
positive_above (n, suc d) = omega arith

positive_same : (a : Fraction) → 0 < a.1 → a ≡ positive a
positive_same (n, zero) h = absurd (omega arith)
positive_same (n, suc d) h = refl

-- the same, with such probabilities
abbrev fractional : Speaks → Speaks
fractional j = record { judged = j.judged; probability = λ p vs m e. positive (j.probability p vs m e) }

fractional_is : (j : Speaks) → IsFractional (fractional j)
fractional_is j p xs m e = positive_above (j.probability p xs m e)

procedure_positive : (g : Setting) (o : Option Routine) → IsSoundIfThere g o → 0 < outcome_denominator g o
procedure_positive g (Some r) h = routine_positive g r h
procedure_positive g None h = absurd h

module _ (g : Setting) (i : Judge) where
  abbrev j : Speaks
  j = speaking g i

  at_head_same : (t : Term) (h : Head) (xs : List Part) (ty : Ty) (s : State) → is_sound_at g h → at_head g j t h xs ty s ≡ at_head g (fractional j) t h xs ty s
  at_head_same t (head.Pr p r) xs ty s w =
      ap fraction (positive_same (j.probability p _ _ _) (procedure_positive g (g.procedure p) w))
  at_head_same t h xs ty s w = refl

  mutual
    val_same : (t : Term) → IsSoundForm g t → (s : State) → val g j t s ≡ val g (fractional j) t s
    val_same (Term' p (more_of-Head h end_of-Head) n ts ty) u s =
        ap (λ xs. at_head g j (Term' p (more_of-Head h end_of-Head) n ts ty) h xs ty s) (parts_same ts u.1)
        ∙ at_head_same (Term' p (more_of-Head h end_of-Head) n ts ty) h (parts g (fractional j) ts) ty s u.0

    parts_same : {n : Count} (ts : Row_of-Term n) → AllSound g ts → parts g j ts ≡ parts g (fractional j) ts
    parts_same end_of-Term u = refl
    parts_same (more_of-Term t ts) u =
        let one : ◌≡◌ {A = State → Meaning} (λ s. val g j t s) (λ s. val g (fractional j) t s) = fun_ext (λ s. val_same t u.0 s) in
        let two = parts_same ts u.1 in
        λ k. (let x : Part = record { meaning = one k; denominator = denominator g t } in x) ∷ two k

  -- a well-typed term has a meaning of its type
  pub meaning_of : (c : Context) → IsSettingOf c g → (t : Term) → IsTyped c t → (s : State) → IsStateOf c g s → IsOf g.types (type_of t) (val g j t s)
  meaning_of c f t w s q =
      subst (IsOf g.types (type_of t)) (sym (val_same t (sound_form g c (procedures_sound c g f) t w) s))
      (typed_meaning (erased c) g f.types (fractional j) (fractional_is j) t (erased_typed c t w) s q)
