-- The sampling that ends a body.
use Rattle.std.proofs.Common.{◌≡◌, List, [], ◌∷◌, ◌++◌, length, Option, Some, None, refl, ap, sym, ◌∙◌, subst, arith}
use Rattle.std.specs.Option.{option_map}
use Rattle.std.proofs.lemmas.Option.{same_Some, none-some}
use Rattle.gb_core.specs.declared.ty.Ty.{Ty, out-Ty, roll-Ty}
use Rattle.gb_core.specs.declared.ty.Ty.TheVariants as ty
use Rattle.gb_core.specs.declared.ty.Ty.TheViews.{roll-out-Ty}
use Rattle.gb_core.specs.declared.ty.Ty.TheOpen as ty_layer
use Rattle.gb_core.specs.declared.var.Var.{Var}
use Rattle.gb_terms.specs.declared.decl.TypedName.{TypedName}
use Rattle.gb_terms.specs.declared.term.Term.{Term, Term', end_of-Head, more_of-Head, out-Term}
use Rattle.gb_terms.specs.declared.term.Head.TheVariants.{Assign, Sample, Call', If', While'}
use Rattle.gb_terms.specs.declared.term.Instr.{Instr}
use Rattle.gb_meaning.specs.Operators.{outcome_type}
use Rattle.gb_meaning.specs.Trees.{distributions}
use Rattle.gb_meaning.specs.Written.{type_of}
use Rattle.gb_laws.proofs.Trees.{out_is}
use Rattle.gb_laws.specs.Finite.{IsFinite}
use Rattle.gb_laws.specs.Operators.{IsDistributionType}
use Rattle.gb_laws.specs.Programs.{variable_type}
use Rattle.gb_laws.proofs.Constructors.{distribution_is}
use Rattle.gb_typing.specs.Context.{Context, erased}
use Rattle.gb_typing.specs.Programs.{IsExpression, EachStatement, IsBody}
use Rattle.gb_typing.specs.Samplings.{Sampling, of_type, of_statement, behind, last_sampling}

behind_type : (i : Instr) (is : List Instr) (x : Var) (d : Term) (t : ty_layer.Ty-F Ty) → option_map (behind i) (of_type is x d t) ≡ of_type (i ∷ is) x d t
behind_type i is x d (ty_layer.Distr t) = refl
behind_type i is x d _ = refl

behind_statement : (i : Instr) (is : List Instr) (j : Instr) → option_map (behind i) (of_statement is j) ≡ of_statement (i ∷ is) j
behind_statement i is (Sample x d) = behind_type i is x d (out-Ty (out-Term d).ty)
behind_statement i is (Assign xs e) = refl
behind_statement i is (Call' xs p n es) = refl
behind_statement i is (If' e m a n b) = refl
behind_statement i is (While' e v n a) = refl

last_of : (before : List Instr) (i : Instr) → last_sampling (before ++ (i ∷ [])) ≡ of_statement before i
last_of [] i = refl
last_of (j ∷ []) i = behind_statement j [] i
last_of (j ∷ k ∷ is) i = ap (option_map (behind j)) (last_of (k ∷ is) i) ∙ behind_statement j (k ∷ is) i

pub last_statement : (is before : List Instr) (i : Instr) → is ≡ before ++ (i ∷ []) → of_statement before i ≡ last_sampling is
last_statement is before i e = sym (ap last_sampling e ∙ last_of before i)

pub no_statement : (is : List Instr) → length is ≡ 0 → last_sampling is ≡ None
no_statement [] e = refl
no_statement (i ∷ is) e = absurd (omega arith)

-- The shape of a body that ends with a sampling.

abbrev pub last_one : Sampling → List Instr
last_one x = Sample x.target x.from ∷ []

abbrev pub Ends : List Instr → Sampling → Type 0
Ends is x = (is ≡ x.before ++ last_one x) × (type_of x.from ≡ distributions x.ty)

of_layer : (T : Ty) (t : Ty) → out-Ty T ≡ ty_layer.Distr t → T ≡ distributions t
of_layer T t e = sym (roll-out-Ty T) ∙ ap roll-Ty e ∙ ty.rolls-Distr t ∙ distribution_is t

out_type : (t : Term) → (out-Term t).ty ≡ type_of t
out_type (Term' tt (more_of-Head h end_of-Head) n ts ty) = ap (λ z. z.ty) (out_is h n ts ty)

type_ends : (y : Var) (d : Term) (t : ty_layer.Ty-F Ty) (x : Sampling) → out-Ty (type_of d) ≡ t → of_type [] y d t ≡ Some x → Ends (Sample y d ∷ []) x
type_ends y d (ty_layer.Distr t) x k e = subst (Ends (Sample y d ∷ [])) (same_Some (record { before = []; target = y; from = d; ty = t }) x e) (refl, of_layer (type_of d) t k)
type_ends y d _ x k e = absurd (none-some x e)

statement_ends : (i : Instr) (x : Sampling) → of_statement [] i ≡ Some x → Ends (i ∷ []) x
statement_ends (Sample y d) x e = type_ends y d (out-Ty (out-Term d).ty) x (ap out-Ty (sym (out_type d))) e
statement_ends (Assign xs d) x e = absurd (none-some x e)
statement_ends (Call' xs p n es) x e = absurd (none-some x e)
statement_ends (If' d m a n b) x e = absurd (none-some x e)
statement_ends (While' d v n a) x e = absurd (none-some x e)

last_behind : (i : Instr) (is : List Instr) (x : Sampling) (o : Option Sampling) → ((y : Sampling) → o ≡ Some y → Ends is y) → option_map (behind i) o ≡ Some x → Ends (i ∷ is) x
last_behind i is x None f r = absurd (none-some x r)
last_behind i is x (Some y) f r = let k = f y refl in subst (Ends (i ∷ is)) (same_Some (behind i y) x r) (ap (λ l. i ∷ l) k.0, k.1)

last_ends : (is : List Instr) (x : Sampling) → last_sampling is ≡ Some x → Ends is x
last_ends [] x e = absurd (none-some x e)
last_ends (i ∷ []) x e = statement_ends i x e
last_ends (i ∷ j ∷ is) x e = last_behind i (j ∷ is) x (last_sampling (j ∷ is)) (λ y k. last_ends (j ∷ is) y k) e

-- a typed sampling of a program over these locals, and what stands before it
pub record IsDrawn (c : Context) (ls : List TypedName) (is : List Instr) (x : Sampling) : Type 0 where
  pub shape : is ≡ x.before ++ last_one x
  pub rest : IsBody c ls x.before
  pub from : IsExpression c ls x.from
  pub distributed : IsDistributionType (type_of x.from)
  pub over : type_of x.from ≡ distributions x.ty
  pub target : variable_type (erased c) ls x.target ≡ Some x.ty
  pub finite : IsFinite x.ty

parts : (c : Context) (ls : List TypedName) (is js : List Instr) → EachStatement c ls (is ++ js) → EachStatement c ls is × EachStatement c ls js
parts c ls [] js w = (tt, w)
parts c ls (i ∷ is) js w = let x = parts c ls is js w.1 in ((w.0, x.0), x.1)

pub drawn : (c : Context) (ls : List TypedName) (is : List Instr) (x : Sampling) → IsBody c ls is → last_sampling is ≡ Some x → IsDrawn c ls is x
drawn c ls is x w e =
    let k = last_ends is x e in
    let s = parts c ls x.before (last_one x) (subst (EachStatement c ls) k.0 w.statements) in
    record {
      shape = k.0;
      rest = record { locals = w.locals; statements = s.0 };
      from = s.1.0.0;
      distributed = s.1.0.1;
      over = k.1;
      target = s.1.0.2 ∙ ap (λ T. Some (outcome_type T)) k.1;
      finite = subst IsDistributionType k.1 s.1.0.1;
    }
