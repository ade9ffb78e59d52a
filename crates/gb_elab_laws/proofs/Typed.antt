-- Typed terms in contexts that fit.
use Rattle.std.proofs.Common.{◌≡◌, false, List, [], ◌∷◌, Option, Some, refl, sym, subst, Bool}
use Rattle.gb_core.specs.declared.place.Place.{Place}
use Rattle.gb_core.specs.declared.ty.Ty.{Ty}
use Rattle.gb_core.specs.declared.ty.Ty.TheVariants.{Bool as bool_ty}
use Rattle.gb_terms.specs.declared.op.Op.{Op}
use Rattle.gb_terms.specs.declared.term.Term.{Term}
use Rattle.gb_terms.specs.declared.term.Head.{Head}
use Rattle.gb_terms.specs.declared.term.Head.TheVariants.{Builtin, User}
use Rattle.gb_terms.specs.Make.{node, applied}
use Rattle.gb_meaning.specs.Names.{Name}
use Rattle.gb_meaning.specs.Trees.{row}
use Rattle.gb_meaning.specs.Written.{type_of}
use Rattle.gb_meaning.proofs.Nodes.{term_is_node}
use Rattle.gb_laws.specs.Plain.{HeadIsPlain, IsPlain, AllPlain}
use Rattle.gb_meaning.specs.Globs.{EachGlob}
use Rattle.gb_meaning.specs.Naming.{AnyName}
use Rattle.gb_typing.specs.Naming.{HeadNames, TermNames, TermsName}
use Rattle.gb_laws.specs.Operators.{IsOperator}
use Rattle.gb_laws.specs.Typing.{IsHead}
use Rattle.gb_typing.specs.Context.{Context, erased}
use Rattle.gb_typing.specs.Typing.{IsNamed}
use Rattle.gb_typing.specs.Changes.{Made}
use Rattle.gb_typing.proofs.Made.{EachMade, made_node}
use Rattle.gb_names.specs.Wanted.{truth, wanted}
use Rattle.gb_goal.specs.Answers.Answer.{given}
use Rattle.gb_names.specs.declared.setting.Language.{Language}
use Rattle.gb_names.specs.Allowed.{has_judgments}
use Rattle.gb_elab_laws.specs.Fitting.{Allows, IsFormType, IsWanted, IsGiven}
use Rattle.gb_elab_laws.proofs.Given.{wanted_is, truth_is}
use Rattle.gb_elab_laws.proofs.Shapes.{form_names}

pub plain_node : (h : Head) (ts : List Term) (ty : Ty) → HeadIsPlain h → AllPlain (row ts) → IsPlain (node h ts ty)
plain_node h ts ty k p = subst IsPlain (term_is_node h ts ty) (k, p)

pub apart_node : (globs : Name → Bool) (h : Head) (ts : List Term) (ty : Ty) → HeadNames (Allows globs) AnyName h ty → TermsName (Allows globs) AnyName (row ts) → TermNames (Allows globs) AnyName (node h ts ty)
apart_node globs h ts ty k p = subst (TermNames (Allows globs) AnyName) (term_is_node h ts ty) (k, p)

-- a well-typed term, written with a type that a form may have
pub record Typed (globs : Name → Bool) (c : Context) (l : Language) (ty : Ty) (t : Term) : Type 0 where
  pub made : Made c ty t
  pub type : IsFormType globs ty
  pub plain : has_judgments l ≡ false → IsPlain t
  pub apart : TermNames (Allows globs) AnyName t

-- the same, of some type
abbrev pub IsSome : (Name → Bool) → Context → Language → Term → Type 0
IsSome globs c l t = (ty : Ty) × Typed globs c l ty t

module _ {globs : Name → Bool} (c : Context) (l : Language) where
  pub given_from : (w : Option Ty) (ty : Ty) (t : Term) → Typed globs c l ty t → IsWanted w ty → IsGiven globs c l w t
  given_from w ty t m h = record {
    typed = m.made.typed;
    type = subst (IsFormType globs) (sym m.made.written) m.type;
    wanted = subst (IsWanted w) (sym m.made.written) h;
    plain = m.plain;
    apart = m.apart;
  }

  pub of_given : (ty : Ty) (t : Term) → IsGiven globs c l (Some ty) t → Typed globs c l ty t
  of_given ty t g = record {
    made = record { typed = g.typed; written = g.wanted };
    type = subst (IsFormType globs) g.wanted g.type;
    plain = g.plain;
    apart = g.apart;
  }

  pub of_any : (w : Option Ty) (t : Term) → IsGiven globs c l w t → Typed globs c l (type_of t) t
  of_any w t g = record { made = record { typed = g.typed; written = refl }; type = g.type; plain = g.plain; apart = g.apart }

  -- a term, where a type is wanted
  pub wanted_given : (w : Option Ty) (p : Place) (t u : Term) → IsSome globs c l t → wanted w p t ≡ given u → IsGiven globs c l w u
  wanted_given w p t u m h =
      let q = wanted_is w p t u h in
      subst (IsGiven globs c l w) q.1 (given_from w m.0 t m.1 (subst (IsWanted w) m.1.made.written q.0))

  -- a form, where a type is wanted that a truth may have
  pub truth_given : (w : Option Ty) (p : Place) (x : Unit {0}) (t : Term) → truth w p ≡ given x → Typed globs c l bool_ty t → IsGiven globs c l w t
  truth_given w p x t h m = given_from w bool_ty t m (truth_is w p x h)

  -- a term without arguments
  pub leaf : (h : Head) (ty : Ty) → IsFormType globs ty → IsHead (erased c) h [] ty → IsNamed c h ty → HeadIsPlain h →
      (EachGlob (Allows globs) ty → HeadNames (Allows globs) AnyName h ty) → Typed globs c l ty (node h [] ty)
  leaf h ty f k s p n = record {
    made = made_node c h [] [] ty k s [] tt;
    type = f;
    plain = λ _. plain_node h [] ty p tt;
    apart = apart_node globs h [] ty (n (form_names globs ty f)) tt;
  }

  -- an operator of one argument, of two, and of three
  pub operated : (o : Op) (a ty : Ty) (x : Term) → IsFormType globs ty → IsOperator o (a ∷ []) ty → Typed globs c l a x → Typed globs c l ty (applied o (x ∷ []) ty)
  operated o a ty x f k m = record {
    made = made_node c (Builtin o) (a ∷ []) (x ∷ []) ty k tt [] m.made;
    type = f;
    plain = λ p. plain_node (Builtin o) (x ∷ []) ty tt (m.plain p, tt);
    apart = apart_node globs (Builtin o) (x ∷ []) ty (form_names globs ty f) (m.apart, tt);
  }

  pub combined : (o : Op) (a b ty : Ty) (x y : Term) → IsFormType globs ty → IsOperator o (a ∷ b ∷ []) ty → Typed globs c l a x → Typed globs c l b y →
      Typed globs c l ty (applied o (x ∷ y ∷ []) ty)
  combined o a b ty x y f k m n = record {
    made = made_node c (Builtin o) (a ∷ b ∷ []) (x ∷ y ∷ []) ty k tt [] (m.made, n.made);
    type = f;
    plain = λ p. plain_node (Builtin o) (x ∷ y ∷ []) ty tt (m.plain p, (n.plain p, tt));
    apart = apart_node globs (Builtin o) (x ∷ y ∷ []) ty (form_names globs ty f) (m.apart, (n.apart, tt));
  }

  pub of_three : (o : Op) (a b d ty : Ty) (x y z : Term) → IsFormType globs ty → IsOperator o (a ∷ b ∷ d ∷ []) ty → Typed globs c l a x → Typed globs c l b y → Typed globs c l d z →
      Typed globs c l ty (applied o (x ∷ y ∷ z ∷ []) ty)
  of_three o a b d ty x y z f k m n r = record {
    made = made_node c (Builtin o) (a ∷ b ∷ d ∷ []) (x ∷ y ∷ z ∷ []) ty k tt [] (m.made, (n.made, r.made));
    type = f;
    plain = λ p. plain_node (Builtin o) (x ∷ y ∷ z ∷ []) ty tt (m.plain p, (n.plain p, (r.plain p, tt)));
    apart = apart_node globs (Builtin o) (x ∷ y ∷ z ∷ []) ty (form_names globs ty f) (m.apart, (n.apart, (r.apart, tt)));
  }

-- terms of these types
abbrev pub EachTyped : (Name → Bool) → Context → Language → List Ty → List Term → Type 0
EachTyped globs c l [] [] = Unit {0}
EachTyped globs c l (u ∷ us) (t ∷ ts) = Typed globs c l u t × EachTyped globs c l us ts
EachTyped globs c l _ _ = ⊥

module _ (globs : Name → Bool) (c : Context) (l : Language) where
  each_made : (us : List Ty) (ts : List Term) → EachTyped globs c l us ts → EachMade c c c us ts
  each_made [] [] m = tt
  each_made [] (t ∷ ts) m = absurd m
  each_made (u ∷ us) [] m = absurd m
  each_made (u ∷ []) (t ∷ []) m = m.0.made
  each_made (u ∷ []) (t ∷ s ∷ ts) m = absurd m.1
  each_made (u ∷ v ∷ us) (t ∷ []) m = absurd m.1
  each_made (u ∷ v ∷ us) (t ∷ s ∷ ts) m = (m.0.made, each_made (v ∷ us) (s ∷ ts) m.1)

  each_plain : (us : List Ty) (ts : List Term) → EachTyped globs c l us ts → has_judgments l ≡ false → AllPlain (row ts)
  each_plain [] [] m p = tt
  each_plain [] (t ∷ ts) m p = absurd m
  each_plain (u ∷ us) [] m p = absurd m
  each_plain (u ∷ us) (t ∷ ts) m p = (m.0.plain p, each_plain us ts m.1 p)

  each_apart : (us : List Ty) (ts : List Term) → EachTyped globs c l us ts → TermsName (Allows globs) AnyName (row ts)
  each_apart [] [] m = tt
  each_apart [] (t ∷ ts) m = absurd m
  each_apart (u ∷ us) [] m = absurd m
  each_apart (u ∷ us) (t ∷ ts) m = (m.0.apart, each_apart us ts m.1)

  -- an operator of any number of arguments, a built-in one and one of the script
  pub of_many : (o : Op) (us : List Ty) (ty : Ty) (ts : List Term) → IsFormType globs ty → IsOperator o us ty → EachTyped globs c l us ts → Typed globs c l ty (applied o ts ty)
  of_many o us ty ts f k m = record {
    made = made_node c (Builtin o) us ts ty k tt [] (each_made us ts m);
    type = f;
    plain = λ p. plain_node (Builtin o) ts ty tt (each_plain us ts m p);
    apart = apart_node globs (Builtin o) ts ty (form_names globs ty f) (each_apart us ts m);
  }

  pub of_script : (n : Name) (us : List Ty) (ty : Ty) (ts : List Term) → IsFormType globs ty → c.operator n ≡ Some (record { params = us; result = ty }) → EachTyped globs c l us ts →
      Typed globs c l ty (node (User n) ts ty)
  of_script n us ty ts f k m = record {
    made = made_node c (User n) us ts ty k tt [] (each_made us ts m);
    type = f;
    plain = λ p. plain_node (User n) ts ty tt (each_plain us ts m p);
    apart = apart_node globs (User n) ts ty tt (each_apart us ts m);
  }
