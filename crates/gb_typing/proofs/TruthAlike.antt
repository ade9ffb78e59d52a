-- Programs are within binders, and formulas are true, alike in aligned scopes, if they name nothing that is added.
use Rattle.std.proofs.Common.{◌≡◌, ℕ, inl, inr, if◌then◌else◌, Bool, true, false, List, [], ◌∷◌, ◌++◌, sym, ◌∙◌, ◌↔◌, subst}
use mathlib.Core.Former.{Count}
use Rattle.gb_core.specs.Numbering.{Numbering}
use Rattle.gb_terms.specs.declared.module.Bind.{Bind}
use Rattle.gb_terms.specs.declared.module.Mexp.TheVariants.{Name as named}
use Rattle.gb_terms.specs.declared.op.Op.TheVariants as op
use Rattle.gb_terms.specs.declared.term.Term.{Term, Term', Row_of-Term, end_of-Term, more_of-Term, end_of-Head, more_of-Head}
use Rattle.gb_terms.specs.declared.term.Head.TheVariants as head
use Rattle.gb_meaning.specs.Names.{Name}
use Rattle.gb_meaning.specs.Values.{Global, World}
use Rattle.gb_meaning.specs.Setting.{Setting}
use Rattle.gb_meaning.specs.Setting.Meaning.{finite}
use Rattle.gb_meaning.specs.State.{State, under}
use Rattle.gb_meaning.specs.State.Binding.{value, memory, program}
use Rattle.gb_meaning.specs.Judgments.{IsTrueIn}
use Rattle.gb_meaning.specs.Declared.{Declarations, ModuleType}
use Rattle.gb_meaning.specs.Adversary.{Adversary, type_named}
use Rattle.gb_meaning.specs.Settings.{Chosen, is_chosen, Table, Interpretation, interpreted, setting}
use Rattle.gb_meaning.specs.Naming.{AnyName, IsFresh, EachParam, IsTypeIn}
use Rattle.gb_meaning.specs.Programs.{AreIn, IsProgramFor, AreNamed, AreFull}
use Rattle.gb_meaning.specs.Bounds.{IsBounded}
use Rattle.gb_meaning.specs.Within.{AreApart, own_globals, excluded, KeepsOff, IsWithinIn, IsWithin}
use Rattle.gb_meaning.specs.Truth.{Choice, last_has_module, IsFirstTrue, Truth, TruthOfLast}
use Rattle.gb_meaning.proofs.SameScope.{SameTypes, program-to, bounded-to}
use Rattle.gb_typing.specs.Naming.{chosen_names, IsKept}
use Rattle.gb_typing.specs.Formed.{AreSignedBounds, AreKept, IsFormedBind, IsSaidApart, IsFirstApart, IsApartFormula, IsLastApart}
use Rattle.gb_typing.proofs.SameForms.{truth_same}
use Rattle.gb_typing.proofs.Agreeing.{values_agree, form_agrees}
use Rattle.gb_typing.proofs.PlainGlobals.{EachPlain}
use Rattle.gb_typing.proofs.Aligned.{AreApartPrograms, owned, Aligned}
use Rattle.gb_typing.proofs.TypedAlike.{SameBasis, basis-of, turned-basis}
use Rattle.gb_typing.proofs.WithinAlike.{plain-in, program-alike, bounded-alike, full-alike}

-- what the modules of a restriction exclude is the same
abbrev ExcludeAlike : Declarations → Declarations → List Chosen → List Chosen → Setting → Setting → List Name → Type 0
ExcludeAlike ds es cs ks g h [] = Unit {0}
ExcludeAlike ds es cs ks g h (m ∷ ms) = (excluded ds cs g m ≡ excluded es ks h m) × ExcludeAlike ds es cs ks g h ms

exclude-back : (ds es : Declarations) (cs ks : List Chosen) (g h : Setting) (ms : List Name) → ExcludeAlike ds es cs ks g h ms → ExcludeAlike es ds ks cs h g ms
exclude-back ds es cs ks g h [] k = tt
exclude-back ds es cs ks g h (m ∷ ms) k = (sym k.0, exclude-back ds es cs ks g h ms k.1)

module _ (P : Name → Type 0) (ds es : Declarations) (e : SameTypes P ds es) (g h : Setting) (a : SameBasis g h) (w : World) (p : EachPlain w) (cs ks : List Chosen) where
  keeps-alike : (xs : List Global) (ms : List Name) → ExcludeAlike ds es cs ks g h ms → KeepsOff ds cs g xs ms → KeepsOff es ks h xs ms
  keeps-alike xs [] z k = tt
  keeps-alike xs (m ∷ ms) z k = (subst (AreApart xs) z.0 k.0, keeps-alike xs ms z.1 k.1)

  within-alike : (b : Bind) → IsTypeIn P ds b.ty → ExcludeAlike ds es cs ks g h b.minus → AreSignedBounds (type_named ds b.ty).signatures b.bounds →
      (v : Adversary) → IsWithinIn ds cs g w b v → IsWithinIn es ks h w b v
  within-alike b i z y v k =
      let t : ModuleType = type_named ds b.ty in
      record {
        program = subst (λ x. IsProgramFor es h w x v) (e b.ty i.0) (program-to P ds es e t i.1 h w v (program-alike g h a w p ds t v k.program));
        named = subst (λ x. AreNamed v x.signatures) (e b.ty i.0) k.named;
        full = subst (λ x. AreFull h v x.signatures) (e b.ty i.0) (full-alike g h a w p ds t v k.program k.full);
        apart = keeps-alike v.footprint b.minus z k.apart;
        bounded = subst (λ x. IsBounded es h w x v b.bounds) (e b.ty i.0)
            (bounded-to P ds es e t i.1 h w v b.bounds (bounded-alike g h a w p ds t v k.program b.bounds y k.bounded));
      }

choice-alike : (t : Bool) (X Y A B C D : Type 0) → Choice t X Y → (X → A ↔ C) → (Y → B ↔ D) → Choice t A B ↔ Choice t C D
choice-alike true X Y A B C D k f g = f k
choice-alike false X Y A B C D k f g = g k

module _ (es ds later : Declarations) (w : World) (size : Name → ℕ) (table : Table) (rest more : List Chosen) (a : Aligned es ds later w size table rest more) where
  -- the interpretations with further programs, before and with what is added
  abbrev pub at-first : List Chosen → Interpretation
  at-first js = interpreted w size table (js ++ rest)

  abbrev pub at-last : List Chosen → Interpretation
  at-last js = interpreted w size table (js ++ more)

  abbrev names : List Chosen → List Name
  names js = chosen_names (js ++ rest)

  pub basis : (js : List Chosen) → AreApartPrograms es ds js → SameBasis (setting ds (at-first js)) (setting later (at-last js))
  basis js p = basis-of (IsKept es (names js)) (setting ds (at-first js)) (setting later (at-last js)) (a.settings js p)

  pub type-later : (n : Name) → IsTypeIn (IsFresh es) ds n → IsTypeIn (IsFresh es) later n
  type-later n k = (k.0, subst (λ t. EachParam (IsFresh es) t.params) (a.types n k.0) k.1)

  -- a module of a kept name declares the same: none, where a program is chosen under it
  owned-same : (js : List Chosen) (m : Name) → IsKept es (names js) m → own_globals ds (js ++ rest) m ≡ own_globals later (js ++ more) m
  owned-same js m (inl f) = λ i. if a.chosen js m (inl f) i then [] else a.globals m f i
  owned-same js m (inr x) =
      let y : is_chosen (js ++ more) m ≡ true = sym (a.chosen js m (inr x)) ∙ x in
      (λ i. if x i then [] else owned ds m) ∙ sym (λ i. if y i then [] else owned later m)

  exclude-alike : (js : List Chosen) → AreApartPrograms es ds js → (ms : List Name) → AreKept es (names js) ms →
      ExcludeAlike ds later (js ++ rest) (js ++ more) (setting ds (at-first js)) (setting later (at-last js)) ms
  exclude-alike js p [] f = tt
  exclude-alike js p (m ∷ ms) f = ((λ i. owned-same js m f.0 i ++ ((a.settings js p).footprints (named m) f.0).0 i), exclude-alike js p ms f.1)

  pub within-later : (js : List Chosen) → AreApartPrograms es ds js → (b : Bind) → IsFormedBind es ds (names js) b → (v : Adversary) →
      IsWithin ds (at-first js) b v → IsWithin later (at-last js) b v
  within-later js p b f v k =
      within-alike (IsFresh es) ds later a.types (setting ds (at-first js)) (setting later (at-last js)) (basis js p) w a.plain (js ++ rest) (js ++ more) b f.type
      (exclude-alike js p b.minus f.minus) f.bounds v k

  pub within-earlier : (js : List Chosen) → AreApartPrograms es ds js → (b : Bind) → IsFormedBind es ds (names js) b → (v : Adversary) →
      IsWithin later (at-last js) b v → IsWithin ds (at-first js) b v
  within-earlier js p b f v k =
      within-alike (IsFresh es) later ds (λ n x. sym (a.types n x)) (setting later (at-last js)) (setting ds (at-first js))
      (turned-basis (setting ds (at-first js)) (setting later (at-last js)) (basis js p)) w a.plain (js ++ more) (js ++ rest) b (type-later b.ty f.type)
      (exclude-back ds later (js ++ rest) (js ++ more) (setting ds (at-first js)) (setting later (at-last js)) b.minus (exclude-alike js p b.minus f.minus))
      (subst (λ t. AreSignedBounds t.signatures b.bounds) (a.types b.ty f.type.0) f.bounds) v k

  pub chosen-plain : (b : Bind) (v : Adversary) (js : List Chosen) → IsTypeIn (IsFresh es) ds b.ty → AreIn w v.footprint → AreApartPrograms es ds js →
      AreApartPrograms es ds (record { bind = b; program = v } ∷ js)
  chosen-plain b v js i k p = ((plain-in w a.plain v.footprint k, i), p)

  said-alike : (js : List Chosen) → AreApartPrograms es ds js → (f : Term) → IsSaidApart es ds f (at-first js) → (x : State) →
      IsTrueIn (setting ds (at-first js)) f x ↔ IsTrueIn (setting later (at-last js)) f x
  said-alike js p f k x =
      truth_same (setting ds (at-first js)) (setting later (at-last js)) f
      (form_agrees (IsKept es (names js)) AnyName (setting ds (at-first js)) (setting later (at-last js)) (a.settings js p) f k.0) k.1 x

  first-alike : {n : Count} (ts : Row_of-Term n) (js : List Chosen) → AreApartPrograms es ds js → IsFirstApart es ds ts (at-first js) → (x : State) →
      IsFirstTrue ds ts (at-first js) x ↔ IsFirstTrue later ts (at-last js) x
  first-alike end_of-Term js p k x = (λ z. tt, λ z. tt)
  first-alike (more_of-Term t ts) js p k x = said-alike js p t k x

  mutual
    -- a formula that names none of what is added is true alike
    pub truth_alike : (f : Term) (js : List Chosen) → AreApartPrograms es ds js → IsApartFormula es ds f (at-first js) → (x : State) →
        Truth ds f (at-first js) x ↔ Truth later f (at-last js) x
    truth_alike (Term' q (more_of-Head (head.AllModule b) end_of-Head) n ts ty) js p k x =
        let ks : Adversary → List Chosen = λ v. record { bind = b; program = v } ∷ js in (
          λ z v y. let plain = chosen-plain b v js k.0.type y.program.known p in
              let e = within-earlier (ks v) plain b k.0 v y in
              (last-alike ts (ks v) plain (k.1 v e) (under x program)).0 (z v e),
          λ z v y. let plain = chosen-plain b v js k.0.type y.program.known p in
              (last-alike ts (ks v) plain (k.1 v y) (under x program)).1 (z v (within-later (ks v) plain b k.0 v y)),
        )
    truth_alike (Term' q (more_of-Head (head.All u) end_of-Head) n ts ty) js p k x =
        choice-alike (last_has_module ts) _ _ _ _ _ _ k
        (λ y. let e = values_agree (IsKept es (names js)) AnyName (setting ds (at-first js)) (setting later (at-last js)) (a.settings js p) u y.0 in (
          λ z v t. (last-alike ts js p y.1 (under x (value (finite v)))).0 (z v (subst (λ (o : Numbering). o.has v ≡ true) (sym e) t)),
          λ z v t. (last-alike ts js p y.1 (under x (value (finite v)))).1 (z v (subst (λ (o : Numbering). o.has v ≡ true) e t)),
        ))
        (λ y. said-alike js p (Term' q (more_of-Head (head.All u) end_of-Head) n ts ty) y x)
    truth_alike (Term' q (more_of-Head head.AllMemory end_of-Head) n ts ty) js p k x =
        choice-alike (last_has_module ts) _ _ _ _ _ _ k
        (λ y. (
          λ z m. (last-alike ts js p y (under x (memory m))).0 (z m),
          λ z m. (last-alike ts js p y (under x (memory m))).1 (z m),
        ))
        (λ y. said-alike js p (Term' q (more_of-Head head.AllMemory end_of-Head) n ts ty) y x)
    truth_alike (Term' q (more_of-Head (head.Builtin op.Implies) end_of-Head) n ts ty) js p k x =
        choice-alike (last_has_module ts) _ _ _ _ _ _ k
        (λ y. (
          λ z t. (last-alike ts js p y.1 x).0 (z ((first-alike ts js p y.0 x).1 t)),
          λ z t. (last-alike ts js p y.1 x).1 (z ((first-alike ts js p y.0 x).0 t)),
        ))
        (λ y. said-alike js p (Term' q (more_of-Head (head.Builtin op.Implies) end_of-Head) n ts ty) y x)
    truth_alike f js p k x = said-alike js p f k x

    last-alike : {n : Count} (ts : Row_of-Term n) (js : List Chosen) → AreApartPrograms es ds js → IsLastApart es ds ts (at-first js) → (x : State) →
        TruthOfLast ds ts (at-first js) x ↔ TruthOfLast later ts (at-last js) x
    last-alike end_of-Term js p k x = (λ z. tt, λ z. tt)
    last-alike (more_of-Term t end_of-Term) js p k x = truth_alike t js p k x
    last-alike (more_of-Term t (more_of-Term u ts)) js p k x = last-alike (more_of-Term u ts) js p k x
