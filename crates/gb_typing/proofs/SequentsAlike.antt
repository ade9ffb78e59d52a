-- Sequents that name nothing that is added are true alike in aligned scopes.
use Rattle.std.proofs.Common.{◌≡◌, ℕ, true, List, [], ◌∷◌, ◌++◌, map, ◌↔◌, sym, subst}
use Rattle.gb_core.specs.declared.value.Value.{Value}
use Rattle.gb_core.specs.Numbering.{Numbering}
use Rattle.gb_terms.specs.declared.decl.TypedName.{TypedName}
use Rattle.gb_terms.specs.declared.module.Bind.{Bind}
use Rattle.gb_goal.specs.declared.sequent.Hyp.{Hyp}
use Rattle.gb_goal.specs.declared.sequent.Sequent.{Sequent}
use Rattle.gb_meaning.specs.Names.{Name}
use Rattle.gb_meaning.specs.Values.{World, Types}
use Rattle.gb_meaning.specs.Memory.{Memory}
use Rattle.gb_meaning.specs.State.{State}
use Rattle.gb_meaning.specs.Declared.{Declarations}
use Rattle.gb_meaning.specs.Truth.{Truth}
use Rattle.gb_meaning.specs.Settings.{Chosen, Table, Interpretation, interpreted, types_of, setting}
use Rattle.gb_meaning.specs.Holds.{EachProgram, AreValues, context, AreTrue, IsTrueSequent, InEachModel, Holds}
use Rattle.gb_meaning.specs.Naming.{AnyName}
use Rattle.gb_meaning.proofs.SettingTypes.{setting-types}
use Rattle.gb_typing.specs.Agreement.{SameLocals}
use Rattle.gb_typing.specs.Naming.{chosen_names, IsKept, EachGlobOf}
use Rattle.gb_typing.specs.Formed.{AreFormedBinds, AreHypsApart, SaysApart, IsSequentApart}
use Rattle.gb_typing.proofs.Agreeing.{locals_agree}
use Rattle.gb_typing.proofs.Aligned.{AreApartPrograms, Aligned, GoesOn}
use Rattle.gb_typing.proofs.TruthAlike.{within-later, within-earlier, chosen-plain, truth_alike}

typed-to : (t u : Types) (xs : List TypedName) → SameLocals t u xs → (vs : List Value) →
    AreValues t (map (λ (x : TypedName). x.ty) xs) vs → AreValues u (map (λ (x : TypedName). x.ty) xs) vs
typed-to t u [] e [] h = tt
typed-to t u [] e (v ∷ vs) h = absurd h
typed-to t u (x ∷ xs) e [] h = absurd h
typed-to t u (x ∷ xs) e (v ∷ vs) h = (subst (λ (z : Numbering). z.has v ≡ true) e.0 h.0, typed-to t u xs e.1 vs h.1)

locals-back : (t u : Types) (xs : List TypedName) → SameLocals t u xs → SameLocals u t xs
locals-back t u [] e = tt
locals-back t u (x ∷ xs) e = (sym e.0, locals-back t u xs e.1)

module _ (es ds later : Declarations) (w : World) (size : Name → ℕ) (table : Table) (rest more : List Chosen) (a : Aligned es ds later w size table rest more) where
  abbrev pub at-first : List Chosen → Interpretation
  at-first js = interpreted w size table (js ++ rest)

  abbrev pub at-last : List Chosen → Interpretation
  at-last js = interpreted w size table (js ++ more)

  abbrev names : List Chosen → List Name
  names js = chosen_names (js ++ rest)

  pub each-later : (bs : List Bind) (js : List Chosen) → AreApartPrograms es ds js → AreFormedBinds es ds (names js) bs → (P Q R : Interpretation → Type 0) →
      EachProgram ds bs (at-first js) R → ((ks : List Chosen) → AreApartPrograms es ds ks → R (at-first ks) → P (at-first ks) → Q (at-last ks)) →
      EachProgram ds bs (at-first js) P → EachProgram later bs (at-last js) Q
  each-later [] js p k P Q R x f z = f js p x z
  each-later (b ∷ bs) js p k P Q R x f z = λ v y.
      let ks : List Chosen = record { bind = b; program = v } ∷ js in
      let plain = chosen-plain es ds later w size table rest more a b v js k.0.type y.program.known p in
      let before = within-earlier es ds later w size table rest more a ks plain b k.0 v y in
      each-later bs ks plain k.1 P Q R (x v before) f (z v before)

  each-earlier : (bs : List Bind) (js : List Chosen) → AreApartPrograms es ds js → AreFormedBinds es ds (names js) bs → (P Q R : Interpretation → Type 0) →
      EachProgram ds bs (at-first js) R → ((ks : List Chosen) → AreApartPrograms es ds ks → R (at-first ks) → Q (at-last ks) → P (at-first ks)) →
      EachProgram later bs (at-last js) Q → EachProgram ds bs (at-first js) P
  each-earlier [] js p k P Q R x f z = f js p x z
  each-earlier (b ∷ bs) js p k P Q R x f z = λ v y.
      let ks : List Chosen = record { bind = b; program = v } ∷ js in
      let plain = chosen-plain es ds later w size table rest more a b v js k.0.type y.program.known p in
      each-earlier bs ks plain k.1 P Q R (x v y) f (z v (within-later es ds later w size table rest more a ks plain b k.0 v y))

  hyps-alike : (hs : List Hyp) (js : List Chosen) → AreApartPrograms es ds js → AreHypsApart es ds hs (at-first js) → (s : State) →
      AreTrue ds hs (at-first js) s ↔ AreTrue later hs (at-last js) s
  hyps-alike [] js p k s = (λ z. tt, λ z. tt)
  hyps-alike (x ∷ hs) js p k s =
      let one = truth_alike es ds later w size table rest more a x.form js p k.0 s in
      let others = hyps-alike hs js p k.1 s in
      (λ z. (one.0 z.0, others.0 z.1), λ z. (one.1 z.0, others.1 z.1))

  locals-in : (js : List Chosen) → AreApartPrograms es ds js → (xs : List TypedName) → EachGlobOf (IsKept es (names js)) xs →
      SameLocals (types_of ds (at-first js)) (types_of later (at-last js)) xs
  locals-in js p xs e =
      subst (λ t. SameLocals t (types_of later (at-last js)) xs) (setting-types ds (at-first js))
      (subst (λ t. SameLocals (setting ds (at-first js)).types t xs) (setting-types later (at-last js))
      (locals_agree (IsKept es (names js)) AnyName (setting ds (at-first js)) (setting later (at-last js)) (a.settings js p) xs e))

  says-alike : (q : Sequent) (js : List Chosen) → AreApartPrograms es ds js → SaysApart es ds q (at-first js) → (vs : List Value) (ms : List Memory) →
      (AreTrue ds q.hyps (at-first js) (context vs ms) ↔ AreTrue later q.hyps (at-last js) (context vs ms))
      × (Truth ds q.conclusion (at-first js) (context vs ms) ↔ Truth later q.conclusion (at-last js) (context vs ms))
  says-alike q js p x vs ms =
      (hyps-alike q.hyps js p x.1 (context vs ms), truth_alike es ds later w size table rest more a q.conclusion js p x.2 (context vs ms))

  pub sequent-later : (q : Sequent) (js : List Chosen) → AreApartPrograms es ds js → IsSequentApart es ds q (at-first js) →
      IsTrueSequent ds q (at-first js) → IsTrueSequent later q (at-last js)
  sequent-later q js p k =
      each-later q.modules js p k.binders _ _ _ k.says
      (λ ks pk x f vs typed ms hyps. let both = says-alike q ks pk x vs ms in
      both.1.0 (f vs
      (typed-to (types_of later (at-last ks)) (types_of ds (at-first ks)) q.logical
      (locals-back (types_of ds (at-first ks)) (types_of later (at-last ks)) q.logical (locals-in ks pk q.logical x.0)) vs typed) ms (both.0.1 hyps)))

  pub sequent-earlier : (q : Sequent) (js : List Chosen) → AreApartPrograms es ds js → IsSequentApart es ds q (at-first js) →
      IsTrueSequent later q (at-last js) → IsTrueSequent ds q (at-first js)
  sequent-earlier q js p k =
      each-earlier q.modules js p k.binders _ _ _ k.says
      (λ ks pk x f vs typed ms hyps. let both = says-alike q ks pk x vs ms in
      both.1.1 (f vs
      (typed-to (types_of ds (at-first ks)) (types_of later (at-last ks)) q.logical (locals-in ks pk q.logical x.0) vs typed) ms (both.0.0 hyps)))

pub holds-along : (es ds : Declarations) → GoesOn es ds → (q : Sequent) → InEachModel ds (IsSequentApart es ds q) → Holds ds q → Holds (ds ++ es) q
holds-along es ds g q =
    g (IsTrueSequent ds q) (IsTrueSequent (ds ++ es) q) (IsSequentApart es ds q)
    (λ w size table rest more a x y. sequent-later es ds (ds ++ es) w size table rest more a q [] tt x y)
