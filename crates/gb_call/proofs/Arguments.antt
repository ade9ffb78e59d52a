-- What is said of the parameters of a procedure, of the arguments of a call: typing and meaning.
use Rattle.std.proofs.Common.{◌≡◌, ◌≢◌, ◌&&◌, Bool, true, false, if◌then◌else◌, List, [], ◌∷◌, map, get_or, Some, None, refl, ap, sym, ◌∙◌, subst}
use Rattle.std.proofs.lemmas.Bool.{false≢true}
use Rattle.std.proofs.lemmas.Slice.Eq.{bytes_eq-Decides}
use Rattle.std.specs.Prelude.{bytes_eq}
use Rattle.std.specs.List.{AllByRecursion}
use Rattle.gb_core.specs.declared.ty.Ty.{Ty}
use Rattle.gb_core.specs.declared.value.Value.{Value}
use Rattle.gb_core.specs.declared.var.Var.{Var}
use Rattle.gb_core.specs.declared.var.Var.TheVariants as var
use Rattle.gb_terms.specs.declared.decl.TypedName.{TypedName}
use Rattle.gb_terms.specs.declared.op.Side.TheVariants as side
use Rattle.gb_terms.specs.declared.op.Read.TheVariants.{Program}
use Rattle.gb_terms.specs.declared.term.Term.{Term}
use Rattle.gb_walk.specs.Change.{Changes, or_later, found_for_read}
use Rattle.gb_meaning.specs.Memory.{Memory, arguments, read}
use Rattle.gb_meaning.specs.Names.{Name, Map, empty, get}
use Rattle.gb_meaning.specs.Runs.{valued}
use Rattle.gb_meaning.specs.Setting.{Setting}
use Rattle.gb_meaning.specs.Setting.Meaning.{finite}
use Rattle.gb_meaning.specs.State.{State, at, between, memory_of}
use Rattle.gb_meaning.specs.Terms.{Speaks}
use Rattle.gb_meaning.specs.Values.{fit, has}
use Rattle.gb_meaning.specs.Judgments.{Judge, IsFair, den, speaking}
use Rattle.gb_meaning.specs.Written.{local_type, type_of}
use Rattle.gb_meaning.proofs.Maps.{get-set_same, get-set_other}
use Rattle.gb_meaning.proofs.Numberings.{fit_has}
use Rattle.gb_laws.specs.Led.{put, IsPut, ArePut, IgnoresSides}
use Rattle.gb_laws.proofs.Denominators.{denominator_one}
use Rattle.gb_typing.specs.Context.{Context, erased, of_program, reframed, with_own}
use Rattle.gb_typing.specs.Changes.{Made}
use Rattle.gb_typing.specs.Fits.{IsSettingOf}
use Rattle.gb_typing.specs.Programs.{IsExpression, IsValued, AreArguments}
use Rattle.gb_typing.specs.Typing.{IsIn, IsForm}
use Rattle.gb_typing.proofs.Erased.{erased_typed}
use Rattle.gb_typing.proofs.Fitting.{fits_program, state_inside}
use Rattle.gb_typing.proofs.Formed.{formed}
use Rattle.gb_typing.proofs.Scripts.{none_some, same_some}
use Rattle.gb_typing.proofs.Substituted.{finite_no_distribution, term_has}
use Rattle.gb_typing.specs.Rules.{outermost}
use Rattle.gb_typing.proofs.InMemory.{located_typed, located_value, expression_value}
use Rattle.gb_call.specs.Outcomes.{put_for, of_arguments}
use Rattle.gb_call.proofs.Replaced.{ArePlaced, IsFree, Replaces, own_here, own_variables, replaced_typed, replaced_meaning}

same_name : (x y : Name) → bytes_eq x y ≡ true → bytes_eq y x ≡ true
same_name x y e = (bytes_eq-Decides y x).1 (sym ((bytes_eq-Decides x y).0 e))

other_name : (x y : Name) → bytes_eq x y ≡ false → bytes_eq y x ≡ false
other_name x y e = step (bytes_eq y x) refl
  where
    step : (b : Bool) → bytes_eq y x ≡ b → bytes_eq y x ≡ false
    step true k = absurd (false≢true (sym e ∙ same_name y x k))
    step false k = k

other_path : (x y : Name) → bytes_eq x y ≡ false → (x ∷ []) ≢ (y ∷ [])
other_path x y e w = false≢true (sym e ∙ (bytes_eq-Decides x y).1 (ap (λ l. get_or l 0 []) w))

-- the changes
puts_own : (ps : List TypedName) (es : List Term) → ArePlaced (put_for side.Own ps es)
puts_own [] es = tt
puts_own (p ∷ ps) [] = tt
puts_own (p ∷ ps) (e ∷ es) = (tt, puts_own ps es)

pub no_global : (ps : List TypedName) (es : List Term) (m x : Name) → found_for_read (put_for side.Own ps es) (Program (var.Global m x) side.Own) ≡ None
no_global [] es m x = refl
no_global (p ∷ ps) [] m x = refl
no_global (p ∷ ps) (e ∷ es) m x = no_global ps es m x

pub no_globals : (ps : List TypedName) (es : List Term) (a : Name) → found_for_read (put_for side.Own ps es) (Program (var.Glob a) side.Own) ≡ None
no_globals [] es a = refl
no_globals (p ∷ ps) [] a = refl
no_globals (p ∷ ps) (e ∷ es) a = no_globals ps es a

module _ (b : Context) (ls : List TypedName) where
  abbrev c : Context
  c = outermost b

  -- the argument that a call has for a parameter
  pub record IsArgument (ps : List TypedName) (es : List Term) (x : Name) (t : Ty) : Type 0 where
    pub term : Term
    pub found : found_for_read (put_for side.Own ps es) (Program (var.Local x) side.Own) ≡ Some term
    pub valued_here : IsValued c ls term
    pub type : type_of term ≡ t
    pub read_back : (g : Setting) → IsSettingOf c g → (s : State) (n : Memory) (E : Map) → fit g.types t (get (arguments E ps (map (λ e. valued g s e n) es)) (x ∷ [])) ≡ valued g s term n

  -- the value of an argument has its type
  argument_has : (e : Term) → IsValued c ls e → (g : Setting) → IsSettingOf c g → (s : State) (n : Memory) → has g.types (type_of e) (valued g s e n) ≡ true
  argument_has e w g fits s n =
      let x = w.expression in term_has (of_program c ls) g (fits_program c g fits ls) e x.typed w.finite _ (state_inside c g ls s n)

  pub found_argument : (ps : List TypedName) (es : List Term) → AreArguments c ls es ps → (x : Name) (t : Ty) → local_type ps x ≡ Some t → IsArgument ps es x t
  found_argument [] es w x t h = none_some t h
  found_argument (p ∷ ps) [] w x t h = absurd w
  found_argument (p ∷ ps) (e ∷ es) w x t h = step (bytes_eq x p.name) refl (found_argument ps es w.1 x t) h
    where
      step : (v : Bool) → bytes_eq x p.name ≡ v → (local_type ps x ≡ Some t → IsArgument ps es x t) → (if v then Some p.ty else local_type ps x) ≡ Some t → IsArgument (p ∷ ps) (e ∷ es) x t
      step true q rest h =
          let k : type_of e ≡ t = w.0.1 ∙ same_some p.ty t h in
          record {
            term = e;
            found = ap (λ v. or_later (v && true) e (found_for_read (put_for side.Own ps es) (Program (var.Local x) side.Own))) (same_name x p.name q);
            valued_here = w.0.0;
            type = k;
            read_back = λ g fits s n E.
                let v : Value = valued g s e n in
                ap (λ y. fit g.types t (get (arguments E (p ∷ ps) (map (λ e. valued g s e n) (e ∷ es))) (y ∷ []))) ((bytes_eq-Decides x p.name).0 q)
                ∙ ap (fit g.types t) (get-set_same (arguments E ps (map (λ e. valued g s e n) es)) (p.name ∷ []) v)
                ∙ fit_has g.types t v (subst (λ u. has g.types u v ≡ true) k (argument_has e w.0.0 g fits s n));
          }
      step false q rest h =
          let z = rest h in
          record {
            term = z.term;
            found = ap (λ v. or_later (v && true) e (found_for_read (put_for side.Own ps es) (Program (var.Local x) side.Own))) (other_name x p.name q) ∙ z.found;
            valued_here = z.valued_here;
            type = z.type;
            read_back = λ g fits s n E.
                ap (fit g.types t) (get-set_other (arguments E ps (map (λ e. valued g s e n) es)) (p.name ∷ []) (valued g s e n) (x ∷ []) (other_path x p.name q))
                ∙ z.read_back g fits s n E;
          }

  module _ (ps : List TypedName) (es : List Term) (w : AreArguments c ls es ps) where
    abbrev changes : Changes
    changes = put_for side.Own ps es

    abbrev before_call : Context
    before_call = with_own c (Some ls)

    replaces : (x : Var) (t : Ty) → IsIn (with_own c (Some ps)) (Some ps) x t → Replaces b (Some ps) None None (Some ls) None None [] [] side.Own x t (found_for_read changes (Program x side.Own))
    replaces (var.Local x) t k =
        let a = found_argument ps es w x t k in
        let e = a.valued_here.expression in
        subst (Replaces b (Some ps) None None (Some ls) None None [] [] side.Own (var.Local x) t) (sym a.found)
        (e.plain, λ f l h q. subst (λ u. Made (reframed c f l h) u a.term) a.type (located_typed c ls a.term e f l h side.Own tt (q.0 refl)))
    replaces (var.Global m x) t k = subst (Replaces b (Some ps) None None (Some ls) None None [] [] side.Own (var.Global m x) t) (sym (no_global ps es m x)) (tt, k.1)
    replaces (var.Glob a) t k = subst (Replaces b (Some ps) None None (Some ls) None None [] [] side.Own (var.Glob a) t) (sym (no_globals ps es a)) (tt, k.1, k.2)

    arguments_form : (f : Term) → IsForm (with_own c (Some ps)) f → IsForm before_call (of_arguments side.Own ps es f)
    arguments_form f k =
        replaced_typed b (Some ps) None None (Some ls) None None [] [] changes (puts_own ps es) (own_here b (Some ps) (Some ls) [] [] (λ z. tt))
        (own_variables b (Some ps) (Some ls) [] [] (λ r x t. Replaces b (Some ps) None None (Some ls) None None [] [] r x t (found_for_read changes (Program x r))) replaces) f k

    module _ (g : Setting) (fits : IsSettingOf c g) (j : Judge) (fair : IsFair g j) (s : State) (n : Memory) where
      abbrev speaks : Speaks
      speaks = speaking g j

      abbrev values : List Value
      values = map (λ e. valued g s e n) es

      -- what the procedure starts from
      abbrev called : Memory
      called = record { globals = n.globals; frame = arguments empty ps values }

      ignoring : (e : Term) → IsExpression c ls e → IgnoresSides g speaks e
      ignoring e x q m o = located_value c ls e x g speaks (between q m o) side.Own tt ∙ sym (located_value c ls e x g speaks q side.Own tt)

      ignores : (qs : List TypedName) (ds : List Term) → AreArguments c ls ds qs → AllByRecursion (IsFree g speaks) (put_for side.Own qs ds)
      ignores [] [] k = tt
      ignores [] (e ∷ ds) k = tt
      ignores (q ∷ qs) [] k = tt
      ignores (q ∷ qs) (e ∷ ds) k = (ignoring e k.0.0.expression, ignores qs ds k.1)

      is_put : (e : Term) → IsValued c ls e → IsPut g e
      is_put e x =
          let y = x.expression in
          let m = located_typed c ls e y (Some ls) None None side.Own tt refl in
          record {
            formed = formed (reframed c (Some ls) None None) e m.typed;
            plain = y.plain;
            denominator = denominator_one g (erased (reframed c (Some ls) None None)) e (erased_typed (reframed c (Some ls) None None) e m.typed) (finite_no_distribution (type_of e) x.finite);
          }

      are_put : (qs : List TypedName) (ds : List Term) → AreArguments c ls ds qs → ArePut g (put_for side.Own qs ds)
      are_put [] [] k = tt
      are_put [] (e ∷ ds) k = tt
      are_put (q ∷ qs) [] k = tt
      are_put (q ∷ qs) (e ∷ ds) k = (is_put e k.0.0, are_put qs ds k.1)

      same : (x : Var) (t : Ty) → IsIn (with_own c (Some ps)) (Some ps) x t → put g speaks (found_for_read changes (Program x side.Own)) (finite (read g.types n x t)) (at s n) ≡ finite (read g.types called x t)
      same (var.Local x) t k =
          let a = found_argument ps es w x t k in
          let e = a.valued_here.expression in
          ap (λ o. put g speaks o (finite (read g.types n (var.Local x) t)) (at s n)) a.found
          ∙ located_value c ls a.term e g speaks (at s n) side.Own tt
          ∙ expression_value c ls a.term e g fits a.valued_here.finite s n
          ∙ ap finite (sym (a.read_back g fits s n empty))
      same (var.Global m x) t k = ap (λ o. put g speaks o (finite (read g.types n (var.Global m x) t)) (at s n)) (no_global ps es m x)
      same (var.Glob a) t k = ap (λ o. put g speaks o (finite (read g.types n (var.Glob a) t)) (at s n)) (no_globals ps es a)

      arguments_say : (f : Term) → IsForm (with_own c (Some ps)) f → den g j (of_arguments side.Own ps es f) (at s n) ≡ den g j f (at s called)
      arguments_say f k =
          replaced_meaning b (Some ps) None None (Some ls) None None [] [] changes (puts_own ps es) g j (at s n) (at s called) (λ i. refl) (λ i. refl)
          (own_variables b (Some ps) (Some ls) [] []
          (λ r x t. put g speaks (found_for_read changes (Program x r)) (finite (read g.types (memory_of (at s n) r) x t)) (at s n) ≡ finite (read g.types (memory_of (at s called) r) x t)) same) (ignores ps es w) fits fair (are_put ps es w) f k

-- The same in the context of a goal.
module _ (c : Context) (outer : c ≡ outermost c) (ls ps : List TypedName) (es : List Term) where
  abbrev Typed : Term → Context → Type 0
  Typed f d = AreArguments d ls es ps → IsForm (with_own d (Some ps)) f → IsForm (with_own d (Some ls)) (of_arguments side.Own ps es f)

  pub arguments_typed : (f : Term) → Typed f c
  arguments_typed f = subst (Typed f) (sym outer) (λ w k. arguments_form c ls ps es w f k)

  abbrev Meant : Setting → Judge → State → Memory → Term → Context → Type 0
  Meant g j s n f d = AreArguments d ls es ps → IsSettingOf d g → IsFair g j → IsForm (with_own d (Some ps)) f →
      den g j (of_arguments side.Own ps es f) (at s n) ≡ den g j f (at s (record { globals = n.globals; frame = arguments empty ps (map (λ e. valued g s e n) es) }))

  -- it says before the call what is said of the procedure's start
  pub arguments_meaning : (g : Setting) (j : Judge) (s : State) (n : Memory) (f : Term) → Meant g j s n f c
  arguments_meaning g j s n f = subst (Meant g j s n f) (sym outer) (λ w fits fair k. arguments_say c ls ps es w g fits j fair s n f k)
