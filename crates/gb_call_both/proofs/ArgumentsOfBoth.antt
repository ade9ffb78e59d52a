-- What is said of the parameters of two procedures, of the arguments of two calls: typing and meaning.
use Rattle.std.proofs.Common.{◌≡◌, ◌&&◌, Bool, true, false, List, [], ◌∷◌, ◌++◌, map, Option, Some, None, refl, ap, sym, ◌∙◌, subst}
use Rattle.std.specs.Option.{option_map}
use Rattle.std.specs.List.{AllByRecursion}
use Rattle.gb_core.specs.declared.ty.Ty.{Ty}
use Rattle.gb_core.specs.declared.var.Var.{Var}
use Rattle.gb_core.specs.declared.var.Var.TheVariants as var
use Rattle.gb_terms.specs.declared.decl.TypedName.{TypedName}
use Rattle.gb_terms.specs.declared.op.Side.{Side}
use Rattle.gb_terms.specs.declared.op.Side.TheVariants as side
use Rattle.gb_terms.specs.declared.op.Read.TheVariants.{Program}
use Rattle.gb_terms.specs.declared.term.Term.{Term}
use Rattle.gb_terms.specs.Equal.{var_eq}
use Rattle.gb_walk.specs.Change.{Changes, or_later, found_for_read}
use Rattle.gb_meaning.specs.Memory.{Memory, arguments, read}
use Rattle.gb_meaning.specs.Names.{empty}
use Rattle.gb_meaning.specs.Runs.{valued}
use Rattle.gb_meaning.specs.Setting.{Setting}
use Rattle.gb_meaning.specs.Setting.Meaning.{finite}
use Rattle.gb_meaning.specs.State.{State, at, between, memory_of}
use Rattle.gb_meaning.specs.Terms.{Speaks}
use Rattle.gb_meaning.specs.Judgments.{Judge, IsFair, den, speaking}
use Rattle.gb_meaning.specs.Written.{type_of}
use Rattle.gb_laws.specs.Led.{put, IsPut, OnPut, ArePut, IgnoresOwn}
use Rattle.gb_laws.specs.Written.{IsSide}
use Rattle.gb_laws.specs.Finite.{IsFinite}
use Rattle.gb_laws.proofs.Denominators.{denominator_one}
use Rattle.gb_typing.specs.Context.{Context, Frame, erased, frame_of, reframed, with_sides}
use Rattle.gb_typing.specs.Changes.{Made}
use Rattle.gb_typing.specs.Fits.{IsSettingOf}
use Rattle.gb_typing.specs.Programs.{IsExpression, IsValued, AreArguments}
use Rattle.gb_typing.specs.Typing.{IsIn, IsForm}
use Rattle.gb_typing.proofs.Erased.{erased_typed}
use Rattle.gb_typing.proofs.Formed.{formed}
use Rattle.gb_typing.proofs.Substituted.{finite_no_distribution}
use Rattle.gb_typing.specs.Forms.{located}
use Rattle.gb_typing.specs.Rules.{outermost}
use Rattle.gb_typing.proofs.InMemory.{located_plain, located_typed, located_value, expression_value}
use Rattle.gb_call.specs.Outcomes.{put_for}
use Rattle.gb_call.proofs.After.{all_append}
use Rattle.gb_call.proofs.Arguments.{found_argument, no_global, no_globals}
use Rattle.gb_call.proofs.Replaced.{ArePlaced, IsFree, Replaces, both_placed, replaced_typed, replaced_meaning, sides_here, sides_variables, skipped}
use Rattle.gb_call_both.specs.BothOutcomes.{of_both_arguments}

-- What is found for a variable of a side is what is found in the place of an own one, read there.

same_test : (f : Term → Term) (e : Term) (b : Bool) (o p : Option Term) → o ≡ option_map f p → or_later (b && true) (f e) o ≡ option_map f (or_later (b && true) e p)
same_test f e true o p h = refl
same_test f e false o p h = h

found_left : (ps : List TypedName) (es : List Term) (x : Var) → found_for_read (put_for side.Left ps es) (Program x side.Left) ≡ option_map (located side.Left) (found_for_read (put_for side.Own ps es) (Program x side.Own))
found_left [] es x = refl
found_left (p ∷ ps) [] x = refl
found_left (p ∷ ps) (e ∷ es) x = same_test (located side.Left) e (var_eq (var.Local p.name) x) _ _ (found_left ps es x)

found_right : (ps : List TypedName) (es : List Term) (x : Var) → found_for_read (put_for side.Right ps es) (Program x side.Right) ≡ option_map (located side.Right) (found_for_read (put_for side.Own ps es) (Program x side.Own))
found_right [] es x = refl
found_right (p ∷ ps) [] x = refl
found_right (p ∷ ps) (e ∷ es) x = same_test (located side.Right) e (var_eq (var.Local p.name) x) _ _ (found_right ps es x)

none_left : (ps : List TypedName) (es : List Term) (x : Var) → found_for_read (put_for side.Right ps es) (Program x side.Left) ≡ None
none_left [] es x = refl
none_left (p ∷ ps) [] x = refl
none_left (p ∷ ps) (e ∷ es) x = skipped (var_eq (var.Local p.name) x) (located side.Right e) _ ∙ none_left ps es x

left_first : (ps : List TypedName) (es : List Term) (cs : Changes) (x : Var) → found_for_read cs (Program x side.Left) ≡ None →
    found_for_read (put_for side.Left ps es ++ cs) (Program x side.Left) ≡ found_for_read (put_for side.Left ps es) (Program x side.Left)
left_first [] es cs x h = h
left_first (p ∷ ps) [] cs x h = h
left_first (p ∷ ps) (e ∷ es) cs x h = ap (or_later (var_eq (var.Local p.name) x && true) (located side.Left e)) (left_first ps es cs x h)

right_behind : (ps : List TypedName) (es : List Term) (cs : Changes) (x : Var) → found_for_read (put_for side.Left ps es ++ cs) (Program x side.Right) ≡ found_for_read cs (Program x side.Right)
right_behind [] es cs x = refl
right_behind (p ∷ ps) [] cs x = refl
right_behind (p ∷ ps) (e ∷ es) cs x = skipped (var_eq (var.Local p.name) x) (located side.Left e) _ ∙ right_behind ps es cs x

left_puts : (ps : List TypedName) (es : List Term) → ArePlaced (put_for side.Left ps es)
left_puts [] es = tt
left_puts (p ∷ ps) [] = tt
left_puts (p ∷ ps) (e ∷ es) = (tt, left_puts ps es)

right_puts : (ps : List TypedName) (es : List Term) → ArePlaced (put_for side.Right ps es)
right_puts [] es = tt
right_puts (p ∷ ps) [] = tt
right_puts (p ∷ ps) (e ∷ es) = (tt, right_puts ps es)

-- Arguments that are read in the memory of a side.
module _ (b : Context) (F L K : Frame) (r : Side) (is : IsSide r) (ls : List TypedName) (frame : frame_of (reframed (outermost b) F L K) r ≡ Some ls) (g : Setting) where
  abbrev d : Context
  d = reframed (outermost b) F L K

  is_put : (e : Term) → IsValued (outermost b) ls e → IsPut g (located r e)
  is_put e x =
      let y = x.expression in
      let m = located_typed (outermost b) ls e y F L K r is frame in
      record {
        formed = formed d (located r e) m.typed;
        plain = located_plain r e y.plain;
        denominator = denominator_one g (erased d) (located r e) (erased_typed d (located r e) m.typed) (finite_no_distribution (type_of (located r e)) (subst IsFinite (sym m.written) x.finite));
      }

  are_put : (qs : List TypedName) (ds : List Term) → AreArguments (outermost b) ls ds qs → ArePut g (put_for r qs ds)
  are_put [] [] k = tt
  are_put [] (e ∷ ds) k = tt
  are_put (q ∷ qs) [] k = tt
  are_put (q ∷ qs) (e ∷ ds) k = (is_put e k.0.0, are_put qs ds k.1)

ignoring_left : (c : Context) (ls : List TypedName) (g : Setting) (j : Speaks) (e : Term) → IsExpression c ls e → IgnoresOwn g j (located side.Left e)
ignoring_left c ls g j e x q m = located_value c ls e x g j (at q m) side.Left tt ∙ sym (located_value c ls e x g j q side.Left tt)

ignoring_right : (c : Context) (ls : List TypedName) (g : Setting) (j : Speaks) (e : Term) → IsExpression c ls e → IgnoresOwn g j (located side.Right e)
ignoring_right c ls g j e x q m = located_value c ls e x g j (at q m) side.Right tt ∙ sym (located_value c ls e x g j q side.Right tt)

module _ (c : Context) (ls : List TypedName) (g : Setting) (j : Speaks) where
  left_ignores : (qs : List TypedName) (ds : List Term) → AreArguments c ls ds qs → AllByRecursion (IsFree g j) (put_for side.Left qs ds)
  left_ignores [] [] k = tt
  left_ignores [] (e ∷ ds) k = tt
  left_ignores (q ∷ qs) [] k = tt
  left_ignores (q ∷ qs) (e ∷ ds) k = (ignoring_left c ls g j e k.0.0.expression, left_ignores qs ds k.1)

  right_ignores : (qs : List TypedName) (ds : List Term) → AreArguments c ls ds qs → AllByRecursion (IsFree g j) (put_for side.Right qs ds)
  right_ignores [] [] k = tt
  right_ignores [] (e ∷ ds) k = tt
  right_ignores (q ∷ qs) [] k = tt
  right_ignores (q ∷ qs) (e ∷ ds) k = (ignoring_right c ls g j e k.0.0.expression, right_ignores qs ds k.1)

module _ (b : Context) (ls rs ps qs : List TypedName) (es ds : List Term) (w : AreArguments (outermost b) ls es ps) (v : AreArguments (outermost b) rs ds qs) where
  abbrev c : Context
  c = outermost b

  abbrev changes : Changes
  changes = put_for side.Left ps es ++ put_for side.Right qs ds

  puts : ArePlaced changes
  puts = both_placed (put_for side.Left ps es) (put_for side.Right qs ds) (left_puts ps es) (right_puts qs ds)

  on_left : (x : Var) → found_for_read changes (Program x side.Left) ≡ option_map (located side.Left) (found_for_read (put_for side.Own ps es) (Program x side.Own))
  on_left x = left_first ps es (put_for side.Right qs ds) x (none_left qs ds x) ∙ found_left ps es x

  on_right : (x : Var) → found_for_read changes (Program x side.Right) ≡ option_map (located side.Right) (found_for_read (put_for side.Own qs ds) (Program x side.Own))
  on_right x = right_behind ps es (put_for side.Right qs ds) x ∙ found_right qs ds x

  abbrev LeftReplaces : Var → Ty → Option Term → Type 0
  LeftReplaces x t o = Replaces b None (Some ps) (Some qs) None (Some ls) (Some rs) [] [] side.Left x t o

  abbrev RightReplaces : Var → Ty → Option Term → Type 0
  RightReplaces x t o = Replaces b None (Some ps) (Some qs) None (Some ls) (Some rs) [] [] side.Right x t o

  left_replaces : (x : Var) (t : Ty) → IsIn (reframed c None (Some ps) (Some qs)) (Some ps) x t → LeftReplaces x t (found_for_read changes (Program x side.Left))
  left_replaces (var.Local x) t k =
      let a = found_argument b ls ps es w x t k in
      let e = a.valued_here.expression in
      subst (LeftReplaces (var.Local x) t) (sym (on_left (var.Local x) ∙ ap (option_map (located side.Left)) a.found))
      (located_plain side.Left a.term e.plain, λ f l h p. let z = p.1 refl in subst (λ u. Made (reframed c f l h) u (located side.Left a.term)) a.type (located_typed c ls a.term e f l h side.Left tt z.0))
  left_replaces (var.Global m x) t k = subst (LeftReplaces (var.Global m x) t) (sym (on_left (var.Global m x) ∙ ap (option_map (located side.Left)) (no_global ps es m x))) (tt, k.1)
  left_replaces (var.Glob a) t k = subst (LeftReplaces (var.Glob a) t) (sym (on_left (var.Glob a) ∙ ap (option_map (located side.Left)) (no_globals ps es a))) (tt, k.1, k.2)

  right_replaces : (x : Var) (t : Ty) → IsIn (reframed c None (Some ps) (Some qs)) (Some qs) x t → RightReplaces x t (found_for_read changes (Program x side.Right))
  right_replaces (var.Local x) t k =
      let a = found_argument b rs qs ds v x t k in
      let e = a.valued_here.expression in
      subst (RightReplaces (var.Local x) t) (sym (on_right (var.Local x) ∙ ap (option_map (located side.Right)) a.found))
      (located_plain side.Right a.term e.plain, λ f l h p. let z = p.1 refl in subst (λ u. Made (reframed c f l h) u (located side.Right a.term)) a.type (located_typed c rs a.term e f l h side.Right tt z.1))
  right_replaces (var.Global m x) t k = subst (RightReplaces (var.Global m x) t) (sym (on_right (var.Global m x) ∙ ap (option_map (located side.Right)) (no_global qs ds m x))) (tt, k.1)
  right_replaces (var.Glob a) t k = subst (RightReplaces (var.Glob a) t) (sym (on_right (var.Glob a) ∙ ap (option_map (located side.Right)) (no_globals qs ds a))) (tt, k.1, k.2)

  arguments_form : (f : Term) → IsForm (reframed c None (Some ps) (Some qs)) f → IsForm (reframed c None (Some ls) (Some rs)) (of_both_arguments ps es qs ds f)
  arguments_form f k =
      replaced_typed b None (Some ps) (Some qs) None (Some ls) (Some rs) [] [] changes puts (sides_here b (Some ps) (Some qs) (Some ls) (Some rs) [] [] (λ z. tt) (λ z. tt))
      (sides_variables b (Some ps) (Some qs) (Some ls) (Some rs) [] []
      (λ r x t. Replaces b None (Some ps) (Some qs) None (Some ls) (Some rs) [] [] r x t (found_for_read changes (Program x r))) left_replaces right_replaces) f k

  module _ (g : Setting) (fits : IsSettingOf c g) (j : Judge) (fair : IsFair g j) (s : State) (m n : Memory) where
    abbrev speaks : Speaks
    speaks = speaking g j

    -- what the procedures start from
    abbrev called_left : Memory
    called_left = record { globals = m.globals; frame = arguments empty ps (map (λ e. valued g s e m) es) }

    abbrev called_right : Memory
    called_right = record { globals = n.globals; frame = arguments empty qs (map (λ e. valued g s e n) ds) }

    left_value : (x : Var) (t : Ty) → IsIn (reframed c None (Some ps) (Some qs)) (Some ps) x t →
        put g speaks (found_for_read changes (Program x side.Left)) (finite (read g.types m x t)) (between s m n) ≡ finite (read g.types called_left x t)
    left_value (var.Local x) t k =
        let a = found_argument b ls ps es w x t k in
        let e = a.valued_here.expression in
        ap (λ o. put g speaks o (finite (read g.types m (var.Local x) t)) (between s m n)) (on_left (var.Local x) ∙ ap (option_map (located side.Left)) a.found)
        ∙ located_value c ls a.term e g speaks (between s m n) side.Left tt
        ∙ expression_value c ls a.term e g fits a.valued_here.finite s m
        ∙ ap finite (sym (a.read_back g fits s m empty))
    left_value (var.Global p x) t k =
        ap (λ o. put g speaks o (finite (read g.types m (var.Global p x) t)) (between s m n)) (on_left (var.Global p x) ∙ ap (option_map (located side.Left)) (no_global ps es p x))
    left_value (var.Glob a) t k =
        ap (λ o. put g speaks o (finite (read g.types m (var.Glob a) t)) (between s m n)) (on_left (var.Glob a) ∙ ap (option_map (located side.Left)) (no_globals ps es a))

    right_value : (x : Var) (t : Ty) → IsIn (reframed c None (Some ps) (Some qs)) (Some qs) x t →
        put g speaks (found_for_read changes (Program x side.Right)) (finite (read g.types n x t)) (between s m n) ≡ finite (read g.types called_right x t)
    right_value (var.Local x) t k =
        let a = found_argument b rs qs ds v x t k in
        let e = a.valued_here.expression in
        ap (λ o. put g speaks o (finite (read g.types n (var.Local x) t)) (between s m n)) (on_right (var.Local x) ∙ ap (option_map (located side.Right)) a.found)
        ∙ located_value c rs a.term e g speaks (between s m n) side.Right tt
        ∙ expression_value c rs a.term e g fits a.valued_here.finite s n
        ∙ ap finite (sym (a.read_back g fits s n empty))
    right_value (var.Global p x) t k =
        ap (λ o. put g speaks o (finite (read g.types n (var.Global p x) t)) (between s m n)) (on_right (var.Global p x) ∙ ap (option_map (located side.Right)) (no_global qs ds p x))
    right_value (var.Glob a) t k =
        ap (λ o. put g speaks o (finite (read g.types n (var.Glob a) t)) (between s m n)) (on_right (var.Glob a) ∙ ap (option_map (located side.Right)) (no_globals qs ds a))

    arguments_say : (f : Term) → IsForm (reframed c None (Some ps) (Some qs)) f → den g j (of_both_arguments ps es qs ds f) (between s m n) ≡ den g j f (between s called_left called_right)
    arguments_say f k =
        replaced_meaning b None (Some ps) (Some qs) None (Some ls) (Some rs) [] [] changes puts g j (between s m n) (between s called_left called_right) (λ i. refl) (λ i. refl)
        (sides_variables b (Some ps) (Some qs) (Some ls) (Some rs) [] []
        (λ r x t. put g speaks (found_for_read changes (Program x r)) (finite (read g.types (memory_of (between s m n) r) x t)) (between s m n) ≡ finite (read g.types (memory_of (between s called_left called_right) r) x t))
        left_value right_value)
        (all_append (IsFree g speaks) (put_for side.Left ps es) (put_for side.Right qs ds) (left_ignores c ls g speaks ps es w) (right_ignores c rs g speaks qs ds v)) fits fair
        (all_append (OnPut (IsPut g)) (put_for side.Left ps es) (put_for side.Right qs ds) (are_put b None (Some ls) (Some rs) side.Left tt ls refl g ps es w) (are_put b None (Some ls) (Some rs) side.Right tt rs refl g qs ds v))
        f k

-- The same in the context of a goal.
module _ (c : Context) (outer : c ≡ outermost c) (ls rs ps qs : List TypedName) (es ds : List Term) where
  abbrev Typed : Term → Context → Type 0
  Typed f d = AreArguments d ls es ps → AreArguments d rs ds qs → IsForm (with_sides d (Some ps) (Some qs)) f → IsForm (with_sides d (Some ls) (Some rs)) (of_both_arguments ps es qs ds f)

  pub arguments_typed : (f : Term) → Typed f c
  arguments_typed f = subst (Typed f) (sym outer) (λ w v k. arguments_form c ls rs ps qs es ds w v f k)

  abbrev Meant : Setting → Judge → State → Memory → Memory → Term → Context → Type 0
  Meant g j s m n f d = AreArguments d ls es ps → AreArguments d rs ds qs → IsSettingOf d g → IsFair g j → IsForm (with_sides d (Some ps) (Some qs)) f →
      den g j (of_both_arguments ps es qs ds f) (between s m n)
      ≡ den g j f (between s (record { globals = m.globals; frame = arguments empty ps (map (λ e. valued g s e m) es) }) (record { globals = n.globals; frame = arguments empty qs (map (λ e. valued g s e n) ds) }))

  -- it says before the calls what is said of the procedures' starts
  pub arguments_meaning : (g : Setting) (j : Judge) (s : State) (m n : Memory) (f : Term) → Meant g j s m n f c
  arguments_meaning g j s m n f = subst (Meant g j s m n f) (sym outer) (λ w v fits fair k. arguments_say c ls rs ps qs es ds w v g fits j fair s m n f k)
