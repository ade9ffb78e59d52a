-- What equations of two memories say.
use Rattle.std.proofs.Common.{◌≡◌, ◌↔◌, true, List, [], ◌∷◌, map, refl, ap, ◌∙◌}
use Rattle.std.specs.List.{AllByRecursion}
use Rattle.gb_core.specs.declared.ty.Ty.{Ty}
use Rattle.gb_core.specs.declared.value.Value.{Value}
use Rattle.gb_core.specs.declared.value.Value.TheVariants.{Many}
use Rattle.gb_core.specs.declared.var.Var.{Var}
use Rattle.gb_core.specs.declared.var.Var.TheVariants as var
use Rattle.gb_terms.specs.declared.decl.TypedName.{TypedName}
use Rattle.gb_terms.specs.declared.op.Read.TheVariants.{Program}
use Rattle.gb_terms.specs.declared.op.Side.{Side}
use Rattle.gb_terms.specs.declared.op.Side.TheVariants as side
use Rattle.gb_terms.specs.declared.term.Head.TheVariants as head
use Rattle.gb_terms.specs.declared.term.Term.{Term}
use Rattle.gb_meaning.specs.Judgments.{Judge, den, speaking}
use Rattle.gb_meaning.specs.Memory.{Memory, read, read_local}
use Rattle.gb_meaning.specs.Runs.{valued}
use Rattle.gb_meaning.specs.Setting.{Setting}
use Rattle.gb_meaning.specs.Setting.Meaning.{finite}
use Rattle.gb_meaning.specs.State.{State, between, memory_of}
use Rattle.gb_meaning.specs.Terms.{val}
use Rattle.gb_meaning.proofs.Nodes.{val_node}
use Rattle.gb_meaning.proofs.Truths.{true_equal}
use Rattle.gb_typing.specs.Context.{Context}
use Rattle.gb_typing.specs.Fits.{IsSettingOf}
use Rattle.gb_typing.specs.Forms.{and_form, equal_form, located}
use Rattle.gb_typing.specs.Programs.{AreArguments, IsValued}
use Rattle.gb_typing.proofs.Forms.{and_make, and_use}
use Rattle.gb_typing.proofs.InMemory.{expression_value, located_value}
use Rattle.gb_adv.specs.Equations.{and_each, followed_by, led_by, reading, same_arguments, same_in_both, same_params}

-- values of lists
abbrev first_of : List Value → Value
first_of [] = Many []
first_of (v ∷ vs) = v

abbrev rest_of : List Value → List Value
rest_of [] = []
rest_of (v ∷ vs) = vs

-- the values that a frame holds under these names
abbrev pub held_in : Setting → Memory → List TypedName → List Value
held_in g o xs = map (λ (x : TypedName). read_local g.types o x.name x.ty) xs

module _ (g : Setting) (j : Judge) (s : State) (m n : Memory) where
  abbrev here : State
  here = between s m n

  abbrev Is : Term → Type 0
  Is f = den g j f here ≡ true

  abbrev pub AllAre : List Term → Type 0
  AllAre es = AllByRecursion (λ e. den g j e here ≡ true) es

  reading_means : (r : Side) (x : Var) (t : Ty) → val g (speaking g j) (reading r x t) here ≡ finite (read g.types (memory_of here r) x t)
  reading_means r x t = val_node g (speaking g j) (head.Read (Program x r)) [] t here

  equation_is : (x y : Var) (t u : Ty) → Is (equal_form (reading side.Left x t) (reading side.Right y u)) ↔ (read g.types m x t ≡ read g.types n y u)
  equation_is x y t u = true_equal g j (reading side.Left x t) (reading side.Right y u) _ _ here (reading_means side.Left x t) (reading_means side.Right y u)

  -- a variable is the same in both memories
  pub same_is : (x : Var) (t : Ty) → Is (same_in_both x t) ↔ (read g.types m x t ≡ read g.types n x t)
  same_is x t = equation_is x x t t

  -- Conjunctions.

  each_make : (f : Term) (es : List Term) → Is f → AllAre es → Is (and_each f es)
  each_make f [] h k = h
  each_make f (e ∷ es) h k = each_make (and_form f e) es (and_make g j f e here h k.0) k.1

  each_use : (f : Term) (es : List Term) → Is (and_each f es) → Is f × AllAre es
  each_use f [] h = (h, tt)
  each_use f (e ∷ es) h =
      let k = each_use (and_form f e) es h in
      let l = and_use g j f e here k.0 in
      (l.0, (l.1, k.1))

  pub led_make : (es : List Term) (f : Term) → AllAre es → Is f → Is (led_by es f)
  led_make [] f k h = h
  led_make (e ∷ es) f k h = and_make g j (and_each e es) f here (each_make e es k.0 k.1) h

  pub followed_make : (f : Term) (es : List Term) → Is f → AllAre es → Is (followed_by f es)
  followed_make f [] h k = h
  followed_make f (e ∷ es) h k = and_make g j f (and_each e es) here h (each_make e es k.0 k.1)

  pub followed_use : (f : Term) (es : List Term) → Is (followed_by f es) → Is f × AllAre es
  followed_use f [] h = (h, tt)
  followed_use f (e ∷ es) h =
      let k = and_use g j f (and_each e es) here h in
      let l = each_use e es k.1 in
      (k.0, (l.0, l.1))

  -- Parameters, each in the memory of its procedure.

  pub params_make : (xs ys : List TypedName) → held_in g m xs ≡ held_in g n ys → AllAre (same_params xs ys)
  params_make [] ys e = tt
  params_make (x ∷ xs) [] e = tt
  params_make (x ∷ xs) (y ∷ ys) e = ((equation_is (var.Local x.name) (var.Local y.name) x.ty y.ty).1 (ap first_of e), params_make xs ys (ap rest_of e))

  pub params_use : (xs : List TypedName) → AllAre (same_params xs xs) → held_in g m xs ≡ held_in g n xs
  params_use [] h = refl
  params_use (x ∷ xs) h = λ i. (equation_is (var.Local x.name) (var.Local x.name) x.ty x.ty).0 h.0 i ∷ params_use xs h.1 i

-- Arguments of two calls for the same parameters, each in the memory of its call.
module _ (c : Context) (ls rs : List TypedName) (g : Setting) (fits : IsSettingOf c g) (j : Judge) (s : State) (m n : Memory) where
  left_argument : (e : Term) → IsValued c ls e → val g (speaking g j) (located side.Left e) (between s m n) ≡ finite (valued g s e m)
  left_argument e w = located_value c ls e w.expression g (speaking g j) (between s m n) side.Left tt ∙ expression_value c ls e w.expression g fits w.finite s m

  right_argument : (e : Term) → IsValued c rs e → val g (speaking g j) (located side.Right e) (between s m n) ≡ finite (valued g s e n)
  right_argument e w = located_value c rs e w.expression g (speaking g j) (between s m n) side.Right tt ∙ expression_value c rs e w.expression g fits w.finite s n

  pub arguments_use : (ps : List TypedName) (es ds : List Term) → AreArguments c ls es ps → AreArguments c rs ds ps → AllAre g j s m n (same_arguments es ds) →
      map (λ e. valued g s e m) es ≡ map (λ e. valued g s e n) ds
  arguments_use [] [] [] w v h = refl
  arguments_use [] (e ∷ es) ds w v h = absurd w
  arguments_use [] [] (d ∷ ds) w v h = absurd v
  arguments_use (p ∷ ps) [] ds w v h = absurd w
  arguments_use (p ∷ ps) (e ∷ es) [] w v h = absurd v
  arguments_use (p ∷ ps) (e ∷ es) (d ∷ ds) w v h = λ i.
      (true_equal g j (located side.Left e) (located side.Right d) _ _ (between s m n) (left_argument e w.0.0) (right_argument d v.0.0)).0 h.0 i
      ∷ arguments_use ps es ds w.1 v.1 h.1 i
