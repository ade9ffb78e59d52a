-- The variables of a footprint, each the same in two memories, say that all globals that they stand for are.
use Rattle.std.proofs.Common.{◌≡◌, Bool, true, false, ◌&&◌, ◌||◌, if◌then◌else◌, List, [], ◌∷◌, map, Option, Some, None, option_map, refl, ap, sym, ◌∙◌}
use Rattle.std.specs.List.{list_any}
use Rattle.std.specs.Prelude.{bytes_eq}
use Rattle.std.proofs.lemmas.Bool.{and_parts, and_from}
use Rattle.gb_core.specs.declared.ty.Ty.{Ty}
use Rattle.gb_core.specs.declared.ty.Ty.TheVariants as ty
use Rattle.gb_core.specs.declared.ty.Ty.TheVariants.{Bool as bool_ty}
use Rattle.gb_core.specs.declared.value.Value.{Value}
use Rattle.gb_core.specs.declared.value.Value.TheVariants.{Many, Num}
use Rattle.gb_core.specs.declared.var.Var.{Var}
use Rattle.gb_core.specs.declared.var.Var.TheVariants as var
use Rattle.gb_core.specs.Numbering.{parts_in, parts_of}
use Rattle.gb_core.proofs.Lawful.{out-Many}
use Rattle.gb_terms.specs.declared.module.Bind.{Bind}
use Rattle.gb_terms.specs.declared.module.Mexp.{Mexp}
use Rattle.gb_terms.specs.declared.module.Mexp.TheVariants.{Name as named}
use Rattle.gb_terms.specs.declared.op.Op.TheVariants as op
use Rattle.gb_terms.specs.declared.op.Read.TheVariants as read
use Rattle.gb_terms.specs.declared.op.Side.{Side}
use Rattle.gb_terms.specs.declared.term.Head.TheVariants as head
use Rattle.gb_terms.specs.declared.term.Term.{Term}
use Rattle.gb_goal.specs.Scope as scope
use Rattle.gb_goal.specs.Scope.{abstract_of}
use Rattle.gb_names.specs.Names.{ModuleVariable, global_variable}
use Rattle.gb_elab.specs.Globs.{agreed, agreements, agrees, behind_if, global_named, true_if_none, whole_agrees, whole_value, with_agreement}
use Rattle.gb_meaning.specs.Footprints.{footprint_globals, is_global, stands_for}
use Rattle.gb_meaning.specs.Meanings.{of_truth, same, truth}
use Rattle.gb_meaning.specs.Memory.{read_global}
use Rattle.gb_meaning.specs.Names.{Name}
use Rattle.gb_meaning.specs.Programs.{AreOnce}
use Rattle.gb_meaning.specs.Setting.{Setting}
use Rattle.gb_meaning.specs.State.{State, memory_of}
use Rattle.gb_meaning.specs.Terms.{Speaks, denominator, val}
use Rattle.gb_meaning.specs.Typing.{global_type}
use Rattle.gb_meaning.specs.Values.{Global, World, value_eq}
use Rattle.gb_meaning.proofs.Bools.{same_truth}
use Rattle.gb_meaning.proofs.Nodes.{denominator_node, val_node}
use Rattle.gb_meaning.proofs.Truths.{truth_of}
use Rattle.gb_meaning.proofs.Values.{value_eq-true}
use Rattle.gb_typing.proofs.Interfaces.{none_some, same_name, same_some}
use Rattle.gb_arguments.specs.Said.{AreMeant, IsEquation, IsMeant, equal_globals}
use Rattle.gb_arguments.proofs.PutTypes.{or_false}

-- Lists of values.

parts_many : (vs : List Value) → parts_of (Many vs) ≡ vs
parts_many vs = ap parts_in (out-Many vs)

abbrev head_or : Value → List Value → Value
head_or d [] = d
head_or d (x ∷ xs) = x

abbrev tail_of : List Value → List Value
tail_of [] = []
tail_of (x ∷ xs) = xs

-- a test of each global
abbrev pub every : (Global → Bool) → List Global → Bool
every p [] = true
every p (x ∷ xs) = p x && every p xs

module _ (f k : Global → Value) where
  abbrev pub alike : Global → Bool
  alike x = value_eq (f x) (k x)

  from_lists : (xs : List Global) → map f xs ≡ map k xs → every alike xs ≡ true
  from_lists [] e = refl
  from_lists (x ∷ xs) e = and_from _ _ ((value_eq-true (f x) (k x)).1 (ap (head_or (f x)) e)) (from_lists xs (ap tail_of e))

  to_lists : (xs : List Global) → every alike xs ≡ true → map f xs ≡ map k xs
  to_lists [] e = refl
  to_lists (x ∷ xs) e =
      let b = and_parts (alike x) (every alike xs) e in
      λ i. (value_eq-true (f x) (k x)).0 b.0 i ∷ to_lists xs b.1 i

  pub all_alike : (xs : List Global) → value_eq (Many (map f xs)) (Many (map k xs)) ≡ every alike xs
  all_alike xs = same_truth _ _
      (λ e. from_lists xs (sym (parts_many (map f xs)) ∙ ap parts_of ((value_eq-true (Many (map f xs)) (Many (map k xs))).0 e) ∙ parts_many (map k xs)))
      (λ e. (value_eq-true (Many (map f xs)) (Many (map k xs))).1 (ap Many (to_lists xs e)))

-- Booleans.

and_true : (b : Bool) → (b && true) ≡ b
and_true true = refl
and_true false = refl

and_again : (a b c : Bool) → (a && (b && c)) ≡ ((a && b) && c)
and_again true b c = refl
and_again false b c = refl

-- Of the globals of a world.

module _ (w : World) (F : Name → List Global) (t : Global → Bool) where
  -- all that a list of variables stands for
  abbrev pub each_of : World → List Var → Bool
  each_of v xs = every t (footprint_globals v F xs)

  none_of : (v : World) → each_of v [] ≡ true
  none_of [] = refl
  none_of (x ∷ v) = none_of v

  both : (x : Global) (b c : Bool) (m n k : List Global) → every t m ≡ (every t n && every t k) →
      every t (if b || c then x ∷ m else m) ≡ (every t (if b || false then x ∷ n else n) && every t (if c then x ∷ k else k))
  both x true true m n k e = ap (λ z. t x && z) e ∙ step (t x) (every t n) (every t k)
    where
      step : (a b c : Bool) → (a && (b && c)) ≡ ((a && b) && (a && c))
      step true b c = refl
      step false b c = refl
  both x true false m n k e = ap (λ z. t x && z) e ∙ and_again (t x) (every t n) (every t k)
  both x false true m n k e = ap (λ z. t x && z) e ∙ step (t x) (every t n) (every t k)
    where
      step : (a b c : Bool) → (a && (b && c)) ≡ (b && (a && c))
      step true b c = refl
      step false true c = refl
      step false false c = refl
  both x false false m n k e = e

  pub one_more : (v : World) (y : Var) (ys : List Var) → each_of v (y ∷ ys) ≡ (each_of v (y ∷ []) && each_of v ys)
  one_more [] y ys = refl
  one_more (x ∷ v) y ys =
      both x (stands_for F x y) (list_any (stands_for F x) ys) (footprint_globals v F (y ∷ ys)) (footprint_globals v F (y ∷ [])) (footprint_globals v F ys) (one_more v y ys)

  -- .. what stands for one global of the world
  none_stands : (y : Global) (v : World) → list_any (is_global y) v ≡ false → each_of v (var.Global y.parent y.name ∷ []) ≡ true
  none_stands y [] o = refl
  none_stands y (x ∷ v) o =
      let b = or_false (is_global y x) (list_any (is_global y) v) o in
      let R = footprint_globals v F (var.Global y.parent y.name ∷ []) in
      ap (λ b. every t (if b || false then x ∷ R else R)) b.0 ∙ none_stands y v b.1

  pub one_global : (v : World) → AreOnce v → (m n : Name) (ty : Ty) → global_type v m n ≡ Some ty → each_of v (var.Global m n ∷ []) ≡ t (record { parent = m; name = n; ty = ty })
  one_global [] o m n ty e = none_some ty e
  one_global (y ∷ v) o m n ty e = step (bytes_eq m y.parent && bytes_eq n y.name) refl (one_global v o.1 m n ty) e
    where
      step : (b : Bool) → (bytes_eq m y.parent && bytes_eq n y.name) ≡ b → (global_type v m n ≡ Some ty → each_of v (var.Global m n ∷ []) ≡ t (record { parent = m; name = n; ty = ty })) →
          (if b then Some y.ty else global_type v m n) ≡ Some ty →
          every t (if b || false then y ∷ footprint_globals v F (var.Global m n ∷ []) else footprint_globals v F (var.Global m n ∷ [])) ≡ t (record { parent = m; name = n; ty = ty })
      step false k go e = go e
      step true k go e =
          let z = and_parts (bytes_eq m y.parent) (bytes_eq n y.name) k in
          let p = same_name m y.parent z.0 in
          let q = same_name n y.name z.1 in
          (λ i. t y && each_of v (var.Global (p i) (q i) ∷ []))
          ∙ ap (λ c. t y && c) (none_stands y v o.0) ∙ and_true (t y)
          ∙ (λ i. t (record { parent = sym p i; name = sym q i; ty = same_some y.ty ty e i }))

module _ (ds : scope.Declarations) (g : Setting) (w : World) (F : Name → List Global) (once : AreOnce w) (r s : Side) (j : Speaks) (q : State) where
  -- what a global has in both memories
  abbrev here : Global → Value
  here x = read_global g.types (memory_of q r) x

  abbrev there : Global → Value
  there x = read_global g.types (memory_of q s) x

  abbrev equal : Global → Bool
  equal x = value_eq (here x) (there x)

  abbrev says : List Var → Bool
  says xs = each_of w F equal w xs

  pub equal_is : (xs : List Global) → equal_globals g xs r s q ≡ every equal xs
  equal_is xs = all_alike here there xs

  -- a term that is a truth
  abbrev Says : Option Term → Bool → Type 0
  Says None b = b ≡ true
  Says (Some f) b = val g j f q ≡ of_truth b

  with_one : (o : Option Term) (b : Bool) → Says o b → (f : Term) (c : Bool) → val g j f q ≡ of_truth c → Says (Some (behind_if o f)) (b && c)
  with_one None b h f c k = k ∙ ap (λ z. of_truth (z && c)) (sym h)
  with_one (Some e) b h f c k =
      val_node g j (head.Builtin op.And) (e ∷ f ∷ []) bool_ty q
      ∙ (λ i. of_truth (truth (h i) && truth (k i))) ∙ (λ i. of_truth (truth_of b i && truth_of c i))

  agrees_means : (v : ModuleVariable) → val g j (agrees r s v) q ≡ of_truth (equal (record { parent = v.0; name = v.1.name; ty = v.1.ty }))
  agrees_means v =
      val_node g j (head.Builtin op.Equal) (global_variable r v ∷ global_variable s v ∷ []) bool_ty q
      ∙ (λ i. of_truth (same
      (val_node g j (head.Read (read.Program (var.Global v.0 v.1.name) r)) [] v.1.ty q i) (val_node g j (head.Read (read.Program (var.Global v.0 v.1.name) s)) [] v.1.ty q i)))

  whole_means : (a : Name) → val g j (whole_agrees r s a) q ≡ of_truth (equal_globals g (g.types.footprint (named a)) r s q)
  whole_means a =
      val_node g j (head.Builtin op.Equal) (whole_value r a ∷ whole_value s a ∷ []) bool_ty q
      ∙ (λ i. of_truth (same
      (val_node g j (head.Read (read.Program (var.Glob a) r)) [] (ty.Glob a) q i) (val_node g j (head.Read (read.Program (var.Glob a) s)) [] (ty.Glob a) q i)))

  -- what a variable's equation says
  agreed_means : (x : Var) → IsMeant ds g w F x → (f : Term) × (agreed ds r s x ≡ Some f) × (val g j f q ≡ of_truth (says (x ∷ [])))
  agreed_means (var.Local x) h = absurd h
  agreed_means (var.Global m n) h = (
    agrees r s h.0,
    ap (option_map (agrees r s)) h.1,
    agrees_means h.0
        ∙ ap of_truth ((λ i. equal (record { parent = h.2 i; name = h.3 i; ty = h.0.1.ty })) ∙ sym (one_global w F equal w once m n h.0.1.ty h.4)),
  )
  agreed_means (var.Glob a) h = (
    whole_agrees r s a,
    ap (option_map (λ b. whole_agrees r s a)) h.1,
    whole_means a ∙ ap of_truth (equal_is (g.types.footprint (named a)) ∙ ap (every equal) h.2),
  )

  all_mean : (xs : List Var) → AreMeant ds g w F xs → (o : Option Term) (b : Bool) → Says o b → val g j (true_if_none (agreements ds r s o xs)) q ≡ of_truth (b && says xs)
  all_mean [] m None b h = val_node g j (head.Lit (Num 1)) [] bool_ty q ∙ ap of_truth (sym h ∙ sym (and_true b) ∙ ap (λ z. b && z) (sym (none_of w F equal w)))
  all_mean [] m (Some f) b h = h ∙ ap of_truth (sym (and_true b) ∙ ap (λ z. b && z) (sym (none_of w F equal w)))
  all_mean (x ∷ xs) m o b h =
      let a = agreed_means x m.0 in
      ap (λ z. val g j (true_if_none (agreements ds r s (with_agreement o z) xs)) q) a.1
      ∙ all_mean xs m.1 (Some (behind_if o a.0)) (b && says (x ∷ [])) (with_one o b h a.0 (says (x ∷ [])) a.2)
      ∙ ap of_truth (sym (and_again b (says (x ∷ [])) (says xs)) ∙ ap (λ z. b && z) (sym (one_more w F equal w x xs)))

  pub equation_means : (e : Mexp) (xs : List Var) → AreMeant ds g w F xs → g.types.footprint e ≡ footprint_globals w F xs →
      val g j (true_if_none (agreements ds r s None xs)) q ≡ of_truth (equal_globals g (g.types.footprint e) r s q)
  equation_means e xs m k = all_mean xs m None true refl ∙ ap of_truth (sym (equal_is (g.types.footprint e) ∙ ap (every equal) k))

module _ (ds : scope.Declarations) (g : Setting) (r s : Side) where
  abbrev IsOneIf : Option Term → Type 0
  IsOneIf None = Unit {0}
  IsOneIf (Some t) = denominator g t ≡ 1

  one_with : (o q : Option Term) → IsOneIf o → IsOneIf q → IsOneIf (with_agreement o q)
  one_with o None h k = h
  one_with None (Some f) h k = k
  one_with (Some e) (Some f) h k = denominator_node g (head.Builtin op.And) (e ∷ f ∷ []) bool_ty

  one_global_named : (z : Option ModuleVariable) → IsOneIf (option_map (agrees r s) z)
  one_global_named None = tt
  one_global_named (Some v) = denominator_node g (head.Builtin op.Equal) (global_variable r v ∷ global_variable s v ∷ []) bool_ty

  one_whole : (a : Name) (b : Option Bind) → IsOneIf (option_map (λ b. whole_agrees r s a) b)
  one_whole a None = tt
  one_whole a (Some b) = denominator_node g (head.Builtin op.Equal) (whole_value r a ∷ whole_value s a ∷ []) bool_ty

  one_agreed : (x : Var) → IsOneIf (agreed ds r s x)
  one_agreed (var.Local x) = tt
  one_agreed (var.Global m n) = one_global_named (global_named ds (var.Global m n))
  one_agreed (var.Glob a) = one_whole a (abstract_of ds a)

  pub one_all : (xs : List Var) (o : Option Term) → IsOneIf o → denominator g (true_if_none (agreements ds r s o xs)) ≡ 1
  one_all [] None h = denominator_node g (head.Lit (Num 1)) [] bool_ty
  one_all [] (Some f) h = h
  one_all (x ∷ xs) o h = one_all xs (with_agreement o (agreed ds r s x)) (one_with o (agreed ds r s x) h (one_agreed x))

pub is_equation : (ds : scope.Declarations) (g : Setting) (w : World) (F : Name → List Global) → AreOnce w → (e : Mexp) (xs : List Var) → AreMeant ds g w F xs →
    g.types.footprint e ≡ footprint_globals w F xs → IsEquation ds g e xs
is_equation ds g w F once e xs m k = record {
  means = λ r s j q. equation_means ds g w F once r s j q e xs m k;
  denominator = λ r s. one_all ds g r s xs None tt;
}
