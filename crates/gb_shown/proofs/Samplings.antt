-- Rules on samplings that end the bodies of equivalences, and on the places of programs, keep names.
use Rattle.std.proofs.Common.{◌≡◌, Bool, true, false, if◌then◌else◌, List, [], ◌∷◌, Option, Some, None, refl, ap, sym, ◌∙◌, subst}
use Rattle.std.proofs.lemmas.Option.{same_Some, none-some}
use Rattle.std.specs.List.{AllByRecursion}
use Rattle.std.specs.Option.{option_map, option_zip}
use Rattle.gb_core.specs.declared.refusal.Why.TheVariants.{Shape, SideCondition}
use Rattle.gb_core.specs.declared.ty.Ty.{Ty, out-Ty, roll-Ty}
use Rattle.gb_core.specs.declared.ty.Ty.TheVariants as ty
use Rattle.gb_core.specs.declared.ty.Ty.TheOpen as ty_layer
use Rattle.gb_core.specs.declared.ty.Ty.TheViews.{roll-out-Ty}
use Rattle.gb_core.specs.declared.var.Var.{Var}
use Rattle.gb_core.specs.SameTypes.{ty_eq}
use Rattle.gb_terms.specs.declared.op.Op.TheVariants as op
use Rattle.gb_terms.specs.declared.op.Read.TheVariants.{Program}
use Rattle.gb_terms.specs.declared.op.Side.TheVariants.{Own, Left, Right}
use Rattle.gb_terms.specs.declared.term.Term.{Term, out-Term}
use Rattle.gb_terms.specs.declared.term.Head.TheVariants as head
use Rattle.gb_terms.specs.declared.term.Head.TheVariants.{Assign, Sample, Call', If', While'}
use Rattle.gb_terms.specs.declared.term.Instr.{Instr}
use Rattle.gb_walk.specs.declared.change.Change.TheVariants.{ToTerm, OfBound}
use Rattle.gb_goal.specs.Scope.{Declarations}
use Rattle.gb_walk.specs.Clash.{Exclusions}
use Rattle.gb_mods.specs.Exclusions.{exclusions}
use Rattle.gb_goal.specs.Answers.Answer.{given}
use Rattle.gb_goal.specs.Goal.{Goal}
use Rattle.gb_goal.specs.Goal.Code.{body, procedure}
use Rattle.gb_goal.specs.Goal.Goal.{hoare, phoare, equiv, ambient}
use Rattle.gb_laws.proofs.Constructors.{distribution_is}
use Rattle.gb_typing.specs.Samplings.{Sampling, of_type, of_statement, behind, last_sampling}
use Rattle.gb_typing.specs.Supports.{nearest, in_support, weight, for_support}
use Rattle.gb_typing.proofs.Given.{refused_given, same_given}
use Rattle.gb_prog.specs.Exchanged.{exchanging, exchanged}
use Rattle.gb_equiv.specs.Drawn as one
use Rattle.gb_forms.specs.Drawn.{with_value}
use Rattle.gb_equiv.specs.Drawn.{unless_clash}
use Rattle.gb_equiv.specs.Rnd.{maps, coupling, with_values, without_samplings, clash_of, by_maps, by_ends, rnd_row}
use Rattle.gb_forms.specs.Coupled.{composed, keeps_weights, couples, coupled_post}
use Rattle.gb_equiv.specs.Symmetry.{symmetry_row}
use Rattle.gb_forms.specs.declared.coupled.Maps.{Maps}
use Rattle.gb_forms.specs.declared.coupled.Coupled.{Coupled}
use Rattle.gb_print_names.specs.declared.bound_names.Enumeration.{Enumeration}
use Rattle.gb_shown.specs.Named.{IsNamedType, IsNamedResult, IsNamed, IsNamedInstr, IsNamedGoal}
use Rattle.gb_shown.specs.Rules.{KeepsNames}
use Rattle.gb_shown.proofs.SpeltTrees.{AllNamed, node_named, parts_named}
use Rattle.gb_shown.proofs.Changed.{changed_named}
use Rattle.gb_shown.proofs.SpeltForms.{as_result, and_named, implies_named, equal_named, located_named}
use Rattle.gb_shown.proofs.SpeltStatements.{EachNamed}

-- the type of what a distribution gives
of_layer : (T t : Ty) → out-Ty T ≡ ty_layer.Distr t → IsNamedResult T → IsNamedType t
of_layer T t e h = let k = subst IsNamedResult (sym (roll-out-Ty T) ∙ ap roll-Ty e ∙ ty.rolls-Distr t ∙ distribution_is t) h in k.0

module _ (es : List Enumeration) where
  pub record NamedSampling (x : Sampling) : Type 0 where
    pub before : EachNamed es x.before
    pub from : IsNamed es x.from
    pub ty : IsNamedType x.ty

  type_named : (y : Var) (d : Term) → IsNamed es d → (l : ty_layer.Ty-F Ty) → out-Ty (let z = out-Term d in z.ty) ≡ l → (x : Sampling) → of_type [] y d l ≡ Some x → NamedSampling x
  type_named y d n (ty_layer.Distr t) k x e =
      let parts = parts_named es d n in
      subst NamedSampling (same_Some (record { before = []; target = y; from = d; ty = t }) x e) (record { before = tt; from = n; ty = of_layer _ t k parts.1 })
  type_named y d n _ k x e = absurd (none-some x e)

  statement_named : (i : Instr) → IsNamedInstr es i → (x : Sampling) → of_statement [] i ≡ Some x → NamedSampling x
  statement_named (Sample y d) n x e = type_named y d n.1 (out-Ty (let z = out-Term d in z.ty)) refl x e
  statement_named (Assign xs d) n x e = absurd (none-some x e)
  statement_named (Call' xs p k ts) n x e = absurd (none-some x e)
  statement_named (If' d m a k b) n x e = absurd (none-some x e)
  statement_named (While' d v k a) n x e = absurd (none-some x e)

  behind_named : (i : Instr) → IsNamedInstr es i → (x : Sampling) (o : Option Sampling) → ((y : Sampling) → o ≡ Some y → NamedSampling y) → option_map (behind i) o ≡ Some x → NamedSampling x
  behind_named i n x None f e = absurd (none-some x e)
  behind_named i n x (Some y) f e = let k = f y refl in subst NamedSampling (same_Some _ x e) (record { before = (n, k.before); from = k.from; ty = k.ty })

  pub last_named : (is : List Instr) → EachNamed es is → (x : Sampling) → last_sampling is ≡ Some x → NamedSampling x
  last_named [] n x e = absurd (none-some x e)
  last_named (i ∷ []) n x e = statement_named i n.0 x e
  last_named (i ∷ j ∷ is) n x e = behind_named i n.0 x (last_sampling (j ∷ is)) (λ y k. last_named (j ∷ is) n.1 y k) e

  -- Forms on sampled values.

  pub nearest_named : (t : Ty) → IsNamedType t → IsNamed es (nearest t)
  nearest_named t h = node_named es (head.Bound 0) [] t h (as_result t h) tt

  support_named : (v d : Term) → IsNamed es v → IsNamed es d → IsNamed es (in_support v d)
  support_named v d x y = node_named es (head.Builtin op.InSupport) (v ∷ d ∷ []) ty.Bool tt tt (x, (y, tt))

  weight_named : (d v : Term) → IsNamed es d → IsNamed es v → IsNamed es (weight d v)
  weight_named d v x y = node_named es (head.Builtin op.Mu1) (d ∷ v ∷ []) ty.Real tt tt (x, (y, tt))

  pub for_support_named : (t : Ty) (d f : Term) → IsNamedType t → IsNamed es d → IsNamed es f → IsNamed es (for_support t d f)
  for_support_named t d f h x y = node_named es (head.All t) _ ty.Bool h tt (implies_named es _ f (support_named (nearest t) d (nearest_named t h) x) y, tt)

  composed_named : (f g : Term) → IsNamed es f → IsNamed es g → IsNamed es (composed f g)
  composed_named f g x y = changed_named es f (OfBound 0 g ∷ []) (y, tt) x

  pub record NamedMaps (ms : Maps) : Type 0 where
    pub forth : IsNamed es ms.forth
    pub back : IsNamed es ms.back

  pub clash_keeps : (o : Option Var) (G : Goal) (Gs : List Goal) → IsNamedGoal es G → unless_clash o G ≡ given Gs → AllByRecursion (IsNamedGoal es) Gs
  clash_keeps None G Gs h e = subst (AllByRecursion (IsNamedGoal es)) (same_given _ Gs e) (h, tt)
  clash_keeps (Some z) G Gs h e = refused_given (SideCondition z) Gs e

  coupled_named : (c : Coupled) (q : Term) → IsNamedType c.left.ty → IsNamedType c.right.ty → IsNamed es c.left.from → IsNamed es c.right.from → NamedMaps c.maps → IsNamed es q → IsNamed es (coupled_post c q)
  coupled_named c q lt rt l r m x =
      let forth_back = composed_named c.maps.forth c.maps.back m.forth m.back in
      let back_forth = composed_named c.maps.back c.maps.forth m.back m.forth in
      and_named es (keeps_weights c) (couples c q)
      (for_support_named c.right.ty c.right.from _ rt r
      (and_named es _ _ (equal_named es _ _ (nearest_named c.right.ty rt) forth_back) (equal_named es _ _ (weight_named c.right.from _ r (nearest_named c.right.ty rt)) (weight_named c.left.from c.maps.back l m.back))))
      (for_support_named c.left.ty c.left.from _ lt l (and_named es _ q (and_named es _ _ (support_named c.maps.forth c.right.from m.forth r) (equal_named es _ _ (nearest_named c.left.ty lt) back_forth)) x))

  maps_keep : (ex : Exclusions) (x y : Sampling) → NamedSampling x → NamedSampling y → (p q : Term) → IsNamed es p → IsNamed es q → (o : Option Maps) → ((ms : Maps) → o ≡ Some ms → NamedMaps ms) → (Gs : List Goal) → by_maps ex x y p q o ≡ given Gs →
      AllByRecursion (IsNamedGoal es) Gs
  maps_keep ex x y m n p q u v None f Gs e = refused_given Shape Gs e
  maps_keep ex x y m n p q u v (Some ms) f Gs e =
      let k = f ms refl in
      let post = coupled_named (coupling x y ms) (with_values x y ms q) m.ty n.ty (located_named es Left x.from m.from) (located_named es Right y.from n.from) k
      (changed_named es q (ToTerm (Program x.target Left) (nearest x.ty) ∷ ToTerm (Program y.target Right) ms.forth ∷ []) (nearest_named x.ty m.ty, (k.forth, tt)) v) in
      clash_keeps (clash_of ex x y q) (without_samplings x y ms p q) Gs (m.before, n.before, u, post) e

  identity_named : (a b : Ty) → IsNamedType a → IsNamedType b → (t : Bool) (ms : Maps) → (if t then Some (record { forth = nearest a; back = nearest b }) else None) ≡ Some ms → NamedMaps ms
  identity_named a b h k true ms e = subst NamedMaps (same_Some _ ms e) (record { forth = nearest_named a h; back = nearest_named b k })
  identity_named a b h k false ms e = absurd (none-some ms e)

  functions_named : (fs : List Term) → AllNamed es fs → (a b : Ty) → IsNamedType a → IsNamedType b → (ms : Maps) → maps fs a b ≡ Some ms → NamedMaps ms
  functions_named [] n a b h k ms e = identity_named a b h k (ty_eq a b) ms e
  functions_named (f ∷ []) n a b h k ms e = subst NamedMaps (same_Some _ ms e) (record { forth = n.0; back = n.0 })
  functions_named (f ∷ g ∷ []) n a b h k ms e = subst NamedMaps (same_Some _ ms e) (record { forth = n.0; back = n.1.0 })
  functions_named (f ∷ g ∷ j ∷ fs) n a b h k ms e = absurd (none-some ms e)

  ends_keep : (ex : Exclusions) (fs : List Term) → AllNamed es fs → (p q : Term) → IsNamed es p → IsNamed es q → (o r : Option Sampling) → ((x : Sampling) → o ≡ Some x → NamedSampling x) → ((x : Sampling) → r ≡ Some x → NamedSampling x) →
      (Gs : List Goal) → by_ends ex fs p q (option_zip o r) ≡ given Gs → AllByRecursion (IsNamedGoal es) Gs
  ends_keep ex fs n p q u v None r f g Gs e = refused_given Shape Gs e
  ends_keep ex fs n p q u v (Some x) None f g Gs e = refused_given Shape Gs e
  ends_keep ex fs n p q u v (Some x) (Some y) f g Gs e =
      let m = f x refl in
      let k = g y refl in
      maps_keep ex x y m k p q u v (maps fs x.ty y.ty) (λ ms i. functions_named fs n x.ty y.ty m.ty k.ty ms i) Gs e

  end_keeps : (ex : Exclusions) (p q : Term) → IsNamed es p → IsNamed es q → (o : Option Sampling) → ((x : Sampling) → o ≡ Some x → NamedSampling x) → (Gs : List Goal) → one.by_end ex p q o ≡ given Gs → AllByRecursion (IsNamedGoal es) Gs
  end_keeps ex p q u v None f Gs e = refused_given Shape Gs e
  end_keeps ex p q u v (Some x) f Gs e =
      let m = f x refl in
      let post = for_support_named x.ty x.from (with_value x q) m.ty m.from (changed_named es q (ToTerm (Program x.target Own) (nearest x.ty) ∷ []) (nearest_named x.ty m.ty, tt) v) in
      clash_keeps (one.clashing ex Own x.target q) (one.without_sampling x p q) Gs (m.before, u, post) e

  pub rnd_keeps : (ds : Declarations) (fs : List Term) → AllNamed es fs → KeepsNames es (rnd_row ds fs)
  rnd_keeps ds fs n (equiv (body is) (body js) p q) h Gs e = ends_keep (exclusions ds) fs n p q h.2 h.3 (last_sampling is) (last_sampling js) (λ x k. last_named is h.0 x k) (λ x k. last_named js h.1 x k) Gs e
  rnd_keeps ds [] n (hoare (body is) p q) h Gs e = end_keeps (exclusions ds) p q h.1 h.2 (last_sampling is) (λ x k. last_named is h.0 x k) Gs e
  rnd_keeps ds (f ∷ fs) n (hoare a p q) h Gs e = refused_given Shape Gs e
  rnd_keeps ds [] n (hoare (procedure a) p q) h Gs e = refused_given Shape Gs e
  rnd_keeps ds [] n (phoare a r p q b) h Gs e = refused_given Shape Gs e
  rnd_keeps ds (f ∷ fs) n (phoare a r p q b) h Gs e = refused_given Shape Gs e
  rnd_keeps ds [] n (equiv (procedure a) b p q) h Gs e = refused_given Shape Gs e
  rnd_keeps ds (f ∷ fs) n (equiv (procedure a) b p q) h Gs e = refused_given Shape Gs e
  rnd_keeps ds [] n (equiv (body is) (procedure b) p q) h Gs e = refused_given Shape Gs e
  rnd_keeps ds (f ∷ fs) n (equiv (body is) (procedure b) p q) h Gs e = refused_given Shape Gs e
  rnd_keeps ds [] n (ambient f) h Gs e = refused_given Shape Gs e
  rnd_keeps ds (g ∷ fs) n (ambient f) h Gs e = refused_given Shape Gs e

  exchanged_named : (f : Term) → IsNamed es f → IsNamed es (exchanged f)
  exchanged_named f x = changed_named es f exchanging (tt, (tt, tt)) x

  pub symmetry_keeps : KeepsNames es symmetry_row
  symmetry_keeps (equiv a b p q) h Gs e = subst (AllByRecursion (IsNamedGoal es)) (same_given _ Gs e) ((h.1, h.0, exchanged_named p h.2, exchanged_named q h.3), tt)
  symmetry_keeps (hoare a p q) h Gs e = refused_given Shape Gs e
  symmetry_keeps (phoare a r p q b) h Gs e = refused_given Shape Gs e
  symmetry_keeps (ambient f) h Gs e = refused_given Shape Gs e
