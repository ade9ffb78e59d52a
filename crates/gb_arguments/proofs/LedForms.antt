-- A typed form stays typed where modules are put in.
use Rattle.std.proofs.Common.{◌≡◌, inl, inr, List, [], ◌∷◌, map, Option, Some, None, refl, ap, sym, ◌∙◌, subst}
use mathlib.Core.Former.{Count}
use Rattle.gb_core.specs.declared.ty.Ty.{Ty}
use Rattle.gb_core.specs.declared.ty.Ty.TheVariants as ty
use Rattle.gb_terms.specs.declared.decl.Param.{Param}
use Rattle.gb_terms.specs.declared.decl.TypedName.{TypedName}
use Rattle.gb_terms.specs.declared.module.Mexp.{Mexp}
use Rattle.gb_terms.specs.declared.op.Read.TheVariants as read
use Rattle.gb_terms.specs.declared.term.Head.{Head}
use Rattle.gb_terms.specs.declared.term.Head.TheVariants as head
use Rattle.gb_terms.specs.declared.term.Term.{Term, Term', Row_of-Term, end_of-Term, more_of-Term, end_of-Head, more_of-Head}
use Rattle.gb_terms.specs.Make.{node}
use Rattle.gb_terms.specs.Rows.{terms_in}
use Rattle.gb_goal.specs.Instances.{stands_for}
use Rattle.gb_goal.specs.Scope as scope
use Rattle.gb_meaning.specs.Names.{Name}
use Rattle.gb_meaning.specs.Operators.{outcome_type}
use Rattle.gb_meaning.specs.Trees.{row, term}
use Rattle.gb_meaning.specs.Written.{type_of}
use Rattle.gb_meaning.proofs.Nodes.{term_is_node}
use Rattle.gb_laws.specs.Typing.{Binder, types_of, IsHead}
use Rattle.gb_laws.specs.Typing.Binder.{value, index, memory}
use Rattle.gb_typing.specs.Context.{Context, Frame, erased, with_own, with_sides, within}
use Rattle.gb_typing.specs.Typing.{IsNamed, IsTyped, AreTyped, first, last, middle}
use Rattle.gb_arguments.specs.Led.{AllMayStand, EquationMayStand, HeadMayStand, IsAround, IsLed, IsReadable, MayStand, led, led_binder, led_frame, led_name}
use Rattle.gb_instances.specs.Put.{Equation, all_put, equated, equation_put, head_put, name_put, node_put, put}
use Rattle.gb_arguments.proofs.LedHeads.{after_led, before_led, head_led, readable_led}
use Rattle.gb_arguments.proofs.LedTypes.{truth_led}
use Rattle.gb_arguments.proofs.PutTypes.{outcome_put}

-- an equation: both memories may be read, and its type is that of truth values
pub record IsEquationIn (d : Context) (t : Ty) (x : Equation) : Type 0 where
  pub left : IsReadable d x.1
  pub right : IsReadable d x.2
  pub truth : t ≡ ty.Bool

module _ (ds : scope.Declarations) (ps : List Param) (es : List Mexp) (a : Context) (W : Name → Type 0) where
  -- a context that leads to one around
  pub record Leads (d e : Context) : Type 0 where
    pub led : IsLed ps es W d e
    pub around : IsAround a e

  with_own_led : (d e : Context) → Leads d e → (x y : Frame) → y ≡ led_frame ps es x → Leads (with_own d x) (with_own e y)
  with_own_led d e l x y w = let k = l.led in record {
    led = record { logical = k.logical; global = k.global; operator = k.operator; procedure = k.procedure; whole = k.whole; own = w; left = k.left; right = k.right; named = k.named; bound = k.bound; frames = k.frames };
    around = l.around;
  }

  with_sides_led : (d e : Context) → Leads d e → (x y u v : Frame) → y ≡ led_frame ps es x → v ≡ led_frame ps es u → Leads (with_sides d x u) (with_sides e y v)
  with_sides_led d e l x y u v w z = let k = l.led in record {
    led = record { logical = k.logical; global = k.global; operator = k.operator; procedure = k.procedure; whole = k.whole; own = k.own; left = w; right = z; named = k.named; bound = k.bound; frames = k.frames };
    around = l.around;
  }

  within_led : (d e : Context) → Leads d e → (b : Binder) (x : Frame) → Leads (within d b x) (within e (led_binder ps es b) (led_frame ps es x))
  within_led d e l b x = let k = l.led in record {
    led = record {
      logical = k.logical;
      global = k.global;
      operator = k.operator;
      procedure = k.procedure;
      whole = k.whole;
      own = k.own;
      left = k.left;
      right = k.right;
      named = k.named;
      bound = ap (λ z. led_binder ps es b ∷ z) k.bound;
      frames = ap (λ z. led_frame ps es x ∷ z) k.frames;
    };
    around = l.around;
  }

  -- what draws binds
  drawn_led : (d e : Context) → Leads d e → (x : Ty) → Leads (within d (value (outcome_type x)) None) (within e (value (outcome_type (led ps es x))) None)
  drawn_led d e l x =
      subst (λ z. Leads (within d (value (outcome_type x)) None) (within e (value z) None)) (sym (outcome_put (stands_for ps es) x)) (within_led d e l (value (outcome_type x)) None)

  first_led : (d e : Context) → Leads d e → (h : Head) (t : Ty) → IsNamed d h t → Leads (first d h) (first e (head_put ps es h))
  first_led d e l (head.Hoare s) t w = with_own_led d e l _ _ (before_led ps es W d e l.led s w)
  first_led d e l (head.Phoare s r) t w = with_own_led d e l _ _ (before_led ps es W d e l.led s w)
  first_led d e l (head.Equiv s u) t w = with_sides_led d e l _ _ _ _ (before_led ps es W d e l.led s w.0) (before_led ps es W d e l.led u w.1)
  first_led d e l (head.Read (read.Program x r)) t w = l
  first_led d e l _ t w = l

  middle_led : (d e : Context) → Leads d e → (h : Head) (t : Ty) → IsNamed d h t → Leads (middle d h) (middle e (head_put ps es h))
  middle_led d e l (head.Hoare s) t w = with_own_led d e l _ _ (after_led ps es W d e l.led s w)
  middle_led d e l (head.Phoare s r) t w = with_own_led d e l _ _ (after_led ps es W d e l.led s w)
  middle_led d e l (head.Equiv s u) t w = with_sides_led d e l _ _ _ _ (after_led ps es W d e l.led s w.0) (after_led ps es W d e l.led u w.1)
  middle_led d e l (head.Read (read.Program x r)) t w = l
  middle_led d e l _ t w = l

  last_led : (d e : Context) → Leads d e → (ls : List TypedName) (h : Head) (us : List Ty) (t : Ty) → IsNamed d h t →
      Leads (last d ls h us) (last e (map (led_name ps es) ls) (head_put ps es h) (map (led ps es) us))
  last_led d e l ls (head.All u) us t w = within_led d e l (value u) None
  last_led d e l ls (head.Some u) us t w = within_led d e l (value u) None
  last_led d e l ls head.AllMemory us t w = within_led d e l memory (Some ls)
  last_led d e l ls head.SomeMemory us t w = within_led d e l memory (Some ls)
  last_led d e l ls (head.AllModule b) us t w = absurd w
  last_led d e l ls (head.Sum q) us t w = within_led d e l (index q) None
  last_led d e l ls head.Mu [] t w = l
  last_led d e l ls head.Mu (u ∷ us) t w = drawn_led d e l u
  last_led d e l ls head.Map [] t w = l
  last_led d e l ls head.Map (u ∷ us) t w = drawn_led d e l u
  last_led d e l ls head.Restrict [] t w = l
  last_led d e l ls head.Restrict (u ∷ us) t w = drawn_led d e l u
  last_led d e l ls (head.Pr p r) us t w = with_own_led d e l _ _ (after_led ps es W d e l.led (head.Proc p) w.2)
  last_led d e l ls (head.Hoare s) us t w = with_own_led d e l _ _ (after_led ps es W d e l.led s w)
  last_led d e l ls (head.Phoare s r) us t w = with_own_led d e l None None refl
  last_led d e l ls (head.Equiv s u) us t w = with_sides_led d e l _ _ _ _ (after_led ps es W d e l.led s w.0) (after_led ps es W d e l.led u w.1)
  last_led d e l ls (head.Read (read.Program x r)) us t w = l
  last_led d e l ls _ us t w = l

  -- a form of a type
  abbrev pub IsMade : Context → Ty → Term → Type 0
  IsMade e t f = IsTyped e f × (type_of f ≡ t)

  node_made : (e : Context) (h : Head) (xs : List Term) (t : Ty) → IsTyped e (term h xs t) → IsMade e t (node h xs t)
  node_made e h xs t w = subst (IsMade e t) (term_is_node h xs t) (w, refl)

  equation_made : (d e : Context) → Leads d e → (t : Ty) (f : Term) → (o : Option Equation) → ((x : Equation) → o ≡ Some x → IsEquationIn d t x) → (X : Type 0) → (X → IsMade e (led ps es t) f) →
      EquationMayStand ds (stands_for ps es) a W X o → IsMade e (led ps es t) (equation_put ds ps es f o)
  equation_made d e l t f None known X w k = w k
  equation_made d e l t f (Some x) known X w (inl k) = subst (IsMade e (led ps es t)) (sym (k.0 x.1 x.2 f)) (w k.1)
  equation_made d e l t f (Some x) known X w (inr k) =
      let i = known x refl in
      let y = k e l.around x.1 x.2 (readable_led ps es W d e l.led x.1 i.left) (readable_led ps es W d e l.led x.2 i.right) f in
      (y.0, y.1 ∙ sym (truth_led (name_put ps es) t i.truth))

  part_made : (d e : Context) → Leads d e → (h : Head) (n : _) (ts : _) (t : Ty) → (w : IsTyped d (Term' tt (more_of-Head h end_of-Head) n ts t)) → HeadMayStand W h →
      AreTyped (first e (head_put ps es h)) (middle e (head_put ps es h)) (last e (map (led_name ps es) w.2) (head_put ps es h) (map (led ps es) (types_of ts))) (row (all_put ds ps es ts))
      × (types_of (row (all_put ds ps es ts)) ≡ map (led ps es) (types_of ts)) →
      IsMade e (led ps es t) (node_put ps es h (all_put ds ps es ts) t)
  part_made d e l h n ts t w m k =
      let x = head_led ps es W d e l.led h (types_of ts) t w.0 w.1 m in
      node_made e (head_put ps es h) (all_put ds ps es ts) (led ps es t) (
        subst (λ us. IsHead (erased e) (head_put ps es h) us (led ps es t)) (sym k.1) x.0,
        x.1,
        map (led_name ps es) w.2,
        subst (λ us. AreTyped (first e (head_put ps es h)) (middle e (head_put ps es h)) (last e (map (led_name ps es) w.2) (head_put ps es h) us) (row (all_put ds ps es ts))) (sym k.1) k.0,
      )

  -- that a form is an equation: of what is typed
  module _ (equations : (d : Context) (p : _) (h : Head) (n : _) (ts : _) (t : Ty) → IsTyped d (Term' p (more_of-Head h end_of-Head) n ts t) → (x : Equation) → equated h (terms_in ts) ≡ Some x →
      IsEquationIn d t x) where
    mutual
      pub put_made : (d e : Context) → Leads d e → (t : Term) → IsTyped d t → MayStand ds (stands_for ps es) a W t → IsMade e (led ps es (type_of t)) (put ds ps es t)
      put_made d e l (Term' p (more_of-Head h end_of-Head) n ts t) w m =
          equation_made d e l t (node_put ps es h (all_put ds ps es ts) t) (equated h (terms_in ts)) (equations d p h n ts t w)
          (HeadMayStand W h × AllMayStand ds (stands_for ps es) a W ts)
          (λ k. part_made d e l h n ts t w k.0
          (puts_made (first d h) (middle d h) (last d w.2 h (types_of ts)) (first e (head_put ps es h)) (middle e (head_put ps es h))
          (last e (map (led_name ps es) w.2) (head_put ps es h) (map (led ps es) (types_of ts)))
          (first_led d e l h t w.1) (middle_led d e l h t w.1) (last_led d e l w.2 h (types_of ts) t w.1) ts w.3 k.1)) m

      puts_made : {n : Count} (d b c e u v : Context) → Leads d e → Leads b u → Leads c v → (ts : Row_of-Term n) → AreTyped d b c ts → AllMayStand ds (stands_for ps es) a W ts →
          AreTyped e u v (row (all_put ds ps es ts)) × (types_of (row (all_put ds ps es ts)) ≡ map (led ps es) (types_of ts))
      puts_made d b c e u v x y z end_of-Term w m = (tt, refl)
      puts_made d b c e u v x y z (more_of-Term t end_of-Term) w m =
          let k = put_made c v z t w m.0 in (k.0, λ i. k.1 i ∷ [])
      puts_made d b c e u v x y z (more_of-Term t (more_of-Term s ts)) w m =
          let k = put_made d e x t w.0 m.0 in
          let r = puts_made b b c u u v y y z (more_of-Term s ts) w.1 m.1 in
          ((k.0, r.0), λ i. k.1 i ∷ r.1 i)
