-- A term in place of a bound value: typing and meaning.
use Rattle.std.proofs.Common.{◌≡◌, ℕ, zero, suc, inl, true, false, [], ◌∷◌, None, refl, sym, ◌∙◌, subst}
use Rattle.std.proofs.lemmas.Bool.{false≢true}
use Rattle.gb_core.specs.declared.ty.Ty.{Ty}
use Rattle.gb_core.specs.declared.value.Value.{Value}
use Rattle.gb_core.specs.declared.var.Var.{Var}
use Rattle.gb_core.specs.declared.var.Var.TheVariants as var
use Rattle.gb_terms.specs.declared.op.Side.{Side}
use Rattle.gb_terms.specs.declared.op.Side.TheVariants as side
use Rattle.gb_terms.specs.declared.op.Read.{Read}
use Rattle.gb_terms.specs.declared.op.Read.TheVariants.{Logical, Program}
use Rattle.gb_terms.specs.declared.term.Term.{Term}
use Rattle.gb_terms.specs.declared.term.Head.TheVariants as head
use Rattle.gb_walk.specs.declared.change.Change.TheVariants.{OfBound}
use Rattle.gb_walk.specs.Change.{found_for_read, found_for_bound, read_changed, term_changed}
use Rattle.gb_meaning.specs.Values.{has}
use Rattle.gb_meaning.specs.Meanings.{value_in}
use Rattle.gb_meaning.specs.Setting.{Setting}
use Rattle.gb_meaning.specs.Setting.Meaning.{finite}
use Rattle.gb_meaning.specs.State.{State, under}
use Rattle.gb_meaning.specs.State.Binding.{value as value_bound}
use Rattle.gb_meaning.specs.Terms.{quiet, val}
use Rattle.gb_meaning.specs.Judgments.{Judge, speaking}
use Rattle.gb_meaning.specs.Written.{type_of}
use Rattle.gb_laws.specs.Led.{IsPut, Led}
use Rattle.gb_laws.specs.Plain.{IsPlain}
use Rattle.gb_laws.specs.Uses.{Uses}
use Rattle.gb_laws.specs.Uses.Use.{read as reads, bound, globals, starts, binds_own, binds_sides}
use Rattle.gb_laws.proofs.Changing.{plain_followed}
use Rattle.gb_laws.proofs.Quiet.{plain_quiet}
use Rattle.gb_laws.specs.Finite.{IsFinite}
use Rattle.gb_laws.proofs.Denominators.{denominator_one}
use Rattle.gb_laws.specs.Typing.{IsBoundAt}
use Rattle.gb_laws.specs.Typing.Binder.{value}
use Rattle.gb_typing.specs.Context.{Context, Frame, erased, reframed, within}
use Rattle.gb_typing.specs.Typing.{IsTyped}
use Rattle.gb_typing.specs.Changes.{binder, IsLeaf, IsMemoryIn, Becomes, Leads, Made}
use Rattle.gb_typing.specs.Fits.{IsSettingOf, IsStateOf}
use Rattle.gb_typing.proofs.Changed.{changed}
use Rattle.gb_typing.proofs.Erased.{erased_typed}
use Rattle.gb_typing.proofs.Fitting.{fits_within, state_within}
use Rattle.gb_typing.proofs.Formed.{formed}
use Rattle.gb_typing.proofs.Substituted.{finite_no_distribution, term_value, term_has}
use Rattle.gb_typing.proofs.Uses.{nothing_in, reads_in, uses_of, unbinding, plain_typed}
use Rattle.gb_typing.proofs.Wider.{wider}
use Rattle.gb_typing.specs.Rules.{outermost}

-- A plain term of type u where a value of type t is bound, and nothing else.
module _ (c : Context) (F L K : Frame) (t u : Ty) (f : Term) where
  abbrev around : Context
  around = reframed (outermost c) F L K

  abbrev inner : Ty → Context
  inner r = within around (value r) None

  module _ (typed : IsTyped (inner t) f) (plain : IsPlain f) (result : type_of f ≡ u) where
    leaf_moved : (q : Read) (r : Ty) → IsLeaf (inner u) (head.Read q) r → IsLeaf (inner t) (head.Read q) r
    leaf_moved (Logical n) r k = k
    leaf_moved (Program (var.Local z) side.Own) r k = k
    leaf_moved (Program (var.Global m z) side.Own) r k = k
    leaf_moved (Program (var.Glob p) side.Own) r k = k
    leaf_moved (Program (var.Local z) side.Left) r k = k
    leaf_moved (Program (var.Global m z) side.Left) r k = k
    leaf_moved (Program (var.Glob p) side.Left) r k = k
    leaf_moved (Program (var.Local z) side.Right) r k = k
    leaf_moved (Program (var.Global m z) side.Right) r k = k
    leaf_moved (Program (var.Glob p) side.Right) r k = k
    leaf_moved (Program (var.Local z) (side.Memory n)) r k = k
    leaf_moved (Program (var.Global m z) (side.Memory n)) r k = k
    leaf_moved (Program (var.Glob p) (side.Memory n)) r k = k
    leaf_moved (Program z (side.Bound zero)) r k = absurd (nothing_in (inner u) z r k.1)
    leaf_moved (Program z (side.Bound (suc n))) r k = absurd (nothing_in (inner u) z r k.1)

    bound_moved : (n : ℕ) (r : Ty) → IsBoundAt (binder (inner u) n) r → Becomes false (inner t) r (Logical 0) (found_for_bound (OfBound 0 f ∷ []) n) (head.Bound n)
    bound_moved zero r k = (
      plain,
      λ o l m keeps same. let e = same refl in
          subst (λ z. Made (reframed (inner t) o l m) z f) k.1
          (subst (λ o. Made (reframed (inner t) o l m) u f) (sym e.0) (subst (λ l. Made (reframed (inner t) F l m) u f) (sym e.1) (subst (λ m. Made (reframed (inner t) F L m) u f) (sym e.2)
          (record { typed = typed; written = result })))),
    )
    bound_moved (suc n) r k = absurd k

    side_moved : (r : Side) → IsMemoryIn (inner u) r → IsMemoryIn (inner t) r
    side_moved side.Own k = k
    side_moved side.Left k = k
    side_moved side.Right k = k
    side_moved (side.Memory n) k = k
    side_moved (side.Bound zero) k = absurd k.1
    side_moved (side.Bound (suc n)) k = absurd k.1

    reads_moved : (q : Read) (r : Ty) → IsLeaf (inner u) (head.Read q) r → Becomes false (inner t) r q (found_for_read (OfBound 0 f ∷ []) q) (head.Read (read_changed (OfBound 0 f ∷ []) q))
    reads_moved (Logical n) r k = k
    reads_moved (Program z s) r k = leaf_moved (Program z s) r k

    leads_composed : Leads false (OfBound 0 f ∷ []) (inner u) (inner t)
    leads_composed = record {
      reads = reads_moved;
      bounds = bound_moved;
      sides = side_moved;
      places = λ r k. k;
      global = λ m x t e. e;
      operator = λ n o e. e;
      procedure = λ p. refl;
      has_globals = λ m e. e;
    }

    pub composed_made : (h : Term) → IsTyped (inner u) h → IsPlain h → Made (inner t) (type_of h) (term_changed h (OfBound 0 f ∷ []))
    composed_made h w k = changed false h (OfBound 0 f ∷ []) (inner u) (inner t) leads_composed (inl k) w

    module _ (n : IsFinite u) (g : Setting) (fits : IsSettingOf around g) (j : Judge) (s : State) (fit : IsStateOf around g s) (v : Value) (has_type : has g.types t v ≡ true) where
      abbrev here : Value → State
      here w = under s (value_bound (finite w))

      abbrev image : Value
      image = value_in (val g quiet f (here v))

      at_inner : IsSettingOf (inner t) g
      at_inner = fits_within around g fits (value t) None

      at_state : IsStateOf (inner t) g (here v)
      at_state = state_within around g s fit (value t) None (value_bound (finite v)) has_type

      finite_type : IsFinite (type_of f)
      finite_type = subst IsFinite (sym result) n

      -- the term has a value of its type
      pub image_value : val g (speaking g j) f (here v) ≡ finite image
      image_value = plain_quiet g (speaking g j) f plain (here v) ∙ term_value (inner t) g at_inner f typed finite_type (here v) at_state

      pub image_typed : has g.types u image ≡ true
      image_typed = subst (λ u. has g.types u image ≡ true) result (term_has (inner t) g at_inner f typed finite_type (here v) at_state)

      put : IsPut g f
      put = record {
        formed = formed (inner t) f typed;
        plain = plain;
        denominator = denominator_one g (erased (inner t)) f (erased_typed (inner t) f typed) (finite_no_distribution (type_of f) finite_type);
      }

      abbrev used : Uses
      used = unbinding (uses_of (inner u))

      not_in : (z : Var) (r : Ty) → reads_in (inner u) None z r ≡ true → ⊥
      not_in (var.Local z) r e = false≢true e
      not_in (var.Global m z) r e = false≢true e
      not_in (var.Glob z) r e = false≢true e

      led_composed : Led g (speaking g j) (OfBound 0 f ∷ []) used (here v) (here image)
      led_composed (reads (Logical n) t) k = refl
      led_composed (reads (Program z side.Own) t) k = refl
      led_composed (reads (Program z side.Left) t) k = refl
      led_composed (reads (Program z side.Right) t) k = refl
      led_composed (reads (Program z (side.Memory n)) t) k = refl
      led_composed (reads (Program z (side.Bound zero)) t) k = absurd (not_in z t k)
      led_composed (reads (Program z (side.Bound (suc n))) t) k = absurd (not_in z t k)
      led_composed (bound zero) k = image_value
      led_composed (bound (suc n)) k = absurd (false≢true k)
      led_composed (globals z side.Own) k = refl
      led_composed (globals z side.Left) k = refl
      led_composed (globals z side.Right) k = refl
      led_composed (globals z (side.Memory n)) k = refl
      led_composed (globals z (side.Bound zero)) k = absurd (false≢true k)
      led_composed (globals z (side.Bound (suc n))) k = absurd (false≢true k)
      led_composed (starts side.Own) k = absurd (false≢true k)
      led_composed (starts side.Left) k = absurd (false≢true k)
      led_composed (starts side.Right) k = absurd (false≢true k)
      led_composed (starts (side.Memory n)) k = refl
      led_composed (starts (side.Bound zero)) k = absurd (false≢true k)
      led_composed (starts (side.Bound (suc n))) k = absurd (false≢true k)
      led_composed binds_own k = absurd (false≢true k)
      led_composed binds_sides k = absurd (false≢true k)

      -- it means in the place of a bound value what the other term means at its value
      pub composed_value : (h : Term) → IsTyped (inner u) h → IsPlain h → val g (speaking g j) (term_changed h (OfBound 0 f ∷ [])) (here v) ≡ val g (speaking g j) h (here image)
      composed_value h w k =
          plain_followed g (speaking g j) h (formed (inner u) h w) k (OfBound 0 f ∷ []) used (here v) (here image) (put, tt) led_composed (plain_typed (inner u) h k w)

-- A plain term that reads no own memory is typed whatever that memory is.
module _ (c : Context) (L K o : Frame) (t : Ty) where
  abbrev without : Context
  without = within (reframed (outermost c) None L K) (value t) None

  abbrev with_any : Context
  with_any = within (reframed (outermost c) o L K) (value t) None

  leaf_there : (q : Read) (r : Ty) → IsLeaf without (head.Read q) r → IsLeaf with_any (head.Read q) r
  leaf_there (Logical n) r k = k
  leaf_there (Program z side.Own) r k = absurd (nothing_in without z r k.1)
  leaf_there (Program (var.Local z) side.Left) r k = k
  leaf_there (Program (var.Global m z) side.Left) r k = k
  leaf_there (Program (var.Glob p) side.Left) r k = k
  leaf_there (Program (var.Local z) side.Right) r k = k
  leaf_there (Program (var.Global m z) side.Right) r k = k
  leaf_there (Program (var.Glob p) side.Right) r k = k
  leaf_there (Program (var.Local z) (side.Memory n)) r k = k
  leaf_there (Program (var.Global m z) (side.Memory n)) r k = k
  leaf_there (Program (var.Glob p) (side.Memory n)) r k = k
  leaf_there (Program z (side.Bound zero)) r k = absurd (nothing_in without z r k.1)
  leaf_there (Program z (side.Bound (suc n))) r k = absurd (nothing_in without z r k.1)

  pub any_own : (f : Term) → IsPlain f → IsTyped without f → IsTyped with_any f
  any_own f x w = wider without with_any (record { operator = λ n o e. e; bounds = λ n r k. k; reads = leaf_there }) f x w
