-- Names that are found among variables.
use Rattle.std.proofs.Common.{◌≡◌, ℕ, suc, Bool, true, false, if◌then◌else◌, List, [], ◌∷◌, map, get_or, Some, bytes_eq, refl, ap, sym, ◌∙◌, subst}
use Rattle.std.proofs.lemmas.Slice.Eq.{bytes_eq-Decides}
use Rattle.gb_terms.specs.declared.decl.TypedName.{TypedName}
use Rattle.gb_laws.specs.Finite.{IsFinite}
use Rattle.gb_laws.specs.Operators.{item}
use Rattle.gb_laws.specs.Typing.{Binder}
use Rattle.gb_laws.specs.Typing.Binder.{program}
use Rattle.gb_meaning.specs.Written.{local_type}
use Rattle.gb_names.specs.Environment.{Name}
use Rattle.gb_names.specs.declared.bindings.Binding.{Binding}
use Rattle.gb_names.specs.Bindings.{binders_inside, innermost}
use Rattle.gb_names.specs.Names.{first_named, number_before}
use Rattle.gb_laws.specs.Programs.{HaveFiniteTypes}
use Rattle.gb_typing.proofs.Globals.{name_test}
use Rattle.gb_elab_laws.specs.Fitting.{AllFiniteIn, AreBound, IsBoundName, IsFiniteIn, of_each_module}
use Rattle.gb_elab_laws.proofs.Given.{none_some, same_some}
use Rattle.gb_elab_laws.proofs.Shapes.{finite_each}

-- types of values, with those of globals
pub all_with : (vs : List TypedName) → HaveFiniteTypes vs → AllFiniteIn of_each_module vs
all_with [] h = tt
all_with (v ∷ vs) h = (finite_each v.ty h.0, all_with vs h.1)

-- what a name that is found stands for
pub record Found (vs : List TypedName) (x : Name) (v : TypedName) : Type 0 where
  pub name : v.name ≡ x
  pub item : item (map (λ (l : TypedName). l.ty) vs) (number_before vs x) ≡ Some v.ty
  pub frame : local_type vs x ≡ Some v.ty
  pub finite : HaveFiniteTypes vs → IsFinite v.ty
  pub finite_with : (globs : Name → Bool) → AllFiniteIn globs vs → IsFiniteIn globs v.ty

pub found : (vs : List TypedName) (x : Name) (v : TypedName) → first_named vs x ≡ Some v → Found vs x v
found [] x v e = none_some v e
found (l ∷ ls) x v e = step (bytes_eq l.name x) refl (found ls x v) e
  where
    number : Bool → ℕ
    number b = if b then 0 else suc (number_before ls x)

    head : bytes_eq l.name x ≡ true → l ≡ v → Found (l ∷ ls) x v
    head k e =
        let n : number_before (l ∷ ls) x ≡ 0 = ap number k in
        record {
          name = ap (λ (z : TypedName). z.name) (sym e) ∙ (bytes_eq-Decides l.name x).0 k;
          item = ap (item (map (λ (z : TypedName). z.ty) (l ∷ ls))) n ∙ ap (λ (z : TypedName). Some z.ty) e;
          frame = ap (λ (b : Bool). if b then Some l.ty else local_type ls x) (name_test x l.name ∙ k) ∙ ap (λ (z : TypedName). Some z.ty) e;
          finite = λ h. subst (λ (z : TypedName). IsFinite z.ty) e h.0;
          finite_with = λ globs h. subst (λ (z : TypedName). IsFiniteIn globs z.ty) e h.0;
        }

    tail : bytes_eq l.name x ≡ false → Found ls x v → Found (l ∷ ls) x v
    tail k f =
        let n : number_before (l ∷ ls) x ≡ suc (number_before ls x) = ap number k in
        record {
          name = f.name;
          item = ap (item (map (λ (z : TypedName). z.ty) (l ∷ ls))) n ∙ f.item;
          frame = ap (λ (b : Bool). if b then Some l.ty else local_type ls x) (name_test x l.name ∙ k) ∙ f.frame;
          finite = λ h. f.finite h.1;
          finite_with = λ globs h. f.finite_with globs h.1;
        }

    step : (b : Bool) → bytes_eq l.name x ≡ b → (first_named ls x ≡ Some v → Found ls x v) → (if b then Some l else first_named ls x) ≡ Some v → Found (l ∷ ls) x v
    step true k f e = head k (same_some l v e)
    step false k f e = tail k (f e)

-- what is bound under a name stands among the binders
pub found_bound : (globs : Name → Bool) (vs : List Binding) (x : Name) (v : Binding) → innermost vs x ≡ Some v → (bs : List Binder) → AreBound globs bs vs →
    IsBoundName globs (get_or bs (binders_inside vs x) program) v
found_bound globs [] x v e bs k = none_some v e
found_bound globs (w ∷ ws) x v e [] k = absurd k
found_bound globs (w ∷ ws) x v e (b ∷ bs) k = step (bytes_eq w.name x) (λ i. found_bound globs ws x v i bs k.1) e
  where
    step : (t : Bool) → (innermost ws x ≡ Some v → IsBoundName globs (get_or bs (binders_inside ws x) program) v) → (if t then Some w else innermost ws x) ≡ Some v →
        IsBoundName globs (get_or (b ∷ bs) (if t then 0 else suc (binders_inside ws x)) program) v
    step true f i = subst (IsBoundName globs b) (same_some w v i) k.0
    step false f i = f i
