-- Related states: inside of binders, and over longer lists of pairs.
use Rattle.std.proofs.Common.{◌≡◌, ℕ, zero, suc, ◌<◌, Bool, true, false, ◌&&◌, ◌||◌, List, [], ◌∷◌, get_or, refl, sym, subst, arith}
use Rattle.std.proofs.lemmas.Bool.{and_parts}
use Rattle.gb_core.specs.declared.ty.Ty.{Ty}
use Rattle.gb_core.specs.declared.ty.Ty.TheVariants as ty
use Rattle.gb_core.specs.declared.var.Var.{Var}
use Rattle.gb_core.specs.declared.var.Var.TheVariants as var
use Rattle.gb_core.specs.SameTypes.{ty_eq}
use Rattle.gb_core.proofs.SameTypes.{ty_eq-Decides}
use Rattle.gb_terms.specs.declared.op.Read.{Read}
use Rattle.gb_terms.specs.declared.op.Read.TheVariants.{Logical, Program}
use Rattle.gb_terms.specs.declared.op.Side.TheVariants as side
use Rattle.gb_terms.specs.Equal.{var_eq}
use Rattle.gb_terms.proofs.Equality.{var_eq-Decides}
use Rattle.gb_meaning.specs.Names.{Name}
use Rattle.gb_meaning.specs.Memory.{Memory, read}
use Rattle.gb_meaning.specs.Setting.{Setting}
use Rattle.gb_meaning.specs.Meanings.{of_number}
use Rattle.gb_meaning.specs.State.{State, Binding, meaning_in, memory_in, under}
use Rattle.gb_meaning.specs.State.Binding.{program as nothing_bound}
use Rattle.gb_meaning.specs.Terms.{read_at}
use Rattle.gb_laws.specs.Typing.{Context, Binder, IsBoundAt, IsMemory, IsRead}
use Rattle.gb_laws.specs.Typing.Binder.{value, index, memory, program}
use Rattle.gb_laws.proofs.Meanings.{number_has}
use Rattle.gb_labels.specs.Reads.{Vars, is_among}
use Rattle.gb_closing_laws.specs.Pairs.{Pairs, Pairing}
use Rattle.gb_closing_laws.specs.Related.{ReadTypes, ReadIs, Related, MeaningRelated, ReadsRelated, BindingRelated, BoundRelated, StateRelated}
use Rattle.gb_closing_laws.specs.Needs.{HasFirsts, IsReadAt}
use Rattle.gb_closing_laws.proofs.Extending.{IsLonger}
use Rattle.gb_closing_laws.proofs.LabelMeanings.{meaning_longer}
use Rattle.gb_closing_laws.proofs.Partners.{reads_longer}

module _ (g h : Setting) (T : ReadTypes) where
  -- no read of a memory that isn't bound changes inside of a binder
  reads_inside : (P : Pairs) (s r : State) (x y : Binding) (q : Read) (a : Ty) → ReadIs (λ z b. MeaningRelated g.types h.types P b (read_at g z b s) (read_at h z b r)) q a →
      ReadIs (λ z b. MeaningRelated g.types h.types P b (read_at g z b (under s x)) (read_at h z b (under r y))) q a
  reads_inside P s r x y (Logical i) a k = k
  reads_inside P s r x y (Program v side.Own) a k = k
  reads_inside P s r x y (Program v side.Left) a k = k
  reads_inside P s r x y (Program v side.Right) a k = k
  reads_inside P s r x y (Program v (side.Memory i)) a k = k
  reads_inside P s r x y (Program v (side.Bound i)) a k = tt

  pub state_inside : (P : Pairs) (bs : List Binder) (vss : List Vars) (b : Binder) (vs : Vars) (s r : State) (x y : Binding) → StateRelated g h P T bs vss s r →
      BindingRelated g.types h.types P b vs x y → StateRelated g h P T (b ∷ bs) (vs ∷ vss) (under s x) (under r y)
  state_inside P bs vss b vs s r x y q k = record { reads = λ z a e. reads_inside P s r x y z a (q.reads z a e); bound = (k, q.bound) }

  module _ (P Q : Pairing g.types h.types) (longer : IsLonger g.types h.types P Q) where
    others_longer : (s r : State) (q : Read) (a : Ty) → ReadIs (λ z b. MeaningRelated g.types h.types P.pairs b (read_at g z b s) (read_at h z b r)) q a →
        ReadIs (λ z b. MeaningRelated g.types h.types Q.pairs b (read_at g z b s) (read_at h z b r)) q a
    others_longer s r (Logical i) a k = meaning_longer g.types h.types P Q longer a (read_at g (Logical i) a s) (read_at h (Logical i) a r) k
    others_longer s r (Program v side.Own) a k = meaning_longer g.types h.types P Q longer a (read_at g (Program v side.Own) a s) (read_at h (Program v side.Own) a r) k
    others_longer s r (Program v side.Left) a k = meaning_longer g.types h.types P Q longer a (read_at g (Program v side.Left) a s) (read_at h (Program v side.Left) a r) k
    others_longer s r (Program v side.Right) a k = meaning_longer g.types h.types P Q longer a (read_at g (Program v side.Right) a s) (read_at h (Program v side.Right) a r) k
    others_longer s r (Program v (side.Memory i)) a k = meaning_longer g.types h.types P Q longer a (read_at g (Program v (side.Memory i)) a s) (read_at h (Program v (side.Memory i)) a r) k
    others_longer s r (Program v (side.Bound i)) a k = tt

    binding_longer : (b : Binder) (vs : Vars) (x y : Binding) → BindingRelated g.types h.types P.pairs b vs x y → BindingRelated g.types h.types Q.pairs b vs x y
    binding_longer (value a) vs x y q = meaning_longer g.types h.types P Q longer a (meaning_in x) (meaning_in y) q
    binding_longer (index n) vs x y q = q
    binding_longer memory vs x y q = reads_longer g.types h.types P Q longer vs (memory_in x) (memory_in y) q
    binding_longer program vs x y q = q

    bound_longer : (bs : List Binder) (vss : List Vars) (xs ys : List Binding) → BoundRelated g.types h.types P.pairs bs vss xs ys → BoundRelated g.types h.types Q.pairs bs vss xs ys
    bound_longer [] vss xs ys q = tt
    bound_longer (b ∷ bs) (vs ∷ vss) (x ∷ xs) (y ∷ ys) q = (binding_longer b vs x y q.0, bound_longer bs vss xs ys q.1)
    bound_longer (b ∷ bs) vss xs ys q = absurd q

    pub state_longer : (bs : List Binder) (vss : List Vars) (s r : State) → StateRelated g h P.pairs T bs vss s r → StateRelated g h Q.pairs T bs vss s r
    state_longer bs vss s r q = record {
      reads = λ z a e. others_longer s r z a (q.reads z a e);
      bound = bound_longer bs vss s.bound r.bound q.bound;
    }

    pub firsts_longer : (ms : List Name) → HasFirsts g.types h.types P.pairs ms → HasFirsts g.types h.types Q.pairs ms
    firsts_longer [] k = tt
    firsts_longer (m ∷ ms) k = (longer m _ _ k.0, firsts_longer ms k.1)

  -- what is bound

  one_bound : (P : Pairs) (b : Binder) (vs : Vars) (x y : Binding) (a : Ty) → BindingRelated g.types h.types P b vs x y → IsBoundAt b a → MeaningRelated g.types h.types P a (meaning_in x) (meaning_in y)
  one_bound P (value u) vs x y a q k = subst (λ z. MeaningRelated g.types h.types P z (meaning_in x) (meaning_in y)) k.1 q
  one_bound P (index n) vs x y (ty.Mod l) q k =
      let i = q.1 in
      let below : q.0 < l = omega (arith, i, k) in
      subst (λ z. MeaningRelated g.types h.types P (ty.Mod l) z (meaning_in y)) (sym q.2)
      (subst (λ z. MeaningRelated g.types h.types P (ty.Mod l) (of_number q.0) z) (sym q.3) (tt, number_has l q.0 below, refl))
  one_bound P _ vs x y a q k = absurd k

  pub bound_related : (P : Pairs) (bs : List Binder) (vss : List Vars) (xs ys : List Binding) (n : ℕ) (a : Ty) → BoundRelated g.types h.types P bs vss xs ys → IsBoundAt (get_or bs n program) a →
      MeaningRelated g.types h.types P a (meaning_in (get_or xs n nothing_bound)) (meaning_in (get_or ys n nothing_bound))
  bound_related P [] vss xs ys n a q k = absurd k
  bound_related P (b ∷ bs) (vs ∷ vss) (x ∷ xs) (y ∷ ys) zero a q k = one_bound P b vs x y a q.0 k
  bound_related P (b ∷ bs) (vs ∷ vss) (x ∷ xs) (y ∷ ys) (suc n) a q k = bound_related P bs vss xs ys n a q.1 k
  bound_related P (b ∷ bs) vss xs ys n a q k = absurd q

  -- what is read of bound memories

  among_related : (P : Pairs) (vs : Vars) (v : Var) (a : Ty) (m n : Memory) → is_among vs v a ≡ true → ReadsRelated g.types h.types P vs m n →
      Related g.types h.types P a (read g.types m v a) (read h.types n v a)
  among_related P [] v a m n e q = absurd (cc)
  among_related P (w ∷ vs) v a m n e q = step (var_eq w.var v && ty_eq w.ty a) refl e (λ k. among_related P vs v a m n k q.1)
    where
      step : (b : Bool) → (var_eq w.var v && ty_eq w.ty a) ≡ b → (b || is_among vs v a) ≡ true → (is_among vs v a ≡ true → Related g.types h.types P a (read g.types m v a) (read h.types n v a)) → Related g.types h.types P a (read g.types m v a) (read h.types n v a)
      step true f k later =
          let p = and_parts (var_eq w.var v) (ty_eq w.ty a) f in
          let x : w.var ≡ v = (var_eq-Decides w.var v).0 p.0 in
          let u : w.ty ≡ a = (ty_eq-Decides w.ty a).0 p.1 in
          subst (λ z. Related g.types h.types P z (read g.types m v z) (read h.types n v z)) u
          (subst (λ z. Related g.types h.types P w.ty (read g.types m z w.ty) (read h.types n z w.ty)) x q.0)
      step false f k later = later k

  from_bound : (P : Pairs) (bs : List Binder) (vss : List Vars) (xs ys : List Binding) (n : ℕ) (v : Var) (a : Ty) → BoundRelated g.types h.types P bs vss xs ys → IsMemory (get_or bs n program) →
      is_among (get_or vss n []) v a ≡ true → Related g.types h.types P a (read g.types (memory_in (get_or xs n nothing_bound)) v a) (read h.types (memory_in (get_or ys n nothing_bound)) v a)
  from_bound P [] vss xs ys n v a q k e = absurd k
  from_bound P (b ∷ bs) (vs ∷ vss) (x ∷ xs) (y ∷ ys) zero v a q k e = here b q.0 k
    where
      here : (b : Binder) → BindingRelated g.types h.types P b vs x y → IsMemory b → Related g.types h.types P a (read g.types (memory_in x) v a) (read h.types (memory_in y) v a)
      here memory q k = among_related P vs v a (memory_in x) (memory_in y) e q
      here _ q k = absurd k
  from_bound P (b ∷ bs) (vs ∷ vss) (x ∷ xs) (y ∷ ys) (suc n) v a q k e = from_bound P bs vss xs ys n v a q.1 k e
  from_bound P (b ∷ bs) vss xs ys n v a q k e = absurd q

  side_of : (c : Context) (v : Var) (n : ℕ) (a : Ty) → IsRead c (Program v (side.Bound n)) a → IsMemory (get_or c.bound n program)
  side_of c (var.Global m x) n a w = w.0
  side_of c (var.Local x) n a w = w.0
  side_of c (var.Glob m) n a w = w.0

  -- a read of a term
  pub read_related : (P : Pairs) (c : Context) (vss : List Vars) (s r : State) (q : Read) (a : Ty) → StateRelated g h P T c.bound vss s r → IsReadAt T vss q a → IsRead c q a →
      MeaningRelated g.types h.types P a (read_at g q a s) (read_at h q a r)
  read_related P c vss s r (Logical i) a k e w = k.reads (Logical i) a e
  read_related P c vss s r (Program v side.Own) a k e w = k.reads (Program v side.Own) a e
  read_related P c vss s r (Program v side.Left) a k e w = k.reads (Program v side.Left) a e
  read_related P c vss s r (Program v side.Right) a k e w = k.reads (Program v side.Right) a e
  read_related P c vss s r (Program v (side.Memory i)) a k e w = k.reads (Program v (side.Memory i)) a e
  read_related P c vss s r (Program v (side.Bound i)) a k e w = from_bound P c.bound vss s.bound r.bound i v a k.bound (side_of c v i a w) e
