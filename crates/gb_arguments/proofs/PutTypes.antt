-- Types with modules put in have the values that they have where the modules stand for names.
use Rattle.std.proofs.Common.{◌≡◌, ◌⊎◌, Bool, true, false, ◌||◌, ◌∷◌, map, refl, ap, sym, ◌∙◌, inl, inr}
use Rattle.std.specs.List.{list_any}
use Rattle.std.proofs.lemmas.Bool.{false≢true}
use mathlib.Core.Former.{Count}
use Rattle.gb_core.specs.declared.ty.Ty.{Ty, Row_of-Ty, end_of-Ty, more_of-Ty, items-the_row-Ty}
use Rattle.gb_core.specs.declared.ty.Ty.TheVariants as ty
use Rattle.gb_core.specs.Numbering.{numbers, option_of, map_of, tuple_of}
use Rattle.gb_terms.specs.declared.module.Mexp.{Mexp}
use Rattle.gb_terms.specs.declared.module.Mexp.TheVariants.{Name as named, Apply'}
use Rattle.gb_goal.specs.Instances.{name_of, put_in}
use Rattle.gb_meaning.specs.Globs.{EachGlob, EachGlobIn}
use Rattle.gb_meaning.specs.Names.{Name}
use Rattle.gb_meaning.specs.Operators.{is_distribution, key_type, modulus, outcome_type}
use Rattle.gb_meaning.specs.Values.{Types, all_values_by, footprint_values, values}
use Rattle.gb_laws.specs.Operators.{row}
use Rattle.gb_laws.proofs.Constructors.{option_is, distribution_is, map_is, tuple_is}
use Rattle.gb_typing.proofs.Interfaces.{itself}
use Rattle.gb_arguments.specs.Said.{IsName}
use Rattle.gb_instances.specs.Put.{type_put, type_speaks}
use Rattle.gb_arguments.proofs.TypeParts.{distr_put, distr_speaks, glob_put, glob_speaks, leaf_put, map_put, map_speaks, opt_put, opt_speaks, tuple_put, tuple_speaks}

pub named_is : (m : Mexp) → IsName m → m ≡ named (name_of m)
named_is (named n) e = refl
named_is (Apply' n k args) e = absurd e

module _ (f : Name → Mexp) where
  abbrev pub put : Name → Name
  put a = name_of (f a)

  -- what stands for the module is a name
  abbrev pub Stands : Name → Type 0
  Stands a = IsName (f a)

  pub outcome_put : (t : Ty) → outcome_type (type_put put t) ≡ type_put put (outcome_type t)
  outcome_put (ty.Distr' p (more_of-Ty x end_of-Ty)) = ap outcome_type (distr_put put p x ∙ distribution_is (type_put put x))
  outcome_put (ty.Tuple' n r) = ap outcome_type (tuple_put put n r ∙ tuple_is (map (type_put put) (items-the_row-Ty _ r))) ∙ sym (leaf_put put ty.Unit refl)
  outcome_put (ty.Opt' p (more_of-Ty x end_of-Ty)) = ap outcome_type (opt_put put p x ∙ option_is (type_put put x)) ∙ sym (leaf_put put ty.Unit refl)
  outcome_put (ty.Map' p (more_of-Ty k end_of-Ty) q (more_of-Ty x end_of-Ty)) =
      ap outcome_type (map_put put p q k x ∙ map_is (type_put put k) (type_put put x)) ∙ sym (leaf_put put ty.Unit refl)
  outcome_put (ty.Glob a) = ap outcome_type (glob_put put a) ∙ sym (leaf_put put ty.Unit refl)
  outcome_put ty.Unit = ap outcome_type (leaf_put put ty.Unit refl) ∙ sym (leaf_put put ty.Unit refl)
  outcome_put ty.Bool = ap outcome_type (leaf_put put ty.Bool refl) ∙ sym (leaf_put put ty.Unit refl)
  outcome_put (ty.Bits n) = ap outcome_type (leaf_put put (ty.Bits n) refl) ∙ sym (leaf_put put ty.Unit refl)
  outcome_put (ty.Mod n) = ap outcome_type (leaf_put put (ty.Mod n) refl) ∙ sym (leaf_put put ty.Unit refl)
  outcome_put (ty.Enumeration x n) = ap outcome_type (leaf_put put (ty.Enumeration x n) refl) ∙ sym (leaf_put put ty.Unit refl)
  outcome_put (ty.Abstract x) = ap outcome_type (leaf_put put (ty.Abstract x) refl) ∙ sym (leaf_put put ty.Unit refl)
  outcome_put ty.Int = ap outcome_type (leaf_put put ty.Int refl) ∙ sym (leaf_put put ty.Unit refl)
  outcome_put ty.Real = ap outcome_type (leaf_put put ty.Real refl) ∙ sym (leaf_put put ty.Unit refl)

  pub key_put : (t : Ty) → key_type (type_put put t) ≡ type_put put (key_type t)
  key_put (ty.Map' p (more_of-Ty k end_of-Ty) q (more_of-Ty x end_of-Ty)) = ap key_type (map_put put p q k x ∙ map_is (type_put put k) (type_put put x))
  key_put (ty.Distr' p (more_of-Ty x end_of-Ty)) = ap key_type (distr_put put p x ∙ distribution_is (type_put put x)) ∙ sym (leaf_put put ty.Unit refl)
  key_put (ty.Tuple' n r) = ap key_type (tuple_put put n r ∙ tuple_is (map (type_put put) (items-the_row-Ty _ r))) ∙ sym (leaf_put put ty.Unit refl)
  key_put (ty.Opt' p (more_of-Ty x end_of-Ty)) = ap key_type (opt_put put p x ∙ option_is (type_put put x)) ∙ sym (leaf_put put ty.Unit refl)
  key_put (ty.Glob a) = ap key_type (glob_put put a) ∙ sym (leaf_put put ty.Unit refl)
  key_put ty.Unit = ap key_type (leaf_put put ty.Unit refl) ∙ sym (leaf_put put ty.Unit refl)
  key_put ty.Bool = ap key_type (leaf_put put ty.Bool refl) ∙ sym (leaf_put put ty.Unit refl)
  key_put (ty.Bits n) = ap key_type (leaf_put put (ty.Bits n) refl) ∙ sym (leaf_put put ty.Unit refl)
  key_put (ty.Mod n) = ap key_type (leaf_put put (ty.Mod n) refl) ∙ sym (leaf_put put ty.Unit refl)
  key_put (ty.Enumeration x n) = ap key_type (leaf_put put (ty.Enumeration x n) refl) ∙ sym (leaf_put put ty.Unit refl)
  key_put (ty.Abstract x) = ap key_type (leaf_put put (ty.Abstract x) refl) ∙ sym (leaf_put put ty.Unit refl)
  key_put ty.Int = ap key_type (leaf_put put ty.Int refl) ∙ sym (leaf_put put ty.Unit refl)
  key_put ty.Real = ap key_type (leaf_put put ty.Real refl) ∙ sym (leaf_put put ty.Unit refl)

  pub modulus_put : (t : Ty) → modulus (type_put put t) ≡ modulus t
  modulus_put (ty.Distr' p (more_of-Ty x end_of-Ty)) = ap modulus (distr_put put p x ∙ distribution_is (type_put put x))
  modulus_put (ty.Tuple' n r) = ap modulus (tuple_put put n r ∙ tuple_is (map (type_put put) (items-the_row-Ty _ r)))
  modulus_put (ty.Opt' p (more_of-Ty x end_of-Ty)) = ap modulus (opt_put put p x ∙ option_is (type_put put x))
  modulus_put (ty.Map' p (more_of-Ty k end_of-Ty) q (more_of-Ty x end_of-Ty)) = ap modulus (map_put put p q k x ∙ map_is (type_put put k) (type_put put x))
  modulus_put (ty.Glob a) = ap modulus (glob_put put a)
  modulus_put ty.Unit = ap modulus (leaf_put put ty.Unit refl)
  modulus_put ty.Bool = ap modulus (leaf_put put ty.Bool refl)
  modulus_put (ty.Bits n) = ap modulus (leaf_put put (ty.Bits n) refl)
  modulus_put (ty.Mod n) = ap modulus (leaf_put put (ty.Mod n) refl)
  modulus_put (ty.Enumeration x n) = ap modulus (leaf_put put (ty.Enumeration x n) refl)
  modulus_put (ty.Abstract x) = ap modulus (leaf_put put (ty.Abstract x) refl)
  modulus_put ty.Int = ap modulus (leaf_put put ty.Int refl)
  modulus_put ty.Real = ap modulus (leaf_put put ty.Real refl)

  pub distribution_put : (t : Ty) → is_distribution (type_put put t) ≡ is_distribution t
  distribution_put (ty.Distr' p (more_of-Ty x end_of-Ty)) = ap is_distribution (distr_put put p x ∙ distribution_is (type_put put x))
  distribution_put (ty.Tuple' n r) = ap is_distribution (tuple_put put n r ∙ tuple_is (map (type_put put) (items-the_row-Ty _ r)))
  distribution_put (ty.Opt' p (more_of-Ty x end_of-Ty)) = ap is_distribution (opt_put put p x ∙ option_is (type_put put x))
  distribution_put (ty.Map' p (more_of-Ty k end_of-Ty) q (more_of-Ty x end_of-Ty)) =
      ap is_distribution (map_put put p q k x ∙ map_is (type_put put k) (type_put put x))
  distribution_put (ty.Glob a) = ap is_distribution (glob_put put a)
  distribution_put ty.Unit = ap is_distribution (leaf_put put ty.Unit refl)
  distribution_put ty.Bool = ap is_distribution (leaf_put put ty.Bool refl)
  distribution_put (ty.Bits n) = ap is_distribution (leaf_put put (ty.Bits n) refl)
  distribution_put (ty.Mod n) = ap is_distribution (leaf_put put (ty.Mod n) refl)
  distribution_put (ty.Enumeration x n) = ap is_distribution (leaf_put put (ty.Enumeration x n) refl)
  distribution_put (ty.Abstract x) = ap is_distribution (leaf_put put (ty.Abstract x) refl)
  distribution_put ty.Int = ap is_distribution (leaf_put put ty.Int refl)
  distribution_put ty.Real = ap is_distribution (leaf_put put ty.Real refl)

  -- the types, where modules stand for names
  abbrev pub standing_types : Types → Types
  standing_types t = record t { footprint = λ m. t.footprint (put_in f m) }

  module _ (t : Types) where
    mutual
      pub values_put : (y : Ty) → EachGlob Stands y → values (standing_types t) y ≡ values t (type_put put y)
      values_put (ty.Glob a) e = ap (λ m. footprint_values t.size (t.footprint m)) (named_is (f a) e) ∙ sym (ap (values t) (glob_put put a))
      values_put (ty.Tuple' n r) e = ap tuple_of (all_values_put r e) ∙ sym (ap (values t) (tuple_put put n r ∙ tuple_is (map (type_put put) (items-the_row-Ty _ r))))
      values_put (ty.Opt' p (more_of-Ty x end_of-Ty)) e = ap option_of (values_put x e.0) ∙ sym (ap (values t) (opt_put put p x ∙ option_is (type_put put x)))
      values_put (ty.Map' p (more_of-Ty k end_of-Ty) q (more_of-Ty x end_of-Ty)) e =
          (λ i. map_of (values_put k e.0.0 i) (values_put x e.1.0 i)) ∙ sym (ap (values t) (map_put put p q k x ∙ map_is (type_put put k) (type_put put x)))
      values_put (ty.Distr' p (more_of-Ty x end_of-Ty)) e = sym (ap (values t) (distr_put put p x ∙ distribution_is (type_put put x)))
      values_put ty.Unit e = sym (ap (values t) (leaf_put put ty.Unit refl))
      values_put ty.Bool e = sym (ap (values t) (leaf_put put ty.Bool refl))
      values_put (ty.Bits n) e = sym (ap (values t) (leaf_put put (ty.Bits n) refl))
      values_put (ty.Mod n) e = sym (ap (values t) (leaf_put put (ty.Mod n) refl))
      values_put (ty.Enumeration x n) e = sym (ap (values t) (leaf_put put (ty.Enumeration x n) refl))
      values_put (ty.Abstract x) e = sym (ap (values t) (leaf_put put (ty.Abstract x) refl))
      values_put ty.Int e = sym (ap (values t) (leaf_put put ty.Int refl))
      values_put ty.Real e = sym (ap (values t) (leaf_put put ty.Real refl))

      all_values_put : {n : Count} (r : Row_of-Ty n) → EachGlobIn Stands r →
          all_values_by (λ n. numbers (t.size n)) (λ m. footprint_values t.size (t.footprint (put_in f (named m)))) r ≡
          all_values_by (λ n. numbers (t.size n)) (λ m. footprint_values t.size (t.footprint (named m))) (row (map (type_put put) (items-the_row-Ty _ r)))
      all_values_put end_of-Ty e = refl
      all_values_put (more_of-Ty y r) e = λ i. values_put y e.0 i ∷ all_values_put r e.1 i

-- .. of what types speak

pub or_false : (a b : Bool) → (a || b) ≡ false → (a ≡ false) × (b ≡ false)
or_false false b h = (refl, h)
or_false true b h = absurd (false≢true (sym h))

module _ (P : Name → Type 0) where
  -- each name is one of P, or isn't spoken of
  abbrev pub Unless : (Name → Bool) → Type 0
  Unless b = (a : Name) → P a ⊎ (b a ≡ false)

  one_left : (p : Name → Bool) (q : Name → Bool) (a : Name) → P a ⊎ ((p a || q a) ≡ false) → P a ⊎ (p a ≡ false)
  one_left p q a (inl x) = inl x
  one_left p q a (inr e) = inr (or_false (p a) (q a) e).0

  one_right : (p : Name → Bool) (q : Name → Bool) (a : Name) → P a ⊎ ((p a || q a) ≡ false) → P a ⊎ (q a ≡ false)
  one_right p q a (inl x) = inl x
  one_right p q a (inr e) = inr (or_false (p a) (q a) e).1

  pub unless_left : (p : Name → Bool) (q : Name → Bool) → Unless (λ a. p a || q a) → Unless p
  unless_left p q u a = one_left p q a (u a)

  pub unless_right : (p : Name → Bool) (q : Name → Bool) → Unless (λ a. p a || q a) → Unless q
  unless_right p q u a = one_right p q a (u a)

  pub unless_same : (p q : Name → Bool) → ((a : Name) → p a ≡ q a) → Unless p → Unless q
  unless_same p q e u a = step (u a)
    where
      step : P a ⊎ (p a ≡ false) → P a ⊎ (q a ≡ false)
      step (inl x) = inl x
      step (inr k) = inr (sym (e a) ∙ k)

  or_true : (a : Name) (b : Bool) → b ≡ true → P a ⊎ (b ≡ false) → P a
  or_true a b e (inl x) = x
  or_true a b e (inr k) = absurd (false≢true (sym k ∙ e))

  mutual
    pub glob_unless : (t : Ty) → Unless (λ a. type_speaks a t) → EachGlob P t
    glob_unless (ty.Glob b) u = or_true b (type_speaks b (ty.Glob b)) (glob_speaks b b ∙ itself b) (u b)
    glob_unless (ty.Tuple' n r) u = globs_unless r (unless_same (λ a. type_speaks a (ty.Tuple' n r)) (λ a. list_any (λ b. b) (map (type_speaks a) (items-the_row-Ty _ r))) (λ a. tuple_speaks a n r) u)
    glob_unless (ty.Opt' p (more_of-Ty x end_of-Ty)) u =
        (glob_unless x (unless_same (λ a. type_speaks a (ty.Opt' p (more_of-Ty x end_of-Ty))) (λ a. type_speaks a x) (λ a. opt_speaks a p x) u), tt)
    glob_unless (ty.Map' p (more_of-Ty k end_of-Ty) q (more_of-Ty x end_of-Ty)) u =
        let both = unless_same (λ a. type_speaks a (ty.Map' p (more_of-Ty k end_of-Ty) q (more_of-Ty x end_of-Ty))) (λ a. type_speaks a k || type_speaks a x) (λ a. map_speaks a p q k x) u in
        ((glob_unless k (unless_left (λ a. type_speaks a k) (λ a. type_speaks a x) both), tt), (glob_unless x (unless_right (λ a. type_speaks a k) (λ a. type_speaks a x) both), tt))
    glob_unless (ty.Distr' p (more_of-Ty x end_of-Ty)) u =
        (glob_unless x (unless_same (λ a. type_speaks a (ty.Distr' p (more_of-Ty x end_of-Ty))) (λ a. type_speaks a x) (λ a. distr_speaks a p x) u), tt)
    glob_unless ty.Unit u = tt
    glob_unless ty.Bool u = tt
    glob_unless (ty.Bits n) u = tt
    glob_unless (ty.Mod n) u = tt
    glob_unless (ty.Enumeration x n) u = tt
    glob_unless (ty.Abstract x) u = tt
    glob_unless ty.Int u = tt
    glob_unless ty.Real u = tt

    globs_unless : {n : Count} (r : Row_of-Ty n) → Unless (λ a. list_any (λ b. b) (map (type_speaks a) (items-the_row-Ty _ r))) → EachGlobIn P r
    globs_unless end_of-Ty u = tt
    globs_unless (more_of-Ty y r) u = (
      glob_unless y (unless_left (λ a. type_speaks a y) (λ a. list_any (λ b. b) (map (type_speaks a) (items-the_row-Ty _ r))) u),
      globs_unless r (unless_right (λ a. type_speaks a y) (λ a. list_any (λ b. b) (map (type_speaks a) (items-the_row-Ty _ r))) u),
    )
