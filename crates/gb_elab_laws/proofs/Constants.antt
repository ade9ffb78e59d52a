-- What numerals and built-in names mean is typed.
use Rattle.std.proofs.Common.{◌≡◌, ℕ, ◌^◌, min, nat_lt, pos, ◌&&◌, Bool, true, false, if◌then◌else◌, List, [], ◌∷◌, Option, Some, None, is_some, refl, sym, ◌∙◌, subst, arith}
use Rattle.std.proofs.Math.Nat.{min-le_left}
use Rattle.std.proofs.lemmas.Bool.{false≢true, and_parts, ltb-true}
use Rattle.gb_core.specs.declared.place.Place.{Place}
use Rattle.gb_core.specs.declared.refusal.Why.TheVariants.{Syntax, TypeMismatch, TypeTooLarge, Argument}
use Rattle.gb_core.specs.declared.ty.Ty.{Ty, out-Ty, roll-Ty}
use Rattle.gb_core.specs.declared.ty.Ty.TheVariants as ty
use Rattle.gb_core.specs.declared.ty.Ty.TheOpen as layer
use Rattle.gb_core.specs.declared.value.Value.TheVariants.{Num}
use Rattle.gb_limits.specs.Numbers.{number_of}
use Rattle.gb_names.specs.declared.bindings.Binding.{Binding}
use Rattle.gb_terms.specs.declared.op.Op.TheVariants as op
use Rattle.gb_terms.specs.declared.term.Term.{Term}
use Rattle.gb_terms.specs.declared.term.Head.TheVariants.{Builtin, Lit, Whole}
use Rattle.gb_terms.specs.Make.{node, applied, truth_literal}
use Rattle.gb_script.specs.declared.tree.Node.{Node}
use Rattle.gb_goal.specs.Answers.Answer.{given, refused}
use Rattle.gb_goal.specs.declared.scope.Constant.{Constant}
use Rattle.gb_typing.specs.Context.{Context}
use Rattle.gb_typing.proofs.Literals.{mod_literal}
use Rattle.gb_laws.specs.Finite.{IsVariableType}
use Rattle.gb_laws.specs.Typing.{IsLiteral}
use Rattle.gb_names.specs.declared.names.Known.{Known}
use Rattle.gb_names.specs.declared.names.Known.TheVariants as known
use Rattle.gb_names.specs.declared.setting.Language.{Language}
use Rattle.gb_names.specs.Allowed.{coin, distribution_here, may_have, stands}
use Rattle.gb_names.specs.Environment.{Name, Environment}
use Rattle.gb_names.specs.Names.{unit}
use Rattle.gb_names.specs.Types.{type_of}
use Rattle.gb_names.specs.Wanted.{fits, wanted}
use Rattle.gb_operators.specs.Constants.{constant, literal}
use Rattle.gb_operators.specs.Drawn.{uniform}
use Rattle.gb_operators.specs.Kinds.{entries, inside_option, is_small, outcome}
use Rattle.gb_operators.specs.Literals.{as_whole, holds, holds_layer, number, numeral}
use Rattle.gb_operators.specs.Operators.{part_wanted}
use Rattle.gb_elab_laws.specs.Fitting.{IsFormType, IsFormTypeIf, AreTypes, IsFitting, IsWanted, IsGiven}
use Rattle.gb_elab_laws.proofs.Given.{given_bind, given_is, if_allowed, if_given, fits_is, not_given}
use Rattle.gb_elab_laws.proofs.Types.{spelled_typed}
use Rattle.gb_elab_laws.proofs.Shapes.{made_of, finite_form, variable_with, drawn_form, entries_finite, some_finite}
use Rattle.gb_elab_laws.proofs.Literals.{bits_literal}
use Rattle.gb_elab_laws.proofs.Tested.{option_of, map_of}
use Rattle.gb_elab_laws.proofs.Typed.{Typed, given_from, leaf, wanted_given}
use Rattle.gb_elab_laws.proofs.Operators.{none, empty}
use Rattle.gb_elab_laws.proofs.Operators as operators
use Rattle.gb_elab_laws.proofs.Leaves.{truth_typed, unit_typed}
use Rattle.gb_laws.proofs.Constructors.{distribution_is}

-- what stands where a type is wanted has it
pub stands_is : (at : Environment) (w : Option Ty) (p : Place) (t : Ty) (x : Unit {0}) → stands at w p t ≡ given x → IsWanted w t
stands_is at w p t x e =
    let a = if_allowed (may_have at.language t) (if fits w t then given tt else refused TypeMismatch p) Argument p x e in
    fits_is w t (if_given (fits w t) tt TypeMismatch p x a.1).0

some_is : {A : Type 0} (o : Option A) → is_some o ≡ true → (x : A) × (o ≡ Some x)
some_is (Some x) e = (x, refl)
some_is None e = absurd (false≢true e)

module _ (globs : Name → Bool) (c : Context) (at : Environment) where
  abbrev l : Language
  l = at.language

  whole_typed : (n : ℕ) → Typed globs c l ty.Int (node (Whole (pos n)) [] ty.Int)
  whole_typed n = leaf c l (Whole (pos n)) ty.Int tt refl tt tt (λ e. tt)

  as_whole_typed : (n : ℕ) (w : Option Ty) (p : Place) (u : Term) → as_whole at n w p ≡ given u → IsGiven globs c l w u
  as_whole_typed n w p u e =
      let k = given_bind (stands at w p ty.Int) (λ _. given (node (Whole (pos n)) [] ty.Int)) u e in
      subst (IsGiven globs c l w) (given_is _ u k.2) (given_from c l w ty.Int (node (Whole (pos n)) [] ty.Int) (whole_typed n) (stands_is at w p ty.Int k.0 k.1))

  -- a number of a type that holds it
  held_typed : (n : ℕ) (t : Ty) → holds n t ≡ true → Typed globs c l t (node (Lit (Num n)) [] t)
  held_typed n t e = step (out-Ty t) (made_of t (out-Ty t) refl) e
    where
      step : (x : layer.Ty-F Ty) → t ≡ roll-Ty x → holds_layer n x ≡ true → Typed globs c l t (node (Lit (Num n)) [] t)
      step (layer.Mod m) s h =
          let k = ltb-true n m h in
          subst (λ z. Typed globs c l z (node (Lit (Num n)) [] z)) (sym (s ∙ ty.rolls-Mod m)) (leaf c l (Lit (Num n)) (ty.Mod m) (omega (arith, k)) (mod_literal m n k) tt tt (λ e. tt))
      step (layer.Bits m) s h =
          let k = ltb-true n (min (2 ^ m) (2 ^ 63)) h in
          let j = min-le_left (2 ^ m) (2 ^ 63) in
          subst (λ z. Typed globs c l z (node (Lit (Num n)) [] z)) (sym (s ∙ ty.rolls-Bits m)) (leaf c l (Lit (Num n)) (ty.Bits m) tt (bits_literal m n (omega (arith, k, j))) tt tt (λ e. tt))
      step _ s h = absurd (false≢true h)

  number_typed : (n : ℕ) (w : Option Ty) (p : Place) (u : Term) → number at n w p ≡ given u → IsGiven globs c l w u
  number_typed n None p u e = as_whole_typed n None p u e
  number_typed n (Some t) p u e = step (nat_lt n (2 ^ 63) && holds n t) refl e
    where
      step : (b : Bool) → (nat_lt n (2 ^ 63) && holds n t) ≡ b → (if b then given (node (Lit (Num n)) [] t) else as_whole at n (Some t) p) ≡ given u → IsGiven globs c l (Some t) u
      step true h k = subst (IsGiven globs c l (Some t)) (given_is _ u k) (given_from c l (Some t) t (node (Lit (Num n)) [] t) (held_typed n t (and_parts (nat_lt n (2 ^ 63)) (holds n t) h).1) refl)
      step false h k = as_whole_typed n (Some t) p u k

  pub numeral_typed : (x : Name) (w : Option Ty) (p : Place) (u : Term) → numeral at x w p ≡ given u → IsGiven globs c l w u
  numeral_typed x w p u e = step (nat_lt (number_of x) (2 ^ 127)) e
    where
      step : (b : Bool) → (if b then number at (number_of x) w p else refused Syntax p) ≡ given u → IsGiven globs c l w u
      step true k = number_typed (number_of x) w p u k
      step false k = cc

  -- the fair coin, and a uniform distribution
  pub coin_typed : (w : Option Ty) (p : Place) (u : Term) → coin at w p ≡ given u → IsGiven globs c l w u
  coin_typed w p u e =
      let d = node (Builtin op.Coin) [] (ty.Distr ty.Bool) in
      let k = given_bind (distribution_here at p) (λ _. wanted w p d) u e in
      wanted_given c l w p d u (ty.Distr ty.Bool, leaf c l (Builtin op.Coin) (ty.Distr ty.Bool) (drawn_form globs ty.Bool tt) (distribution_is ty.Bool) tt tt (λ e. e)) k.2

  pub uniform_typed : AreTypes at.declared → (ts : List Node) (w : Option Ty) (p : Place) (u : Term) → uniform ts p at w ≡ given u → IsGiven globs c l w u
  uniform_typed names (s ∷ []) w p u e =
      let h = given_bind (distribution_here at p) _ u e in
      let v = given_bind (part_wanted outcome w p) _ u h.2 in
      let t = given_bind (type_of at.declared s) _ u v.2 in
      let d = node (Builtin op.Uniform) [] (ty.Distr t.0) in
      let k = given_bind (stands at w p (ty.Distr t.0)) (λ _. if is_small t.0 then given d else refused TypeTooLarge p) u t.2 in
      let j = if_given (is_small t.0) d TypeTooLarge p u k.2 in
      subst (IsGiven globs c l w) j.1
      (given_from c l w (ty.Distr t.0) d (operators.uniform c l t.0 (variable_with globs t.0 (spelled_typed at.declared names s t.0 t.1))) (stands_is at w p (ty.Distr t.0) k.0 k.1))
  uniform_typed names [] w p u e = absurd (not_given _ _ u e)
  uniform_typed names (s ∷ x ∷ ts) w p u e = absurd (not_given _ _ u e)

  -- a constant of an enumeration
  pub literal_typed : (k : Constant) → IsVariableType k.ty × IsLiteral k.ty (Num k.number) → Typed globs c l k.ty (literal k)
  literal_typed k h = leaf c l (Lit (Num k.number)) k.ty (finite_form globs k.ty (variable_with globs k.ty h.0)) h.1 tt tt (λ e. tt)

  module _ (vs : List Binding) (fit : IsFitting globs c at vs) where
    -- a built-in name alone
    pub constant_typed : (k : Known) (w : Option Ty) (p : Place) → IsFormTypeIf globs w → (u : Term) → constant k w p ≡ given u → IsGiven globs c l w u
    constant_typed known.True w p f u e = wanted_given c l w p (truth_literal true) u (ty.Bool, truth_typed c at vs fit true) e
    constant_typed known.False w p f u e = wanted_given c l w p (truth_literal false) u (ty.Bool, truth_typed c at vs fit false) e
    constant_typed known.Unit w p f u e = wanted_given c l w p unit u (ty.Unit, unit_typed c at vs fit) e
    constant_typed known.None None p f u e = absurd (not_given _ _ u e)
    constant_typed known.None (Some t) p f u e =
        let k = if_given (is_some (inside_option t)) (applied op.None [] t) TypeMismatch p u e in
        let o = some_is (inside_option t) k.0 in
        let same = option_of t o.0 o.1 in
        subst (IsGiven globs c l (Some t)) k.1
        (given_from c l (Some t) t (applied op.None [] t)
        (subst (λ z. Typed globs c l z (applied op.None [] z)) (sym same) (none c l o.0 (some_finite globs o.0 (subst (IsFormType globs) same f)))) refl)
    constant_typed known.Empty None p f u e = absurd (not_given _ _ u e)
    constant_typed known.Empty (Some t) p f u e =
        let k = if_given (is_some (entries t)) (applied op.Empty [] t) TypeMismatch p u e in
        let o = some_is (entries t) k.0 in
        let same = map_of t o.0 o.1 in
        let n = entries_finite globs o.0.0 o.0.1 (subst (IsFormType globs) same f) in
        subst (IsGiven globs c l (Some t)) k.1
        (given_from c l (Some t) t (applied op.Empty [] t) (subst (λ z. Typed globs c l z (applied op.Empty [] z)) (sym same) (empty c l o.0.0 o.0.1 n.0 n.1)) refl)
    constant_typed _ w p f u e = absurd (not_given _ _ u e)
