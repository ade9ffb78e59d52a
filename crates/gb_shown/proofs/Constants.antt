-- What numerals, constants and distributions over the values of a type mean is named.
use Rattle.std.proofs.Common.{◌≡◌, ℕ, ◌^◌, nat_lt, pos, ◌&&◌, Bool, true, false, if◌then◌else◌, List, [], ◌∷◌, Option, Some, None, is_some, refl, ap, sym, ◌∙◌, subst, arith}
use Rattle.std.proofs.lemmas.Bool.{false≢true, and_parts, ltb-true, lt-ltb}
use Rattle.gb_core.specs.declared.place.Place.{Place}
use Rattle.gb_core.specs.declared.refusal.Why.TheVariants.{Syntax, TypeMismatch, TypeTooLarge}
use Rattle.gb_core.specs.declared.ty.Ty.{Ty, out-Ty}
use Rattle.gb_core.specs.declared.ty.Ty.TheVariants as ty
use Rattle.gb_core.specs.declared.ty.Ty.TheOpen as layer
use Rattle.gb_core.specs.declared.ty.Ty.TheViews.{out-roll-Ty}
use Rattle.gb_core.specs.declared.value.Value as V
use Rattle.gb_core.specs.declared.value.Value.{out-Value}
use Rattle.gb_core.specs.declared.value.Value.TheOpen as value_layer
use Rattle.gb_core.specs.declared.value.Value.TheVariants.{Num}
use Rattle.gb_limits.specs.Numbers.{number_of}
use Rattle.gb_terms.specs.declared.op.Op.TheVariants as op
use Rattle.gb_terms.specs.declared.term.Term.{Term}
use Rattle.gb_terms.specs.declared.term.Head.TheVariants.{Builtin, Lit, Whole}
use Rattle.gb_terms.specs.Make.{node, applied, truth_literal, bit}
use Rattle.gb_script.specs.declared.tree.Node.{Node}
use Rattle.gb_script.specs.Each.{EachOf, none, more}
use Rattle.gb_goal.specs.Answers.Answer.{given, refused}
use Rattle.gb_goal.specs.declared.scope.Constant.{Constant}
use Rattle.gb_names.specs.declared.names.Known.{Known}
use Rattle.gb_names.specs.declared.names.Known.TheVariants as known
use Rattle.gb_names.specs.Allowed.{coin, distribution_here, stands}
use Rattle.gb_names.specs.Environment.{Name, Environment}
use Rattle.gb_names.specs.Names.{unit}
use Rattle.gb_names.specs.Types.{type_of}
use Rattle.gb_names.specs.Wanted.{fits, type_of_term, wanted}
use Rattle.gb_operators.specs.Constants.{constant, literal}
use Rattle.gb_operators.specs.Drawn.{uniform}
use Rattle.gb_operators.specs.Kinds.{entries, entries_layer, inside_option, is_small, option_layer, outcome}
use Rattle.gb_operators.specs.Literals.{as_whole, holds, holds_layer, number, numeral}
use Rattle.gb_operators.specs.Operators.{part_wanted}
use Rattle.gb_print_names.specs.declared.bound_names.Enumeration.{Enumeration}
use Rattle.gb_print_names.specs.Names.{constants}
use Rattle.gb_print.specs.Layout as layout
use Rattle.gb_print.specs.Written.{in_range, is_name_there, is_path_there, is_numeral_here, is_word_here, IsWrittenType, IsWrittenLiteral}
use Rattle.gb_shown.specs.Named.{IsNamedType, IsNamed}
use Rattle.gb_shown.proofs.SpeltTrees.{node_named}
use Rattle.gb_shown.specs.Scopes.{IsNamedScope, IsNamedWanted}
use Rattle.gb_shown.specs.Trees.{IsFull}
use Rattle.gb_shown.proofs.Given.{given_bind, given_is, if_allowed, not_given}
use Rattle.gb_shown.proofs.Types.{as_result, as_type, distribution_named, written_named}
use Rattle.gb_shown.proofs.FoundInForms.{path_of}
use Rattle.gb_shown.proofs.Spelled.{spelled_good}
use Rattle.std.specs.Prelude.{slice_get}

pub out_num : (n : ℕ) → out-Value (Num n) ≡ value_layer.Num n
unfolding V.out-Value denote.Hole.Carrier.out
out_num n = refl

-- what the distributions over a type are over
pub layout_outcome : (t : Ty) → layout.outcome (ty.Distr t) ≡ t
layout_outcome t = ap (λ x. layout.outcome_layer x (ty.Distr t)) (ap out-Ty (sym (ty.rolls-Distr t)) ∙ out-roll-Ty (layer.Distr t))

pub out_bool : out-Ty ty.Bool ≡ layer.Bool
out_bool = ap out-Ty (sym ty.rolls-Bool) ∙ out-roll-Ty layer.Bool

pub out_unit : out-Ty ty.Unit ≡ layer.Unit
out_unit = ap out-Ty (sym ty.rolls-Unit) ∙ out-roll-Ty layer.Unit

module _ (es : List Enumeration) where
  -- a word is a numeral that can be written
  name_is_path : (o : Option Name) → is_name_there o ≡ true → is_path_there o ≡ true
  name_is_path (Some x) h = path_of x h
  name_is_path None h = cc

  pub word_numeral : (x : layer.Ty-F Ty) (n : ℕ) → is_word_here es x n ≡ true → is_numeral_here es x n ≡ true
  word_numeral layer.Unit n h = refl
  word_numeral layer.Bool n h = refl
  word_numeral (layer.Enumeration x size) n h = name_is_path (slice_get (constants es x) n) h
  word_numeral _ n h = absurd (false≢true h)

  -- a value by its number
  pub value_named : (n : ℕ) (t : Ty) → IsNamedType t → is_numeral_here es (out-Ty t) n ≡ true → IsNamed es (node (Lit (Num n)) [] t)
  value_named n t h k = node_named es (Lit (Num n)) [] t (h, subst (IsWrittenLiteral es t (Num n)) (sym (out_num n)) k) (as_result t h) tt

  pub truth_named : (b : Bool) → IsNamed es (truth_literal b)
  truth_named b = value_named (bit b) ty.Bool tt (ap (λ x. is_numeral_here es x (bit b)) out_bool)

  pub unit_named : IsNamed es unit
  unit_named = value_named 0 ty.Unit tt (ap (λ x. is_numeral_here es x 0) out_unit)

  -- a constant of an enumeration
  pub literal_named : (c : Constant) → IsNamedType c.ty × (is_word_here es (out-Ty c.ty) c.number ≡ true) → IsNamed es (literal c)
  literal_named c h = value_named c.number c.ty h.0 (word_numeral (out-Ty c.ty) c.number h.1)

  -- what is wanted is the term itself
  pub wanted_named : (w : Option Ty) (p : Place) (t u : Term) → IsNamed es t → wanted w p t ≡ given u → IsNamed es u
  wanted_named w p t u h e = let k = if_allowed (fits w (type_of_term t)) (given t) TypeMismatch p u e in subst (IsNamed es) (given_is t u k.1) h

  module _ (at : Environment) where
    whole_named : (n : ℕ) → in_range n ≡ true → (w : Option Ty) (p : Place) (u : Term) → as_whole at n w p ≡ given u → IsNamed es u
    whole_named n h w p u e =
        let k = given_bind (stands at w p ty.Int) (λ _. given (node (Whole (pos n)) [] ty.Int)) u e in
        subst (IsNamed es) (given_is (node (Whole (pos n)) [] ty.Int) u k.2) (node_named es (Whole (pos n)) [] ty.Int (tt, h) tt tt)

    below_range : (n : ℕ) → nat_lt n (2 ^ 63) ≡ true → in_range n ≡ true
    below_range n h = let k = ltb-true n (2 ^ 63) h in lt-ltb n (2 ^ 127) (omega (arith, k))

    held : (n : ℕ) (x : layer.Ty-F Ty) → nat_lt n (2 ^ 63) ≡ true → holds_layer n x ≡ true → is_numeral_here es x n ≡ true
    held n (layer.Mod m) h k = below_range n h
    held n (layer.Bits m) h k = below_range n h
    held n _ h k = absurd (false≢true k)

    number_named : (n : ℕ) → in_range n ≡ true → (w : Option Ty) → IsNamedWanted w → (p : Place) (u : Term) → number at n w p ≡ given u → IsNamed es u
    number_named n r None f p u e = whole_named n r None p u e
    number_named n r (Some t) f p u e = step (nat_lt n (2 ^ 63) && holds n t) refl e
      where
        step : (b : Bool) → (nat_lt n (2 ^ 63) && holds n t) ≡ b → (if b then given (node (Lit (Num n)) [] t) else as_whole at n (Some t) p) ≡ given u → IsNamed es u
        step true h i =
            let k = and_parts (nat_lt n (2 ^ 63)) (holds n t) h in
            subst (IsNamed es) (given_is (node (Lit (Num n)) [] t) u i) (value_named n t (as_type (holds_layer n) (λ _. refl) t f k.1) (held n (out-Ty t) k.0 k.1))
        step false h i = whole_named n r (Some t) p u i

    pub numeral_named : (x : Name) (w : Option Ty) → IsNamedWanted w → (p : Place) (u : Term) → numeral at x w p ≡ given u → IsNamed es u
    numeral_named x w f p u e = let k = if_allowed (nat_lt (number_of x) (2 ^ 127)) (number at (number_of x) w p) Syntax p u e in number_named (number_of x) k.0 w f p u k.1

    -- the fair coin, and a uniform distribution
    pub coin_named : (w : Option Ty) (p : Place) (u : Term) → coin at w p ≡ given u → IsNamed es u
    coin_named w p u e =
        let d = node (Builtin op.Coin) [] (ty.Distr ty.Bool) in
        let k = given_bind (distribution_here at p) (λ _. wanted w p d) u e in
        wanted_named w p d u (node_named es (Builtin op.Coin) [] (ty.Distr ty.Bool) tt (distribution_named ty.Bool tt) tt) k.2

    pub uniform_named : IsNamedScope es at.declared → (ns : List Node) → EachOf IsFull ns → (w : Option Ty) (p : Place) (u : Term) → uniform ns p at w ≡ given u → IsNamed es u
    uniform_named scope (s ∷ []) (more full none) w p u e =
        let h = given_bind (distribution_here at p) _ u e in
        let v = given_bind (part_wanted outcome w p) _ u h.2 in
        let t = given_bind (type_of at.declared s) _ u v.2 in
        let d = node (Builtin op.Uniform) [] (ty.Distr t.0) in
        let k = given_bind (stands at w p (ty.Distr t.0)) (λ _. if is_small t.0 then given d else refused TypeTooLarge p) u t.2 in
        let j = if_allowed (is_small t.0) (given d) TypeTooLarge p u k.2 in
        let good = (spelled_good es at.declared scope s full t.0 t.1).0 in
        subst (IsNamed es) (given_is d u j.1)
        (node_named es (Builtin op.Uniform) [] (ty.Distr t.0) (subst (IsWrittenType 0 []) (sym (layout_outcome t.0)) good) (distribution_named t.0 (written_named t.0 good)) tt)
    uniform_named scope _ full w p u e = absurd (not_given _ _ u e)

  -- a built-in name alone
  pub constant_named : (k : Known) (w : Option Ty) (p : Place) → IsNamedWanted w → (u : Term) → constant k w p ≡ given u → IsNamed es u
  constant_named known.True w p f u e = wanted_named w p (truth_literal true) u (truth_named true) e
  constant_named known.False w p f u e = wanted_named w p (truth_literal false) u (truth_named false) e
  constant_named known.Unit w p f u e = wanted_named w p unit u unit_named e
  constant_named known.None None p f u e = absurd (not_given _ _ u e)
  constant_named known.None (Some t) p f u e =
      let k = if_allowed (is_some (inside_option t)) (given (applied op.None [] t)) TypeMismatch p u e in
      subst (IsNamed es) (given_is (applied op.None [] t) u k.1) (node_named es (Builtin op.None) [] t (as_type (λ x. is_some (option_layer x)) (λ _. refl) t f k.0) f tt)
  constant_named known.Empty None p f u e = absurd (not_given _ _ u e)
  constant_named known.Empty (Some t) p f u e =
      let k = if_allowed (is_some (entries t)) (given (applied op.Empty [] t)) TypeMismatch p u e in
      subst (IsNamed es) (given_is (applied op.Empty [] t) u k.1) (node_named es (Builtin op.Empty) [] t (as_type (λ x. is_some (entries_layer x)) (λ _. refl) t f k.0) f tt)
  constant_named _ w p f u e = absurd (not_given _ _ u e)
