-- Variables of outcomes on two sides that are alone among those that may be read.
use Rattle.std.proofs.Common.{◌≡◌, Bool, true, false, List, [], ◌∷◌, ◌++◌, refl}
use Rattle.std.proofs.lemmas.Bool.{or_parts}
use Rattle.std.specs.List.{AllByRecursion}
use Rattle.gb_core.specs.declared.ty.Ty.{Ty}
use Rattle.gb_core.specs.declared.var.Var.{Var}
use Rattle.gb_core.specs.declared.var.Var.TheVariants as var
use Rattle.gb_terms.specs.declared.op.Side.{Side}
use Rattle.gb_terms.specs.declared.op.Side.TheVariants as side
use Rattle.gb_terms.specs.declared.term.Term.{Term}
use Rattle.gb_terms.specs.Equal.{var_eq}
use Rattle.gb_walk.specs.Clash.{variables_read}
use Rattle.gb_meaning.specs.Memory.{result_name}
use Rattle.gb_meaning.specs.Setting.{Setting}
use Rattle.gb_laws.specs.Written.{IsSide}
use Rattle.gb_typing.specs.Forms.{IsAlone}
use Rattle.gb_typing.specs.Puts.{Readable}
use Rattle.gb_typing.proofs.Spared.{Clear}
use Rattle.gb_prog.specs.AllValues.{Located, in_memory, AreAlone}
use Rattle.gb_prog.specs.Writes.{TypedVariable}
use Rattle.gb_call.specs.Outcomes.{is_among, is_read}
use Rattle.gb_call.proofs.Callees.{alone_local}
use Rattle.gb_call_both.specs.BothOutcomes.{values_among}
use Rattle.gb_call_both.proofs.AfterBoth.{hidden}

-- where fewer variables may be read, one is alone still
pub fewer_read : (g : Setting) (P Q : Var → Bool) → ((y : Var) → P y ≡ true → Q y ≡ true) → (W : List TypedVariable) → AllByRecursion (λ w. IsAlone g w.variable Q) W → AllByRecursion (λ w. IsAlone g w.variable P) W
fewer_read g P Q h [] k = tt
fewer_read g P Q h (w ∷ W) k = ((λ y p n. k.0 y (h y p) n), fewer_read g P Q h W k.1)

pub fewer_targets : (g : Setting) (P Q : Var → Bool) → ((y : Var) → P y ≡ true → Q y ≡ true) → (xs : List Var) → AllByRecursion (λ x. IsAlone g x Q) xs → AllByRecursion (λ x. IsAlone g x P) xs
fewer_targets g P Q h [] k = tt
fewer_targets g P Q h (x ∷ xs) k = ((λ y p n. k.0 y (h y p) n), fewer_targets g P Q h xs k.1)

pub both_alone : (g : Setting) (P : Readable) (W V : List TypedVariable) → AllByRecursion (λ w. IsAlone g w.variable (P side.Left)) W → AllByRecursion (λ w. IsAlone g w.variable (P side.Right)) V →
    AreAlone g P (in_memory side.Left W ++ in_memory side.Right V)
both_alone g P [] [] h k = tt
both_alone g P [] (v ∷ V) h k = (k.0, both_alone g P [] V h k.1)
both_alone g P (w ∷ W) V h k = (h.0, both_alone g P W V h.1 k)

pub results_alone : (g : Setting) (P : Readable) (l r : Bool) (xs ys : List Var) (R S : Ty) (W V : List TypedVariable) (G : List Located) → AreAlone g P G →
    AreAlone g P (values_among l r (record { side = side.Left; targets = xs; result = R; globals = W }) (record { side = side.Right; targets = ys; result = S; globals = V }) G)
results_alone g P true true xs ys R S W V G h = ((λ y p f. alone_local g result_name y f), ((λ y p f. alone_local g result_name y f), h))
results_alone g P true false xs ys R S W V G h = ((λ y p f. alone_local g result_name y f), h)
results_alone g P false true xs ys R S W V G h = ((λ y p f. alone_local g result_name y f), h)
results_alone g P false false xs ys R S W V G h = h

-- a result that doesn't occur isn't read
pub hidden_clear : (r : Side) (is : IsSide r) (b : Bool) (said : Term) → (b ≡ false → is_read r said (var.Local result_name) ≡ false) → Clear r is (hidden b) (variables_read r said)
hidden_clear r is true said h = every (variables_read r said)
  where
    every : (xs : List Var) → Clear r is (hidden true) xs
    every [] = tt
    every (x ∷ xs) = (refl, every xs)
hidden_clear r is false said h = every (variables_read r said) (h refl)
  where
    every : (xs : List Var) → is_among xs (var.Local result_name) ≡ false → Clear r is (hidden false) xs
    every [] e = tt
    every (x ∷ xs) e = let f = or_parts (var_eq (var.Local result_name) x) (is_among xs (var.Local result_name)) e in (f.0, every xs f.1)
