-- The goals without the sampling that ends a body, where no variable clashes.
use Rattle.std.proofs.Common.{◌≡◌, false, Option, Some, None, refl, ap, sym, ◌∙◌}
use Rattle.std.proofs.lemmas.Bool.{false≢true}
use Rattle.std.specs.Borrow.{Bor}
use Rattle.std.specs.Option.{is_some, option_copied, option_map}
use Rattle.gb_terms.specs.declared.op.Rel.{Rel}
use Rattle.gb_terms.specs.declared.op.Side.TheVariants.{Own}
use Rattle.gb_terms.specs.declared.term.Term.{Term}
use Rattle.gb_goal.specs.Scope.{Declarations}
use Rattle.gb_walk.specs.Clash.{first_clash}
use Rattle.gb_mods.specs.Exclusions.{exclusions}
use Rattle.gb_typing.specs.Samplings.{Sampling}
use Rattle.gb_full.specs.Loss.{Loss, first_loss}
use Rattle.gb_pr.specs.Rnd.{by_end, unless_clash, without_sampling}
use Rattle.gb_full.specs.Lossless.{of_rest}

pub without_clash : (ds : Declarations) (r : Rel) (p q b : Term) (x : Sampling) (o : Option Sampling) (l : Loss) → Some x ≡ o → l ≡ first_loss ds x.before → None ≡ first_clash (exclusions ds) Own x.target q →
    of_rest l r b (without_sampling x r p q b) ≡ by_end ds r p q b o
without_clash ds r p q b x o l e f k =
    ap (λ l. of_rest l r b (without_sampling x r p q b)) f
    ∙ ap (λ u. unless_clash (option_map (λ z. x.target) u) (of_rest (first_loss ds x.before) r b (without_sampling x r p q b))) k
    ∙ ap (by_end ds r p q b) e

-- nothing is found
pub none_copied : {A : Type 0} (o : Option (Bor A)) → is_some o ≡ false → None ≡ option_copied o
none_copied None e = refl
none_copied (Some x) e = absurd (false≢true (sym e))
