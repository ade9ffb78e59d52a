-- Terms that bind are typed.
use Rattle.std.proofs.Common.{◌≡◌, ℕ, ◌<◌, Bool, true, List, [], ◌∷◌, None, Some, refl, sym, ◌∙◌, subst}
use Rattle.std.proofs.lemmas.Bool.{false≢true}
use Rattle.gb_core.specs.declared.ty.Ty.{Ty}
use Rattle.gb_core.specs.declared.ty.Ty.TheVariants as ty
use Rattle.gb_terms.specs.declared.decl.TypedName.{TypedName}
use Rattle.gb_terms.specs.declared.term.Term.{Term}
use Rattle.gb_terms.specs.declared.term.Head.TheVariants as head
use Rattle.gb_terms.specs.Make.{node}
use Rattle.gb_meaning.specs.Names.{Name}
use Rattle.gb_meaning.specs.Trees.{distributions}
use Rattle.gb_laws.specs.Typing.Binder.{value, index, memory}
use Rattle.gb_laws.proofs.Constructors.{distribution_is}
use Rattle.gb_typing.specs.Context.{Context, within}
use Rattle.gb_typing.proofs.Made.{made_node}
use Rattle.gb_names.specs.declared.setting.Language.{Language}
use Rattle.gb_names.specs.Allowed.{has_judgments}
use Rattle.gb_elab_laws.specs.Fitting.{IsFiniteIn}
use Rattle.gb_elab_laws.proofs.Shapes.{with_globs, finite_form, form_names, outcome_finite, is_drawn, drawn_form}
use Rattle.gb_elab_laws.proofs.Typed.{Typed, apart_node, plain_node}

module _ {globs : Name → Bool} (c : Context) (l : Language) where
  drawn_by : (a : Ty) (d : Term) → Typed globs c l (ty.Distr a) d → Typed globs c l (distributions a) d
  drawn_by a d m = subst (λ z. Typed globs c l z d) (distribution_is a) m

  -- a measure, and a sum over the numbers below a bound
  pub measured : (a : Ty) (d f : Term) → Typed globs c l (ty.Distr a) d → Typed globs (within c (value a) None) l ty.Bool f → Typed globs c l ty.Real (node head.Mu (d ∷ f ∷ []) ty.Real)
  measured a d f m n = record {
    made = made_node c head.Mu (distributions a ∷ ty.Bool ∷ []) (d ∷ f ∷ []) ty.Real (with_globs globs a (outcome_finite globs a m.type), refl, refl) tt [] ((drawn_by a d m).made, n.made);
    type = tt;
    plain = λ p. plain_node head.Mu (d ∷ f ∷ []) ty.Real tt (m.plain p, (n.plain p, tt));
    apart = apart_node globs head.Mu (d ∷ f ∷ []) ty.Real tt (m.apart, (n.apart, tt));
  }

  pub summed : (q : ℕ) (r : Term) → 0 < q → Typed globs (within c (index q) None) l ty.Real r → Typed globs c l ty.Real (node (head.Sum q) (r ∷ []) ty.Real)
  summed q r h m = record {
    made = made_node c (head.Sum q) (ty.Real ∷ []) (r ∷ []) ty.Real (h, (refl, (refl, tt))) tt [] m.made;
    type = tt;
    plain = λ p. plain_node (head.Sum q) (r ∷ []) ty.Real tt (m.plain p, tt);
    apart = apart_node globs (head.Sum q) (r ∷ []) ty.Real tt (m.apart, tt);
  }

  -- images and restrictions of a distribution
  pub imaged : (a b : Ty) (d f : Term) → Typed globs c l (ty.Distr a) d → IsFiniteIn globs b → Typed globs (within c (value a) None) l b f →
      Typed globs c l (ty.Distr b) (node head.Map (d ∷ f ∷ []) (ty.Distr b))
  imaged a b d f m h n = record {
    made = made_node c head.Map (distributions a ∷ b ∷ []) (d ∷ f ∷ []) (ty.Distr b) (with_globs globs a (outcome_finite globs a m.type), with_globs globs b h, distribution_is b) tt [] ((drawn_by a d m).made, n.made);
    type = drawn_form globs b h;
    plain = λ p. plain_node head.Map (d ∷ f ∷ []) (ty.Distr b) tt (m.plain p, (n.plain p, tt));
    apart = apart_node globs head.Map (d ∷ f ∷ []) (ty.Distr b) tt (m.apart, (n.apart, tt));
  }

  pub restricted : (a : Ty) (d f : Term) → Typed globs c l (ty.Distr a) d → Typed globs (within c (value a) None) l ty.Bool f →
      Typed globs c l (ty.Distr a) (node head.Restrict (d ∷ f ∷ []) (ty.Distr a))
  restricted a d f m n = record {
    made =
        made_node c head.Restrict (distributions a ∷ ty.Bool ∷ []) (d ∷ f ∷ []) (ty.Distr a)
        (is_drawn a (with_globs globs a (outcome_finite globs a m.type)), sym (distribution_is a), refl) tt [] ((drawn_by a d m).made, n.made);
    type = m.type;
    plain = λ p. plain_node head.Restrict (d ∷ f ∷ []) (ty.Distr a) tt (m.plain p, (n.plain p, tt));
    apart = apart_node globs head.Restrict (d ∷ f ∷ []) (ty.Distr a) tt (m.apart, (n.apart, tt));
  }

  -- quantifiers over values
  pub for_all : (a : Ty) (f : Term) → IsFiniteIn globs a → Typed globs (within c (value a) None) l ty.Bool f → Typed globs c l ty.Bool (node (head.All a) (f ∷ []) ty.Bool)
  for_all a f h m = record {
    made = made_node c (head.All a) (ty.Bool ∷ []) (f ∷ []) ty.Bool (with_globs globs a h, (refl, (refl, tt))) tt [] m.made;
    type = tt;
    plain = λ p. plain_node (head.All a) (f ∷ []) ty.Bool tt (m.plain p, tt);
    apart = apart_node globs (head.All a) (f ∷ []) ty.Bool (form_names globs a (finite_form globs a h)) (m.apart, tt);
  }

  pub for_some : (a : Ty) (f : Term) → IsFiniteIn globs a → Typed globs (within c (value a) None) l ty.Bool f → Typed globs c l ty.Bool (node (head.Some a) (f ∷ []) ty.Bool)
  for_some a f h m = record {
    made = made_node c (head.Some a) (ty.Bool ∷ []) (f ∷ []) ty.Bool (with_globs globs a h, (refl, (refl, tt))) tt [] m.made;
    type = tt;
    plain = λ p. plain_node (head.Some a) (f ∷ []) ty.Bool tt (m.plain p, tt);
    apart = apart_node globs (head.Some a) (f ∷ []) ty.Bool (form_names globs a (finite_form globs a h)) (m.apart, tt);
  }

-- Quantifiers over memories, which have locals; they stand where judgments may stand.
module _ {globs : Name → Bool} (c : Context) (l : Language) (judges : has_judgments l ≡ true) (ls : List TypedName) where
  pub for_all_memories : (f : Term) → Typed globs (within c memory (Some ls)) l ty.Bool f → Typed globs c l ty.Bool (node head.AllMemory (f ∷ []) ty.Bool)
  for_all_memories f m = record {
    made = made_node c head.AllMemory (ty.Bool ∷ []) (f ∷ []) ty.Bool (refl, (refl, tt)) tt ls m.made;
    type = tt;
    plain = λ p. absurd (false≢true (sym p ∙ judges));
    apart = apart_node globs head.AllMemory (f ∷ []) ty.Bool tt (m.apart, tt);
  }

  pub for_some_memory : (f : Term) → Typed globs (within c memory (Some ls)) l ty.Bool f → Typed globs c l ty.Bool (node head.SomeMemory (f ∷ []) ty.Bool)
  for_some_memory f m = record {
    made = made_node c head.SomeMemory (ty.Bool ∷ []) (f ∷ []) ty.Bool (refl, (refl, tt)) tt ls m.made;
    type = tt;
    plain = λ p. absurd (false≢true (sym p ∙ judges));
    apart = apart_node globs head.SomeMemory (f ∷ []) ty.Bool tt (m.apart, tt);
  }
