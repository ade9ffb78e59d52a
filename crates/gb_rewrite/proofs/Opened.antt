-- An operator that is unfolded keeps types and meanings, where it means its body.
use Rattle.std.proofs.Common.{◌≡◌, false, if◌then◌else◌, List, map, refl, ap, ◌∙◌, subst}
use Rattle.gb_core.specs.declared.ty.Ty.TheVariants as ty
use Rattle.gb_terms.specs.declared.term.Term.{Term}
use Rattle.gb_terms.specs.declared.term.Head.{Head}
use Rattle.gb_terms.specs.declared.term.Head.TheVariants as head
use Rattle.gb_terms.specs.declared.term.Head.TheViews.{out-roll-Term}
use Rattle.gb_terms.specs.Make.{node}
use Rattle.gb_walk.specs.Change.{term_changed}
use Rattle.gb_meaning.specs.Names.{Name}
use Rattle.gb_meaning.specs.Setting.{Setting}
use Rattle.gb_meaning.specs.State.{State}
use Rattle.gb_meaning.specs.Terms.{val}
use Rattle.gb_meaning.specs.Judgments.{Judge, speaking}
use Rattle.gb_typing.specs.Context.{Context}
use Rattle.gb_typing.proofs.Formed.{formed}
use Rattle.gb_typing.proofs.Sound.{Procedures, sound_form}
use Rattle.gb_typing.specs.Rules.{outermost}
use Rattle.gb_eval.specs.Meant.{IsBody}
use Rattle.gb_smt_laws.proofs.Alike.{alike_of}
use Rattle.gb_forms.specs.Arguments.{in_places}
use Rattle.gb_rewrite.specs.Unfolded.{is_operator, unfolded}
use Rattle.gb_rewrite.proofs.Applied.{unfolded_made}
use Rattle.gb_rewrite.proofs.Layers.{unfolded_out}
use Rattle.gb_rewrite.proofs.Moved.{IsJudgment, Preserves}
use Rattle.gb_rewrite.proofs.Opens.{opens}
use Rattle.gb_rewrite.proofs.Placed.{IsLike, around}
use Rattle.gb_rewrite.proofs.Standing.{IsStanding}

module _ (x : Name) where
  no_operator : (h : Head) → IsJudgment h → is_operator x h ≡ false
  no_operator (head.User n) is = absurd is
  no_operator _ is = refl

  judgment_unfolded : (b : Term) (h : Head) (ts : List Term) → IsJudgment h → unfolded x b (node h ts ty.Bool) ≡ node h (map (unfolded x b) ts) ty.Bool
  judgment_unfolded b h ts is =
      unfolded_out x b (node h ts ty.Bool)
      ∙ ap (λ y. if is_operator x y.head then term_changed b (in_places (map (unfolded x b) y.args)) else node y.head (map (unfolded x b) y.args) y.ty)
      (out-roll-Term (record { head = h; args = ts; ty = ty.Bool }))
      ∙ ap (λ z. if z then term_changed b (in_places (map (unfolded x b) ts)) else node h (map (unfolded x b) ts) ty.Bool) (no_operator h is)

  -- settings in which the operator means its body
  abbrev pub MeansBody : Term → Setting → Judge → State → Type 0
  MeansBody b g j s = IsBody g x b

  pub opened : (o : Context) (b : Term) → IsStanding (outermost o) x b → Preserves o (unfolded x b) (MeansBody b)
  opened o b s = record {
    made = λ d i t w. unfolded_made o x b s d i t w;
    deep = λ g fits j fair q e d i k t w.
        let m = unfolded_made o x b s d i t w in
        let a = opens o x b s g (subst (Procedures g) i k) e j fair (IsLike q) (around q) d i t w (formed d t w) (sound_form g d k t w) in
        record {
          new = m.typed;
          old = w;
          written = m.written;
          alike = λ r y. alike_of (val g (speaking g j) (unfolded x b t) r) (val g (speaking g j) t r) (a.0 r y.like);
          denominator = a.1;
        };
    judgment = λ h ts is untyped. judgment_unfolded b h ts is;
  }
