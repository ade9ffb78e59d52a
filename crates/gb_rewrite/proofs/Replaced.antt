-- One term in place of another one that means the same keeps types and meanings.
use Rattle.std.proofs.Common.{◌≡◌, Bool, true, false, if◌then◌else◌, List, map, refl, ap, sym, ◌∙◌, subst}
use Rattle.gb_core.specs.declared.ty.Ty.TheVariants as ty
use Rattle.gb_terms.specs.declared.term.Term.{Term}
use Rattle.gb_terms.specs.declared.term.Head.{Head}
use Rattle.gb_terms.specs.declared.term.Head.TheVariants as head
use Rattle.gb_terms.specs.declared.term.Head.TheViews.{out-roll-Term}
use Rattle.gb_terms.specs.Make.{node}
use Rattle.gb_meaning.specs.Setting.{Setting}
use Rattle.gb_meaning.specs.State.{State}
use Rattle.gb_meaning.specs.Terms.{val}
use Rattle.gb_meaning.specs.Judgments.{Judge, speaking}
use Rattle.gb_typing.specs.Context.{Context}
use Rattle.gb_typing.specs.Typing.{IsTyped}
use Rattle.gb_typing.proofs.Sound.{sound_form}
use Rattle.gb_typing.specs.Rules.{outermost}
use Rattle.gb_smt_laws.specs.Alike.{Alike, RespectAlike}
use Rattle.gb_steps.specs.First.{is_quotient}
use Rattle.gb_prog.specs.Same.{is_same}
use Rattle.gb_rewrite.specs.Rewritten.{rewritten, list_rewritten}
use Rattle.gb_rewrite.proofs.Kept.{rewritten_made}
use Rattle.gb_rewrite.proofs.Moved.{IsJudgment, Preserves}
use Rattle.gb_rewrite.proofs.Parts.{rewritten_out}
use Rattle.gb_rewrite.proofs.Reals.{deep}
use Rattle.gb_rewrite.proofs.Same.{are_one}
use Rattle.gb_rewrite.proofs.Sides.{AreSides}

-- Settings and states in which two terms mean the same, and operators of the script give the same from the same.
abbrev pub AreEqual : Context → Term → Term → Setting → Judge → State → Type 0
AreEqual c a b g j s = RespectAlike c g × Alike (val g (speaking g j) a s) (val g (speaking g j) b s)

no_quotient : (h : Head) → IsJudgment h → is_quotient h ≡ false
no_quotient (head.Builtin o) is = absurd is
no_quotient _ is = refl

module _ (o : Context) (a b : Term) (sides : AreSides (outermost o) a b) where
  judgment_moved : (h : Head) (ts : List Term) → IsJudgment h → (IsTyped (outermost o) (node h ts ty.Bool) → ⊥) → rewritten a b (node h ts ty.Bool) ≡ node h (map (rewritten a b) ts) ty.Bool
  judgment_moved h ts is untyped =
      rewritten_out a b (node h ts ty.Bool)
      ∙ ap (λ x. if is_same (node h ts ty.Bool) a then b else node x.head (list_rewritten a b (is_quotient x.head) x.args) x.ty) (out-roll-Term (record { head = h; args = ts; ty = ty.Bool }))
      ∙ other (is_same (node h ts ty.Bool) a) refl ∙ ap (λ q. node h (list_rewritten a b q ts) ty.Bool) (no_quotient h is)
    where
      other : (z : Bool) → is_same (node h ts ty.Bool) a ≡ z → (if z then b else node h (list_rewritten a b (is_quotient h) ts) ty.Bool) ≡ node h (list_rewritten a b (is_quotient h) ts) ty.Bool
      other true e = absurd (untyped (subst (IsTyped (outermost o)) (sym (are_one (node h ts ty.Bool) a e)) sides.left))
      other false e = refl

  pub replaced : Preserves o (rewritten a b) (AreEqual (outermost o) a b)
  replaced = record {
    made = λ d i t w. rewritten_made o a b sides.right sides.type d i t w;
    deep = λ g fits j fair s e d i k t w. deep o a b sides g fits j fair e.0 s e.1 d i t w (sound_form g d k t w);
    judgment = judgment_moved;
  }
