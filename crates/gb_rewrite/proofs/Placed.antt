-- A term of a goal means the same wherever it stands in the forms of the goal.
use Rattle.std.proofs.Common.{◌≡◌, ap}
use Rattle.std.proofs.lemmas.Bool.{false≢true}
use Rattle.gb_terms.specs.declared.op.Side.TheVariants as side
use Rattle.gb_terms.specs.declared.op.Read.TheVariants.{Logical, Program}
use Rattle.gb_terms.specs.declared.term.Term.{Term}
use Rattle.gb_meaning.specs.Memory.{read}
use Rattle.gb_meaning.specs.Setting.{Setting}
use Rattle.gb_meaning.specs.Setting.Meaning.{finite}
use Rattle.gb_meaning.specs.State.{State}
use Rattle.gb_meaning.specs.Terms.{val, denominator}
use Rattle.gb_meaning.specs.Judgments.{Judge, IsFair, speaking}
use Rattle.gb_meaning.specs.Written.{type_of}
use Rattle.gb_laws.specs.Agree.{Agree}
use Rattle.gb_laws.specs.Uses.Use.{read as reads, bound, globals, starts, binds_own, binds_sides}
use Rattle.gb_laws.proofs.Agreeing.{form_agrees}
use Rattle.gb_laws.specs.Operators.{IsNoDistribution}
use Rattle.gb_laws.proofs.Denominators.{denominator_one}
use Rattle.gb_typing.specs.Context.{Context, erased}
use Rattle.gb_typing.specs.Typing.{IsTyped}
use Rattle.gb_typing.specs.Fits.{IsSettingOf}
use Rattle.gb_typing.proofs.Erased.{erased_typed}
use Rattle.gb_typing.proofs.Formed.{formed}
use Rattle.gb_typing.proofs.Sound.{procedures_sound, sound_form}
use Rattle.gb_typing.proofs.Uses.{uses_of, uses_typed}
use Rattle.gb_typing.specs.Rules.{outermost}
use Rattle.gb_amb.proofs.States.{not_in}
use Rattle.gb_rewrite.proofs.Means.{Around}

-- a state with the variables and the named memories of another one
abbrev pub IsLike : State → State → Type 0
IsLike q s = (s.logical ≡ q.logical) × (s.named ≡ q.named)

pub around : (q : State) → Around (IsLike q)
around q = record { binder = λ s x p. p; memory = λ s m p. p; memories = λ s m n p. p }

module _ (o : Context) (g : Setting) (fits : IsSettingOf (outermost o) g) (q : State) where
  abbrev c : Context
  c = outermost o

  agree : (s : State) → IsLike q s → Agree g (uses_of c) s q
  agree s p (reads (Logical i) t) k = ap (λ f. f i) p.0
  agree s p (reads (Program x side.Own) t) k = absurd (not_in c x t k)
  agree s p (reads (Program x side.Left) t) k = absurd (not_in c x t k)
  agree s p (reads (Program x side.Right) t) k = absurd (not_in c x t k)
  agree s p (reads (Program x (side.Memory i)) t) k = ap (λ f. finite (read g.types (f i) x t)) p.1
  agree s p (reads (Program x (side.Bound i)) t) k = absurd (not_in c x t k)
  agree s p (bound i) k = absurd (false≢true k)
  agree s p (globals x r) k = absurd (false≢true k)
  agree s p (starts side.Own) k = absurd (false≢true k)
  agree s p (starts side.Left) k = absurd (false≢true k)
  agree s p (starts side.Right) k = absurd (false≢true k)
  agree s p (starts (side.Memory i)) k = ap (λ f. f i) p.1
  agree s p (starts (side.Bound i)) k = absurd (false≢true k)
  agree s p binds_own k = tt
  agree s p binds_sides k = tt

  module _ (j : Judge) (fair : IsFair g j) where
    -- a term of the goal means the same inside of binders
    pub everywhere : (x : Term) → IsTyped c x → (s : State) → IsLike q s → val g (speaking g j) x s ≡ val g (speaking g j) x q
    everywhere x w s p = form_agrees g j fair x (formed c x w) (sound_form g c (procedures_sound c g fits) x w) (uses_of c) s q (agree s p) (uses_typed c x w)

    pub one : (x : Term) → IsTyped c x → IsNoDistribution (type_of x) → denominator g x ≡ 1
    one x w n = denominator_one g (erased c) x (erased_typed c x w) n
