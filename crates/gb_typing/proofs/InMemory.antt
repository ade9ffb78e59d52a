-- A term of a program, read in a memory of a goal: typing and meaning.
use Rattle.std.proofs.Common.{◌≡◌, List, Some, refl, sym, ◌∙◌, subst}
use Rattle.gb_core.specs.declared.ty.Ty.TheVariants as ty
use Rattle.gb_terms.specs.declared.decl.TypedName.{TypedName}
use Rattle.gb_terms.specs.declared.op.Side.{Side}
use Rattle.gb_terms.specs.declared.op.Side.TheVariants as side
use Rattle.gb_terms.specs.declared.term.Term.{Term}
use Rattle.gb_meaning.specs.Memory.{Memory}
use Rattle.gb_meaning.specs.Setting.{Setting}
use Rattle.gb_meaning.specs.State.{State, inside, memory_of}
use Rattle.gb_meaning.specs.Terms.{Speaks, quiet, val}
use Rattle.gb_meaning.specs.Setting.Meaning.{finite}
use Rattle.gb_meaning.specs.Meanings.{value_in}
use Rattle.gb_meaning.specs.Written.{type_of}
use Rattle.gb_laws.specs.Written.{IsSide}
use Rattle.gb_laws.specs.Plain.{IsPlain}
use Rattle.gb_laws.specs.Finite.{IsFinite}
use Rattle.gb_typing.specs.Context.{Context, Frame, frame_of, reframed, of_program}
use Rattle.gb_typing.specs.Typing.{IsTyped, IsForm}
use Rattle.gb_typing.specs.Programs.{IsExpression}
use Rattle.gb_typing.specs.Changes.{Made}
use Rattle.gb_typing.specs.Fits.{IsSettingOf}
use Rattle.gb_typing.proofs.Fitting.{fits_program, state_inside}
use Rattle.gb_typing.proofs.Substituted.{term_value}
use Rattle.gb_typing.proofs.Plain.{plain_changed}
use Rattle.gb_typing.proofs.Expressions.{expression_on, expression_own, own_value, side_value}
use Rattle.gb_typing.specs.Forms.{located}

pub located_plain : (r : Side) (e : Term) → IsPlain e → IsPlain (located r e)
located_plain side.Own e x = x
located_plain side.Left e x = plain_changed e _ (tt, tt) x
located_plain side.Right e x = plain_changed e _ (tt, tt) x
located_plain (side.Memory i) e x = plain_changed e _ (tt, tt) x
located_plain (side.Bound i) e x = plain_changed e _ (tt, tt) x

module _ (c : Context) (ls : List TypedName) (e : Term) (x : IsExpression c ls e) where
  pub located_typed : (F L K : Frame) (r : Side) → IsSide r → frame_of (reframed c F L K) r ≡ Some ls → Made (reframed c F L K) (type_of e) (located r e)
  located_typed F L K side.Own i frame = record { typed = subst (λ f. IsTyped (reframed c f L K) e) (sym frame) (expression_own c ls L K e x); written = refl }
  located_typed F L K side.Left i frame = expression_on c ls F L K side.Left frame tt e x
  located_typed F L K side.Right i frame = expression_on c ls F L K side.Right frame tt e x
  located_typed F L K (side.Memory n) i frame = absurd i
  located_typed F L K (side.Bound n) i frame = absurd i

  -- a test is a form
  pub test_typed : (F L K : Frame) (r : Side) → IsSide r → frame_of (reframed c F L K) r ≡ Some ls → type_of e ≡ ty.Bool → IsForm (reframed c F L K) (located r e)
  test_typed F L K r i frame b = let m = located_typed F L K r i frame in record { typed = m.typed; truth = m.written ∙ b }

  -- its value is that in the program
  pub located_value : (g : Setting) (j : Speaks) (s : State) (r : Side) → IsSide r → val g j (located r e) s ≡ val g quiet e (inside s (memory_of s r))
  located_value g j s side.Own i = own_value c ls g j e x s s.own
  located_value g j s side.Left i = side_value c ls g j e x s side.Left
  located_value g j s side.Right i = side_value c ls g j e x s side.Right
  located_value g j s (side.Memory n) i = absurd i
  located_value g j s (side.Bound n) i = absurd i

  -- an expression that has a value, and its value in the program
  pub expression_value : (g : Setting) → IsSettingOf c g → IsFinite (type_of e) → (s : State) (m : Memory) → val g quiet e (inside s m) ≡ finite (value_in (val g quiet e (inside s m)))
  expression_value g fits n s m = term_value (of_program c ls) g (fits_program c g fits ls) e x.typed n (inside s m) (state_inside c g ls s m)
