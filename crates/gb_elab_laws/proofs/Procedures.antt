-- Typed forms judge procedures, and no bodies.
use Rattle.std.proofs.Common.{◌≡◌, false, refl, ap, ◌∙◌}
use Rattle.gb_terms.specs.declared.term.Term.{Term, Term', end_of-Head, more_of-Head, out-Term}
use Rattle.gb_terms.specs.declared.term.Head.TheVariants as head
use Rattle.gb_terms.specs.declared.term.Head.TheVariants.{Proc, Body'}
use Rattle.gb_terms.specs.declared.term.Subject.{out-Subject}
use Rattle.gb_terms.specs.declared.module.ProcRef.{ProcRef}
use Rattle.gb_goal.specs.Goal.{is_body_at, judges_bodies}
use Rattle.gb_meaning.specs.Names.{Name}
use Rattle.gb_laws.proofs.Trees.{out_is}
use Rattle.gb_typing.specs.Context.{Context}
use Rattle.gb_typing.specs.Typing.{IsTyped}
use Rattle.gb_elab_laws.specs.Speaking.{BodiesSpeak}

pub bodies_speak : (P : Name → Type 0) (c : Context) (f : Term) → IsTyped c f → BodiesSpeak P f
bodies_speak P c (Term' p (more_of-Head (head.Hoare (Proc r)) end_of-Head) n ts t) w = tt
bodies_speak P c (Term' p (more_of-Head (head.Hoare (Body' k is)) end_of-Head) n ts t) w = absurd w.1
bodies_speak P c (Term' p (more_of-Head (head.Phoare (Proc r) o) end_of-Head) n ts t) w = tt
bodies_speak P c (Term' p (more_of-Head (head.Phoare (Body' k is) o) end_of-Head) n ts t) w = absurd w.1
bodies_speak P c (Term' p (more_of-Head (head.Equiv (Proc r) (Proc s)) end_of-Head) n ts t) w = (tt, tt)
bodies_speak P c (Term' p (more_of-Head (head.Equiv (Proc r) (Body' l js)) end_of-Head) n ts t) w = absurd w.1.1
bodies_speak P c (Term' p (more_of-Head (head.Equiv (Body' k is) s) end_of-Head) n ts t) w = absurd w.1.0
bodies_speak P c (Term' p (more_of-Head h end_of-Head) n ts t) w = tt

of_procedure : (r : ProcRef) → is_body_at (out-Subject (Proc r)) ≡ false
unfolding out-Subject denote.Hole.Carrier.out
of_procedure r = refl

pub judges_procedures : (c : Context) (f : Term) → IsTyped c f → judges_bodies (out-Term f).head ≡ false
judges_procedures c (Term' tt (more_of-Head (head.Hoare (Proc r)) end_of-Head) n ts t) w = ap (λ x. judges_bodies x.head) (out_is (head.Hoare (Proc r)) n ts t) ∙ of_procedure r
judges_procedures c (Term' tt (more_of-Head (head.Hoare (Body' k is)) end_of-Head) n ts t) w = absurd w.1
judges_procedures c (Term' tt (more_of-Head (head.Phoare (Proc r) o) end_of-Head) n ts t) w = ap (λ x. judges_bodies x.head) (out_is (head.Phoare (Proc r) o) n ts t) ∙ of_procedure r
judges_procedures c (Term' tt (more_of-Head (head.Phoare (Body' k is) o) end_of-Head) n ts t) w = absurd w.1
judges_procedures c (Term' tt (more_of-Head (head.Equiv (Proc r) s) end_of-Head) n ts t) w = ap (λ x. judges_bodies x.head) (out_is (head.Equiv (Proc r) s) n ts t) ∙ of_procedure r
judges_procedures c (Term' tt (more_of-Head (head.Equiv (Body' k is) s) end_of-Head) n ts t) w = absurd w.1.0
judges_procedures c (Term' tt (more_of-Head h end_of-Head) n ts t) w = ap (λ x. judges_bodies x.head) (out_is h n ts t)
