-- The test whether two probabilities are of one procedure, with the same arguments and from one memory.
use Rattle.std.proofs.Common.{◌≡◌, Bool, true, false, IsTrue, List, [], ◌∷◌, ◌++◌, refl, ap, sym, ◌∙◌}
use Rattle.std.proofs.lemmas.Bool.{false≢true}
use Rattle.std.specs.Prelude.{◌↔◌}
use Rattle.gb_core.specs.declared.ty.Ty.TheVariants as ty
use Rattle.gb_terms.specs.declared.module.ProcRef.{ProcRef}
use Rattle.gb_terms.specs.declared.op.Side.{Side}
use Rattle.gb_terms.specs.declared.term.Head.{Head}
use Rattle.gb_terms.specs.declared.term.Head.TheVariants as head
use Rattle.gb_terms.specs.declared.term.Term.{Term, out-Term}
use Rattle.gb_terms.specs.Make.{truth_literal}
use Rattle.gb_meaning.proofs.SameTerms.{same_terms}
use Rattle.gb_typing.proofs.Shapes.{node_out}
use Rattle.gb_steps.specs.Chances.{Chance, before_last}
use Rattle.gb_prog.specs.Same.{is_yes, is_same}
use Rattle.gb_pr.specs.ByEvents.{ending, same_start}

by_decision : {A : Type 0} (b : Bool) (d : Dec A) → (IsTrue b ↔ A) → b ≡ is_yes d
by_decision true (yes p) h = refl
by_decision false (yes p) h = absurd (false≢true (h.1 p))
by_decision true (no n) h = absurd (n (h.0 refl))
by_decision false (no n) h = refl

-- the test of terms
pub same_is : (a b : Term) (r : Bool) → (IsTrue r ↔ a ≡ b) → r ≡ is_same a b
unfolding is_same
same_is a b r h = by_decision r (same_terms a b) h

yes_is : {A : Type 0} (d : Dec A) → is_yes d ≡ true → A
yes_is (yes p) e = p
yes_is (no n) e = absurd (false≢true e)

are_one : (a b : Term) → is_same a b ≡ true → a ≡ b
unfolding is_same
are_one a b e = yes_is (same_terms a b) e

-- one procedure, with the same arguments and from one memory
pub record HaveOneStart (k l : Chance) : Type 0 where
  pub procedure : k.procedure ≡ l.procedure
  pub memory : k.memory ≡ l.memory
  pub arguments : k.arguments ≡ l.arguments

abbrev procedure_or : ProcRef → Head → ProcRef
procedure_or p (head.Pr q r) = q
procedure_or p h = p

abbrev memory_or : Side → Head → Side
memory_or m (head.Pr q r) = r
memory_or m h = m

abbrev all_but_last : List Term → List Term
all_but_last [] = []
all_but_last (t ∷ ts) = before_last t ts

last_taken : (es : List Term) (e : Term) → all_but_last (es ++ e ∷ []) ≡ es
last_taken [] e = refl
last_taken (a ∷ []) e = refl
last_taken (a ∷ b ∷ es) e = ap (λ z. a ∷ z) (last_taken (b ∷ es) e)

module _ (k l : Chance) where
  abbrev certain : Term
  certain = truth_literal true

  one_ending : ending k ≡ ending l → HaveOneStart k l
  one_ending e =
      let out = sym (node_out (head.Pr k.procedure k.memory) (k.arguments ++ certain ∷ []) ty.Real) ∙ ap out-Term e ∙ node_out (head.Pr l.procedure l.memory) (l.arguments ++ certain ∷ []) ty.Real in
      record {
        procedure = ap (λ z. procedure_or k.procedure z.head) out;
        memory = ap (λ z. memory_or k.memory z.head) out;
        arguments = sym (last_taken k.arguments certain) ∙ ap (λ z. all_but_last z.args) out ∙ last_taken l.arguments certain;
      }

  pub one_start : same_start k l ≡ true → HaveOneStart k l
  one_start e = one_ending (are_one (ending k) (ending l) e)
