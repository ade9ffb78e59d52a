-- What an operator of a script comes to is what it means.
use Rattle.std.proofs.Common.{◌≡◌, ℕ, zero, suc, List, [], ◌∷◌, ◌++◌, map, reverse, Option, Some, None, refl, sym, subst}
use Rattle.std.proofs.lemmas.List.{reverse-append}
use Rattle.gb_terms.specs.declared.term.Term.{Term, Term', Row_of-Term, end_of-Term, more_of-Term, end_of-Head, more_of-Head}
use Rattle.gb_terms.specs.declared.term.Head.{Head}
use Rattle.gb_terms.specs.declared.term.Head.TheVariants as head
use Rattle.gb_terms.specs.declared.op.Side.TheVariants as side
use Rattle.gb_terms.specs.declared.op.Read.TheVariants.{Logical, Program}
use Rattle.gb_core.specs.declared.ty.Ty.{Ty}
use Rattle.gb_goal.specs.Scope.{Declarations}
use Rattle.gb_meaning.specs.Names.{Name}
use Rattle.gb_meaning.specs.Setting.{Meaning, Setting}
use Rattle.gb_meaning.specs.Values.{Types}
use Rattle.gb_meaning.specs.State.{State, Binding, closed}
use Rattle.gb_meaning.specs.State.Binding.{value}
use Rattle.gb_meaning.specs.Terms.{Part, parts, quiet, val}
use Rattle.gb_laws.specs.Plain.{IsPlain, AllPlain, HeadIsPlain}
use Rattle.gb_labels.proofs.Memories.{all_apart}
use Rattle.gb_eval.specs.declared.env.Bound.{Bound}
use Rattle.gb_eval.specs.Script.{body_named, made_of}
use Rattle.gb_eval.specs.Findings.{Operators, no_operator}
use Rattle.gb_eval.specs.Totals.{total_of}
use Rattle.gb_eval.specs.Eval as ev
use Rattle.gb_eval.specs.Eval.{Environment, eval, eval_all, function_of, operators_at}
use Rattle.gb_eval.specs.Meant.{Means, BindsOne, Binds, AreMeant, IsDenominator, IsOperator, AreOperators, is_judged_at, AreJudged, AllJudged, IsBody, AreBodies}
use Rattle.gb_eval.proofs.Served.{Serves, IsServed, AllServed}
use Rattle.gb_eval.proofs.Sound.{served_sound, total_sound}
use mathlib.Core.Former.{Count}

-- Arguments, bound the last one first.

module _ (t : Types) where
  abbrev EachBinds : List Binding → List Bound → Type 0
  EachBinds [] [] = Unit {0}
  EachBinds (x ∷ xs) (b ∷ bs) = BindsOne t x b × EachBinds xs bs
  EachBinds _ _ = ⊥

  both_bind : (xs ys : List Binding) (bs cs : List Bound) → EachBinds xs bs → EachBinds ys cs → EachBinds (xs ++ ys) (bs ++ cs)
  both_bind [] ys [] cs w k = k
  both_bind [] ys (b ∷ bs) cs w k = absurd w
  both_bind (x ∷ xs) ys [] cs w k = absurd w
  both_bind (x ∷ xs) ys (b ∷ bs) cs w k = (w.0, both_bind xs ys bs cs w.1 k)

  all_bind : (xs : List Binding) (bs : List Bound) → EachBinds xs bs → Binds t xs bs
  all_bind [] [] w = tt
  all_bind [] (b ∷ bs) w = absurd w
  all_bind (x ∷ xs) [] w = tt
  all_bind (x ∷ xs) (b ∷ bs) w = (w.0, all_bind xs bs w.1)

  reversed : (bs : List Bound) (ms : List Meaning) → AreMeant bs ms → EachBinds (reverse (map value ms)) (reverse bs)
  reversed [] [] w = tt
  reversed [] (m ∷ ms) w = absurd w
  reversed (b ∷ bs) [] w = absurd w
  reversed (b ∷ bs) (m ∷ ms) w =
      subst (λ xs. EachBinds xs (reverse (b ∷ bs))) (sym (reverse-append (value m ∷ []) (map value ms)))
      (subst (EachBinds (reverse (map value ms) ++ value m ∷ [])) (sym (reverse-append (b ∷ []) bs))
      (both_bind (reverse (map value ms)) (value m ∷ []) (reverse bs) (b ∷ []) (reversed bs ms w.1) (w.0, tt)))

-- A plain term quantifies over no memory. Where no read has a value, none is asked to mean it.

module _ (g : Setting) where
  plain_here : (h : Head) (t : Term) (xs : List Part) → HeadIsPlain h → is_judged_at g quiet t h xs
  plain_here head.AllMemory t xs e = absurd e
  plain_here head.SomeMemory t xs e = absurd e
  plain_here _ t xs e = tt

  mutual
    plain_judged : (t : Term) → IsPlain t → AreJudged g quiet t
    plain_judged (Term' p (more_of-Head h end_of-Head) n ts ty) e = (plain_here h (Term' p (more_of-Head h end_of-Head) n ts ty) (parts g quiet ts) e.0, all_plain_judged ts e.1)

    all_plain_judged : {n : Count} (ts : Row_of-Term n) → AllPlain ts → AllJudged g quiet ts
    all_plain_judged end_of-Term e = tt
    all_plain_judged (more_of-Term t ts) e = (plain_judged t e.0, all_plain_judged ts e.1)

  module _ (s : State) (ops : Operators) where
    abbrev inside : Environment
    inside = record { operators = ops; reads = []; exclusions = [] }

    plain_at : (h : Head) (xs : List ev.Part) (ty : Ty) → HeadIsPlain h → Serves g s inside h xs ty
    plain_at (head.Read (Logical i)) xs ty e = tt
    plain_at (head.Read (Program x side.Own)) xs ty e = tt
    plain_at (head.Read (Program x side.Left)) xs ty e = tt
    plain_at (head.Read (Program x side.Right)) xs ty e = tt
    plain_at (head.Read (Program x (side.Memory i))) xs ty e = tt
    plain_at (head.Read (Program x (side.Bound i))) xs ty e = tt
    plain_at head.AllMemory xs ty e = absurd e
    plain_at head.SomeMemory xs ty e = absurd e
    plain_at _ xs ty e = tt

    mutual
      plain_served : (t : Term) → IsPlain t → IsServed g s inside t
      plain_served (Term' p (more_of-Head h end_of-Head) n ts ty) e = (plain_at h (eval_all inside ts) ty e.0, all_plain_served ts e.1)

      all_plain_served : {n : Count} (r : Row_of-Term n) → AllPlain r → AllServed g s inside r
      all_plain_served end_of-Term e = tt
      all_plain_served (more_of-Term t r) e = (plain_served t e.0, all_plain_served r e.1)

module _ (g : Setting) (ds : Declarations) (bodies : AreBodies g ds) where
  module _ (ops : Operators) (known : AreOperators g ops) where
    abbrev here : Environment
    here = record { operators = ops; reads = []; exclusions = [] }

    body_sound : (n : Name) (t : Term) → IsBody g n t → IsOperator (function_of ops t) (g.operator n) (g.denominator n)
    body_sound n t w = record {
      results = λ bs ms k.
          let s : State = record closed { bound = reverse (map value ms) } in
          subst (λ m. Means (eval here t (reverse bs)) m (g.denominator n)) (sym (w.result ms))
          (subst (Means (eval here t (reverse bs)) (val g quiet t s)) (sym w.total)
          (served_sound g quiet s here t (reverse bs) known (all_apart g.types) (plain_served g s ops t w.plain) (plain_judged g t w.plain) (all_bind g.types (reverse (map value ms)) (reverse bs) (reversed g.types bs ms k))));
      total = subst (IsDenominator (total_of ops t)) (sym w.total) (total_sound g closed here t known (all_apart g.types) (plain_served g closed ops t w.plain) (plain_judged g t w.plain));
    }

    opened_sound : (n : Name) (o : Option Term) → body_named ds n ≡ o → IsOperator (made_of no_operator (function_of ops) o) (g.operator n) (g.denominator n)
    opened_sound n None e = record { results = λ bs ms k. tt; total = tt }
    opened_sound n (Some t) e = body_sound n t (bodies n t e)

  pub operators_sound : (k : ℕ) → AreOperators g (operators_at ds k)
  operators_sound zero n = record { results = λ bs ms k. tt; total = tt }
  operators_sound (suc k) n = opened_sound (operators_at ds k) (operators_sound k) n (body_named ds n) refl
