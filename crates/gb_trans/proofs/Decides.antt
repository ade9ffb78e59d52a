-- Before and after `rcondt` and `rcondf` a body runs alike from where the guard is so where its statement stands.
use Rattle.std.proofs.Common.{◌≡◌, ℕ, ◌*◌, Bool, List, [], ◌∷◌, ◌++◌, Some, ap, sym, ◌∙◌, subst}
use Rattle.gb_dist.specs.WeightedList.{Every, bit, weight}
use Rattle.gb_dist.proofs.Entries.{Every-weaken}
use Rattle.gb_terms.specs.declared.decl.TypedName.{TypedName}
use Rattle.gb_terms.specs.declared.term.Instr.{Instr, out-Instr}
use Rattle.gb_terms.specs.declared.term.Term.{Term}
use Rattle.gb_meaning.specs.Commands.{statements}
use Rattle.gb_meaning.specs.Judgments.{IsTrueUnder, Judge}
use Rattle.gb_meaning.specs.Meanings.{truth}
use Rattle.gb_meaning.specs.Memory.{Memory}
use Rattle.gb_meaning.specs.Setting.{Setting}
use Rattle.gb_meaning.specs.State.{State, at}
use Rattle.gb_goal.specs.Goal.Code.{body}
use Rattle.gb_goal.specs.Goal.Goal.{hoare}
use Rattle.gb_meaning.specs.Holds.{LoopsAreGood}
use Rattle.gb_typing.specs.Context.{Context}
use Rattle.gb_typing.specs.Fits.{IsSettingOf}
use Rattle.gb_typing.specs.Meaning.{Stands, denominator, run}
use Rattle.gb_typing.specs.Programs.{EachStatement, IsBody}
use Rattle.gb_typing.proofs.Anywhere.{value_anywhere}
use Rattle.gb_typing.proofs.RunsAnywhere.{run_anywhere}
use Rattle.gb_prog.proofs.Own.{Good, good_append}
use Rattle.gb_trans.specs.Places.{At, statement_at}
use Rattle.gb_trans.proofs.Placed.{placed, whole}
use Rattle.gb_forms.specs.Decided.{deciding}
use Rattle.gb_trans.specs.Decided.{Decision, decision}
use Rattle.gb_trans.proofs.DecidedIsSound.{behind_alike, decided_is}
use Rattle.gb_trans.proofs.Deciding.{Decides, RunAlikeFrom, decided_by}
use Rattle.gb_trans.proofs.Shapes.{split_typed}

module _ (c : Context) (g : Setting) (fits : IsSettingOf c g) (u : Bool) (k : At) (d : Decision) (known : Decides c u k.statement d) (ls : List TypedName) (w : EachStatement c ls (whole k)) (good : Good g (whole k))
    (j : Judge) (p : Term) (s z : State) where
  alike : Stands g j z (hoare (body k.before) p (deciding u d.guard)) → (m : Memory) → IsTrueUnder g j p (at z m) → RunAlikeFrom g s m (statements g (k.before ++ (d.left ++ k.rest))) (statements g (whole k))
  alike holds m h =
      let x = split_typed c ls k.before (k.statement ∷ k.rest) w in
      let y = (good_append g (k.statement ∷ []) k.rest).0 ((good_append g k.before (k.statement ∷ k.rest)).0 good).1 in
      let e = (known.typed ls x.1.0).0 in
      behind_alike g s k.before d.left (k.statement ∷ []) k.rest m
      (subst (λ l. Every (λ n. RunAlikeFrom g s n (statements g d.left) (statements g (k.statement ∷ []))) l) (run_anywhere g c ls g k.before x.0 z s m)
      (Every-weaken {P = λ n. IsTrueUnder g j (deciding u d.guard) (at z n)} (run g z k.before m)
      (λ n v f. sym (known.alike ls x.1.0 g fits y.0 s n (ap truth (value_anywhere c ls d.guard e.0 g s z n) ∙ decided_is [] c u ls d.guard e.0 e.1 u g j z n v) f)) (holds m h)))

pub same_events : (c : Context) (g : Setting) → IsSettingOf c g → (n : ℕ) (t : Bool) (k : At) (d : Decision) (is : List Instr) → statement_at n is ≡ Some k → decision t k.statement (out-Instr k.statement) ≡ Some d →
    (ls : List TypedName) → IsBody c ls is → LoopsAreGood g (statements g is) → (j : Judge) (p : Term) (s z : State) → Stands g j z (hoare (body k.before) p (deciding t d.guard)) →
    (m : Memory) → IsTrueUnder g j p (at z m) → (event : Memory → Bool) →
    weight (run g s (k.before ++ (d.left ++ k.rest)) m) event * denominator g is ≡ weight (run g s is m) event * denominator g (k.before ++ (d.left ++ k.rest))
same_events c g fits n t k d is there decides ls w good j p s z holds m h event =
    let i : whole k ≡ is = placed n is k there in
    let js = k.before ++ (d.left ++ k.rest) in
    subst (λ is. weight (run g s js m) event * denominator g is ≡ weight (run g s is m) event * denominator g js) i
    (alike c g fits t k d (decided_by c k.statement t d decides) ls (subst (EachStatement c ls) (sym i) w.statements) (subst (Good g) (sym i) good) j p s z holds m h (λ n. bit (event n)))
