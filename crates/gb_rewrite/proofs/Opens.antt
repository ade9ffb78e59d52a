-- A term means the same with an operator unfolded.
use Rattle.std.proofs.Common.{◌≡◌, ℕ, ◌==◌, Bool, true, false, if◌then◌else◌, List, [], ◌∷◌, length, map, reverse, get_or, refl, ap, sym, ◌∙◌, subst}
use Rattle.std.proofs.lemmas.Bool.{false≢true}
use Rattle.std.proofs.lemmas.List.{length-map}
use Rattle.gb_core.specs.declared.ty.Ty.{Ty}
use Rattle.gb_core.specs.declared.ty.Ty.TheVariants as ty
use Rattle.gb_terms.specs.declared.term.Term.{Term, Term', Row_of-Term, end_of-Term, more_of-Term, end_of-Head, more_of-Head}
use Rattle.gb_terms.specs.declared.term.Head.{Head}
use Rattle.gb_terms.specs.declared.term.Head.TheVariants as head
use Rattle.gb_terms.specs.Make.{node}
use Rattle.gb_walk.specs.Change.{or_later, found_for_bound, term_changed}
use Rattle.gb_meaning.specs.Names.{Name}
use Rattle.gb_meaning.specs.Operators.{is_distribution}
use Rattle.gb_meaning.specs.Setting.{Meaning, Setting}
use Rattle.gb_meaning.specs.State.{State, closed, meaning_in}
use Rattle.gb_meaning.specs.State.Binding.{value as bind, program as nothing_bound}
use Rattle.gb_meaning.specs.Terms.{Speaks, val, part_of, denominator}
use Rattle.gb_meaning.specs.Judgments.{Judge, IsFair, speaking, IsSoundForm, AllSound}
use Rattle.gb_meaning.specs.Written.{type_of}
use Rattle.gb_meaning.proofs.Nodes.{val_node, denominator_node}
use Rattle.gb_laws.specs.Formed.{IsFormed, AllFormed}
use Rattle.gb_laws.specs.Led.{put}
use Rattle.gb_laws.proofs.Quiet.{plain_quiet}
use Rattle.gb_laws.specs.Operators.{IsNoDistribution}
use Rattle.gb_laws.specs.Typing.{types_of}
use Rattle.gb_laws.specs.Typing.Binder.{value, program}
use Rattle.gb_laws.proofs.Denominators.{denominator_one}
use Rattle.gb_typing.specs.Context.{Context, erased}
use Rattle.gb_typing.specs.Rules.{outermost}
use Rattle.gb_typing.specs.Scopes.{IsMeasured, AreMeasured, of_operator}
use Rattle.gb_typing.specs.Typing.{first, middle, last, IsTyped, AreTyped}
use Rattle.gb_typing.proofs.Erased.{erased_typed}
use Rattle.gb_typing.proofs.Formed.{formed}
use Rattle.gb_typing.proofs.Sound.{Procedures}
use Rattle.gb_typing.proofs.Uses.{is_value}
use Rattle.gb_eval.specs.Meant.{IsBody}
use Rattle.gb_forms.specs.Arguments.{in_places}
use Rattle.gb_rewrite.specs.Unfolded.{is_operator, unfolded, all_unfolded}
use Rattle.gb_rewrite.proofs.Applied.{from_last, ArePlaced, as_many, bound_alone, body_closed, IsApplied, application, parts_made}
use Rattle.gb_rewrite.proofs.Filled.{AreFit, filled_denominator, means_filled}
use Rattle.gb_rewrite.proofs.Kept.{IsInside, inside_first, inside_middle, inside_last}
use Rattle.gb_rewrite.proofs.Means.{Around, Alike, AllAlike, node_alike}
use Rattle.gb_rewrite.proofs.Standing.{IsStanding}
use mathlib.Core.Former.{Count}

-- types of distributions

no_distribution : (u : Ty) → is_distribution u ≡ false → IsNoDistribution u
no_distribution (ty.Distr' p x) e = absurd (false≢true (sym e))
no_distribution _ e = tt

measured_single : (u : Ty) → IsMeasured u → IsNoDistribution u
measured_single (ty.Distr' p x) w = w
measured_single _ w = tt

module _ (g : Setting) (j : Speaks) where
  abbrev values : List Term → State → List Meaning
  values us s = map (λ u. val g j u s) us

  -- the state in which a body is read at terms
  abbrev at_terms : List Term → State → State
  at_terms us s = record closed { bound = reverse (map bind (values us s)) }

  are_fit : (d : Context) (ps : List Ty) (us : List Term) → ArePlaced d ps us → AreMeasured ps → AreFit g d (in_places us)
  are_fit d [] [] w m = tt
  are_fit d [] (u ∷ us) w m = absurd w
  are_fit d (p ∷ ps) [] w m = absurd w
  are_fit d (p ∷ ps) (u ∷ us) w m =
      let single : IsNoDistribution (type_of u) = subst IsNoDistribution (sym w.0.written) (measured_single p m.0) in
      (record { typed = w.0.typed; denominator = denominator_one g (erased d) u (erased_typed d u w.0.typed) single }, are_fit d ps us w.1 m.1)

  -- a parameter is what the term in its place means
  met : (d : Context) (ps : List Ty) (us : List Term) → ArePlaced d ps us → (s : State) (z : Meaning) (i : ℕ) → is_value (get_or (reverse (map value ps)) i program) ≡ true →
      put g j (found_for_bound (in_places us) i) z s ≡ meaning_in (get_or (reverse (map bind (values us s))) i nothing_bound)
  met d [] [] w s z i k = absurd (false≢true k)
  met d [] (u ∷ us) w s z i k = absurd w
  met d (p ∷ ps) [] w s z i k = absurd w
  met d (p ∷ ps) (u ∷ us) w s z i k =
      step (λ v. met d ps us w.1 s z i v) (length us == i)
      (sym (ap is_value (from_last program (value p) (map value ps) i
      ∙ ap (λ (n : ℕ). if n == i then value p else get_or (reverse (map value ps)) i program) (length-map ps value ∙ as_many d ps us w.1))) ∙ k)
      ∙ sym (ap meaning_in (from_last nothing_bound (bind (val g j u s)) (map bind (values us s)) i
      ∙ ap (λ (n : ℕ). if n == i then bind (val g j u s) else get_or (reverse (map bind (values us s))) i nothing_bound) (length-map (values us s) bind ∙ length-map us (λ v. val g j v s))))
    where
      step : (is_value (get_or (reverse (map value ps)) i program) ≡ true → put g j (found_for_bound (in_places us) i) z s ≡ meaning_in (get_or (reverse (map bind (values us s))) i nothing_bound)) → (t : Bool) → is_value (if t then value p else get_or (reverse (map value ps)) i program) ≡ true →
          put g j (or_later t u (found_for_bound (in_places us) i)) z s ≡ meaning_in (if t then bind (val g j u s) else get_or (reverse (map bind (values us s))) i nothing_bound)
      step rest true v = refl
      step rest false v = rest v

  meanings_are : (us : List Term) (s : State) → map (λ x. x.meaning s) (map (part_of g j) us) ≡ values us s
  meanings_are [] s = refl
  meanings_are (u ∷ us) s = ap (λ xs. val g j u s ∷ xs) (meanings_are us s)

-- A body at terms means what its operator means, where this one means its body.
module _ (g : Setting) (j : Judge) (fair : IsFair g j) (o : Context) (x : Name) (b : Term) (s : IsStanding (outermost o) x b) (body : IsBody g x b) (d : Context) (procedures : Procedures g d) (us : List Term)
    (w : ArePlaced d s.params us) where
  abbrev over_parameters : Context
  over_parameters = of_operator (outermost o) s.params

  opened : (q : State) (t : Ty) → val g (speaking g j) (term_changed b (in_places us)) q ≡ val g (speaking g j) (node (head.User x) us t) q
  opened q t =
      means_filled g j fair (bound_alone s.params) over_parameters d (body_closed (outermost o) s.params) procedures (in_places us) (are_fit g (speaking g j) d s.params us w s.measured) q (at_terms g (speaking g j) us q)
      (λ i k. met g (speaking g j) d s.params us w q _ i k) b s.plain (formed over_parameters b s.typed) s.typed
      ∙ plain_quiet g (speaking g j) b s.plain (at_terms g (speaking g j) us q) ∙ sym (body.result (values g (speaking g j) us q)) ∙ ap (g.operator x) (sym (meanings_are g (speaking g j) us q))
      ∙ sym (val_node g (speaking g j) (head.User x) us t q)

  same_denominator : denominator g (term_changed b (in_places us)) ≡ denominator g (node (head.User x) us (type_of b))
  same_denominator =
      filled_denominator g b (in_places us) s.plain (d, are_fit g (speaking g j) d s.params us w s.measured) ∙ over (is_distribution (type_of b)) refl ∙ sym (denominator_node g (head.User x) us (type_of b))
    where
      over : (z : Bool) → is_distribution (type_of b) ≡ z → denominator g b ≡ (if z then g.denominator x else 1)
      over true e = sym body.total
      over false e = denominator_one g (erased over_parameters) b (erased_typed over_parameters b s.typed) (no_distribution (type_of b) e)

module _ (o : Context) (x : Name) (b : Term) (standing : IsStanding (outermost o) x b) (g : Setting) (procedures : Procedures g (outermost o)) (body : IsBody g x b) (j : Judge) (fair : IsFair g j) (P : State → Type 0) (around : Around P) where
  abbrev Same : Term → Term → Type 0
  Same y t = Alike g j fair P around y t

  -- the procedures are the same inside of binders
  inside : (d : Context) → IsInside o d → Procedures g d
  inside d i = subst (Procedures g) (sym i) procedures

  module _ (d : Context) (i : IsInside o d) (h : Head) (us : List Term) (u : Ty) (a : IsApplied o x b standing d h us u) where
    at_operator : Same (term_changed b (in_places us)) (node h us u)
    at_operator =
        subst (λ z. Same (term_changed b (in_places us)) (node z us u)) (sym a.is)
        (subst (λ t. Same (term_changed b (in_places us)) (node (head.User x) us t)) a.result
        (λ q p. opened g j fair o x b standing body d (inside d i) us a.terms q (type_of b), same_denominator g j fair o x b standing body d (inside d i) us a.terms))

  either : (h : Head) (us : List Term) (u : Ty) (t : Term) (z : Bool) → (z ≡ true → Same (term_changed b (in_places us)) (node h us u)) → Same (node h us u) t →
      Same (if z then term_changed b (in_places us) else node h us u) t
  either h us u t true f k = let y = f refl in (λ q p. y.0 q p ∙ k.0 q p, y.1 ∙ k.1)
  either h us u t false f k = k

  mutual
    pub opens : (d : Context) → IsInside o d → (t : Term) → IsTyped d t → IsFormed t → IsSoundForm g t → Same (unfolded x b t) t
    opens d i (Term' tt (more_of-Head h end_of-Head) n ts u) w f v =
        let c = first d h in
        let m = middle d h in
        let l = last d w.2 h (types_of ts) in
        let made = parts_made o x b standing c m l (inside_first o d h i) (inside_middle o d h i) (inside_last o d w.2 h (types_of ts) i) ts w.3 in
        either h (all_unfolded x b ts) u (Term' tt (more_of-Head h end_of-Head) n ts u) (is_operator x h)
        (λ q. at_operator d i h (all_unfolded x b ts) u (application o x b standing d i h ts u w.0 w.2 made q))
        (node_alike g j fair P around h n (all_unfolded x b ts) ts u f.0 v.0
        (all_open c m l (inside_first o d h i) (inside_middle o d h i) (inside_last o d w.2 h (types_of ts) i) ts w.3 f.2 v.1))

    pub all_open : {n : Count} (c d e : Context) → IsInside o c → IsInside o d → IsInside o e → (ts : Row_of-Term n) → AreTyped c d e ts → AllFormed ts → AllSound g ts →
        AllAlike g j fair P around (all_unfolded x b ts) ts
    all_open c d e i l r end_of-Term w f v = tt
    all_open c d e i l r (more_of-Term t end_of-Term) w f v = (opens e r t w f.0 v.0, tt)
    all_open c d e i l r (more_of-Term t (more_of-Term y ts)) w f v = (opens c i t w.0 f.0 v.0, all_open d d e l l r (more_of-Term y ts) w.1 f.1 v.1)
