-- The terms in typed terms are typed.
use Rattle.std.proofs.Common.{List, [], ◌∷◌, flat_map, subst}
use Rattle.std.specs.List.{Contains}
use Rattle.std.proofs.lemmas.List.Elements.{Contains-append_cases}
use Rattle.gb_terms.specs.declared.term.Term.{Term, Term', Row_of-Term, end_of-Term, more_of-Term, end_of-Head, more_of-Head}
use Rattle.gb_terms.specs.declared.term.Head.{Head}
use Rattle.gb_terms.specs.declared.term.Head.TheVariants as head
use Rattle.gb_terms.specs.declared.decl.TypedName.{TypedName}
use Rattle.gb_laws.specs.Typing.{types_of}
use Rattle.gb_typing.specs.Context.{Context}
use Rattle.gb_typing.specs.Typing.{IsTyped, IsForm, AreTyped, first, middle, last}
use Rattle.gb_equality.specs.Parts.{reach_of, inner_parts, parts_of, row_parts, front_parts, terms_in}
use Rattle.gb_equality.proofs.Among.{none, only, either}
use Rattle.gb_smt_laws.specs.Valid.{AreForms}

module _ (c : Context) where
  -- the terms in the arguments of a typed term, from what is known of all of them and of all but the last
  inner_typed : {n : _} (h : Head) (r : Row_of-Term n) (ls : List TypedName) → AreTyped (first c h) (middle c h) (last c ls h (types_of r)) r →
      (AreTyped c c c r → (u : Term) → Contains (row_parts r) u → IsTyped c u) → ((d : Context) → AreTyped c c d r → (u : Term) → Contains (front_parts r) u → IsTyped c u) →
      (u : Term) → Contains (inner_parts (reach_of h) (row_parts r) (front_parts r)) u → IsTyped c u
  inner_typed (head.Lit x) r ls w f g u k = f w u k
  inner_typed (head.Whole x) r ls w f g u k = f w u k
  inner_typed (head.Read x) r ls w f g u k = f w u k
  inner_typed (head.Bound x) r ls w f g u k = f w u k
  inner_typed (head.Builtin x) r ls w f g u k = f w u k
  inner_typed (head.User x) r ls w f g u k = f w u k
  inner_typed (head.Weights x) r ls w f g u k = f w u k
  inner_typed (head.Glob m s) r ls w f g u k = f w u k
  inner_typed (head.Pr p s) r ls w f g u k = g (last c ls (head.Pr p s) (types_of r)) w u k
  inner_typed _ r ls w f g u k = absurd (none u k)

  mutual
    -- each term in a typed term is typed
    pub part_typed : (t : Term) → IsTyped c t → (u : Term) → Contains (parts_of t) u → IsTyped c u
    part_typed (Term' p (more_of-Head h end_of-Head) n r ty) w u k =
        either (inner_parts (reach_of h) (row_parts r) (front_parts r)) (Term' p (more_of-Head h end_of-Head) n r ty ∷ []) u
        (λ i. inner_typed h r w.2 w.3 (row_typed r) (front_typed r) u i)
        (λ i. subst (IsTyped c) (only (Term' p (more_of-Head h end_of-Head) n r ty) u i) w)
        (Contains-append_cases (inner_parts (reach_of h) (row_parts r) (front_parts r)) (Term' p (more_of-Head h end_of-Head) n r ty ∷ []) u k)

    row_typed : {n : _} (r : Row_of-Term n) → AreTyped c c c r → (u : Term) → Contains (row_parts r) u → IsTyped c u
    row_typed end_of-Term w u k = absurd (none u k)
    row_typed (more_of-Term t end_of-Term) w u k = either (parts_of t) [] u (part_typed t w u) (λ i. absurd (none u i)) (Contains-append_cases (parts_of t) [] u k)
    row_typed (more_of-Term t (more_of-Term v r)) w u k =
        either (parts_of t) (row_parts (more_of-Term v r)) u (part_typed t w.0 u) (row_typed (more_of-Term v r) w.1 u) (Contains-append_cases (parts_of t) (row_parts (more_of-Term v r)) u k)

    front_typed : {n : _} (r : Row_of-Term n) (d : Context) → AreTyped c c d r → (u : Term) → Contains (front_parts r) u → IsTyped c u
    front_typed end_of-Term d w u k = absurd (none u k)
    front_typed (more_of-Term t end_of-Term) d w u k = absurd (none u k)
    front_typed (more_of-Term t (more_of-Term v r)) d w u k =
        either (parts_of t) (front_parts (more_of-Term v r)) u (part_typed t w.0 u) (front_typed (more_of-Term v r) d w.1 u) (Contains-append_cases (parts_of t) (front_parts (more_of-Term v r)) u k)

  listed_typed : (ts : List Term) → AreForms c ts → (u : Term) → Contains (flat_map parts_of ts) u → IsTyped c u
  listed_typed [] w u k = absurd (none u k)
  listed_typed (t ∷ ts) w u k =
      either (parts_of t) (flat_map parts_of ts) u (part_typed t w.0.typed u) (listed_typed ts w.1 u) (Contains-append_cases (parts_of t) (flat_map parts_of ts) u k)

  pub all_typed : (hyps : List Term) (t : Term) → AreForms c hyps → IsForm c t → (u : Term) → Contains (terms_in hyps t) u → IsTyped c u
  all_typed hyps t v w u k =
      either (flat_map parts_of hyps) (parts_of t) u (listed_typed hyps v u) (part_typed t w.typed u) (Contains-append_cases (flat_map parts_of hyps) (parts_of t) u k)
