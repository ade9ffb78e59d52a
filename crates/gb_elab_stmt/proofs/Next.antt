-- The statement at which a loop stands, and those behind it.
use Rattle.std.proofs.Common.{◌≡◌, ℕ, ◌+◌, List, ◌∷◌, ◌++◌, drop, ap, sym, ◌∙◌}
use Rattle.std.proofs.lemmas.List.{append_assoc}
use Rattle.gb_core.specs.declared.place.Place.{Place}
use Rattle.gb_core.specs.declared.refusal.Refused.{Refused}
use Rattle.gb_terms.specs.declared.term.Instr.{Instr}
use Rattle.gb_script.specs.declared.tree.Node.{Node}
use Rattle.gb_goal.specs.Answers.{Answer, ◌>>=◌, Fails}
use Rattle.gb_goal.specs.Answers.Answer.{given}
use Rattle.gb_names.specs.Environment.{Environment}
use Rattle.gb_names.proofs.Answers.{fails_as, passes}
use Rattle.gb_elab_stmt.specs.Statements.{all_stated, inside, places, stated, with_places, with_statings}
use Rattle.gb_elab_stmt.proofs.Gathered.{behind, behind_both}

module _ (ts : List Node) (i : ℕ) (t : Node) (here : drop i ts ≡ t ∷ drop (i + 1) ts) where
  module _ (at : Environment) (is : List Instr) where
    abbrev after : Answer (List Instr)
    after = all_stated (with_statings (drop (i + 1) ts)) at

    abbrev joined : List Instr → Answer (List Instr)
    joined js = after >>= λ ks. given (js ++ ks)

    abbrev kept : List Instr → Answer (List Instr)
    kept ks = given (is ++ ks)

    at_next : behind is (all_stated (with_statings (drop i ts)) at) ≡ ((stated t at >>= joined) >>= kept)
    at_next = ap (λ us. behind is (all_stated (with_statings us) at)) here

    -- it has typed trees
    pub next_given : (js : List Instr) → stated t at ≡ given js → behind is (all_stated (with_statings (drop i ts)) at) ≡ behind (is ++ js) after
    next_given js e = at_next ∙ ap (λ a. (a >>= joined) >>= kept) e ∙ sym (behind_both is js after)

    -- it is refused
    pub next_fails : (e : Refused) → Fails (stated t at) e → Fails (behind is (all_stated (with_statings (drop i ts)) at)) e
    next_fails e h = fails_as _ _ e at_next (passes (stated t at >>= joined) kept e (passes (stated t at) joined e h))

  -- its places
  pub next_inside : (found : List Place) → (found ++ places t) ++ inside (with_places (drop (i + 1) ts)) ≡ found ++ inside (with_places (drop i ts))
  next_inside found =
      append_assoc found (places t) (inside (with_places (drop (i + 1) ts))) ∙ sym (ap (λ us. found ++ inside (with_places us)) here)
