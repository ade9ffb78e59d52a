use Rattle.std.proofs.Common.{rules, ◌≡◌, true, false, List, [], ◌∷◌, ◌+◌, ◌++◌, map, drop, ap, sym, ◌∙◌}
use Rattle.std.proofs.lemmas.List.{map-append}
use Rattle.gb_terms.specs.declared.term.Term.{Term, out-Term}
use Rattle.gb_goal.specs.Answers.Answer.{given}
use Rattle.gb_goal.specs.declared.scope.Binder.{Binder}
use Rattle.gb_mods.specs.Meets.{known_seen}
use Rattle.gb_names.proofs.Parts.{left}
use Rattle.gb_script.specs.Tree.{place_of}
use Rattle.gb_elab_stmt.proofs.Gathered.{behind}
use Rattle.gb_instances.specs.Instance.{GivenModule, given_seen}
use Rattle.gb_elab_mod.specs.Uses.{is_for_module, module_given, modules_given, rest_of, said_of}
use Rattle.gb_elab_mod.proofs.GivenSteps.{module_next, other_next}
use Rattle.gb_elab_mod.proofs.uses.modules_given.Goals as goal
use Rattle.gb_elab_mod.proofs.uses.modules_given.Goals.{then-is_for_module+in_ok-known+in_ok-push, else-is_for_module+in_ok-said}

pub loop-argument-preserved : goal.loop-argument-preserved
loop-argument-preserved c =
    let ds = c.args.scope.now in
    let q = c.args.goal.now in
    let l = c.loop-argument in
    let es = c.args.arguments.now in
    let a = c.argument-item.result in
    let rest = drop (l.argument-index + 1) es in
    let item = left es l.argument-index a c.loop-argument-test.true c.argument-item.is in
    let known = map given_seen l.all in
    let later = ap (λ ns. behind known (modules_given ds q l.left.now l.said ns)) (sym item) ∙ l.invariant in
    elim c.if-is_for_module.branch [
      | then-is_for_module+in_ok-known+in_ok-push w ↦
          (let k = known_seen w.in_ok-known.known in
          let test : is_for_module l.left.now ≡ true = search (rules, c.is_for_module.ensures, w.if-is_for_module) in
          let found : module_given ds q a ≡ given k = search (rules, w.in_ok-known, w.module_given.ensures) in
          let said : c.if-is_for_module.said ≡ l.said = search (rules, w.said-is) in
          let all : map given_seen c.if-is_for_module.all ≡ known ++ (k, place_of a) ∷ [] = ap (map given_seen) (w.all-is ∙ w.in_ok-push.ensures.ok) ∙ map-append given_seen l.all (_ ∷ []) in
          ap (λ (xs : List GivenModule). behind xs (modules_given ds q c.rest_of-left.result.now c.if-is_for_module.said rest)) all
          ∙ ap (λ (ks : List Binder). behind (known ++ (k, place_of a) ∷ []) (modules_given ds q ks c.if-is_for_module.said rest)) c.rest_of-left.ensures
          ∙ ap (λ (f : Term). behind (known ++ (k, place_of a) ∷ []) (modules_given ds q (rest_of l.left.now) f rest)) said
          ∙ module_next ds q known l.left.now l.said a rest k test found ∙ later)
      | else-is_for_module+in_ok-said w ↦
          (let g = w.in_ok-said.said in
          let test : is_for_module l.left.now ≡ false = search (rules, c.is_for_module.ensures, w.if-is_for_module) in
          let found : said_of ds q (out-Term l.said).head (out-Term l.said).args a ≡ given g = search (rules, w.in_ok-said, w.said_of.ensures) in
          let said : c.if-is_for_module.said ≡ g = search (rules, w.said-is) in
          let all : map given_seen c.if-is_for_module.all ≡ known = search (rules, w.all-is) in
          ap (λ (xs : List GivenModule). behind xs (modules_given ds q c.rest_of-left.result.now c.if-is_for_module.said rest)) all
          ∙ ap (λ (ks : List Binder). behind known (modules_given ds q ks c.if-is_for_module.said rest)) c.rest_of-left.ensures
          ∙ ap (λ (f : Term). behind known (modules_given ds q (rest_of l.left.now) f rest)) said
          ∙ other_next ds q known l.left.now l.said a rest g test found ∙ later)
    ]
