-- Each head's answer, by the lemma of that head.
use Rattle.std.proofs.Common.{rules, ◌≡◌, [], ◌∷◌, ◌++◌, ◌+◌, ◌-◌, drop, ap, sym, ◌∙◌, arith}
use Rattle.std.proofs.lemmas.List.{drop_all}
use Rattle.std.specs.Option.{option_copied}
use Rattle.gb_core.specs.declared.refusal.Why.TheVariants.{Syntax, TypeMismatch}
use Rattle.gb_script.specs.Tree.{head_of, parts_of, text_of, place_of}
use Rattle.gb_script.specs.declared.tree.Node.{size-Node}
use Rattle.gb_goal.specs.Answers.{◌>>=◌}
use Rattle.gb_goal.specs.Answers.Answer.{given}
use Rattle.gb_names.specs.Environment.{environment}
use Rattle.gb_names.specs.Judgments.{Named, named_seen}
use Rattle.gb_names.specs.Names.{path, unit}
use Rattle.gb_names.specs.Wanted.{wanted}
use Rattle.gb_names.proofs.Answers.{answers_as, fails_as, refuses_as}
use Rattle.gb_names.proofs.Parts.{four, left, rest_is, rest_most, three, two}
use Rattle.gb_operators.specs.Rules.{made}
use Rattle.gb_elab.specs.Forms.{applied, bounded, contract, contracting, equivalence, from_right, function_typing, operation, typing, with_meanings, listed, probability}
use Rattle.gb_elab.specs.Globs.{whole_alone}
use Rattle.gb_elab.proofs.Arms.{name_is, compared_is, glob_is, path_is, number_is, unit_is, bracketed_is, sided_is, coin_is, function_is, typed_is, tuple_is, component_is, branches_is, get_is, set_is, product_is, uniform_is, weights_is, apply_is, equalities_is, quantified_is, equiv_is, equivalence_is, hoare_is, phoare_is, bounded_is, bounded_is_by, lossless_is, contract_is, other_contract, other_form, probability_is}
use Rattle.gb_elab.proofs.Functions as functions
use Rattle.gb_elab.proofs.Called.{call_is, functor_call_is, last_is, list_is, no_last, other_call, probability_is_by}
use Rattle.gb_elab.proofs.Elaborated.{arguments_of_is, contract_of_is, elaborated_is, function_of_is}
use Rattle.gb_elab.proofs.Applied.{by_name, by_path}
use Rattle.gb_elab.proofs.Operands.{at_end, behind, next_of, of_one, of_two, refuses}
use Rattle.gb_elab.proofs.form.+form.Goals as goal

pub typed-returns : goal.typed-returns
typed-returns t c =
    let at = environment c.args.at.now in
    answers_as _ _ c.typing.result
    (elaborated_is c.args.t.now at c.args.bound.now (option_copied c.args.want)
    ∙ ap (λ ps. typing (head_of c.args.t.now) (text_of c.args.t.now) (with_meanings ps) (place_of c.args.t.now) at c.args.bound.now (option_copied c.args.want)) (sym c.as_slice.ensures))
    c.typing.ensures

pub typing-returns-in-Name : goal.typing-returns-in-Name
typing-returns-in-Name t c =
    answers_as _ _ c.simple.result (name_is c.args.head c.args.text.now c.args.parts.now c.args.place (environment c.args.at.now) c.args.bound.now (option_copied c.args.want) c.in-Name.is) (c.simple.ensures)

pub typing-returns-in-Path : goal.typing-returns-in-Path
typing-returns-in-Path t c =
    answers_as _ _ c.at_path.result (path_is c.args.head c.args.text.now c.args.parts.now c.args.place (environment c.args.at.now) c.args.bound.now (option_copied c.args.want) c.in-Path.is) (c.at_path.ensures)

pub typing-returns-in-Number : goal.typing-returns-in-Number
typing-returns-in-Number t c =
    answers_as _ _ c.numeral.result (number_is c.args.head c.args.text.now c.args.parts.now c.args.place (environment c.args.at.now) c.args.bound.now (option_copied c.args.want) c.in-Number.is) (c.numeral.ensures)

pub typing-returns-in-Unit : goal.typing-returns-in-Unit
typing-returns-in-Unit t c =
    answers_as _ _ c.wanted.result (unit_is c.args.head c.args.text.now c.args.parts.now c.args.place (environment c.args.at.now) c.args.bound.now (option_copied c.args.want) c.in-Unit.is) (c.wanted.ensures (given unit) c.unit.ensures)

pub typing-returns-in-Bracketed : goal.typing-returns-in-Bracketed
typing-returns-in-Bracketed t c =
    answers_as _ _ c.bracketed.result (bracketed_is c.args.head c.args.text.now c.args.parts.now c.args.place (environment c.args.at.now) c.args.bound.now (option_copied c.args.want) c.in-Bracketed.is) (c.bracketed.ensures)

pub typing-returns-in-Sided : goal.typing-returns-in-Sided
typing-returns-in-Sided t c =
    answers_as _ _ c.with_side.result (sided_is c.args.head c.args.text.now c.args.parts.now c.args.place (environment c.args.at.now) c.args.bound.now (option_copied c.args.want) c.in-Sided.is) (c.with_side.ensures)

pub typing-returns-in-Coin : goal.typing-returns-in-Coin
typing-returns-in-Coin t c =
    answers_as _ _ c.coin.result (coin_is c.args.head c.args.text.now c.args.parts.now c.args.place (environment c.args.at.now) c.args.bound.now (option_copied c.args.want) c.in-Coin.is) (c.coin.ensures)

pub typing-returns-in-Function : goal.typing-returns-in-Function
typing-returns-in-Function t c =
    refuses_as _ c.mismatch.result TypeMismatch c.args.place (function_is c.args.head c.args.text.now c.args.parts.now c.args.place (environment c.args.at.now) c.args.bound.now (option_copied c.args.want) c.in-Function.is) c.mismatch.ensures

pub typing-returns-in-Typed : goal.typing-returns-in-Typed
typing-returns-in-Typed t c =
    answers_as _ _ c.annotated.result (typed_is c.args.head c.args.text.now c.args.parts.now c.args.place (environment c.args.at.now) c.args.bound.now (option_copied c.args.want) c.in-Typed.is) (c.annotated.ensures)

pub typing-returns-in-Tuple : goal.typing-returns-in-Tuple
typing-returns-in-Tuple t c =
    answers_as _ _ c.by_rule.result (tuple_is c.args.head c.args.text.now c.args.parts.now c.args.place (environment c.args.at.now) c.args.bound.now (option_copied c.args.want) c.in-Tuple.is) (c.by_rule.ensures)

pub typing-returns-in-Component : goal.typing-returns-in-Component
typing-returns-in-Component t c =
    answers_as _ _ c.projection.result (component_is c.args.head c.args.text.now c.args.parts.now c.args.place (environment c.args.at.now) c.args.bound.now (option_copied c.args.want) c.in-Component.is) (c.projection.ensures)

pub typing-returns-in-Conditional : goal.typing-returns-in-Conditional
typing-returns-in-Conditional t c =
    answers_as _ _ c.by_rule-in-Conditional.result (branches_is c.args.head c.args.text.now c.args.parts.now c.args.place (environment c.args.at.now) c.args.bound.now (option_copied c.args.want) c.in-Conditional.is) (c.by_rule-in-Conditional.ensures)

pub typing-returns-in-Get : goal.typing-returns-in-Get
typing-returns-in-Get t c =
    answers_as _ _ c.by_rule-in-Get.result (get_is c.args.head c.args.text.now c.args.parts.now c.args.place (environment c.args.at.now) c.args.bound.now (option_copied c.args.want) c.in-Get.is) (c.by_rule-in-Get.ensures)

pub typing-returns-in-Set : goal.typing-returns-in-Set
typing-returns-in-Set t c =
    answers_as _ _ c.by_rule-in-Set.result (set_is c.args.head c.args.text.now c.args.parts.now c.args.place (environment c.args.at.now) c.args.bound.now (option_copied c.args.want) c.in-Set.is) (c.by_rule-in-Set.ensures)

pub typing-returns-in-PowerProduct : goal.typing-returns-in-PowerProduct
typing-returns-in-PowerProduct t c =
    answers_as _ _ c.by_rule-in-PowerProduct.result (product_is c.args.head c.args.text.now c.args.parts.now c.args.place (environment c.args.at.now) c.args.bound.now (option_copied c.args.want) c.in-PowerProduct.is) (c.by_rule-in-PowerProduct.ensures)

pub typing-returns-in-Uniform : goal.typing-returns-in-Uniform
typing-returns-in-Uniform t c =
    answers_as _ _ c.uniform.result (uniform_is c.args.head c.args.text.now c.args.parts.now c.args.place (environment c.args.at.now) c.args.bound.now (option_copied c.args.want) c.in-Uniform.is) (c.uniform.ensures)

pub typing-returns-in-Weights : goal.typing-returns-in-Weights
typing-returns-in-Weights t c =
    answers_as _ _ c.weights.result (weights_is c.args.head c.args.text.now c.args.parts.now c.args.place (environment c.args.at.now) c.args.bound.now (option_copied c.args.want) c.in-Weights.is) (c.weights.ensures)

pub typing-returns-in-Apply : goal.typing-returns-in-Apply
typing-returns-in-Apply t c =
    answers_as _ _ c.applied_form.result (apply_is c.args.head c.args.text.now c.args.parts.now c.args.place (environment c.args.at.now) c.args.bound.now (option_copied c.args.want) c.in-Apply.is) (c.applied_form.ensures)

pub typing-returns-in-Equalities : goal.typing-returns-in-Equalities
typing-returns-in-Equalities t c =
    answers_as _ _ c.equalities.result (equalities_is c.args.head c.args.text.now c.args.parts.now c.args.place (environment c.args.at.now) c.args.bound.now (option_copied c.args.want) c.in-Equalities.is) (c.equalities.ensures)

pub typing-returns-in-Glob : goal.typing-returns-in-Glob
typing-returns-in-Glob t c =
    let at = environment c.args.at.now in
    answers_as _ _ c.wanted-in-Glob.result
    (glob_is c.args.head c.args.text.now c.args.parts.now c.args.place at c.args.bound.now (option_copied c.args.want) c.in-Glob.is
    ∙ ap (λ r. whole_alone at c.args.bound.now r c.args.place >>= wanted (option_copied c.args.want) c.args.place) (sym c.bare_glob.ensures))
    (c.wanted-in-Glob.ensures _ c.whole_alone-whole.ensures)

pub typing-returns-in-Compared : goal.typing-returns-in-Compared
typing-returns-in-Compared t c =
    answers_as _ _ c.compared.result (compared_is c.args.head c.args.text.now c.args.parts.now c.args.place (environment c.args.at.now) c.args.bound.now (option_copied c.args.want) c.in-Compared.is) (c.compared.ensures)

pub typing-returns-in-Quantified : goal.typing-returns-in-Quantified
typing-returns-in-Quantified t c =
    answers_as _ _ c.quantified.result (quantified_is c.args.head c.args.text.now c.args.parts.now c.args.place (environment c.args.at.now) c.args.bound.now (option_copied c.args.want) c.in-Quantified.is) (c.quantified.ensures)

pub typing-returns-in-Equiv : goal.typing-returns-in-Equiv
typing-returns-in-Equiv t c =
    answers_as _ _ c.equivalence.result (equiv_is c.args.head c.args.text.now c.args.parts.now c.args.place (environment c.args.at.now) c.args.bound.now (option_copied c.args.want) c.in-Equiv.is) (c.equivalence.ensures)

pub typing-returns-in-Hoare : goal.typing-returns-in-Hoare
typing-returns-in-Hoare t c =
    answers_as _ _ c.hoare.result (hoare_is c.args.head c.args.text.now c.args.parts.now c.args.place (environment c.args.at.now) c.args.bound.now (option_copied c.args.want) c.in-Hoare.is) (c.hoare.ensures)

pub typing-returns-in-Phoare : goal.typing-returns-in-Phoare
typing-returns-in-Phoare t c =
    answers_as _ _ c.without_bound.result (phoare_is c.args.head c.args.text.now c.args.parts.now c.args.place (environment c.args.at.now) c.args.bound.now (option_copied c.args.want) c.in-Phoare.is) (c.without_bound.ensures)

pub typing-returns-in-Bounded : goal.typing-returns-in-Bounded
typing-returns-in-Bounded t c =
    answers_as _ _ c.bounded.result (bounded_is c.args.head c.args.text.now c.args.parts.now c.args.place (environment c.args.at.now) c.args.bound.now (option_copied c.args.want) c.in-Bounded.is) (c.bounded.ensures)

pub typing-returns-in-Lossless : goal.typing-returns-in-Lossless
typing-returns-in-Lossless t c =
    answers_as _ _ c.lossless.result (lossless_is c.args.head c.args.text.now c.args.parts.now c.args.place (environment c.args.at.now) c.args.bound.now (option_copied c.args.want) c.in-Lossless.is) (c.lossless.ensures)

pub typing-returns-in-Probability : goal.typing-returns-in-Probability
typing-returns-in-Probability t c =
    answers_as _ _ c.probability.result (probability_is c.args.head c.args.text.now c.args.parts.now c.args.place (environment c.args.at.now) c.args.bound.now (option_copied c.args.want) c.in-Probability.is) (c.probability.ensures)

pub typing-returns-in_default : goal.typing-returns-in_default
typing-returns-in_default t c =
    let n = c.in_default in
    answers_as _ _ c.operation.result
    (other_form c.args.head c.args.text.now (with_meanings c.args.parts.now) c.args.place (environment c.args.at.now) c.args.bound.now (option_copied c.args.want) n.not-Name n.not-Path n.not-Number n.not-Unit n.not-Bracketed n.not-Sided n.not-Coin n.not-Function n.not-TypedFunction n.not-Typed n.not-Tuple n.not-Component n.not-Conditional n.not-Chosen n.not-Get n.not-Set n.not-PowerProduct n.not-Uniform n.not-Weights n.not-Apply n.not-Equalities n.not-Glob n.not-Compared n.not-Quantified n.not-Equiv n.not-Hoare n.not-Phoare n.not-Bounded n.not-Lossless n.not-Probability
    ∙ ap (λ o. operation o (with_meanings c.args.parts.now) c.args.place (environment c.args.at.now) c.args.bound.now (option_copied c.args.want)) (sym c.operator_of.ensures))
    c.operation.ensures

pub by_rule-returns-in_err-next : goal.by_rule-returns-in_err-next
by_rule-returns-in_err-next t c =
    let at = environment c.args.at.now in
    let bound = c.args.bound.now in
    let w = option_copied c.args.want in
    let p = c.args.place in
    let xs = c.args.parts.now in
    let i = c.loop-part.part-index in
    let x = c.part-item.result in
    let ts = c.loop-part.done in
    let e = sym c.loop-part.invariant ∙ ap (behind _ p at bound w ts) (left xs i x c.loop-part-test.true c.part-item.is) in
    let fails = fails_as _ _ _ e (refuses _ p at bound w ts _ x (drop (i + 1) xs) _ c.as_slice.ensures c.in_err-next.ensures) in
    search rules

pub by_rule-returns : goal.by_rule-returns
by_rule-returns t c =
    let at = environment c.args.at.now in
    let bound = c.args.bound.now in
    let w = option_copied c.args.want in
    let p = c.args.place in
    let ts = c.loop-part.done in
    let e =
    sym c.loop-part.invariant ∙ ap (behind _ p at bound w ts) (drop_all c.loop-part.part-index c.args.parts.now (omega arith))
    ∙ at_end _ p at bound w ts in
    answers_as _ _ c.wanted.result e (c.wanted.ensures _ c.made.ensures)

pub of_one-returns : goal.of_one-returns
of_one-returns t c =
    let at = environment c.args.at.now in
    let bound = c.args.bound.now in
    let w = option_copied c.args.want in
    let r = c.args.rule in
    let form = c.in_ok-form.form in
    let pushed : c.push.new.self ≡ form ∷ [] = c.in_ok-push.ensures.ok ∙ ap (λ us. us ++ form ∷ []) c.new-done.ensures in
    answers_as _ _ c.wanted.result
    (of_one r c.args.place at bound w c.args.part.now form c.in_ok-form.ensures
    ∙ ap (λ us. made r c.args.place us >>= wanted w c.args.place) (sym pushed))
    (c.wanted.ensures _ c.made.ensures)

pub from_right-returns-in-len2 : goal.from_right-returns-in-len2
from_right-returns-in-len2 t c =
    let at = environment c.args.at.now in
    let bound = c.args.bound.now in
    let w = option_copied c.args.want in
    let r = c.args.rule in
    let p = c.args.place in
    let x = c.right-item.result in
    let y = c.left-item.result in
    let first = c.in_ok-first-in-len2.first in
    let second = c.in_ok-second-in-len2.second in
    let one : c.push.new.self ≡ first ∷ [] = c.in_ok-push-in-len2.ensures.ok ∙ ap (λ us. us ++ first ∷ []) c.new-done.ensures in
    let both : c.push-in-len2.new.self ≡ first ∷ second ∷ [] = c.in_ok-push-in-len2-2.ensures.ok ∙ ap (λ us. us ++ second ∷ []) one in
    let last = ap (λ us. next_of r p at bound w us y) (sym (c.as_slice.ensures ∙ one)) ∙ c.in_ok-second-in-len2.ensures in
    answers_as _ _ c.wanted.result
    (ap (λ ps. from_right r (with_meanings ps) p at bound w) (two c.args.parts.now y x c.in-len2.len_at_least c.in-len2.len_below c.left-item.is c.right-item.is)
    ∙ of_two r p at bound w x y first second c.in_ok-first-in-len2.ensures last
    ∙ ap (λ us. made r p us >>= wanted w p) (sym both))
    (c.wanted.ensures _ c.made.ensures)

pub with_arguments-applied-requires-in-len1-up : goal.with_arguments-applied-requires-in-len1-up
with_arguments-applied-requires-in-len1-up t c =
    let h = rest_most size-Node c.args.parts.now in
    omega arith

pub with_arguments-returns-in-len1-up : goal.with_arguments-returns-in-len1-up
with_arguments-returns-in-len1-up t c =
    answers_as _ _ c.applied-in-len1-up.result
    (ap (λ us. applied c.args.name.now (with_meanings us) c.args.place (environment c.args.at.now) c.args.bound.now (option_copied c.args.want)) (sym (rest_is c.args.parts.now)))
    c.applied-in-len1-up.ensures

pub applied_form-returns-in-Name : goal.applied_form-returns-in-Name
applied_form-returns-in-Name t c =
    answers_as _ _ c.with_arguments.result
    (by_name c.args.parts.now c.operator-item.result c.args.place (environment c.args.at.now) c.args.bound.now (option_copied c.args.want) c.in-len1-up.len_at_least c.operator-item.is c.in-Name.is)
    c.with_arguments.ensures

pub applied_form-returns-in_ok-name-in-Path : goal.applied_form-returns-in_ok-name-in-Path
applied_form-returns-in_ok-name-in-Path t c =
    let at = environment c.args.at.now in
    let w = option_copied c.args.want in
    answers_as _ _ c.with_arguments-in-Path.result
    (by_path c.args.parts.now c.operator-item.result c.args.place at c.args.bound.now w c.in-len1-up.len_at_least c.operator-item.is c.in-Path.is
    ∙ ap (λ x. applied x (with_meanings (drop 1 c.args.parts.now)) c.args.place at c.args.bound.now w) (sym (c.in_ok-name-in-Path.ensures ∙ ap path c.as_slice.ensures)))
    c.with_arguments-in-Path.ensures

pub equivalence-returns-in_ok-pre-in-len4 : goal.equivalence-returns-in_ok-pre-in-len4
equivalence-returns-in_ok-pre-in-len4 t c =
    let at = environment c.args.at.now in
    let w = option_copied c.args.want in
    let both = c.in_ok-both-in-len4.both in
    let m : Named × Named = (named_seen both.left, named_seen both.right) in
    let e = four c.args.parts.now c.f-item.result c.g-item.result c.pre-item.result c.post-item.result c.in-len4.len_at_least c.in-len4.len_below c.f-item.is c.g-item.is c.pre-item.is c.post-item.is in
    answers_as _ _ c.with_postcondition.result
    (ap (λ ps. equivalence (with_meanings ps) c.args.place at c.args.bound.now w) e
    ∙ equivalence_is c.f-item.result c.g-item.result c.pre-item.result c.post-item.result c.args.place at c.args.bound.now w c.in_ok-judgment-in-len4.field-0 m c.in_ok-pre-in-len4.pre
    c.in_ok-judgment-in-len4.ensures c.in_ok-both-in-len4.ensures c.in_ok-pre-in-len4.ensures)
    c.with_postcondition.ensures

pub bounded-returns-in_ok-contract-in-len2 : goal.bounded-returns-in_ok-contract-in-len2
bounded-returns-in_ok-contract-in-len2 t c =
    let at = environment c.args.at.now in
    let w = option_copied c.args.want in
    let e = two c.args.parts.now c.judged-item.result c.limit-item.result c.in-len2.len_at_least c.in-len2.len_below c.judged-item.is c.limit-item.is in
    answers_as _ _ c.bounded_by.result
    (ap (λ ps. bounded c.args.sign.now (with_meanings ps) c.args.place at c.args.bound.now w) e
    ∙ bounded_is_by c.args.sign.now c.judged-item.result c.limit-item.result c.args.place at c.args.bound.now w c.in_ok-judgment-in-len2.field-0 c.in_ok-relation-in-len2.relation c.in_ok-contract-in-len2.contract
    c.in_ok-judgment-in-len2.ensures c.in_ok-relation-in-len2.ensures c.in_ok-contract-in-len2.ensures)
    c.bounded_by.ensures

pub contract_of-returns-in-Phoare : goal.contract_of-returns-in-Phoare
contract_of-returns-in-Phoare t c =
    let at = environment c.args.at.now in
    answers_as _ _ c.contract.result
    (contract_of_is c.args.t.now at c.args.bound.now
    ∙ (ap (λ k. contracting k (with_meanings (parts_of c.args.t.now)) (place_of c.args.t.now) at c.args.bound.now) c.in-Phoare.is
    ∙ ap (λ ps. contract (with_meanings ps) (place_of c.args.t.now) at c.args.bound.now) (sym c.as_slice.ensures)))
    c.contract.ensures

pub contract_of-returns-in_default : goal.contract_of-returns-in_default
contract_of-returns-in_default t c =
    let at = environment c.args.at.now in
    refuses_as _ c.mismatch.result TypeMismatch (place_of c.args.t.now)
    (contract_of_is c.args.t.now at c.args.bound.now
    ∙ other_contract (head_of c.args.t.now) (with_meanings (parts_of c.args.t.now)) (place_of c.args.t.now) at c.args.bound.now c.in_default.not-Phoare)
    c.mismatch.ensures

pub contract-returns-in_ok-pre-in-len3 : goal.contract-returns-in_ok-pre-in-len3
contract-returns-in_ok-pre-in-len3 t c =
    let at = environment c.args.at.now in
    let named = c.in_ok-named-in-len3.named in
    let e = three c.args.parts.now c.f-item.result c.pre-item.result c.post-item.result c.in-len3.len_at_least c.in-len3.len_below c.f-item.is c.pre-item.is c.post-item.is in
    answers_as _ _ c.with_result.result
    (ap (λ ps. contract (with_meanings ps) c.args.place at c.args.bound.now) e
    ∙ contract_is c.f-item.result c.pre-item.result c.post-item.result c.args.place at c.args.bound.now (named_seen named) c.in_ok-pre-in-len3.pre
    c.in_ok-named-in-len3.ensures c.in_ok-pre-in-len3.ensures)
    c.with_result.ensures

pub probability-returns-in_ok-arguments-in-len3 : goal.probability-returns-in_ok-arguments-in-len3
probability-returns-in_ok-arguments-in-len3 t c =
    let at = environment c.args.at.now in
    let w = option_copied c.args.want in
    let named = c.in_ok-named-in-len3.named in
    let e = three c.args.parts.now c.call-item.result c.memory-item.result c.event-item.result c.in-len3.len_at_least c.in-len3.len_below c.call-item.is c.memory-item.is c.event-item.is in
    answers_as _ _ c.from_memory.result
    (ap (λ ps. probability (with_meanings ps) c.args.place at c.args.bound.now w) e
    ∙ probability_is_by c.call-item.result c.memory-item.result c.event-item.result c.args.place at c.args.bound.now w c.in_ok-chance_here-in-len3.field-0 (named_seen named)
    c.in_ok-arguments-in-len3.arguments c.in_ok-chance_here-in-len3.ensures c.in_ok-named-in-len3.ensures c.in_ok-arguments-in-len3.ensures)
    c.from_memory.ensures

pub arguments_of-returns-in-List : goal.arguments_of-returns-in-List
arguments_of-returns-in-List t c =
    let at = environment c.args.at.now in
    answers_as _ _ c.listed.result
    (list_is c.args.t.now c.args.params.now c.args.place at c.args.bound.now c.in-List.is
    ∙ ap (λ ps. listed c.args.place at c.args.bound.now c.args.params.now (with_meanings ps)) (sym c.as_slice-in-List.ensures))
    c.listed.ensures

pub arguments_of-returns-in-Call : goal.arguments_of-returns-in-Call
arguments_of-returns-in-Call t c =
    answers_as _ _ c.in_last.result
    (call_is c.args.t.now c.args.params.now c.args.place (environment c.args.at.now) c.args.bound.now c.as_slice.result.now c.in-Call.is c.as_slice.ensures)
    c.in_last.ensures

pub arguments_of-returns-in-FunctorCall : goal.arguments_of-returns-in-FunctorCall
arguments_of-returns-in-FunctorCall t c =
    answers_as _ _ c.in_last-in-FunctorCall.result
    (functor_call_is c.args.t.now c.args.params.now c.args.place (environment c.args.at.now) c.args.bound.now c.as_slice-in-FunctorCall.result.now c.in-FunctorCall.is c.as_slice-in-FunctorCall.ensures)
    c.in_last-in-FunctorCall.ensures

pub in_last-returns-in-Some : goal.in_last-returns-in-Some
in_last-returns-in-Some t c =
    answers_as _ _ c.arguments_of.result
    (last_is c.args.parts.now c.args.params.now c.args.place (environment c.args.at.now) c.args.bound.now c.in-Some.list.now (sym c.last.ensures.value ∙ ap option_copied c.in-Some.is))
    c.arguments_of.ensures

pub in_last-returns-in-None : goal.in_last-returns-in-None
in_last-returns-in-None t c =
    refuses_as _ c.not_built.result Syntax c.args.place
    (no_last c.args.parts.now c.args.params.now c.args.place (environment c.args.at.now) c.args.bound.now (sym c.last.ensures.value ∙ ap option_copied c.in-None.is))
    c.not_built.ensures

pub arguments_of-returns-in_default : goal.arguments_of-returns-in_default
arguments_of-returns-in_default t c =
    let at = environment c.args.at.now in
    let n = c.in_default in
    refuses_as _ c.not_built.result Syntax c.args.place
    (arguments_of_is c.args.t.now c.args.params.now c.args.place at c.args.bound.now
    ∙ other_call (head_of c.args.t.now) (with_meanings (parts_of c.args.t.now)) c.args.params.now c.args.place at c.args.bound.now n.not-Call n.not-FunctorCall n.not-List)
    c.not_built.ensures

pub function_of-returns : goal.function_of-returns
function_of-returns t c =
    let at = environment c.args.at.now in
    answers_as _ _ c.function_typing.result
    (function_of_is c.args.t.now c.args.domain.now at c.args.bound.now (option_copied c.args.want)
    ∙ ap (λ ps. function_typing (head_of c.args.t.now) (with_meanings ps) (place_of c.args.t.now) c.args.domain.now at c.args.bound.now (option_copied c.args.want)) (sym c.as_slice.ensures))
    c.function_typing.ensures

pub function_typing-returns-in-Bracketed : goal.function_typing-returns-in-Bracketed
function_typing-returns-in-Bracketed t c = answers_as _ _ c.bracketed_function.result (functions.bracketed_is c.args.head c.args.parts.now c.args.place c.args.domain.now (environment c.args.at.now) c.args.bound.now (option_copied c.args.want) c.in-Bracketed.is) c.bracketed_function.ensures

pub function_typing-returns-in-Function : goal.function_typing-returns-in-Function
function_typing-returns-in-Function t c = answers_as _ _ c.plain_function.result (functions.plain_is c.args.head c.args.parts.now c.args.place c.args.domain.now (environment c.args.at.now) c.args.bound.now (option_copied c.args.want) c.in-Function.is) c.plain_function.ensures

pub function_typing-returns-in-TypedFunction : goal.function_typing-returns-in-TypedFunction
function_typing-returns-in-TypedFunction t c = answers_as _ _ c.typed_function.result (functions.typed_is c.args.head c.args.parts.now c.args.place c.args.domain.now (environment c.args.at.now) c.args.bound.now (option_copied c.args.want) c.in-TypedFunction.is) c.typed_function.ensures

pub function_typing-returns-in_default : goal.function_typing-returns-in_default
function_typing-returns-in_default t c =
    let n = c.in_default in
    refuses_as _ c.mismatch.result TypeMismatch c.args.place
    (functions.other_form c.args.head (with_meanings c.args.parts.now) c.args.place c.args.domain.now (environment c.args.at.now) c.args.bound.now (option_copied c.args.want) n.not-Bracketed n.not-Function n.not-TypedFunction)
    c.mismatch.ensures
