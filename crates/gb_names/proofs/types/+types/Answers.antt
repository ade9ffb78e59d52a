use Rattle.std.proofs.Common.{rules, ◌≡◌, ◌+◌, ◌<◌, ◌≤◌, min, length, take, drop, ap, sym, ◌∙◌, subst}
use Rattle.std.proofs.lemmas.List.{append-nil}
use Rattle.gb_core.specs.declared.refusal.Why.TheVariants.{Syntax}
use Rattle.gb_core.specs.declared.ty.Ty.TheVariants.{Map}
use Rattle.gb_script.specs.Tree.{head_of, text_of, place_of}
use Rattle.gb_goal.specs.Answers.Answer.{given}
use Rattle.gb_names.specs.Types.{all_given, all_spelled, bracketed_type, declared_type, spelled, spelling, tuple_of, with_spellings}
use Rattle.gb_names.specs.Names.{path}
use Rattle.gb_names.proofs.Answers.{answers_as, fails_as, leads_on, passes, refuses_as}
use Rattle.gb_names.proofs.Parts.{one}
use Rattle.gb_names.proofs.Spellings.{answers, behind, behind_none, behind_one, behind_refused, first_answers, map_is, map_of, next_part, no_part, no_type, option_is, option_of, spelled_is, words_are}
use Rattle.gb_names.proofs.types.+types.Goals as goal

pub first_parts-loop-i-init : goal.first_parts-loop-i-init
first_parts-loop-i-init t c =
    let a = all_given (answers c.args.scope.now c.args.place (take 8 c.args.parts.now)) in
    subst (λ ts. a ≡ behind ts a) (sym c.new-types.ensures) (behind_none a)

pub first_parts-returns-in_err-ty : goal.first_parts-returns-in_err-ty
first_parts-returns-in_err-ty t c =
    let ps = c.args.parts.now in
    let x = c.index-parts-i.result in
    let h : c.loop-i.i < min (length ps) 8 = rw (← c.min-i-end.ensures) c.loop-i-test.true in
    let rest = answers c.args.scope.now c.args.place (drop (c.loop-i.i + 1) (take 8 ps)) in
    let e =
    first_answers 8 c.args.scope.now c.args.place ps ∙ c.loop-i.invariant
    ∙ ap (λ ts. behind c.loop-i.types (all_given (answers c.args.scope.now c.args.place ts))) (next_part 8 c.loop-i.i ps x h c.index-parts-i.is) in
    let fails = fails_as _ _ _ e (behind_refused c.loop-i.types (spelled x c.args.scope.now c.args.place) rest _ c.in_err-ty.ensures) in
    search rules

pub first_parts-loop-i-preserved : goal.first_parts-loop-i-preserved
first_parts-loop-i-preserved t c =
    let ps = c.args.parts.now in
    let x = c.index-parts-i.result in
    let h : c.loop-i.i < min (length ps) 8 = rw (← c.min-i-end.ensures) c.loop-i-test.true in
    let rest = answers c.args.scope.now c.args.place (drop (c.loop-i.i + 1) (take 8 ps)) in
    c.loop-i.invariant
    ∙ ap (λ ts. behind c.loop-i.types (all_given (answers c.args.scope.now c.args.place ts))) (next_part 8 c.loop-i.i ps x h c.index-parts-i.is)
    ∙ behind_one c.loop-i.types c.in_ok-ty.ty _ rest c.in_ok-ty.ensures
    ∙ ap (λ ts. behind ts (all_given rest)) (sym c.in_ok-push.ensures.ok)

pub first_parts-returns : goal.first_parts-returns
first_parts-returns t c =
    let ps = c.args.parts.now in
    let h : min (length ps) 8 ≤ c.loop-i.i = rw (← c.min-i-end.ensures) c.loop-i-test.false in
    first_answers 8 c.args.scope.now c.args.place ps ∙ c.loop-i.invariant
    ∙ ap (λ ts. behind c.loop-i.types (all_given (answers c.args.scope.now c.args.place ts))) (no_part 8 c.loop-i.i ps h)
    ∙ ap given (append-nil c.loop-i.types)

pub spelled-returns : goal.spelled-returns
spelled-returns t c =
    answers_as _ _ c.spelling.result
    (spelled_is c.args.t.now c.args.scope.now c.args.place
    ∙ ap (λ ps. spelling (head_of c.args.t.now) (text_of c.args.t.now) (with_spellings ps) (place_of c.args.t.now) c.args.scope.now c.args.place) (sym c.as_slice.ensures))
    c.spelling.ensures

pub spelling-returns-in-PlainType : goal.spelling-returns-in-PlainType
unfolding spelling
spelling-returns-in-PlainType t c = answers_as _ _ c.plain_type.result (ap (λ h. spelling h c.args.text.now (with_spellings c.args.parts.now) c.args.own c.args.scope.now c.args.place) c.in-PlainType.is) c.plain_type.ensures

pub spelling-returns-in-BitsType : goal.spelling-returns-in-BitsType
unfolding spelling
spelling-returns-in-BitsType t c = answers_as _ _ c.bits_type.result (ap (λ h. spelling h c.args.text.now (with_spellings c.args.parts.now) c.args.own c.args.scope.now c.args.place) c.in-BitsType.is) c.bits_type.ensures

pub spelling-returns-in-IntType : goal.spelling-returns-in-IntType
unfolding spelling
spelling-returns-in-IntType t c = answers_as _ _ c.int_type.result (ap (λ h. spelling h c.args.text.now (with_spellings c.args.parts.now) c.args.own c.args.scope.now c.args.place) c.in-IntType.is) c.int_type.ensures

pub spelling-returns-in-BracketedType : goal.spelling-returns-in-BracketedType
unfolding spelling
spelling-returns-in-BracketedType t c = answers_as _ _ c.bracketed_type.result (ap (λ h. spelling h c.args.text.now (with_spellings c.args.parts.now) c.args.own c.args.scope.now c.args.place) c.in-BracketedType.is) c.bracketed_type.ensures

pub spelling-returns-in-OptionType : goal.spelling-returns-in-OptionType
unfolding spelling
spelling-returns-in-OptionType t c = answers_as _ _ c.option_type.result (ap (λ h. spelling h c.args.text.now (with_spellings c.args.parts.now) c.args.own c.args.scope.now c.args.place) c.in-OptionType.is) c.option_type.ensures

pub spelling-returns-in-MapType : goal.spelling-returns-in-MapType
unfolding spelling
spelling-returns-in-MapType t c = answers_as _ _ c.map_type.result (ap (λ h. spelling h c.args.text.now (with_spellings c.args.parts.now) c.args.own c.args.scope.now c.args.place) c.in-MapType.is) c.map_type.ensures

pub spelling-returns-in-ProductType : goal.spelling-returns-in-ProductType
unfolding spelling
spelling-returns-in-ProductType t c = answers_as _ _ c.tuple_type.result (ap (λ h. spelling h c.args.text.now (with_spellings c.args.parts.now) c.args.own c.args.scope.now c.args.place) c.in-ProductType.is) c.tuple_type.ensures

pub spelling-returns-in-Name : goal.spelling-returns-in-Name
unfolding spelling
spelling-returns-in-Name t c =
    answers_as _ _ c.declared_type.result (ap (λ h. spelling h c.args.text.now (with_spellings c.args.parts.now) c.args.own c.args.scope.now c.args.place) c.in-Name.is) c.declared_type.ensures

pub spelling-returns-in-Path : goal.spelling-returns-in-Path
unfolding spelling
spelling-returns-in-Path t c =
    answers_as _ _ c.path_type.result
    (ap (λ h. spelling h c.args.text.now (with_spellings c.args.parts.now) c.args.own c.args.scope.now c.args.place) c.in-Path.is
    ∙ ap (λ ts. declared_type c.args.scope.now (path ts) c.args.own) (words_are c.args.parts.now))
    c.path_type.ensures

pub spelling-returns-in_default : goal.spelling-returns-in_default
spelling-returns-in_default t c =
    let d = c.in_default in
    refuses_as _ c.not_built.result Syntax c.args.place
    (no_type c.args.head c.args.text.now (with_spellings c.args.parts.now) c.args.own c.args.scope.now c.args.place
    d.not-PlainType d.not-IntType d.not-BitsType d.not-BracketedType d.not-MapType d.not-ProductType d.not-OptionType d.not-Name d.not-Path)
    c.not_built.ensures

pub map_type-returns-in_err-key-in-len2 : goal.map_type-returns-in_err-key-in-len2
map_type-returns-in_err-key-in-len2 t c =
    let ds = c.args.scope.now in
    let p = c.args.place in
    let a = c.key-item.result in
    let b = c.value-item.result in
    let fails =
    fails_as _ _ _ (map_is ds p c.args.parts.now a b c.in-len2.len_at_least c.in-len2.len_below c.key-item.is c.value-item.is)
    (passes (spelled a ds p) (map_of ds p b) _ c.in_err-key-in-len2.ensures) in
    search rules

pub map_type-returns-in_err-value-in-len2 : goal.map_type-returns-in_err-value-in-len2
map_type-returns-in_err-value-in-len2 t c =
    let ds = c.args.scope.now in
    let p = c.args.place in
    let a = c.key-item.result in
    let b = c.value-item.result in
    let key = c.in_ok-key-in-len2.key in
    let fails =
    fails_as _ _ _
    (map_is ds p c.args.parts.now a b c.in-len2.len_at_least c.in-len2.len_below c.key-item.is c.value-item.is
    ∙ leads_on (spelled a ds p) (map_of ds p b) key c.in_ok-key-in-len2.ensures)
    (passes (spelled b ds p) (λ u. given (Map key u)) _ c.in_err-value-in-len2.ensures) in
    search rules

pub map_type-returns-in_ok-value-in-len2 : goal.map_type-returns-in_ok-value-in-len2
map_type-returns-in_ok-value-in-len2 t c =
    let ds = c.args.scope.now in
    let p = c.args.place in
    let a = c.key-item.result in
    let b = c.value-item.result in
    let key = c.in_ok-key-in-len2.key in
    map_is ds p c.args.parts.now a b c.in-len2.len_at_least c.in-len2.len_below c.key-item.is c.value-item.is
    ∙ leads_on (spelled a ds p) (map_of ds p b) key c.in_ok-key-in-len2.ensures
    ∙ leads_on (spelled b ds p) (λ u. given (Map key u)) c.in_ok-value-in-len2.value c.in_ok-value-in-len2.ensures

pub option_type-returns-in_err-shared-in-len1 : goal.option_type-returns-in_err-shared-in-len1
option_type-returns-in_err-shared-in-len1 t c =
    let ds = c.args.scope.now in
    let p = c.args.place in
    let a = c.inner-item.result in
    let fails =
    fails_as _ _ _ (option_is ds p c.args.parts.now a c.in-len1.len_at_least c.in-len1.len_below c.inner-item.is)
    (passes (spelled a ds p) (option_of ds p) _ c.in_err-shared-in-len1.ensures) in
    search rules

pub option_type-returns-in_ok-shared-in-len1 : goal.option_type-returns-in_ok-shared-in-len1
option_type-returns-in_ok-shared-in-len1 t c =
    let ds = c.args.scope.now in
    let p = c.args.place in
    let a = c.inner-item.result in
    option_is ds p c.args.parts.now a c.in-len1.len_at_least c.in-len1.len_below c.inner-item.is
    ∙ leads_on (spelled a ds p) (option_of ds p) c.in_ok-shared-in-len1.field-0 c.in_ok-shared-in-len1.ensures

pub bracketed_type-returns-in-len1 : goal.bracketed_type-returns-in-len1
bracketed_type-returns-in-len1 t c =
    let ds = c.args.scope.now in
    let p = c.args.place in
    answers_as _ _ c.spelled.result
    (ap (λ us. bracketed_type (with_spellings us) ds p) (one c.args.parts.now c.inner-item.result c.in-len1.len_at_least c.in-len1.len_below c.inner-item.is))
    c.spelled.ensures

pub tuple_type-returns-in_err-types : goal.tuple_type-returns-in_err-types
tuple_type-returns-in_err-types t c =
    let us = with_spellings c.args.parts.now in
    let fails = passes (all_spelled (take 8 us) c.args.scope.now c.args.place) (λ ts. tuple_of ts (drop 8 us)) _ c.in_err-types.ensures in
    search rules
