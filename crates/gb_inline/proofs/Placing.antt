-- Bodies in place of calls: typing, runs and loops.
use Rattle.std.proofs.Common.{◌≡◌, Bool, true, false, if◌then◌else◌, List, [], ◌∷◌, ◌++◌, map, Option, Some, None, refl, ap, sym, ◌∙◌, subst}
use Rattle.std.proofs.lemmas.Bool.{false≢true}
use Rattle.std.proofs.lemmas.Option.{none-some, same_Some}
use Rattle.std.proofs.lemmas.Slice.Eq.{bytes_eq-Decides}
use Rattle.std.specs.List.{AllByRecursion}
use Rattle.std.specs.Option.{option_map}
use Rattle.gb_core.specs.declared.var.Var.{Var}
use Rattle.gb_terms.specs.declared.decl.Proc.{Proc}
use Rattle.gb_terms.specs.declared.decl.TypedName.{TypedName}
use Rattle.gb_terms.specs.declared.module.ProcRef.{ProcRef}
use Rattle.gb_terms.specs.declared.term.Instr.{Instr}
use Rattle.gb_terms.specs.declared.term.Term.{Term, Row_of-Term, end_of-Term, more_of-Term}
use Rattle.gb_walk.specs.Change.{term_changed}
use Rattle.gb_ended.specs.Loops.{unproved_of}
use Rattle.gb_goal.specs.Scope.{Declarations, procedure_of}
use Rattle.gb_goal.specs.declared.scope.ProcName.{ProcName}
use Rattle.gb_goal.specs.declared.sequent.Sequent.{Sequent}
use Rattle.gb_meaning.specs.Declared.{declared}
use Rattle.gb_meaning.specs.Footprints.{variables, variables_in}
use Rattle.gb_meaning.specs.Holds.{LoopsAreGood}
use Rattle.gb_meaning.specs.Commands.{called, statements, terms_in}
use Rattle.gb_meaning.specs.Memory.{Memory}
use Rattle.gb_meaning.specs.Names.{Name}
use Rattle.gb_meaning.specs.Program.{followed_by}
use Rattle.gb_meaning.specs.Program.Routine.{routine}
use Rattle.gb_meaning.specs.Runs.{valued}
use Rattle.gb_meaning.specs.Setting.{Setting}
use Rattle.gb_meaning.specs.State.{State}
use Rattle.gb_meaning.specs.Written.{local_type, type_of}
use Rattle.gb_steps.specs.declared.step.Calls.{Calls}
use Rattle.gb_laws.specs.Finite.{IsFinite, IsVariableType}
use Rattle.gb_laws.specs.Programs.{Take}
use Rattle.gb_typing.specs.Context.{Context, erased, procedure}
use Rattle.gb_typing.specs.Fits.{IsSettingOf}
use Rattle.gb_typing.specs.Programs.{AreArguments, EachStatement, HaveVariableTypes, IsCall, IsProcedure, IsValued, locals_of}
use Rattle.gb_typing.specs.Rules.{IsSettingOver}
use Rattle.gb_typing.specs.Scopes.{context_of, IsTypedScope}
use Rattle.gb_typing.specs.Sequents.{of_sequent, IsTypedSequent}
use Rattle.gb_typing.proofs.LinkedProcedures.{linked_there}
use Rattle.gb_typing.proofs.Lists.{typed_append}
use Rattle.gb_typing.proofs.Located.{IsTypedThere, typed_there}
use Rattle.gb_prog.proofs.Own.{Good, good_append}
use Rattle.gb_forms.specs.Firsts.{firsts}
use Rattle.gb_inline.specs.Expanded.{each_set, expanded, in_place, result_set}
use Rattle.gb_inline.specs.Fresh.{is_taken, new_names}
use Rattle.gb_inline.specs.Inlined.{asked, is_asked, unless_unproved}
use Rattle.gb_inline.specs.Proved.{ProvedEnd}
use Rattle.gb_inline.specs.Renamed.{Renamings, each_renamed, reads_renamed}
use Rattle.gb_inline.proofs.FirstValues.{finite_variable, first_typed, first_value}
use Rattle.gb_inline.proofs.Matched.{Matches}
use Rattle.gb_inline.proofs.Names.{AreApart, AreFor, AreFresh, IsNone, fresh_names, later_type, other_type}
use Rattle.gb_inline.proofs.Off.{AreUsed, Off, off_value, used_append}
use Rattle.gb_inline.proofs.OnceRuns.{IsPlaced}
use Rattle.gb_inline.proofs.OnceTyped.{AreOver, kept_arguments, kept_take}
use Rattle.gb_inline.proofs.PlaceRuns.{AsMany, HaveValues, first_of_each, placed}
use Rattle.gb_inline.proofs.Renames.{renamed_of_type}
use Rattle.gb_inline.proofs.RenamedRuns.{each_good}
use Rattle.gb_inline.proofs.RenamedTyped.{each_typed, value_typed}
use mathlib.Core.Former.{Count}

-- a call that is asked for, its procedure, and the names under which the body stands in its place
pub record IsExpanded (ds : Declarations) (used : List Var) (p : ProcRef) (xs : List Var) (es : List Term) (js : List Instr) : Type 0 where
  f : Proc
  there : procedure_of ds p ≡ Some f
  proved : unproved_of ds p ≡ None
  names : Renamings
  fresh : AreFresh used (locals_of f) names
  is : in_place f names xs es ≡ js

pub expanded_is : (ds : Declarations) (w : Calls) (used : List Var) (p : ProcRef) (xs : List Var) (es : List Term) (js : List Instr) → expanded used (asked ds w p) xs es ≡ Some js → IsExpanded ds used p xs es js
expanded_is ds w used p xs es js e = by_asked (is_asked w p) e
  where
    with_names : (f : Proc) → procedure_of ds p ≡ Some f → unproved_of ds p ≡ None → (o : Option Renamings) → new_names used (locals_of f) ≡ o → option_map (λ rs. in_place f rs xs es) o ≡ Some js → IsExpanded ds used p xs es js
    with_names f there proved None k e = absurd (none-some js e)
    with_names f there proved (Some rs) k e = record { f = f; there = there; proved = proved; names = rs; fresh = fresh_names used (locals_of f) rs k; is = same_Some (in_place f rs xs es) js e }

    by_procedure : (u : Option ProcName) (o : Option Proc) → unproved_of ds p ≡ u → procedure_of ds p ≡ o → expanded used (unless_unproved u o) xs es ≡ Some js → IsExpanded ds used p xs es js
    by_procedure None None k l e = absurd (none-some js e)
    by_procedure None (Some f) k l e = with_names f l k (new_names used (locals_of f)) refl e
    by_procedure (Some u) o k l e = absurd (none-some js e)

    by_asked : (b : Bool) → expanded used (if b then unless_unproved (unproved_of ds p) (procedure_of ds p) else None) xs es ≡ Some js → IsExpanded ds used p xs es js
    by_asked true e = by_procedure (unproved_of ds p) (procedure_of ds p) refl refl e
    by_asked false e = absurd (none-some js e)

-- the types of locals, under their new names
new_types : (rs : Renamings) (ls fs : List TypedName) → AreFor rs ls → HaveVariableTypes ls → HaveVariableTypes fs → HaveVariableTypes (map (λ r. r.new) rs ++ fs)
new_types [] [] fs w k h = h
new_types [] (l ∷ ls) fs w k h = absurd w
new_types (r ∷ rs) [] fs w k h = absurd w
new_types (r ∷ rs) (l ∷ ls) fs w k h = (subst IsVariableType (sym w.1) k.0, new_types rs ls fs w.2 k.1 h)

untaken_none : (used : List Var) (rs : Renamings) (x : Name) → AllByRecursion (λ r. is_taken used r.new.name ≡ false) rs → is_taken used x ≡ true → IsNone rs x
untaken_none used [] x u e = tt
untaken_none used (r ∷ rs) x u e = ((λ p. false≢true (sym u.0 ∙ ap (is_taken used) p ∙ e)), untaken_none used rs x u.1 e)

-- each new name has its type
all_new : (rs : Renamings) (fs : List TypedName) → AreApart rs → AllByRecursion (λ r. local_type (map (λ r. r.new) rs ++ fs) r.new.name ≡ Some r.new.ty) rs
all_new [] fs a = tt
all_new (r ∷ rs) fs a = (itself_type r.new (map (λ r. r.new) rs ++ fs), behind rs a.0 (all_new rs fs a.1))
  where
    itself_type : (l : TypedName) (ls : List TypedName) → local_type (l ∷ ls) l.name ≡ Some l.ty
    itself_type l ls = ap (λ b. if b then Some l.ty else local_type ls l.name) ((bytes_eq-Decides l.name l.name).1 refl)

    behind : (ns : Renamings) → IsNone ns r.new.name → AllByRecursion (λ n. local_type (map (λ r. r.new) rs ++ fs) n.new.name ≡ Some n.new.ty) ns →
        AllByRecursion (λ n. local_type (r.new ∷ (map (λ r. r.new) rs ++ fs)) n.new.name ≡ Some n.new.ty) ns
    behind [] n h = tt
    behind (k ∷ ns) n h = (later_type r.new (map (λ r. r.new) rs ++ fs) k.new.name (λ p. n.0 (sym p)) ∙ h.0, behind ns n.1 h.1)

arguments_both : (c : Context) (hs : List TypedName) (es fs : List Term) (ps ls : List TypedName) → AreArguments c hs es ps → AreArguments c hs fs ls → AreArguments c hs (es ++ fs) (ps ++ ls)
arguments_both c hs [] fs [] ls w k = k
arguments_both c hs [] fs (p ∷ ps) ls w k = absurd w
arguments_both c hs (e ∷ es) fs [] ls w k = absurd w
arguments_both c hs (e ∷ es) fs (p ∷ ps) ls w k = (w.0, arguments_both c hs es fs ps ls w.1 k)

firsts_typed : (c : Context) (hs ls : List TypedName) → HaveVariableTypes ls → AreArguments c hs (firsts ls) ls
firsts_typed c hs [] h = tt
firsts_typed c hs (l ∷ ls) h = (first_typed c hs l.ty h.0, firsts_typed c hs ls h.1)

set_typed : (c : Context) (hs : List TypedName) (ns : Renamings) (es : List Term) (ks : List TypedName) → AreFor ns ks → AllByRecursion (λ r. local_type hs r.new.name ≡ Some r.new.ty) ns → AreArguments c hs es ks →
    EachStatement c hs (each_set ns es)
set_typed c hs [] es ks w h a = tt
set_typed c hs (r ∷ ns) [] ks w h a = tt
set_typed c hs (r ∷ ns) (e ∷ es) [] w h a = absurd a
set_typed c hs (r ∷ ns) (e ∷ es) (k ∷ ks) w h a = ((a.0.0, h.0 ∙ ap Some (w.1 ∙ sym a.0.1)), set_typed c hs ns es ks w.2 h.1 a.1)

result_typed : (c : Context) (hs : List TypedName) (xs : List Var) (e : Term) → IsValued c hs e → Take (erased c) hs xs (type_of e) → EachStatement c hs (result_set xs e)
result_typed c hs [] e v w = tt
result_typed c hs (x ∷ xs) e v w = ((v, w), tt)

types_front : (ps ls : List TypedName) → HaveVariableTypes (ps ++ ls) → HaveVariableTypes ls
types_front [] ls h = h
types_front (p ∷ ps) ls h = types_front ps ls h.1

module _ (ds : Declarations) (scoped : IsTypedScope (declared ds)) (q : Sequent) (t : IsTypedSequent (context_of (declared ds)) q) (used : List Var) (fs : List TypedName) where
  abbrev c : Context
  c = of_sequent (context_of (declared ds)) q t.frames

  typed_here : (p : ProcRef) (f : Proc) → procedure_of ds p ≡ Some f → IsTypedThere c p f
  typed_here p f e = typed_there ds scoped q t.modules t.frames p f e

  called_here : (p : ProcRef) (f : Proc) (xs : List Var) (es : List Term) → procedure_of ds p ≡ Some f → IsCall c fs xs (procedure c p) es → AreArguments c fs es f.params × Take (erased c) fs xs f.result
  called_here p f xs es e w = subst (λ o. IsCall c fs xs o es) (let k = typed_here p f e in k.type) w

  -- the locals, where the new ones stand in front
  pub place_typed : {n : Count} (p : ProcRef) (xs : List Var) (es : Row_of-Term n) (js : List Instr) → IsCall c fs xs (procedure c p) (terms_in es) → AreUsed used xs → AreUsed used (variables_in es) →
      IsExpanded ds used p xs (terms_in es) js → AreOver c used fs js
  place_typed p xs es js w u v k =
      let f = k.f in
      let there : IsProcedure c f = (let z = typed_here p f k.there in z.typed) in
      let body = there.body in
      let names = k.fresh in
      let rs = k.names in
      let hs = map (λ r. r.new) rs ++ fs in
      let called = called_here p f xs (terms_in es) k.there w in
      let same : (x : Name) → is_taken used x ≡ true → local_type hs x ≡ local_type fs x = λ x e. other_type rs fs x (untaken_none used rs x names.fresh e) in
      let values = arguments_both c hs (terms_in es) (firsts f.locals) f.params f.locals (kept_arguments c used fs hs same es f.params v called.0) (firsts_typed c hs f.locals (types_front f.params f.locals body.locals)) in
      let result : IsValued c (locals_of f) f.value = record { expression = there.value; finite = subst IsFinite (sym there.returned) (finite_variable f.result there.result) } in
      let valued = value_typed c (locals_of f) rs names.are fs names.apart f.value result in
      let type : type_of (term_changed f.value (reads_renamed rs)) ≡ f.result = renamed_of_type c (locals_of f) rs names.are fs names.apart f.value there.value ∙ there.returned in
      subst (AreOver c used fs) k.is (record {
        locals = hs;
        frame = record { types = new_types rs (locals_of f) fs names.are body.locals; same = same };
        each = typed_append c hs (each_set rs (terms_in es ++ firsts f.locals)) (each_renamed (reads_renamed rs) rs f.body.list ++ result_set xs (term_changed f.value (reads_renamed rs)))
            (set_typed c hs rs (terms_in es ++ firsts f.locals) (locals_of f) names.are (all_new rs fs names.apart) values)
            (typed_append c hs (each_renamed (reads_renamed rs) rs f.body.list) (result_set xs (term_changed f.value (reads_renamed rs)))
            (each_typed c (locals_of f) rs names.are fs names.apart f.body.list body.statements)
            (result_typed c hs xs (term_changed f.value (reads_renamed rs)) valued (subst (Take (erased c) hs xs) (sym type) (kept_take c used fs hs same xs f.result u called.1))));
      })

  -- Runs.
  module _ (g : Setting) (over : IsSettingOver (declared ds) g) where
    linked : (r : ProcRef) (p : Proc) → procedure_of ds r ≡ Some p → g.procedure r ≡ Some (routine p.params p.locals (statements g p.body.list) p.value)
    linked r p e =
        subst (λ h. h.procedure r ≡ Some (routine p.params p.locals (statements h p.body.list) p.value)) (sym over.meant)
        (linked_there ds scoped over.interpretation over.chosen r p e)

    many_values : (s : State) (m : Memory) (es : List Term) (ps : List TypedName) → AreArguments c fs es ps → AsMany ps (map (λ e. valued g s e m) es)
    many_values s m [] [] w = tt
    many_values s m [] (p ∷ ps) w = absurd w
    many_values s m (e ∷ es) [] w = absurd w
    many_values s m (e ∷ es) (p ∷ ps) w = many_values s m es ps w.1

    module _ (f : Proc) (there : IsProcedure c f) (rs : Renamings) (fresh : AreFresh used (locals_of f) rs) where
      firsts_held : (s : State) (m : Memory) (ls : List TypedName) → HaveVariableTypes ls → HaveValues c g used f there rs fresh.are fresh.apart fresh.fresh s m (firsts ls) (first_of_each g.types ls)
      firsts_held s m [] h = tt
      firsts_held s m (l ∷ ls) h = ((λ o k. first_value g s o l.ty h.0), firsts_held s m ls h.1)

      arguments_held : {n : Count} (s : State) (m : Memory) (es : Row_of-Term n) (ps ls : List TypedName) → AreArguments c fs (terms_in es) ps → AreUsed used (variables_in es) → HaveVariableTypes ls →
          HaveValues c g used f there rs fresh.are fresh.apart fresh.fresh s m (terms_in es ++ firsts ls) (map (λ e. valued g s e m) (terms_in es) ++ first_of_each g.types ls)
      arguments_held s m end_of-Term ps ls w u h = firsts_held s m ls h
      arguments_held s m (more_of-Term e es) [] ls w u h = absurd w
      arguments_held s m (more_of-Term e es) (p ∷ ps) ls w u h =
          let z = used_append used (variables e) (variables_in es) u in
          let x = w.0.0 in
          ((λ o k. sym (off_value used g c fs e x.expression z.0 s m o k)), arguments_held s m es ps ls w.1 z.1 h)

    pub place_runs : {n : Count} (x : List Var → ProcRef → List Term → Option (List Instr)) (p : ProcRef) (xs : List Var) (es : Row_of-Term n) (js : List Instr) → IsCall c fs xs (procedure c p) (terms_in es) → AreUsed used (variables_in es) →
        IsExpanded ds used p xs (terms_in es) js → IsPlaced c g used fs x xs p (terms_in es) js
    place_runs x p xs es js w u k s a b h =
        let f = k.f in
        let there : IsProcedure c f = (let z = typed_here p f k.there in z.typed) in
        let body = there.body in
        let names = k.fresh in
        let called_typed = called_here p f xs (terms_in es) k.there w in
        subst (λ o. Matches g (Off used) s s (called xs o (terms_in es) a) (followed_by (statements g js) b)) (sym (linked p f k.there))
        (subst (λ is. Matches g (Off used) s s (called xs (Some (routine f.params f.locals (statements g f.body.list) f.value)) (terms_in es) a) (followed_by (statements g is) b)) k.is
        (placed c g used f there k.names names.are names.apart names.fresh s xs (terms_in es) (firsts f.locals)
        (λ m. (
          map (λ e. valued g s e m) (terms_in es),
          many_values s m (terms_in es) f.params called_typed.0,
          refl,
          arguments_held f there k.names names s m es f.params f.locals called_typed.0 u (types_front f.params f.locals body.locals),
        )) a b h))

    set_good : (ns : Renamings) (es : List Term) → Good g (each_set ns es)
    set_good [] es = tt
    set_good (r ∷ ns) [] = tt
    set_good (r ∷ ns) (e ∷ es) = set_good ns es

    result_good : (xs : List Var) (e : Term) → Good g (result_set xs e)
    result_good [] e = tt
    result_good (x ∷ xs) e = tt

    pub place_good : (fits : IsSettingOf c g) → ProvedEnd ds g → (p : ProcRef) (xs : List Var) (es : List Term) (js : List Instr) → IsExpanded ds used p xs es js → LoopsAreGood g (statements g js)
    place_good fits proved p xs es js k =
        let f = k.f in
        let there : IsProcedure c f = (let z = typed_here p f k.there in z.typed) in
        let body = there.body in
        let names = k.fresh in
        let rs = k.names in
        subst (λ is. LoopsAreGood g (statements g is)) k.is
        ((good_append g (each_set rs (es ++ firsts f.locals)) (each_renamed (reads_renamed rs) rs f.body.list ++ result_set xs (term_changed f.value (reads_renamed rs)))).1 (
          set_good rs (es ++ firsts f.locals),
          (good_append g (each_renamed (reads_renamed rs) rs f.body.list) (result_set xs (term_changed f.value (reads_renamed rs)))).1
              (each_good c (locals_of f) rs names.are names.apart g fits body.locals f.body.list body.statements (proved p f k.there k.proved), result_good xs (term_changed f.value (reads_renamed rs))),
        ))
