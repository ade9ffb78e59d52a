-- What a lemma that binds modules says of modules over all declarations, in each model of these.
use Rattle.std.proofs.Common.{◌≡◌, ℕ, Bool, true, false, ◌||◌, if◌then◌else◌, List, [], ◌∷◌, ◌++◌, map, Some, bytes_eq, refl, ap, sym, ◌∙◌, subst}
use Rattle.std.proofs.lemmas.Bool.{false≢true}
use Rattle.std.specs.List.{list_any}
use Rattle.gb_core.specs.declared.value.Value.{Value}
use Rattle.gb_core.specs.Numbering.{Numbering}
use Rattle.gb_terms.specs.declared.decl.TypedName.{TypedName}
use Rattle.gb_terms.specs.declared.module.Bind.{Bind}
use Rattle.gb_terms.specs.declared.module.Mexp.{Mexp}
use Rattle.gb_terms.specs.declared.module.ProcRef.{ProcRef}
use Rattle.gb_terms.specs.declared.term.Term.{Term, Term', end_of-Head, more_of-Head, out-Term}
use Rattle.gb_terms.specs.declared.term.Head.TheViews.{outs-Body'}
use Rattle.gb_laws.proofs.Trees.{out_is}
use Rattle.gb_terms.specs.declared.term.Head.TheVariants as head
use Rattle.gb_terms.specs.declared.term.Head.TheVariants.{Body'}
use Rattle.gb_goal.specs.Goal.{is_body_at, judges_bodies}
use Rattle.gb_goal.specs.declared.sequent.Sequent.{Sequent}
use Rattle.gb_meaning.specs.Judgments.{IsTrueIn}
use Rattle.gb_meaning.specs.Memory.{Memory}
use Rattle.gb_meaning.specs.Names.{Name}
use Rattle.gb_meaning.specs.Setting.{Setting}
use Rattle.gb_meaning.specs.Values.{Types, World, has}
use Rattle.gb_meaning.specs.Declared.{Declarations, abstract_type, abbreviation, operator, abstract_operator, module_type, concrete_module, abstract_module, axiom_of, lemma, terminating}
use Rattle.gb_meaning.specs.Holds.{AreTrue, AreValues, AxiomsAreTrue, EachDeclared, EachProgram, Holds, IsModel, IsTrueSequent, context, declared_modules, interpretation}
use Rattle.gb_meaning.specs.Naming.{AnyName}
use Rattle.gb_meaning.specs.Settings.{Chosen, Interpretation, Table, bare, interpreted, setting, types_of, with_operators}
use Rattle.gb_meaning.specs.Truth.{Truth, has_module}
use Rattle.gb_meaning.proofs.Fronts.{without_modules}
use Rattle.gb_meaning.proofs.SettingTypes.{setting-types}
use Rattle.gb_typing.specs.Chosen.{chosen_under, IsChosenOver}
use Rattle.gb_typing.specs.Context.{Context, procedure}
use Rattle.gb_typing.specs.Formulas.{IsKnown}
use Rattle.gb_typing.specs.Modules.{ProcedureType}
use Rattle.gb_typing.specs.Naming.{EachGlobOf, IsAmong, NamesIfThere, NoName, TermNames}
use Rattle.gb_typing.specs.Scopes.{nothing, context_of, AreTypedAfter, IsTypedScope}
use Rattle.gb_typing.specs.Sequents.{IsConclusion, IsTypedSequent, of_sequent}
use Rattle.gb_typing.specs.Typing.{IsForm}
use Rattle.gb_typing.proofs.Conclusions.{formula_form}
use Rattle.gb_typing.proofs.Declaring.{split}
use Rattle.gb_typing.proofs.PlainGlobals.{EachPlain, plain_world}
use Rattle.gb_arguments.specs.Arguments.{AreFit, AreGivenFor, AreTypedFor, AreWithin, InEachChoice, all_chosen_for, IsSaid, SaysOf, chosen_for, first_with, given_for, names_of, standing}
use Rattle.gb_arguments.specs.Firm.{IsFirm}
use Rattle.gb_typing.specs.Speaking.{ScopeSpeaks}
use Rattle.gb_arguments.proofs.FirstModel.{first_model}
use Rattle.gb_arguments.proofs.GivenPrograms.{in_each_model}
use Rattle.gb_arguments.proofs.Instances.{chosen_first, conclusion_first, instance_true, modules_chosen}
use Rattle.gb_arguments.proofs.MoreNames.{more_globs, more_names}
use Rattle.gb_arguments.proofs.Names.{procedures_speak}
use Rattle.gb_arguments.proofs.Standing.{procedures, said_sound, same_values}
use Rattle.gb_arguments.proofs.Within.{all_within}

-- Firm scopes have neither abstract modules nor axioms.

pub no_section : (ds : Declarations) → EachDeclared IsFirm ds → declared_modules ds ≡ []
no_section [] w = refl
no_section ((n, abstract_module b) ∷ ds) w = absurd w.0
no_section ((n, axiom_of q) ∷ ds) w = absurd w.0
no_section ((n, concrete_module m) ∷ ds) w = no_section ds w.1
no_section ((n, abstract_type) ∷ ds) w = no_section ds w.1
no_section ((n, abbreviation x) ∷ ds) w = no_section ds w.1
no_section ((n, operator o) ∷ ds) w = no_section ds w.1
no_section ((n, abstract_operator o) ∷ ds) w = no_section ds w.1
no_section ((n, module_type t) ∷ ds) w = no_section ds w.1
no_section ((n, lemma q) ∷ ds) w = no_section ds w.1
no_section ((n, terminating f) ∷ ds) w = no_section ds w.1

pub no_axioms : (all ds : Declarations) → EachDeclared IsFirm ds → (i : Interpretation) → AxiomsAreTrue all ds i
no_axioms all [] w i = tt
no_axioms all ((n, abstract_module b) ∷ ds) w i = absurd w.0
no_axioms all ((n, axiom_of q) ∷ ds) w i = absurd w.0
no_axioms all ((n, concrete_module m) ∷ ds) w i = no_axioms all ds w.1 i
no_axioms all ((n, abstract_type) ∷ ds) w i = no_axioms all ds w.1 i
no_axioms all ((n, abbreviation x) ∷ ds) w i = no_axioms all ds w.1 i
no_axioms all ((n, operator o) ∷ ds) w i = no_axioms all ds w.1 i
no_axioms all ((n, abstract_operator o) ∷ ds) w i = no_axioms all ds w.1 i
no_axioms all ((n, module_type t) ∷ ds) w i = no_axioms all ds w.1 i
no_axioms all ((n, lemma q) ∷ ds) w i = no_axioms all ds w.1 i
no_axioms all ((n, terminating f) ∷ ds) w i = no_axioms all ds w.1 i

-- a program is chosen under the name of each binder
module _ (before all : Declarations) (i : Interpretation) where
  stays_known : (bs : List Bind) (es : List Mexp) (cs : List Chosen) (n : Name) → IsKnown (chosen_under cs n) → IsKnown (chosen_under (all_chosen_for before all i cs bs es) n)
  stays_known [] es cs n k = k
  stays_known (b ∷ bs) [] cs n k = k
  stays_known (b ∷ bs) (e ∷ es) cs n k = stays_known bs es (chosen_for before all i b e ∷ cs) n (step (bytes_eq n b.name))
    where
      step : (z : Bool) → IsKnown (if z then Some (chosen_for before all i b e) else chosen_under cs n)
      step true = tt
      step false = k

  module _ (Fit : List Bind → List Mexp → Type 0) (none : (b : Bind) (bs : List Bind) → Fit (b ∷ bs) [] → ⊥) (rest : (b : Bind) (bs : List Bind) (e : Mexp) (es : List Mexp) → Fit (b ∷ bs) (e ∷ es) → Fit bs es) where
    known_among : (bs : List Bind) (es : List Mexp) → Fit bs es → (cs : List Chosen) (n : Name) → IsAmong (names_of bs) n → IsKnown (chosen_under (all_chosen_for before all i cs bs es) n)
    known_among [] es w cs n e = absurd (false≢true e)
    known_among (b ∷ bs) [] w cs n e = absurd (none b bs w)
    known_among (b ∷ bs) (m ∷ es) w cs n e = step (known_among bs es (rest b bs m es w) (chosen_for before all i b m ∷ cs) n) (bytes_eq n b.name) refl e
      where
        step : (IsAmong (names_of bs) n → IsKnown (chosen_under (all_chosen_for before all i (chosen_for before all i b m ∷ cs) bs es) n)) → (z : Bool) → bytes_eq n b.name ≡ z → (z || list_any (bytes_eq n) (names_of bs)) ≡ true → IsKnown (chosen_under (all_chosen_for before all i (chosen_for before all i b m ∷ cs) bs es) n)
        step later true h k = stays_known bs es (chosen_for before all i b m ∷ cs) n (subst IsKnown (sym (ap (λ z. if z then Some (chosen_for before all i b m) else chosen_under cs n) h)) tt)
        step later false h k = later k

module _ (before later : Declarations) (scoped : IsTypedScope (before ++ later)) (firm : EachDeclared IsFirm before) (speaks : ScopeSpeaks NoName before)
    (q : Sequent) (typed : IsTypedSequent (context_of before) q) (es : List Mexp) (fit : AreFit (context_of (before ++ later)) q.modules es)
    (logical : EachGlobOf (IsAmong (names_of q.modules)) q.logical) (conclusion : TermNames (IsAmong (names_of q.modules)) AnyName q.conclusion) where
  abbrev all : Declarations
  all = before ++ later

  parts : AreTypedAfter nothing [] before × AreTypedAfter (context_of before) before later
  parts = split before later [] nothing scoped

  none : declared_modules before ≡ []
  none = no_section before firm

  -- In an interpretation of all declarations, in which programs of their types are chosen for abstract modules.
  module _ (w : World) (size : Name → ℕ) (table : Table) (model : IsModel all (interpretation w size table)) (ps : List Chosen) (chosen : IsChosenOver all (interpreted w size table ps))
      (arguments_typed : AreTypedFor before all (interpreted w size table ps) q.modules es) (given : AreGivenFor before all (interpreted w size table ps) [] q.modules es) where
    abbrev i : Interpretation
    i = interpreted w size table ps

    abbrev cs : List Chosen
    cs = all_chosen_for before all i [] q.modules es

    abbrev k : Interpretation
    k = first_with all i cs

    abbrev h : Setting
    h = standing (given_for q.modules es) (setting all i)

    plain : EachPlain w
    plain = plain_world (types_of all (interpretation w size table)) w model.types

    first : IsModel before (first_with all i [])
    first = first_model before later scoped i model (no_axioms before before firm (first_with all i []))

    within : AreWithin before all i [] q.modules es
    within = all_within before later scoped i plain model.once q.modules es (context_of before) refl (let t = typed in t.modules) arguments_typed [] given

    chosen_there : IsChosenOver before k
    chosen_there = chosen_first before later scoped parts.0 none i chosen plain first q typed es fit within

    names : (r : ProcRef) (t : ProcedureType) → (let y = typed in procedure (of_sequent (context_of before) q y.frames) r) ≡ Some t → NamesIfThere NoName AnyName ((setting before k).procedure r)
    names r t e =
        procedures_speak NoName before parts.0 speaks k chosen_there (with_operators k.table (bare (types_of before k) k.table) before) q.modules (let y = typed in y.modules)
        (modules_chosen before later scoped parts.0 none i chosen plain first q typed es fit within) r t e

    known : (n : Name) → IsAmong (names_of q.modules) n → IsKnown (chosen_under cs n)
    known n e = known_among before all i (AreFit (context_of all)) (λ b bs w. w) (λ b bs e es w. w.1) q.modules es fit [] n e

    -- values of the statement's variables
    values_there : (xs : List TypedName) → EachGlobOf (IsAmong (names_of q.modules)) xs → (vs : List Value) → AreValues h.types (map (λ x. x.ty) xs) vs → AreValues (types_of before k) (map (λ x. x.ty) xs) vs
    values_there [] g [] v = tt
    values_there [] g (x ∷ vs) v = absurd v
    values_there (x ∷ xs) g [] v = absurd v
    values_there (x ∷ xs) g (y ∷ vs) v = (
      subst (λ (z : Types). has z x.ty y ≡ true) (setting-types before k)
          (subst (λ (z : Numbering). z.has y ≡ true)
          (sym (same_values before later scoped none i chosen plain q (let t = typed in t.modules) es fit (let c = chosen_there in c.unchosen) x.ty
          (more_globs (IsAmong (names_of q.modules)) (λ a. IsKnown (chosen_under cs a)) known x.ty g.0))) v.0),
      values_there xs g.1 vs v.1,
    )

    -- what is known of the statement there
    pub said_there : has_module q.conclusion ≡ false → (let y = typed in IsForm (of_sequent (context_of before) q y.frames) q.conclusion) → IsSaid before all es q (let y = typed in y.frames) i
    said_there front form = record {
      names = λ r t e. subst (NamesIfThere NoName AnyName)
          (procedures before later scoped none i chosen plain q (let y = typed in y.modules) es fit (let c = chosen_there in c.unchosen) (let y = typed in y.frames) names r t e).0 (names r t e);
      sound = said_sound before later scoped none i chosen plain q (let y = typed in y.modules) es fit (let c = chosen_there in c.unchosen) (let y = typed in y.frames) names q.conclusion
          (let f = form in f.typed) (more_names (IsAmong (names_of q.modules)) (λ a. IsKnown (chosen_under cs a)) known q.conclusion conclusion)
          (conclusion_first before later scoped parts.0 none i chosen plain first q typed es fit within front);
    }

    -- what the lemma says
    pub true_there : Holds before q → q.hyps ≡ [] → has_module q.conclusion ≡ false → (let y = typed in IsForm (of_sequent (context_of before) q y.frames) q.conclusion) →
        (vs : List Value) → AreValues h.types (map (λ x. x.ty) q.logical) vs → (ms : List Memory) → IsTrueIn h q.conclusion (context vs ms)
    true_there holds alone front form vs values ms =
        instance_true before later scoped parts.0 none i chosen plain first q typed es fit within holds alone front form names
        (more_names (IsAmong (names_of q.modules)) (λ a. IsKnown (chosen_under cs a)) known q.conclusion conclusion)
        vs (values_there q.logical logical vs values) ms

  -- A goal without modules that says what the lemma says of the modules holds.
  pub holds_there : InEachChoice all (λ i. AreTypedFor before all i q.modules es) → InEachChoice all (λ i. AreGivenFor before all i [] q.modules es) → Holds before q → q.hyps ≡ [] →
      has_module q.conclusion ≡ false → (let y = typed in IsForm (of_sequent (context_of before) q y.frames) q.conclusion) →
      (r : Sequent) → r.modules ≡ [] → has_module r.conclusion ≡ false → InEachChoice all (λ i. IsSaid before all es q (let y = typed in y.frames) i → SaysOf all es q r i) → Holds all r
  holds_there arguments_typed given holds alone front form r none plain says =
      in_each_model all scoped r (IsTrueSequent all r)
      (λ w size table model ps chosen world results fits within.
      subst (λ bs. EachProgram all bs (interpreted w size table ps)
      (λ k. (vs : List Value) → AreValues (types_of all k) (map (λ x. x.ty) r.logical) vs → (ms : List Memory) → AreTrue all r.hyps k (context vs ms) → Truth all r.conclusion k (context vs ms)))
      (sym none)
      (λ vs values ms hyps.
      let x = says w size table model ps chosen world results fits within
      (said_there w size table model ps chosen (arguments_typed w size table model ps chosen world results fits within) (given w size table model ps chosen world results fits within) front form) in
      (without_modules all r.conclusion (interpreted w size table ps) (context vs ms) plain).1
      ((x.truth (context vs ms)).0
      (true_there w size table model ps chosen (arguments_typed w size table model ps chosen world results fits within) (given w size table model ps chosen world results fits within)
      holds alone front form vs (x.values vs values) ms))))

-- a conclusion that judges no bodies is a form
pub judged_form : (c : Context) (f : Term) → IsConclusion c f → judges_bodies (out-Term f).head ≡ false → has_module f ≡ false → IsForm c f
judged_form c (Term' tt (more_of-Head (head.Hoare (Body' m is)) end_of-Head) n ts t) w e f =
    absurd (false≢true (sym e ∙ ap (λ x. judges_bodies x.head) (out_is (head.Hoare (Body' m is)) n ts t) ∙ ap is_body_at (outs-Body' m is)))
judged_form c (Term' tt (more_of-Head (head.Phoare (Body' m is) r) end_of-Head) n ts t) w e f =
    absurd (false≢true (sym e ∙ ap (λ x. judges_bodies x.head) (out_is (head.Phoare (Body' m is) r) n ts t) ∙ ap is_body_at (outs-Body' m is)))
judged_form c (Term' tt (more_of-Head (head.Equiv (Body' m is) u) end_of-Head) n ts t) w e f =
    absurd (false≢true (sym e ∙ ap (λ x. judges_bodies x.head) (out_is (head.Equiv (Body' m is) u) n ts t) ∙ ap is_body_at (outs-Body' m is)))
judged_form c f w e g = formula_form c f w g
