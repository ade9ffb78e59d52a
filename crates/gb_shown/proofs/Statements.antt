-- Statements.
use Rattle.std.proofs.Common.{◌≡◌, true, pred, List, [], ◌∷◌, ◌++◌, drop, length, map, Some, None, refl, ap, sym, ◌∙◌, subst}
use Rattle.std.proofs.lemmas.Bool.{false≢true}
use Rattle.std.specs.List.{AllByRecursion}
use Rattle.gb_core.specs.declared.place.Place.{Place}
use Rattle.gb_core.specs.declared.refusal.Why.TheVariants.{TypeMismatch}
use Rattle.gb_core.specs.declared.ty.Ty.{Ty}
use Rattle.gb_core.specs.declared.ty.Ty.TheVariants as ty
use Rattle.gb_core.specs.declared.var.Var.{Var}
use Rattle.gb_core.specs.declared.var.Var.TheVariants.{Global, Local, Glob}
use Rattle.gb_terms.specs.declared.op.Op.TheVariants as op
use Rattle.gb_terms.specs.declared.op.Read.TheVariants.{Program}
use Rattle.gb_terms.specs.declared.op.Side.TheVariants as side
use Rattle.gb_terms.specs.declared.term.Head.TheVariants as term_head
use Rattle.gb_terms.specs.declared.term.Instr.{Instr}
use Rattle.gb_terms.specs.declared.term.Term.{Term}
use Rattle.gb_goal.specs.Answers.{Answer, given_or}
use Rattle.gb_goal.specs.Answers.Answer.{given}
use Rattle.gb_script.specs.declared.head.Head.{Head}
use Rattle.gb_script.specs.declared.head.Head.TheVariants as head
use Rattle.gb_script.specs.declared.tree.Node.{Node}
use Rattle.gb_script.specs.Each.{EachOf}
use Rattle.gb_script.specs.Each.Each.{each}
use Rattle.gb_script.specs.Each.EachOf.{none, more}
use Rattle.gb_script.specs.Tree.{head_of, text_of, parts_of, place_of}
use Rattle.gb_names.specs.Environment.{Name, Environment, sampled}
use Rattle.gb_names.specs.Names.{Target, dotted, target}
use Rattle.gb_operators.specs.Kinds.{entries}
use Rattle.gb_operators.specs.Literals.{place_inside}
use Rattle.gb_elab.specs.Forms.{elaborated}
use Rattle.gb_elab_stmt.specs.Statements.{sampling, assignment, tuple_assignment, words, written, result_to, called_to, result_in, results_in, written_to, entry_stored, stored, instruction, Stating, all_stated, branch, counts_down, variant, turning, alone, single, begun, stating, stated, with_statings}
use Rattle.gb_elab_stmt.specs.Targets.{roomy, once, next_target, targets, type_of_all, variables_of, spelled_by}
use Rattle.gb_elab_stmt.proofs.Stated.{stated_is}
use Rattle.gb_elab_laws.proofs.Given.{given_bind, given_is, if_given, some_given, not_given}
use Rattle.gb_print_names.specs.declared.bound_names.Enumeration.{Enumeration}
use Rattle.gb_print.specs.Written.{is_target_here, is_variable_here, are_targets_here}
use Rattle.gb_shown.specs.Named.{IsNamed, IsNamedInstr, IsNamedType, IsNamedResult}
use Rattle.gb_shown.proofs.SpeltForms.{as_result}
use Rattle.gb_shown.proofs.SpeltStatements.{EachNamed, append_named, named_if, named_while}
use Rattle.gb_shown.proofs.SpeltTrees.{node_named}
use Rattle.gb_shown.specs.Scopes.{IsNamedSetting}
use Rattle.gb_shown.specs.Trees.{HasPart, HasItsParts, WritesOne}
use Rattle.gb_shown.specs.Words.{IsReadNode, IsReadTree}
use Rattle.gb_shown.proofs.Calls.{AreTargets, all_here, call_named}
use Rattle.gb_shown.proofs.OfForms.{OfForms}
use Rattle.gb_shown.proofs.Trees.{AreRead, drop_read, parts_read}
use Rattle.gb_shown.proofs.Tuples.{tuple_named, map_parts_named, drawn_named}

-- what is written may be read
read_here : (x : Var) → is_target_here [] x ≡ true → is_variable_here [] x ≡ true
read_here (Global m x) h = h
read_here (Local x) h = h
read_here (Glob m) h = absurd (false≢true h)

-- a statement of this head writes a variable at least, where it may write several
abbrev WritesSome : Head → Node → Type 0
WritesSome head.TupleStatement x = HasPart (parts_of x)
WritesSome _ x = Unit {0}

by_parts : (h : Head) (x : Node) (ps : List Node) → HasItsParts h (x ∷ ps) → WritesSome h x
by_parts head.TupleStatement x ps f = f
by_parts _ x ps f = tt

by_one : (h : Head) (x : Node) → WritesOne h → WritesSome h x
by_one head.TupleStatement x w = absurd w
by_one _ x w = tt

module _ (forms : OfForms) (es : List Enumeration) where
  -- one statement, where it is given
  abbrev Gives : Answer Instr → Type 0
  Gives a = (i : Instr) → a ≡ given i → IsNamedInstr es i

  module _ (at : Environment) (s : IsNamedSetting es at) where
    form_named : (t : Node) → IsReadTree t → (u : Ty) → IsNamedResult u → (f : Term) → elaborated t at [] (Some u) ≡ given f → IsNamed es f
    form_named t r u k f e = forms.form es at s [] tt (Some u) k t r f e

    one_target : (v : Target) → (is_target_here [] v.0 ≡ true) × IsNamedType v.1 → are_targets_here [] (v.0 ∷ []) ≡ true
    one_target v h = all_here (v ∷ []) (h, tt)

    sampling_named : (x : Name) (ds : List Node) → AreRead ds → (p : Place) → Gives (sampling at x ds p)
    unfolding sampling
    sampling_named x (d ∷ []) r p i e =
        let a = given_bind (target at x p) _ i e in
        let b = given_bind (elaborated d (sampled at) [] (Some (ty.Distr a.0.1))) _ i a.2 in
        let v = forms.target es at s x p a.0 a.1 in
        let there : IsNamedSetting es (sampled at) = record { scope = s.scope; around = s.around; context = s.context; variables = s.variables } in
        subst (IsNamedInstr es) (given_is _ i b.2) (v.0, forms.form es (sampled at) there [] tt (Some (ty.Distr a.0.1)) (drawn_named a.0.1 v.1) d r.0 b.0 b.1)
    sampling_named x [] r p i e = absurd (cc)
    sampling_named x (d ∷ c ∷ ds) r p i e = absurd (cc)

    assignment_named : (x : Name) (ts : List Node) → AreRead ts → (p : Place) → Gives (assignment at x ts p)
    unfolding assignment
    assignment_named x (t ∷ []) r p i e =
        let a = given_bind (target at x p) _ i e in
        let b = given_bind (elaborated t at [] (Some a.0.1)) _ i a.2 in
        let v = forms.target es at s x p a.0 a.1 in
        subst (IsNamedInstr es) (given_is _ i b.2) (one_target a.0 v, form_named t r.0 a.0.1 (as_result a.0.1 v.1) b.0 b.1)
    assignment_named x [] r p i e = absurd (cc)
    assignment_named x (t ∷ u ∷ ts) r p i e = absurd (cc)

    -- several variables
    next_named : (vs : List Target) (t : Node) (v : Target) → next_target at vs t ≡ given v → (is_target_here [] v.0 ≡ true) × IsNamedType v.1
    next_named vs t v e =
        let a = given_bind (roomy vs t) _ v e in
        let b = given_bind (target at (spelled_by t) (place_of t)) _ v a.2 in
        let c = given_bind (once vs b.0.0 t) _ v b.2 in
        subst (λ (x : Target). (is_target_here [] x.0 ≡ true) × IsNamedType x.1) (given_is b.0 v c.2) (forms.target es at s (spelled_by t) (place_of t) b.0 b.1)

    behind_targets : (vs ws : List Target) → AreTargets vs → AreTargets ws → AreTargets (vs ++ ws)
    behind_targets [] ws k l = l
    behind_targets (v ∷ vs) ws k l = (k.0, behind_targets vs ws k.1 l)

    -- one variable at least
    abbrev HasTarget : List Target → Type 0
    HasTarget (v ∷ vs) = Unit {0}
    HasTarget [] = ⊥

    one_stays : (vs : List Target) (v : Target) → HasTarget vs → HasTarget (vs ++ v ∷ [])
    one_stays (w ∷ vs) v h = tt
    one_stays [] v h = absurd h

    targets_stay : (ts : List Node) (vs ws : List Target) → HasTarget vs → targets at vs ts ≡ given ws → HasTarget ws
    unfolding targets
    targets_stay [] vs ws h e = subst HasTarget (given_is vs ws e) h
    targets_stay (t ∷ ts) vs ws h e = let a = given_bind (next_target at vs t) _ ws e in targets_stay ts (vs ++ a.0 ∷ []) ws (one_stays vs a.0 h) a.2

    targets_named : (ts : List Node) (vs : List Target) → AreTargets vs → (ws : List Target) → targets at vs ts ≡ given ws → AreTargets ws
    unfolding targets
    targets_named [] vs k ws e = subst (AreTargets) (given_is vs ws e) k
    targets_named (t ∷ ts) vs k ws e =
        let a = given_bind (next_target at vs t) _ ws e in targets_named ts (vs ++ a.0 ∷ []) (behind_targets vs (a.0 ∷ []) k (next_named vs t a.0 a.1, tt)) ws a.2

    one_target_there : (ts : List Node) → HasPart ts → (ws : List Target) → targets at [] ts ≡ given ws → HasTarget ws
    unfolding targets
    one_target_there (t ∷ ts) h ws e = let a = given_bind (next_target at [] t) _ ws e in targets_stay ts (a.0 ∷ []) ws tt a.2
    one_target_there [] h ws e = absurd h

    several_named : (ws : List Target) → HasTarget ws → AreTargets ws → (are_targets_here [] (variables_of ws) ≡ true) × IsNamedType (type_of_all ws)
    several_named (v ∷ []) h k = (all_here (v ∷ []) k, k.0.1)
    several_named (v ∷ w ∷ ws) h k = (all_here (v ∷ w ∷ ws) k, tuple_named v.1 w.1 (map (λ x. x.1) ws) k.0.1 k.1.0.1 (each_type ws k.1.1))
      where
        each_type : (ws : List Target) → AreTargets ws → AllByRecursion IsNamedType (map (λ x. x.1) ws)
        each_type [] k = tt
        each_type (w ∷ ws) k = (k.0.1, each_type ws k.1)
    several_named [] h k = absurd h

    tuple_assigned : (ts : List Node) → HasPart ts → (us : List Node) → AreRead us → (p : Place) → Gives (tuple_assignment at ts us p)
    unfolding tuple_assignment
    tuple_assigned ts h (u ∷ []) r p i e =
        let a = given_bind (targets at [] ts) _ i e in
        let b = given_bind (elaborated u at [] (Some (type_of_all a.0))) _ i a.2 in
        let w = several_named a.0 (one_target_there ts h a.0 a.1) (targets_named ts [] tt a.0 a.1) in
        subst (IsNamedInstr es) (given_is _ i b.2) (w.0, form_named u r.0 (type_of_all a.0) (as_result (type_of_all a.0) w.1) b.0 b.1)
    tuple_assigned ts h [] r p i e = absurd (cc)
    tuple_assigned ts h (u ∷ v ∷ us) r p i e = absurd (cc)

    result_named : (vs : List Target) → AreTargets vs → (h : Head) (ps : List Node) → AreRead ps → (p : Place) → Gives (result_to at vs h ps p)
    result_named vs k h (x ∷ ps) r p i e = call_named forms es at s vs k h x ps r.1 p i e
    result_named vs k h [] r p i e = absurd (cc)

    called_to_named : (vs : List Target) → AreTargets vs → (cs : List Node) → AreRead cs → (p : Place) → Gives (called_to at vs cs p)
    called_to_named vs k (c ∷ []) r p i e = result_named vs k (head_of c) (parts_of c) (parts_read c r.0) (place_of c) i e
    called_to_named vs k [] r p i e = absurd (cc)
    called_to_named vs k (c ∷ d ∷ cs) r p i e = absurd (cc)

    result_in_named : (x : Name) (cs : List Node) → AreRead cs → (p : Place) → Gives (result_in at x cs p)
    unfolding result_in
    result_in_named x cs r p i e = let a = given_bind (target at x p) _ i e in called_to_named (a.0 ∷ []) (forms.target es at s x p a.0 a.1, tt) cs r p i a.2

    results_in_named : (ts cs : List Node) → AreRead cs → (p : Place) → Gives (results_in at ts cs p)
    unfolding results_in
    results_in_named ts cs r p i e = let a = given_bind (targets at [] ts) _ i e in called_to_named a.0 (targets_named ts [] tt a.0 a.1) cs r p i a.2

    written_to_named : (ts : List Node) → HasPart ts → (h : Head) (us : List Node) → AreRead us → (p : Place) → Gives (written_to at ts h us p)
    written_to_named ts one head.Assign us r p i e = tuple_assigned ts one us r p i e
    written_to_named ts one head.AssignCall us r p i e = results_in_named ts us r p i e
    written_to_named ts one _ us r p i e = absurd (cc)

    entry_named : (v : Target) → (is_target_here [] v.0 ≡ true) × IsNamedType v.1 → (t : Ty × Ty) → entries v.1 ≡ Some t → (k e : Node) → IsReadTree k → IsReadTree e → Gives (entry_stored at v t k e)
    unfolding entry_stored
    entry_named v w t is k e r q i h =
        let a = given_bind (elaborated k at [] (Some t.0)) _ i h in
        let b = given_bind (elaborated e at [] (Some t.1)) _ i a.2 in
        let m = map_parts_named v.1 t w.1 is in
        let x = form_named k r t.0 (as_result t.0 m.0) a.0 a.1 in
        let y = form_named e q t.1 (as_result t.1 m.1) b.0 b.1 in
        subst (IsNamedInstr es) (given_is _ i b.2)
        (one_target v w, node_named es (term_head.Builtin op.Set) (_ ∷ a.0 ∷ b.0 ∷ []) v.1 tt (as_result v.1 w.1) (node_named es (term_head.Read (Program v.0 side.Own)) [] v.1 (read_here v.0 w.0, w.1) (as_result v.1 w.1) tt, (x, (y, tt))))

    stored_named : (x : Name) (ts : List Node) → AreRead ts → (p : Place) → Gives (stored at x ts p)
    unfolding stored
    stored_named x (k ∷ e ∷ []) r p i h =
        let a = given_bind (target at x p) _ i h in
        let b = given_bind (given_or (entries a.0.1) TypeMismatch p) _ i a.2 in
        entry_named a.0 (forms.target es at s x p a.0 a.1) b.0 (some_given (entries a.0.1) TypeMismatch p b.0 b.1) k e r.0 r.1.0 i b.2
    stored_named x [] r p i h = absurd (cc)
    stored_named x (k ∷ []) r p i h = absurd (cc)
    stored_named x (k ∷ e ∷ u ∷ ts) r p i h = absurd (cc)

    -- a statement without others in it
    instruction_named : (h : Head) (x : Node) (ps : List Node) → WritesSome h x → IsReadTree x → AreRead ps → (p : Place) → Gives (instruction at h x ps p)
    instruction_named head.Sample x ps f k r p i e = sampling_named (dotted (text_of x) (words ps)) (written ps) (drop_read (pred (length ps)) ps r) p i e
    instruction_named head.Assign x ps f k r p i e = assignment_named (dotted (text_of x) (words ps)) (written ps) (drop_read (pred (length ps)) ps r) p i e
    instruction_named head.Store x ps f k r p i e = stored_named _ (drop (pred (pred (length ps))) ps) (drop_read (pred (pred (length ps))) ps r) p i e
    instruction_named head.AssignCall x ps f k r p i e = result_in_named (dotted (text_of x) (words ps)) (written ps) (drop_read (pred (length ps)) ps r) p i e
    instruction_named head.Call x ps f k r p i e = call_named forms es at s [] tt head.Call x ps r p i e
    instruction_named head.FunctorCall x ps f k r p i e = call_named forms es at s [] tt head.FunctorCall x ps r p i e
    instruction_named head.TupleStatement x (w ∷ []) f k r p i e = written_to_named (parts_of x) f (head_of w) (parts_of w) (parts_read w r.0) p i e
    instruction_named head.TupleStatement x [] f k r p i e = absurd (cc)
    instruction_named head.TupleStatement x (w ∷ u ∷ ws) f k r p i e = absurd (cc)
    instruction_named _ x ps f k r p i e = absurd (cc)

    variant_named : (ts : List Node) → AreRead ts → (p : Place) (f : Term) → variant at ts p ≡ given f → IsNamed es f
    unfolding variant
    variant_named (v ∷ ts) r p f e =
        let a = given_bind (elaborated v at [] None) _ f e in
        subst (IsNamed es) (if_given (counts_down a.0) a.0 TypeMismatch (place_inside v) f a.2).1 (forms.form es at s [] tt None tt v r.0 a.0 a.1)
    variant_named [] r p f e = absurd (not_given _ _ f e)

  -- statements, in each named setting
  abbrev pub AreNamedIn : Stating → Type 0
  AreNamedIn f = (at : Environment) → IsNamedSetting es at → (is : List Instr) → f at ≡ given is → EachNamed es is

  -- a tree that is read, with its statements
  abbrev Part : Type 0
  Part = (n : Node) × IsReadTree n × AreNamedIn (stated n)

  abbrev parts : List Part → List (Node × Stating)
  parts ks = map (λ k. (k.0, stated k.0)) ks

  all_named : (ks : List Part) → AreNamedIn (all_stated (parts ks))
  all_named [] at s is e = subst (EachNamed es) (given_is [] is e) tt
  all_named (k ∷ ks) at s is e =
      let a = given_bind (stated k.0 at) _ is e in
      let b = given_bind (all_stated (parts ks) at) _ is a.2 in
      subst (EachNamed es) (given_is (a.0 ++ b.0) is b.2) (append_named es a.0 b.0 (k.2 at s a.0 a.1) (all_named ks at s b.0 b.1))

  branch_named : (n : Node) → IsReadTree n → (f g : Stating) → AreNamedIn f → AreNamedIn g → AreNamedIn (λ at. branch at n f g)
  branch_named n r f g k l at s is e =
      let a = given_bind (elaborated n at [] (Some ty.Bool)) _ is e in
      let b = given_bind (f at) _ is a.2 in
      let c = given_bind (g at) _ is b.2 in
      subst (EachNamed es) (given_is _ is c.2) (named_if es a.0 (record { list = b.0 }) (record { list = c.0 }) (form_named at s n r ty.Bool tt a.0 a.1) (k at s b.0 b.1) (l at s c.0 c.1), tt)

  turning_named : (n l : Node) → IsReadTree n → IsReadTree l → (f : Stating) → AreNamedIn f → AreNamedIn (λ at. turning at n l f)
  turning_named n l r q f k at s is e =
      let a = given_bind (elaborated n at [] (Some ty.Bool)) _ is e in
      let b = given_bind (variant at (parts_of l) (place_of l)) _ is a.2 in
      let c = given_bind (f at) _ is b.2 in
      subst (EachNamed es) (given_is _ is c.2)
      (named_while es a.0 b.0 (record { list = c.0 }) (form_named at s n r ty.Bool tt a.0 a.1) (variant_named at s (parts_of l) (parts_read l q) (place_of l) b.0 b.1) (k at s c.0 c.1), tt)

  alone_named : (a : Answer Instr) → Gives a → (is : List Instr) → alone a ≡ given is → EachNamed es is
  alone_named a k is e = let b = given_bind a _ is e in subst (EachNamed es) (given_is (b.0 ∷ []) is b.2) (k b.0 b.1, tt)

  nodes_read : (ks : List Part) → AreRead (map (λ s. s.0) (parts ks))
  nodes_read [] = tt
  nodes_read (k ∷ ks) = (k.1, nodes_read ks)

  single_named : (h : Head) (ps : List Node) → HasItsParts h ps → AreRead ps → (p : Place) → AreNamedIn (λ at. single at h ps p)
  single_named h (x ∷ ps) f r p at s is e = alone_named (instruction at h x ps p) (instruction_named at s h x ps (by_parts h x ps f) r.0 r.1 p) is e
  single_named h [] f r p at s is e = absurd (cc)

  begun_named : (x t : Node) → IsReadTree x → IsReadTree t → WritesOne (head_of t) → (f : Stating) → AreNamedIn f → AreNamedIn (λ at. begun at x t f)
  begun_named x t r q h f k at s is e =
      let a = given_bind (alone (instruction at (head_of t) x (parts_of t) (place_of x))) _ is e in
      let b = given_bind (f at) _ is a.2 in
      subst (EachNamed es) (given_is (a.0 ++ b.0) is b.2)
      (append_named es a.0 b.0 (alone_named _ (instruction_named at s (head_of t) x (parts_of t) (by_one (head_of t) x h) r (parts_read t q) (place_of x)) a.0 a.1) (k at s b.0 b.1))

  -- statements by a head and its parts
  stating_named : (h : Head) (ks : List Part) → HasItsParts h (map (λ s. s.0) (parts ks)) → (p : Place) → AreNamedIn (stating h (parts ks) p)
  stating_named head.If (n ∷ a ∷ b ∷ []) f p at s is e = branch_named n.0 n.1 (stated a.0) (stated b.0) a.2 b.2 at s is e
  stating_named head.If [] f p at s is e = absurd (cc)
  stating_named head.If (n ∷ []) f p at s is e = absurd (cc)
  stating_named head.If (n ∷ a ∷ []) f p at s is e = absurd (cc)
  stating_named head.If (n ∷ a ∷ b ∷ c ∷ ks) f p at s is e = absurd (cc)
  stating_named head.While (n ∷ l ∷ []) f p at s is e = turning_named n.0 l.0 n.1 l.1 (stated l.0) l.2 at s is e
  stating_named head.While [] f p at s is e = absurd (cc)
  stating_named head.While (n ∷ []) f p at s is e = absurd (cc)
  stating_named head.While (n ∷ l ∷ k ∷ ks) f p at s is e = absurd (cc)
  stating_named head.Loop (v ∷ ks) f p at s is e = all_named ks at s is e
  stating_named head.Loop [] f p at s is e = absurd (cc)
  stating_named head.NamedLoop (v ∷ x ∷ t ∷ ks) f p at s is e = begun_named x.0 t.0 x.1 t.1 f (all_stated (parts ks)) (all_named ks) at s is e
  stating_named head.NamedLoop [] f p at s is e = absurd (cc)
  stating_named head.NamedLoop (v ∷ []) f p at s is e = absurd (cc)
  stating_named head.NamedLoop (v ∷ x ∷ []) f p at s is e = absurd (cc)
  stating_named head.List ks f p at s is e = all_named ks at s is e
  stating_named h ks f p at s is e = single_named h (map (λ s. s.0) (parts ks)) f (nodes_read ks) p at s is e

  mutual
    -- a tree of statements
    pub stated_named : {t : Node} → IsReadTree t → AreNamedIn (stated t)
    stated_named (each {x = t} k ks) at s is e =
        let p = known ks in
        stating_named (head_of t) p.0 (subst (HasItsParts (head_of t)) (sym p.2) k.full) (place_of t) at s is
        (ap (λ z. stating (head_of t) z (place_of t) at) p.1 ∙ sym (stated_is t at) ∙ e)

    known : {ns : List Node} → EachOf IsReadNode ns → (ks : List Part) × (parts ks ≡ with_statings ns) × (map (λ s. s.0) (parts ks) ≡ ns)
    known none = ([], refl, refl)
    known (more {x = n} k ks) = let p = known ks in ((n, k, stated_named k) ∷ p.0, ap (λ z. (n, stated n) ∷ z) p.1, ap (λ z. n ∷ z) p.2)

  all_parts : (ts : List Node) → AreRead ts → (ks : List Part) × (parts ks ≡ with_statings ts)
  all_parts [] r = ([], refl)
  all_parts (t ∷ ts) r = let p = all_parts ts r.1 in ((t, r.0, stated_named r.0) ∷ p.0, ap (λ z. (t, stated t) ∷ z) p.1)

  -- the statements of a body
  pub body_named : (ts : List Node) → AreRead ts → AreNamedIn (all_stated (with_statings ts))
  body_named ts r at s is e = let p = all_parts ts r in all_named p.0 at s is (ap (λ z. all_stated z at) p.1 ∙ e)
