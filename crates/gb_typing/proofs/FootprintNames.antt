-- The footprint of what names modules in P alone speaks of abstract modules in P alone.
use Rattle.std.proofs.Common.{◌≡◌, inl, inr, Bool, true, false, if◌then◌else◌, List, [], ◌∷◌, ◌++◌, map, Option, Some, None, bytes_eq, refl, subst}
use Rattle.std.proofs.lemmas.Bool.{false≢true}
use Rattle.std.proofs.lemmas.Slice.Eq.{bytes_eq-Decides}
use Rattle.std.specs.declared.cmp.Ordering.{Ordering}
use Rattle.std.specs.declared.cmp.Ordering.TheVariants.{Less, Equal, Greater}
use mathlib.Core.Former.{Count}
use Rattle.gb_core.specs.declared.var.Var.{Var}
use Rattle.gb_core.specs.declared.var.Var.TheVariants as var
use Rattle.gb_terms.specs.declared.decl.Module.{Module}
use Rattle.gb_terms.specs.declared.decl.Param.{Param}
use Rattle.gb_terms.specs.declared.decl.Proc.{Proc}
use Rattle.gb_terms.specs.declared.module.Mexp.{Mexp, Row_of-Mexp, end_of-Mexp, more_of-Mexp}
use Rattle.gb_terms.specs.declared.module.Mexp.TheVariants.{Name as named, Apply'}
use Rattle.gb_terms.specs.declared.module.ProcRef.{ProcRef}
use Rattle.gb_terms.specs.declared.term.Instr.{Instr, Row_of-Instr, end_of-Instr, more_of-Instr}
use Rattle.gb_terms.specs.declared.term.Head.TheVariants.{Assign, Sample, Call', If', While'}
use Rattle.gb_meaning.specs.Names.{Name}
use Rattle.gb_meaning.specs.Program.{Oracle}
use Rattle.gb_meaning.specs.Declared.{Declarations, ModuleType, Signature, abstract_type, abbreviation, operator, abstract_operator, module_type, concrete_module, abstract_module, axiom_of, lemma, terminating}
use Rattle.gb_meaning.specs.Modules.{Procedures, Functor, Applied, Modules, found, closed, no_module, argument, module_at, modules_at, procedure_at, with_module, with_params, with_procedures, module_read, modules_of}
use Rattle.gb_meaning.specs.Linking.{oracle_of}
use Rattle.gb_meaning.specs.Adversary.{type_named, oracles_called, oracle_footprints, signature_footprints, abstract_footprint}
use Rattle.gb_meaning.specs.Footprints.{placed, inserted, in_order, var_order, globals_among, of_callee, variables, variables_in, touched, touched_in, body_touched, footprint_read, of_all, head_name, own_entry, footprint}
use Rattle.gb_meaning.specs.Settings.{Chosen, is_chosen, with_abstract_footprints, footprints}
use Rattle.gb_meaning.specs.Naming.{EachName, EachNameIn, EachCall, EachCallIn, EachCallOf, IsFresh}
use Rattle.gb_typing.specs.Naming.{IsKept, VariableNames, VariablesName}
use Rattle.gb_typing.specs.Added.{param_names, CodeNames, CodesName, ModulesName}
use Rattle.gb_typing.proofs.KeptNames.{kept-behind, each-name, variables-map}
use Rattle.gb_typing.proofs.ModulesAlike.{body-map}

module _ (P : Name → Type 0) where
  -- lists of variables

  append-names : (xs ys : List Var) → VariablesName P xs → VariablesName P ys → VariablesName P (xs ++ ys)
  append-names [] ys h k = k
  append-names (x ∷ xs) ys h k = (h.0, append-names xs ys h.1 k)

  front-names : (xs ys : List Var) → VariablesName P (xs ++ ys) → VariablesName P xs
  front-names [] ys h = tt
  front-names (x ∷ xs) ys h = (h.0, front-names xs ys h.1)

  rest-names : (xs ys : List Var) → VariablesName P (xs ++ ys) → VariablesName P ys
  rest-names [] ys h = h
  rest-names (x ∷ xs) ys h = rest-names xs ys h.1

  placed-names : (o : Ordering) (x y : Var) (ys zs : List Var) → VariableNames P x → VariableNames P y → VariablesName P ys → VariablesName P zs →
      VariablesName P (placed o x y ys zs)
  placed-names Less x y ys zs a b h k = (a, (b, h))
  placed-names Equal x y ys zs a b h k = (b, h)
  placed-names Greater x y ys zs a b h k = (b, k)

  inserted-names : (x : Var) (ys : List Var) → VariableNames P x → VariablesName P ys → VariablesName P (inserted var_order x ys)
  inserted-names x [] a h = (a, tt)
  inserted-names x (y ∷ ys) a h = placed-names (var_order x y) x y ys (inserted var_order x ys) a h.0 h.1 (inserted-names x ys a h.1)

  ordered-names : (xs : List Var) → VariablesName P xs → VariablesName P (in_order var_order xs)
  ordered-names [] h = tt
  ordered-names (x ∷ xs) h = inserted-names x (in_order var_order xs) h.0 (ordered-names xs h.1)

  among-names : (xs : List Var) → VariablesName P xs → VariablesName P (globals_among xs)
  among-names [] h = tt
  among-names (var.Local x ∷ xs) h = among-names xs h.1
  among-names (var.Global m x ∷ xs) h = (h.0, among-names xs h.1)
  among-names (var.Glob a ∷ xs) h = (h.0, among-names xs h.1)

  -- bodies, from their own variables and the footprints of what they call

  module _ (f : ProcRef → Option (List Var)) where
    abbrev Called : ProcRef → Type 0
    Called r = VariablesName P (of_callee (f r))

    abbrev none : ProcRef → Option (List Var)
    none r = None

    mutual
      touched-names : (i : Instr) → VariablesName P (touched none i) → EachCall Called i → VariablesName P (touched f i)
      touched-names (Assign xs e) h k = h
      touched-names (Sample x d) h k = h
      touched-names (Call' xs p n es) h k =
          append-names (xs ++ variables_in es) (of_callee (f p)) (front-names (xs ++ variables_in es) [] h) k
      touched-names (If' e m a n b) h k =
          let r : VariablesName P (variables e ++ touched_in none a) = front-names (variables e ++ touched_in none a) (touched_in none b) h in
          append-names (variables e ++ touched_in f a) (touched_in f b)
          (append-names (variables e) (touched_in f a) (front-names (variables e) (touched_in none a) r) (row-names a (rest-names (variables e) (touched_in none a) r) k.0))
          (row-names b (rest-names (variables e ++ touched_in none a) (touched_in none b) h) k.1)
      touched-names (While' e v n a) h k =
          append-names (variables e ++ variables v) (touched_in f a) (front-names (variables e ++ variables v) (touched_in none a) h)
          (row-names a (rest-names (variables e ++ variables v) (touched_in none a) h) k)

      row-names : {n : Count} (is : Row_of-Instr n) → VariablesName P (touched_in none is) → EachCallIn Called is → VariablesName P (touched_in f is)
      row-names end_of-Instr h k = tt
      row-names (more_of-Instr i is) h k =
          append-names (touched f i) (touched_in f is) (touched-names i (front-names (touched none i) (touched_in none is) h) k.0)
          (row-names is (rest-names (touched none i) (touched_in none is) h) k.1)

    body-names : (is : List Instr) → VariablesName P (body_touched none is) → EachCallOf Called is → VariablesName P (body_touched f is)
    body-names [] h k = tt
    body-names (i ∷ is) h k =
        append-names (touched f i) (body_touched f is) (touched-names i (front-names (touched none i) (body_touched none is) h) k.0)
        (body-names is (rest-names (touched none i) (body_touched none is) h) k.1)

    read-names : (p : Proc) → VariablesName P (body_touched none p.body.list ++ variables p.value) → EachCallOf Called p.body.list →
        VariablesName P (footprint_read f p)
    read-names p h k =
        ordered-names (globals_among (body_touched f p.body.list ++ variables p.value)) (among-names (body_touched f p.body.list ++ variables p.value)
        (append-names (body_touched f p.body.list) (variables p.value)
        (body-names p.body.list (front-names (body_touched none p.body.list) (variables p.value) h) k)
        (rest-names (body_touched none p.body.list) (variables p.value) h)))

  -- what modules stand for

  abbrev AreProceduresIn : Procedures (List Var) → Type 0
  AreProceduresIn [] = Unit {0}
  AreProceduresIn (p ∷ ps) = VariablesName P p.1 × AreProceduresIn ps

  abbrev AreEachIn : List (Procedures (List Var)) → Type 0
  AreEachIn [] = Unit {0}
  AreEachIn (l ∷ ls) = AreProceduresIn l × AreEachIn ls

  abbrev IsFunctorIn : Functor (List Var) → Type 0
  IsFunctorIn f = (ls : List (Procedures (List Var))) → AreEachIn ls → AreProceduresIn (f ls)

  abbrev AreFunctorsIn : List (Functor (List Var)) → Type 0
  AreFunctorsIn [] = Unit {0}
  AreFunctorsIn (f ∷ fs) = IsFunctorIn f × AreFunctorsIn fs

  abbrev IsAppliedIn : Applied (List Var) → Type 0
  IsAppliedIn m = (args : List (Functor (List Var))) → AreFunctorsIn args → AreProceduresIn (m args)

  abbrev AreModulesIn : Modules (List Var) → Type 0
  AreModulesIn ms = (n : Name) → P n → IsAppliedIn (ms n)

  append-functors : (fs gs : List (Functor (List Var))) → AreFunctorsIn fs → AreFunctorsIn gs → AreFunctorsIn (fs ++ gs)
  append-functors [] gs h k = k
  append-functors (f ∷ fs) gs h k = (h.0, append-functors fs gs h.1 k)

  append-procedures : (ps qs : Procedures (List Var)) → AreProceduresIn ps → AreProceduresIn qs → AreProceduresIn (ps ++ qs)
  append-procedures [] qs h k = k
  append-procedures (p ∷ ps) qs h k = (h.0, append-procedures ps qs h.1 k)

  closed-in : (ls : List (Procedures (List Var))) → AreEachIn ls → AreFunctorsIn (map closed ls)
  closed-in [] h = tt
  closed-in (l ∷ ls) h = (λ ks k. h.0, closed-in ls h.1)

  opened-in : (fs : List (Functor (List Var))) → AreFunctorsIn fs → AreEachIn (map (λ f. f []) fs)
  opened-in [] h = tt
  opened-in (f ∷ fs) h = (h.0 [] tt, opened-in fs h.1)

  found-if : (b : Bool) (x : List Var) (o : Option (List Var)) → VariablesName P x → VariablesName P (of_callee o) → VariablesName P (of_callee (if b then Some x else o))
  found-if true x o h k = h
  found-if false x o h k = k

  found-in : (ps : Procedures (List Var)) → AreProceduresIn ps → (n : Name) → VariablesName P (of_callee (found ps n))
  found-in [] h n = tt
  found-in (p ∷ ps) h n = found-if (bytes_eq n p.0) p.1 (found ps n) h.0 (found-in ps h.1 n)

  module _ (ms : Modules (List Var)) where
    mutual
      module-in : (m : Mexp) → EachName (λ n. IsAppliedIn (ms n)) m → IsFunctorIn (module_at ms m)
      module-in (named m) h = λ ls k. h (map closed ls) (closed-in ls k)
      module-in (Apply' m n args) h = λ ls k. h.0 (modules_at ms args ++ map closed ls) (append-functors (modules_at ms args) (map closed ls) (modules-in args h.1) (closed-in ls k))

      modules-in : {n : Count} (r : Row_of-Mexp n) → EachNameIn (λ n. IsAppliedIn (ms n)) r → AreFunctorsIn (modules_at ms r)
      modules-in end_of-Mexp h = tt
      modules-in (more_of-Mexp m r) h = (module-in m h.0, modules-in r h.1)

  applied-if : (b : Bool) (x y : Applied (List Var)) → IsAppliedIn x → (b ≡ false → IsAppliedIn y) → IsAppliedIn (if b then x else y)
  applied-if true x y h k = h
  applied-if false x y h k = k refl

  argument-in : (f : Functor (List Var)) → IsFunctorIn f → IsAppliedIn (argument f)
  argument-in f h = λ args k. h (map (λ a. a []) args) (opened-in args k)

  module _ (es : Declarations) (sub : (n : Name) → IsFresh es n → P n) where
    params-in : (ms : Modules (List Var)) → AreModulesIn ms → (ps : List Param) (args : List (Functor (List Var))) → AreFunctorsIn args → (n : Name) →
        IsKept es (param_names ps) n → IsAppliedIn (with_params ms ps args n)
    params-in ms h [] args a n (inl f) = h n (sub n f)
    params-in ms h [] args a n (inr x) = absurd (false≢true x)
    params-in ms h (p ∷ ps) [] a n k =
        applied-if (bytes_eq n p.name) no_module (with_params ms ps [] n) (λ bs c. tt) (λ b. params-in ms h ps [] tt n (kept-behind es p.name (param_names ps) n k b))
    params-in ms h (p ∷ ps) (x ∷ args) a n k =
        applied-if (bytes_eq n p.name) (argument x) (with_params ms ps args n) (argument-in x a.0)
        (λ b. params-in ms h ps args a.1 n (kept-behind es p.name (param_names ps) n k b))

    module _ (ms : Modules (List Var)) (h : AreModulesIn ms) (m : Module) where
      with-in : (e : Applied (List Var)) → IsAppliedIn e → AreModulesIn (with_module ms m.name e)
      with-in e k n p = applied-if (bytes_eq n m.name) e (ms n) k (λ b. h n p)

      code-in : (p : Proc) → CodeNames (IsFresh es) m.params p → (e : Applied (List Var)) → IsAppliedIn e → (args : List (Functor (List Var))) → AreFunctorsIn args →
          VariablesName P (footprint_read (procedure_at (with_params (with_module ms m.name e) m.params args)) p)
      code-in p c e k args a =
          let ks : Modules (List Var) = with_params (with_module ms m.name e) m.params args in
          read-names (procedure_at ks) p (variables-map (IsFresh es) P sub (body_touched (λ r. None) p.body.list ++ variables p.value) c.1)
          (body-map (λ r. EachName (IsKept es (param_names m.params)) r.«module») (λ r. VariablesName P (of_callee (procedure_at ks r)))
          (λ r x. found-in (module_at ks r.«module» [])
          (module-in ks r.«module»
          (each-name (IsKept es (param_names m.params)) (λ n. IsAppliedIn (ks n)) (params-in (with_module ms m.name e) (with-in e k) m.params args a) r.«module» x)
          [] tt) r.name)
          p.body.list c.0)

      codes-in : (ps : List Proc) → CodesName (IsFresh es) m.params ps → (e : Applied (List Var)) → IsAppliedIn e → IsAppliedIn (with_procedures footprint_read ms m e ps)
      codes-in [] c e k = k
      codes-in (p ∷ ps) c e k =
          codes-in ps c.1 _ (λ args a. append-procedures (e args) _ (k args a) (code-in p c.0 e k args a, tt))

    declared-in : (ds : Declarations) → ModulesName (IsFresh es) ds → (ms : Modules (List Var)) → AreModulesIn ms → AreModulesIn (modules_of footprint_read ms ds)
    declared-in [] c ms h = h
    declared-in ((k, concrete_module m) ∷ ds) c ms h =
        declared-in ds c.1 (with_module ms k (module_read footprint_read ms m))
        (λ n p. applied-if (bytes_eq n k) (module_read footprint_read ms m) (ms n) (codes-in ms h m m.procs c.0 no_module (λ args a. tt)) (λ b. h n p))
    declared-in ((k, abstract_type) ∷ ds) c ms h = declared-in ds c ms h
    declared-in ((k, abbreviation stood) ∷ ds) c ms h = declared-in ds c ms h
    declared-in ((k, operator o) ∷ ds) c ms h = declared-in ds c ms h
    declared-in ((k, abstract_operator o) ∷ ds) c ms h = declared-in ds c ms h
    declared-in ((k, module_type t) ∷ ds) c ms h = declared-in ds c ms h
    declared-in ((k, abstract_module b) ∷ ds) c ms h = declared-in ds c ms h
    declared-in ((k, axiom_of q) ∷ ds) c ms h = declared-in ds c ms h
    declared-in ((k, lemma q) ∷ ds) c ms h = declared-in ds c ms h
    declared-in ((k, terminating f) ∷ ds) c ms h = declared-in ds c ms h

    -- abstract modules

    oracle-if : (b : Bool) (x y : Option (List Var)) → VariablesName P (of_callee x) → VariablesName P (of_callee y) → VariablesName P (of_callee (if b then x else y))
    oracle-if true x y h k = h
    oracle-if false x y h k = k

    oracle-in : (ps : List Param) (ls : List (Procedures (List Var))) → AreEachIn ls → (o : Oracle) → VariablesName P (of_callee (oracle_of ps ls o))
    oracle-in [] ls h o = tt
    oracle-in (p ∷ ps) [] h o = tt
    oracle-in (p ∷ ps) (l ∷ ls) h o =
        oracle-if (bytes_eq o.parameter p.name) (found l o.name) (oracle_of ps ls o) (found-in l h.0 o.name) (oracle-in ps ls h.1 o)

    module _ (ds : Declarations) where
      oracles-in : (f : Oracle → Option (List Var)) → ((o : Oracle) → VariablesName P (of_callee (f o))) → (os : List Oracle) → VariablesName P (oracle_footprints f os)
      oracles-in f h [] = tt
      oracles-in f h (o ∷ os) = append-names (of_callee (f o)) (oracle_footprints f os) (h o) (oracles-in f h os)

      signatures-in : (a : Name) → P a → (t : ModuleType) (f : Oracle → Option (List Var)) → ((o : Oracle) → VariablesName P (of_callee (f o))) → (ss : List Signature) →
          AreProceduresIn (signature_footprints ds a t f ss)
      signatures-in a p t f h [] = tt
      signatures-in a p t f h (s ∷ ss) = ((p, oracles-in f h (oracles_called ds t s)), signatures-in a p t f h ss)

      abstract-in : (a : Name) → P a → (t : ModuleType) → IsAppliedIn (abstract_footprint ds a t)
      abstract-in a p t = λ args k. signatures-in a p t (oracle_of t.params (map (λ m. m []) args)) (oracle-in t.params (map (λ m. m []) args) (opened-in args k)) t.signatures

      chosen-if : (b : Bool) (n a : Name) → bytes_eq n a ≡ b → P n → (t : ModuleType) (y : Applied (List Var)) → IsAppliedIn y →
          IsAppliedIn (if b then abstract_footprint ds a t else y)
      chosen-if true n a e p t y k = abstract-in a (subst P ((bytes_eq-Decides n a).0 e) p) t
      chosen-if false n a e p t y k = k

      chosen-in : (cs : List Chosen) (ms : Modules (List Var)) → AreModulesIn ms → AreModulesIn (with_abstract_footprints ds cs ms)
      chosen-in [] ms h = h
      chosen-in (c ∷ cs) ms h =
          λ n p. chosen-if (bytes_eq n c.bind.name) n c.bind.name refl p (type_named ds c.bind.ty) (with_abstract_footprints ds cs ms n) (chosen-in cs ms h n p)

      all-in : (ps : Procedures (List Var)) → AreProceduresIn ps → VariablesName P (of_all ps)
      all-in [] h = tt
      all-in (p ∷ ps) h = append-names p.1 (of_all ps) h.0 (all-in ps h.1)

      head-names : (m : Mexp) → EachName P m → P (head_name m)
      head-names (named m) h = h
      head-names (Apply' m n args) h = h.0

      own-names : (b : Bool) (n : Name) → P n → VariablesName P (if b then var.Glob n ∷ [] else [])
      own-names true n h = (h, tt)
      own-names false n h = tt

      -- the footprint of what names modules in P, where the declared modules name nothing that is added
      pub footprint-names : ModulesName (IsFresh es) ds → (cs : List Chosen) (m : Mexp) → EachName P m → VariablesName P (footprint (footprints ds cs) (is_chosen cs) m)
      footprint-names c cs m h =
          ordered-names (own_entry (is_chosen cs) m ++ of_all (module_at (footprints ds cs) m []))
          (append-names (own_entry (is_chosen cs) m) (of_all (module_at (footprints ds cs) m [])) (own-names (is_chosen cs (head_name m)) (head_name m) (head-names m h))
          (all-in (module_at (footprints ds cs) m [])
          (module-in (footprints ds cs) m
          (each-name P (λ n. IsAppliedIn (footprints ds cs n))
          (chosen-in cs (modules_of footprint_read (with_abstract_footprints ds cs (λ n. no_module)) ds)
          (declared-in ds c (with_abstract_footprints ds cs (λ n. no_module)) (chosen-in cs (λ n. no_module) (λ n p args a. tt)))) m h)
          [] tt)))
