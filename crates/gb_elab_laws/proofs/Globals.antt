-- The globals of a typed scope make a world: each stands in it once, at its type.
use Rattle.std.proofs.Common.{◌≡◌, Bool, true, false, ◌&&◌, ◌||◌, List, [], ◌∷◌, ◌++◌, Some, None, if◌then◌else◌, bytes_eq, refl, ap, sym, ◌∙◌}
use Rattle.std.specs.List.{list_any}
use Rattle.std.proofs.lemmas.Bool.{false≢true}
use Rattle.std.proofs.Math.Bool.{and-false}
use Rattle.std.proofs.lemmas.List.Folds.{list_any-append}
use Rattle.std.proofs.lemmas.Slice.Eq.{bytes_eq-Decides}
use Rattle.gb_terms.specs.declared.decl.TypedName.{TypedName}
use Rattle.gb_goal.specs.Scope as scope
use Rattle.gb_goal.specs.declared.scope.Entry.TheVariants as entry
use Rattle.gb_meaning.specs.Names.{Name}
use Rattle.gb_meaning.specs.Values.{Global, World, Types}
use Rattle.gb_meaning.specs.Written.{local_type}
use Rattle.gb_meaning.specs.Declared.{Declarations, declaration_of, declared, concrete_module, lemma}
use Rattle.gb_meaning.specs.Footprints.{is_global}
use Rattle.gb_meaning.specs.Holds.{HaveVariableTypes as HaveWorldTypes}
use Rattle.gb_meaning.specs.Programs.{AreOnce, AreIn}
use Rattle.gb_meaning.specs.Settings.{globals_from, declared_globals}
use Rattle.gb_meaning.specs.Typing.{global_type}
use Rattle.gb_laws.specs.Finite.{AreVariables, IsInhabited}
use Rattle.gb_laws.proofs.Sizes.{finite_sized}
use Rattle.gb_typing.specs.Context.{Context}
use Rattle.gb_typing.proofs.Globals.{name_test}
use Rattle.gb_typing.proofs.Operators.{declared_more, declared_last, other_name}
use Rattle.gb_typing.proofs.Variables.{variable_plain, variable_finite}
use Rattle.gb_typing.specs.Programs.{HaveVariableTypes}
use Rattle.gb_typing.specs.Scopes.{HaveOwnNames, is_declared, AreTypedAfter, with_declared}

global_test : (x y : Global) → (bytes_eq y.parent x.parent && bytes_eq y.name x.name) ≡ is_global x y
global_test x y = let p = name_test y.parent x.parent in let q = name_test y.name x.name in λ i. p i && q i

-- Globals that stand once are in the world that they make.

in_more : (x : Global) (gs xs : List Global) → list_any (is_global x) xs ≡ false → AreIn gs xs → AreIn (x ∷ gs) xs
in_more x gs [] e h = tt
in_more x gs (y ∷ ys) e h = step (is_global x y) refl (λ k. in_more x gs ys k h.1) e
  where
    step : (b : Bool) → is_global x y ≡ b → (list_any (is_global x) ys ≡ false → AreIn (x ∷ gs) ys) → (b || list_any (is_global x) ys) ≡ false → AreIn (x ∷ gs) (y ∷ ys)
    step true i f k = absurd (false≢true (sym k))
    step false i f k = (ap (λ (b : Bool). if b then Some x.ty else global_type gs y.parent y.name) (global_test x y ∙ i) ∙ h.0, f k)

pub in_own_world : (w : World) → AreOnce w → AreIn w w
in_own_world [] o = tt
in_own_world (x ∷ w) o =
    let same : is_global x x ≡ true = (let p = (bytes_eq-Decides x.parent x.parent).1 refl in let q = (bytes_eq-Decides x.name x.name).1 refl in λ i. p i && q i) in
    (ap (λ (b : Bool). if b then Some x.ty else global_type w x.parent x.name) same, in_more x w w o.0 (in_own_world w o.1))

-- The globals of the modules of a typed scope stand once.

other_module : (n k : Name) → bytes_eq n k ≡ false → (x : Global) → x.parent ≡ n → (ls : List TypedName) → list_any (is_global x) (globals_from k ls) ≡ false
other_module n k e x p [] = refl
other_module n k e x p (l ∷ ls) =
    let f : bytes_eq x.parent k ≡ false = ap (λ z. bytes_eq z k) p ∙ e in
    let r = other_module n k e x p ls in
    λ i. (f i && bytes_eq x.name l.name) || r i

none_of_both : (x : Global) (xs ys : List Global) → list_any (is_global x) xs ≡ false → list_any (is_global x) ys ≡ false → list_any (is_global x) (xs ++ ys) ≡ false
none_of_both x xs ys e f = list_any-append (is_global x) xs ys ∙ (λ i. e i || f i)

-- a module that is declared has no global of a later one
none_later : (ds : scope.Declarations) (before : Declarations) (c : Context) → AreTypedAfter c before (declared ds) → (n : Name) → is_declared before n ≡ true → (x : Global) → x.parent ≡ n →
    list_any (is_global x) (declared_globals (declared ds)) ≡ false
none_later [] before c w n d x p = refl
none_later ((k, entry.Module m) ∷ ds) before c w n d x p =
    none_of_both x (globals_from k m.globals) (declared_globals (declared ds)) (other_module n k (other_name before n k d w.0) x p m.globals)
    (none_later ds (before ++ (k, concrete_module m) ∷ []) (with_declared c k (concrete_module m)) w.2 n (declared_more before (k, concrete_module m) n d) x p)
none_later ((k, entry.Lemma q order) ∷ ds) before c w n d x p = none_later ds (before ++ (k, lemma q) ∷ []) c w.2 n (declared_more before (k, lemma q) n d) x p
none_later ((k, entry.Type t0) ∷ ds) before c w n d x p = none_later ds (before ++ (k, declaration_of (entry.Type t0)) ∷ []) c w.2 n (declared_more before (k, declaration_of (entry.Type t0)) n d) x p
none_later ((k, entry.AbstractType) ∷ ds) before c w n d x p = none_later ds (before ++ (k, declaration_of entry.AbstractType) ∷ []) c w.2 n (declared_more before (k, declaration_of entry.AbstractType) n d) x p
none_later ((k, entry.ModuleType y) ∷ ds) before c w n d x p = none_later ds (before ++ (k, declaration_of (entry.ModuleType y)) ∷ []) (with_declared c k (declaration_of (entry.ModuleType y))) w.2 n (declared_more before (k, declaration_of (entry.ModuleType y)) n d) x p
none_later ((k, entry.AbstractModule y) ∷ ds) before c w n d x p = none_later ds (before ++ (k, declaration_of (entry.AbstractModule y)) ∷ []) (with_declared c k (declaration_of (entry.AbstractModule y))) w.2 n (declared_more before (k, declaration_of (entry.AbstractModule y)) n d) x p
none_later ((k, entry.Constant a0) ∷ ds) before c w n d x p = none_later ds (before ++ (k, declaration_of (entry.Constant a0)) ∷ []) c w.2 n (declared_more before (k, declaration_of (entry.Constant a0)) n d) x p
none_later ((k, entry.Operator o0) ∷ ds) before c w n d x p = none_later ds (before ++ (k, declaration_of (entry.Operator o0)) ∷ []) (with_declared c k (declaration_of (entry.Operator o0))) w.2 n (declared_more before (k, declaration_of (entry.Operator o0)) n d) x p
none_later ((k, entry.AbstractOperator o0) ∷ ds) before c w n d x p = none_later ds (before ++ (k, declaration_of (entry.AbstractOperator o0)) ∷ []) (with_declared c k (declaration_of (entry.AbstractOperator o0))) w.2 n (declared_more before (k, declaration_of (entry.AbstractOperator o0)) n d) x p
none_later ((k, entry.Terminating a0) ∷ ds) before c w n d x p = none_later ds (before ++ (k, declaration_of (entry.Terminating a0)) ∷ []) c w.2 n (declared_more before (k, declaration_of (entry.Terminating a0)) n d) x p

own_name : (n : Name) (l : TypedName) (ls : List TypedName) → local_type ls l.name ≡ None → list_any (is_global (record { parent = n; name = l.name; ty = l.ty })) (globals_from n ls) ≡ false
own_name n l [] e = refl
own_name n l (k ∷ ls) e = step (bytes_eq l.name k.name) (own_name n l ls) e
  where
    step : (b : Bool) → (local_type ls l.name ≡ None → list_any (is_global (record { parent = n; name = l.name; ty = l.ty })) (globals_from n ls) ≡ false) →
        (if b then Some k.ty else local_type ls l.name) ≡ None → ((bytes_eq n n && b) || list_any (is_global (record { parent = n; name = l.name; ty = l.ty })) (globals_from n ls)) ≡ false
    step true f e = cc
    step false f e = let r = f e in let z = and-false (bytes_eq n n) in λ i. z i || r i

once_both : (n : Name) (ls : List TypedName) (ys : List Global) → HaveOwnNames ls → ((x : Global) → x.parent ≡ n → list_any (is_global x) ys ≡ false) → AreOnce ys →
    AreOnce (globals_from n ls ++ ys)
once_both n [] ys h f o = o
once_both n (l ∷ ls) ys h f o =
    let x : Global = record { parent = n; name = l.name; ty = l.ty } in
    (none_of_both x (globals_from n ls) ys (own_name n l ls h.0) (f x refl), once_both n ls ys h.1 f o)

pub globals_once : (ds : scope.Declarations) (before : Declarations) (c : Context) → AreTypedAfter c before (declared ds) → AreOnce (declared_globals (declared ds))
globals_once [] before c w = tt
globals_once ((n, entry.Module m) ∷ ds) before c w =
    once_both n m.globals (declared_globals (declared ds)) (let x = w.1 in x.names)
    (none_later ds (before ++ (n, concrete_module m) ∷ []) (with_declared c n (concrete_module m)) w.2 n (declared_last before (n, concrete_module m) n ((bytes_eq-Decides n n).1 refl)))
    (globals_once ds (before ++ (n, concrete_module m) ∷ []) (with_declared c n (concrete_module m)) w.2)
globals_once ((n, entry.Lemma q order) ∷ ds) before c w = globals_once ds (before ++ (n, lemma q) ∷ []) c w.2
globals_once ((n, entry.Type t0) ∷ ds) before c w = globals_once ds (before ++ (n, declaration_of (entry.Type t0)) ∷ []) c w.2
globals_once ((n, entry.AbstractType) ∷ ds) before c w = globals_once ds (before ++ (n, declaration_of entry.AbstractType) ∷ []) c w.2
globals_once ((n, entry.ModuleType y) ∷ ds) before c w = globals_once ds (before ++ (n, declaration_of (entry.ModuleType y)) ∷ []) (with_declared c n (declaration_of (entry.ModuleType y))) w.2
globals_once ((n, entry.AbstractModule y) ∷ ds) before c w = globals_once ds (before ++ (n, declaration_of (entry.AbstractModule y)) ∷ []) (with_declared c n (declaration_of (entry.AbstractModule y))) w.2
globals_once ((n, entry.Constant a0) ∷ ds) before c w = globals_once ds (before ++ (n, declaration_of (entry.Constant a0)) ∷ []) c w.2
globals_once ((n, entry.Operator o0) ∷ ds) before c w = globals_once ds (before ++ (n, declaration_of (entry.Operator o0)) ∷ []) (with_declared c n (declaration_of (entry.Operator o0))) w.2
globals_once ((n, entry.AbstractOperator o0) ∷ ds) before c w = globals_once ds (before ++ (n, declaration_of (entry.AbstractOperator o0)) ∷ []) (with_declared c n (declaration_of (entry.AbstractOperator o0))) w.2
globals_once ((n, entry.Terminating a0) ∷ ds) before c w = globals_once ds (before ++ (n, declaration_of (entry.Terminating a0)) ∷ []) c w.2

-- Their types are those of variables.

variables_both : (n : Name) (ls : List TypedName) (ys : List Global) → HaveVariableTypes ls → AreVariables ys → AreVariables (globals_from n ls ++ ys)
variables_both n [] ys h k = k
variables_both n (l ∷ ls) ys h k = (h.0, variables_both n ls ys h.1 k)

pub globals_variables : (ds : scope.Declarations) (before : Declarations) (c : Context) → AreTypedAfter c before (declared ds) → AreVariables (declared_globals (declared ds))
globals_variables [] before c w = tt
globals_variables ((n, entry.Module m) ∷ ds) before c w =
    variables_both n m.globals (declared_globals (declared ds)) (let x = w.1 in x.globals)
    (globals_variables ds (before ++ (n, concrete_module m) ∷ []) (with_declared c n (concrete_module m)) w.2)
globals_variables ((n, entry.Lemma q order) ∷ ds) before c w = globals_variables ds (before ++ (n, lemma q) ∷ []) c w.2
globals_variables ((n, entry.Type t0) ∷ ds) before c w = globals_variables ds (before ++ (n, declaration_of (entry.Type t0)) ∷ []) c w.2
globals_variables ((n, entry.AbstractType) ∷ ds) before c w = globals_variables ds (before ++ (n, declaration_of entry.AbstractType) ∷ []) c w.2
globals_variables ((n, entry.ModuleType y) ∷ ds) before c w = globals_variables ds (before ++ (n, declaration_of (entry.ModuleType y)) ∷ []) (with_declared c n (declaration_of (entry.ModuleType y))) w.2
globals_variables ((n, entry.AbstractModule y) ∷ ds) before c w = globals_variables ds (before ++ (n, declaration_of (entry.AbstractModule y)) ∷ []) (with_declared c n (declaration_of (entry.AbstractModule y))) w.2
globals_variables ((n, entry.Constant a0) ∷ ds) before c w = globals_variables ds (before ++ (n, declaration_of (entry.Constant a0)) ∷ []) c w.2
globals_variables ((n, entry.Operator o0) ∷ ds) before c w = globals_variables ds (before ++ (n, declaration_of (entry.Operator o0)) ∷ []) (with_declared c n (declaration_of (entry.Operator o0))) w.2
globals_variables ((n, entry.AbstractOperator o0) ∷ ds) before c w = globals_variables ds (before ++ (n, declaration_of (entry.AbstractOperator o0)) ∷ []) (with_declared c n (declaration_of (entry.AbstractOperator o0))) w.2
globals_variables ((n, entry.Terminating a0) ∷ ds) before c w = globals_variables ds (before ++ (n, declaration_of (entry.Terminating a0)) ∷ []) c w.2

pub world_types : (ts : Types) → IsInhabited ts → (w : World) → AreVariables w → HaveWorldTypes ts w
world_types ts i [] h = tt
world_types ts i (x ∷ w) h = ((variable_plain x.ty h.0, finite_sized ts i x.ty (variable_finite x.ty h.0)), world_types ts i w h.1)
