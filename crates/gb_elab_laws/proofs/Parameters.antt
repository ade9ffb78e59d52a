-- The context of an operator's body binds its parameters.
use Rattle.std.proofs.Common.{List, [], ◌∷◌, ◌++◌, map, reverse, refl, sym, subst}
use Rattle.std.proofs.lemmas.List.{reverse-append}
use Rattle.gb_core.specs.declared.ty.Ty.{Ty}
use Rattle.gb_terms.specs.declared.decl.TypedName.{TypedName}
use Rattle.gb_laws.specs.Typing.{Binder}
use Rattle.gb_laws.specs.Typing.Binder.{value}
use Rattle.gb_typing.specs.Scopes.{AreMeasured}
use Rattle.gb_names.specs.declared.bindings.Binding.{Binding}
use Rattle.gb_names.specs.Bindings.{bound_value}
use Rattle.gb_elab_laws.proofs.Measured.{measured_form}
use Rattle.gb_elab_laws.specs.Fitting.{AreBound, of_no_module}

-- binders behind others
both_bound : (bs cs : List Binder) (vs ws : List Binding) → AreBound of_no_module bs vs → AreBound of_no_module cs ws → AreBound of_no_module (bs ++ cs) (vs ++ ws)
both_bound [] cs [] ws h k = k
both_bound [] cs (v ∷ vs) ws h k = absurd h
both_bound (b ∷ bs) cs [] ws h k = absurd h
both_bound (b ∷ bs) cs (v ∷ vs) ws h k = (h.0, both_bound bs cs vs ws h.1 k)

-- the types of variables
abbrev pub types_in : List TypedName → List Ty
types_in ps = map (λ p. p.ty) ps

-- the parameters of an operator are bound, the last one innermost
pub parameters_bound : (ps : List TypedName) → AreMeasured (types_in ps) → AreBound of_no_module (reverse (map value (types_in ps))) (reverse (map bound_value ps))
parameters_bound [] h = tt
parameters_bound (p ∷ ps) h =
    let t = measured_form of_no_module p.ty h.0 in
    subst (λ bs. AreBound of_no_module bs (reverse (map bound_value (p ∷ ps)))) (sym (reverse-append (value p.ty ∷ []) (map value (types_in ps))))
    (subst (AreBound of_no_module (reverse (map value (types_in ps)) ++ value p.ty ∷ [])) (sym (reverse-append (bound_value p ∷ []) (map bound_value ps)))
    (both_bound (reverse (map value (types_in ps))) (value p.ty ∷ []) (reverse (map bound_value ps)) (bound_value p ∷ []) (parameters_bound ps h.1) (((t.0, refl), t.1), tt)))
