-- What binders bind is named, and so are forms under quantifiers.
use Rattle.std.proofs.Common.{◌≡◌, List, [], ◌∷◌, ◌++◌, reverse, ap, sym, ◌∙◌, subst}
use Rattle.std.proofs.lemmas.List.{append_assoc, reverse-append}
use Rattle.gb_core.specs.declared.place.Place.{Place}
use Rattle.gb_core.specs.declared.ty.Ty.{Ty}
use Rattle.gb_core.specs.declared.ty.Ty.TheVariants as ty
use Rattle.gb_terms.specs.declared.term.Term.{Term}
use Rattle.gb_terms.specs.declared.term.Head.TheVariants.{All, Some as Exist, AllMemory, SomeMemory}
use Rattle.gb_script.specs.declared.head.Head.{Head}
use Rattle.gb_script.specs.declared.head.Head.TheVariants as head
use Rattle.gb_script.specs.declared.tree.Node.{Node}
use Rattle.gb_script.specs.Each.{Each, each, EachOf, none, more}
use Rattle.gb_script.specs.Tree.{head_of, text_of, parts_of, place_of}
use Rattle.gb_goal.specs.Answers.Answer.{given}
use Rattle.gb_names.specs.declared.binders.Quantifier.{Quantifier}
use Rattle.gb_names.specs.declared.binders.Quantifier.TheVariants.{Forall, Exists}
use Rattle.gb_names.specs.declared.bindings.Binding.{Binding}
use Rattle.gb_names.specs.declared.bindings.Kind.{Kind}
use Rattle.gb_names.specs.declared.bindings.Kind.TheVariants.{Value, Memory}
use Rattle.gb_names.specs.Allowed.{memory_here}
use Rattle.gb_names.specs.Binders.{bound_by, bound_in, memory_bound, new_names, over, over_all, values}
use Rattle.gb_names.specs.Bindings.{memory}
use Rattle.gb_names.specs.Environment.{Environment}
use Rattle.gb_names.specs.Types.{type_of}
use Rattle.gb_print_names.specs.declared.bound_names.Enumeration.{Enumeration}
use Rattle.gb_shown.specs.Named.{IsNamedType, IsNamed}
use Rattle.gb_shown.proofs.SpeltTrees.{node_named}
use Rattle.gb_shown.specs.Scopes.{IsNamedScope, IsNamedKind, AreNamedBindings}
use Rattle.gb_shown.specs.Trees.{IsFull}
use Rattle.gb_shown.proofs.Given.{given_bind, given_is, not_given}
use Rattle.gb_shown.proofs.Spelled.{spelled_named}

both_bound : (us vs : List Binding) → AreNamedBindings us → AreNamedBindings vs → AreNamedBindings (us ++ vs)
both_bound [] vs h k = k
both_bound (u ∷ us) vs h k = (h.0, both_bound us vs h.1 k)

-- what is bound first stands behind what is bound last
pub inner_bound : (ws vs : List Binding) → AreNamedBindings ws → AreNamedBindings vs → AreNamedBindings (reverse ws ++ vs)
inner_bound [] vs h k = k
inner_bound (w ∷ ws) vs h k =
    subst AreNamedBindings (sym (ap (λ z. z ++ vs) (reverse-append (w ∷ []) ws) ∙ append_assoc (reverse ws) (w ∷ []) vs)) (inner_bound ws (w ∷ vs) h.1 (h.0, k))

values_bound : (xs : List Node) (t : Ty) → IsNamedType t → AreNamedBindings (values xs t)
values_bound [] t h = tt
values_bound (x ∷ xs) t h = (h, values_bound xs t h)

module _ (es : List Enumeration) where
  module _ (at : Environment) (scope : IsNamedScope es at.declared) where
    memory_named : (ws : List Binding) (x : Node) (p : Place) (vs : List Binding) → memory_bound at ws x p ≡ given vs → AreNamedBindings vs
    memory_named ws x p vs h =
        let n = given_bind (memory_here at p) _ vs h in
        let u = given_bind (new_names ws [] (x ∷ [])) (λ _. given (memory (text_of x) ∷ [])) vs n.2 in subst AreNamedBindings (given_is (memory (text_of x) ∷ []) vs u.2) (tt, tt)

    bind_named : (ws : List Binding) (k : Head) (xs : List Node) → EachOf IsFull xs → (p : Place) (vs : List Binding) → bound_in at ws k xs p ≡ given vs → AreNamedBindings vs
    bind_named ws head.Values (x ∷ xs ∷ t ∷ []) (more f (more g (more full none))) p vs h =
        let n = given_bind (new_names ws [] (x ∷ parts_of xs)) _ vs h in
        let u = given_bind (type_of at.declared t) (λ u. given (values (x ∷ parts_of xs) u)) vs n.2 in
        subst AreNamedBindings (given_is (values (x ∷ parts_of xs) u.0) vs u.2) (values_bound (x ∷ parts_of xs) u.0 (spelled_named es at.declared scope t full u.0 u.1))
    bind_named ws head.Memory (x ∷ []) f p vs h = memory_named ws x p vs h
    bind_named ws head.ModuleBind (x ∷ xs) f p vs h = absurd (not_given _ _ vs h)
    bind_named ws _ _ f p vs h = absurd (not_given _ _ vs h)

    parts_full : (x : Node) → Each IsFull x → EachOf IsFull (parts_of x)
    parts_full x (each f g) = g

    pub binders_named : (vs : List Binding) (xs : List Node) → EachOf IsFull xs → (ws : List Binding) → AreNamedBindings vs → bound_by at vs xs ≡ given ws → AreNamedBindings ws
    unfolding bound_by
    binders_named vs [] f ws h e = subst AreNamedBindings (given_is vs ws e) h
    binders_named vs (x ∷ xs) (more f g) ws h e =
        let k = given_bind (bound_in at vs (head_of x) (parts_of x) (place_of x)) (λ us. bound_by at (vs ++ us) xs) ws e in
        binders_named (vs ++ k.0) xs g ws (both_bound vs k.0 h (bind_named vs (head_of x) (parts_of x) (parts_full x f) (place_of x) k.0 k.1)) k.2

  over_named : (q : Quantifier) (k : Kind) (f : Term) → IsNamedKind k → IsNamed es f → IsNamed es (over q k f)
  over_named Forall (Value t) f h x = node_named es (All t) (f ∷ []) ty.Bool h tt (x, tt)
  over_named Exists (Value t) f h x = node_named es (Exist t) (f ∷ []) ty.Bool h tt (x, tt)
  over_named Forall Memory f h x = node_named es AllMemory (f ∷ []) ty.Bool tt tt (x, tt)
  over_named Exists Memory f h x = node_named es SomeMemory (f ∷ []) ty.Bool tt tt (x, tt)

  pub over_all_named : (q : Quantifier) (bs : List Binding) (f : Term) → AreNamedBindings bs → IsNamed es f → IsNamed es (over_all q bs f)
  over_all_named q [] f h x = x
  over_all_named q (b ∷ bs) f h x = over_named q b.kind (over_all q bs f) h.0 (over_all_named q bs f h.1 x)
