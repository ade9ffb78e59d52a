-- Typed scopes with one declaration more.
use Rattle.std.proofs.Common.{◌≡◌, false, List, [], ◌∷◌, ◌++◌, refl, sym, subst}
use Rattle.std.proofs.lemmas.List.{append-nil, append_assoc}
use Rattle.gb_terms.specs.declared.decl.Module.{Module}
use Rattle.gb_terms.specs.declared.module.Bind.{Bind}
use Rattle.gb_goal.specs.declared.scope.Binder.{Binder}
use Rattle.gb_goal.specs.declared.scope.Entry.TheVariants as entry
use Rattle.gb_goal.specs.declared.sequent.Sequent.{Sequent}
use Rattle.gb_goal.specs.Scope as scope
use Rattle.gb_script.specs.declared.tree.Node.{Node}
use Rattle.gb_meaning.specs.Names.{Name}
use Rattle.gb_meaning.specs.Declared.{Declarations, declared, abstract_module, concrete_module, lemma}
use Rattle.gb_meaning.proofs.Lists.{declared-append}
use Rattle.gb_typing.specs.Context.{Context}
use Rattle.gb_typing.specs.Formulas.{IsBinder}
use Rattle.gb_typing.specs.Sequents.{IsTypedSequent}
use Rattle.gb_typing.specs.Scopes.{nothing, with_declared, with_each, context_of, is_declared, IsModule, AreTypedAfter, IsTypedScope}
use Rattle.gb_goal.specs.Answers.Answer.{given}
use Rattle.gb_elab_prog.specs.Modules.{module_given}
use Rattle.gb_elab_laws.proofs.Members.{module_typed, module_free}

pub typed_after : (c : Context) (before ds es : Declarations) → AreTypedAfter c before ds → AreTypedAfter (with_each c ds) (before ++ ds) es → AreTypedAfter c before (ds ++ es)
typed_after c before [] es h k = subst (λ z. AreTypedAfter c z es) (append-nil before) k
typed_after c before (d ∷ ds) es h k =
    let next = subst (λ z. AreTypedAfter (with_each (with_declared c d.0 d.1) ds) z es) (sym (append_assoc before (d ∷ []) ds)) k in
    (h.0, h.1, typed_after (with_declared c d.0 d.1) (before ++ d ∷ []) ds es h.2 next)

with_module : (ds : scope.Declarations) (n : Name) (m : Module) → IsTypedScope (declared ds) → is_declared (declared ds) n ≡ false → IsModule (context_of (declared ds)) n m →
    IsTypedScope (declared (ds ++ (n, entry.Module m) ∷ []))
with_module ds n m s f t = subst IsTypedScope (sym (declared-append ds ((n, entry.Module m) ∷ []))) (typed_after nothing [] (declared ds) ((n, concrete_module m) ∷ []) s (f, t, tt))

pub lemma_added : (ds : scope.Declarations) → IsTypedScope (declared ds) → (n : Name) → is_declared (declared ds) n ≡ false → (q : Sequent) (bs : List Binder) → IsTypedSequent (context_of (declared ds)) q →
    IsTypedScope (declared (ds ++ (n, entry.Lemma q bs) ∷ []))
lemma_added ds s n f q bs t = subst IsTypedScope (sym (declared-append ds ((n, entry.Lemma q bs) ∷ []))) (typed_after nothing [] (declared ds) ((n, lemma q) ∷ []) s (f, t, tt))

-- an abstract module
pub abstract_added : (ds : scope.Declarations) → IsTypedScope (declared ds) → (b : Bind) → is_declared (declared ds) b.name ≡ false → IsBinder (context_of (declared ds)) b →
    IsTypedScope (declared (ds ++ (b.name, entry.AbstractModule b) ∷ []))
abstract_added ds s b f t =
    subst IsTypedScope (sym (declared-append ds ((b.name, entry.AbstractModule b) ∷ []))) (typed_after nothing [] (declared ds) ((b.name, abstract_module b) ∷ []) s (f, (refl, t), tt))

pub module_added : (ds : scope.Declarations) → IsTypedScope (declared ds) → (t : Node) (m : Module) → module_given ds t ≡ given m →
    IsTypedScope (declared (ds ++ (m.name, entry.Module m) ∷ []))
module_added ds s t m h = with_module ds m.name m s (module_free ds t m h) (module_typed ds s t m h)
