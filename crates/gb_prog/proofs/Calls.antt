-- Calls run the outcomes of a procedure, in a frame of its own.
use Rattle.std.proofs.Common.{◌≡◌, ◌*◌, ◌⊎◌, inl, inr, true, List, [], ◌∷◌, map, Some, refl, ap, sym, ◌∙◌, subst}
use Rattle.gb_core.specs.declared.var.Var.{Var}
use Rattle.gb_core.specs.declared.value.Value.{Value}
use Rattle.gb_terms.specs.declared.decl.TypedName.{TypedName}
use Rattle.gb_terms.specs.declared.module.ProcRef.{ProcRef}
use Rattle.gb_terms.specs.declared.term.Head.TheVariants.{Call}
use Rattle.gb_terms.specs.declared.term.Instr.{Instr}
use Rattle.gb_terms.specs.declared.term.Term.{Term}
use Rattle.gb_dist.specs.WeightedList.{bind, dmap}
use Rattle.gb_dist.proofs.Monad.{bind-unit_right}
use Rattle.gb_meaning.specs.Commands.{called, statements}
use Rattle.gb_meaning.specs.Judgments.{from_frame}
use Rattle.gb_meaning.specs.Memory.{Memory, arguments, outcome, first_values, result_in}
use Rattle.gb_meaning.specs.Names.{Path, Map, empty, get}
use Rattle.gb_meaning.specs.Program.{Routine}
use Rattle.gb_meaning.specs.Program.Routine.{routine}
use Rattle.gb_meaning.specs.Runs.{out, outcomes, run_denominator, routine_denominator, valued, returned, parameter_values}
use Rattle.gb_meaning.specs.Setting.{Setting}
use Rattle.gb_meaning.specs.State.{State, closed}
use Rattle.gb_meaning.specs.Values.{Types, has, fit}
use Rattle.gb_meaning.specs.Written.{params_of}
use Rattle.gb_meaning.proofs.Bodies.{statement_call}
use Rattle.gb_meaning.proofs.Maps.{path_discrete, get-set_same, get-set_other, map_same}
use Rattle.gb_meaning.proofs.Numberings.{fit_has}
use Rattle.gb_laws.specs.Cells.{get_at}
use Rattle.gb_laws.specs.Cells.Key.{global, local}
use Rattle.gb_laws.specs.Writes.{Spares}
use Rattle.gb_laws.proofs.Leaves.{assigned_left}
use Rattle.gb_laws.specs.Programs.{AreValuesOf}
use Rattle.gb_typing.specs.Context.{Context, of_program}
use Rattle.gb_typing.specs.Fits.{IsSettingOf}
use Rattle.gb_typing.specs.Programs.{AreArguments}
use Rattle.gb_typing.proofs.Fitting.{fits_program, state_inside}
use Rattle.gb_typing.proofs.Substituted.{term_has}
use Rattle.gb_typing.specs.Meaning.{run, denominator}
use Rattle.gb_prog.specs.Calls.{called_from}

module _ (g : Setting) (xs : List Var) (p : ProcRef) (es : List Term) (r : Routine) (there : g.procedure p ≡ Some r) where
  pub call_is : (is : List Instr) → statements g (Call xs p es ∷ is) ≡ called xs (Some r) es (statements g is)
  call_is is = statement_call g xs p es (statements g is) ∙ ap (λ o. called xs o es (statements g is)) there

  pub call_run : (s : State) (is : List Instr) (m : Memory) →
      run g s (Call xs p es ∷ is) m ≡ bind (dmap (returned g xs m) (outcomes g r (map (λ e. valued g s e m) es) m.globals)) (λ n. run g s is n)
  call_run s is m = ap (λ c. out g s c m) (call_is is)

  pub call_alone : (s : State) (m : Memory) → run g s (Call xs p es ∷ []) m ≡ dmap (returned g xs m) (outcomes g r (map (λ e. valued g s e m) es) m.globals)
  call_alone s m = call_run s [] m ∙ bind-unit_right (dmap (returned g xs m) (outcomes g r (map (λ e. valued g s e m) es) m.globals))

  pub call_denominator : (is : List Instr) → denominator g (Call xs p es ∷ is) ≡ routine_denominator g r * denominator g is
  call_denominator is = ap (run_denominator g) (call_is is)

-- what a call leaves of the caller's memory, and what it takes over from the outcome
pub returned_local : (g : Setting) (xs : List Var) (m n : Memory) (x : Path) → Spares g.types xs (local x) → get_at (returned g xs m n) (local x) ≡ get_at m (local x)
returned_local g xs m n x h = assigned_left g.types (local x) xs (result_in n) h (record { globals = n.globals; frame = m.frame })

pub returned_global : (g : Setting) (xs : List Var) (m n : Memory) (x : Path) → Spares g.types xs (global x) → get_at (returned g xs m n) (global x) ≡ get_at n (global x)
returned_global g xs m n x h = assigned_left g.types (global x) xs (result_in n) h (record { globals = n.globals; frame = m.frame })

-- arguments are values of the types of parameters
pub arguments_typed : (c : Context) (g : Setting) → IsSettingOf c g → (ls : List TypedName) (s : State) (m : Memory) (es : List Term) (ps : List TypedName) → AreArguments c ls es ps →
    AreValuesOf g.types ps (map (λ e. valued g s e m) es)
arguments_typed c g fits ls s m [] [] w = tt
arguments_typed c g fits ls s m [] (p ∷ ps) w = absurd w
arguments_typed c g fits ls s m (e ∷ es) [] w = absurd w
arguments_typed c g fits ls s m (e ∷ es) (p ∷ ps) w = (
  subst (λ t. has g.types t (valued g s e m) ≡ true) w.0.1 (term_has (of_program c ls) g (fits_program c g fits ls) e w.0.0.expression.typed w.0.0.finite _ (state_inside c g ls s m)),
  arguments_typed c g fits ls s m es ps w.1,
)

-- Values that are read back from a frame of parameters make the same frame.
module _ (t : Types) (E F M : Map) where
  abbrev read_back : List TypedName → List Value
  read_back ps = map (λ (x : TypedName). fit t x.ty (get M (x.name ∷ []))) ps

  same_place : (N : Path → Type 0) (ps : List TypedName) (vs : List Value) → AreValuesOf t ps vs → ((q : Path) → (N q → ⊥) → get M q ≡ get (arguments E ps vs) q) →
      (q : Path) → (N q → ⊥) → get (arguments F ps (read_back ps)) q ≡ get (arguments F ps vs) q
  same_place N [] [] w h q n = refl
  same_place N [] (v ∷ vs) w h q n = absurd w
  same_place N (x ∷ ps) [] w h q n = absurd w
  same_place N (x ∷ ps) (v ∷ vs) w h q n = elim (path_discrete q (x.name ∷ [])) [
    | yes e ↦ ap (get (arguments F (x ∷ ps) (read_back (x ∷ ps)))) e ∙ get-set_same (arguments F ps (read_back ps)) (x.name ∷ []) (fit t x.ty (get M (x.name ∷ [])))
        ∙ ap (λ o. Some (fit t x.ty o)) (h (x.name ∷ []) (λ z. n (subst N (sym e) z)) ∙ get-set_same (arguments E ps vs) (x.name ∷ []) v) ∙ ap Some (fit_has t x.ty v w.0)
        ∙ sym (ap (get (arguments F (x ∷ ps) (v ∷ vs))) e ∙ get-set_same (arguments F ps vs) (x.name ∷ []) v)
    | no k ↦ get-set_other (arguments F ps (read_back ps)) (x.name ∷ []) (fit t x.ty (get M (x.name ∷ []))) q k
        ∙ same_place (λ z. N z ⊎ (z ≡ x.name ∷ [])) ps vs w.1
        (λ z u. h z (λ y. u (inl y)) ∙ get-set_other (arguments E ps vs) (x.name ∷ []) v z (λ y. u (inr y))) q (λ y. both n k y)
        ∙ sym (get-set_other (arguments F ps vs) (x.name ∷ []) v q k)
  ]
    where
      both : {A B : Type 0} → (A → ⊥) → (B → ⊥) → A ⊎ B → ⊥
      both f h (inl a) = f a
      both f h (inr b) = h b

same_outcomes : (g : Setting) (r : Routine) (vs : List Value) → AreValuesOf g.types (params_of r) vs → (globals : Map) →
    outcomes g r (parameter_values g r (called_from r vs globals)) globals ≡ outcomes g r vs globals
same_outcomes g (routine ps ls c e) vs w globals =
    ap (λ f. dmap (λ n. outcome n.globals (valued g closed e n)) (out g closed c (record { globals = globals; frame = f })))
    (map_same _ _ (λ q. same_place g.types empty (first_values g.types ls) (arguments empty ps vs) (λ z. ⊥) ps vs w (λ z n. refl) q (λ z. z)))

-- A judgment of a procedure speaks of the outcomes of a call, from the memory of its arguments.
pub called_outcomes : (g : Setting) (r : Routine) (vs : List Value) → AreValuesOf g.types (params_of r) vs → (globals : Map) →
    from_frame g (Some r) (called_from r vs globals) ≡ outcomes g r vs globals
called_outcomes g r vs w globals = same_outcomes g r vs w globals
