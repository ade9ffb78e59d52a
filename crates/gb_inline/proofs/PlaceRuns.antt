-- What stands in place of a call runs as the call does, but for new locals.
use Rattle.std.proofs.Common.{◌≡◌, ◌*◌, true, false, List, [], ◌∷◌, ◌++◌, map, Some, refl, ap, sym, ◌∙◌, subst, arith}
use Rattle.std.proofs.lemmas.Bool.{false≢true}
use Rattle.std.specs.List.{AllByRecursion}
use Rattle.gb_core.specs.declared.ty.Ty.{Ty}
use Rattle.gb_core.specs.declared.value.Value.{Value}
use Rattle.gb_core.specs.declared.value.Value.TheVariants.{Many}
use Rattle.gb_core.specs.declared.var.Var.{Var}
use Rattle.gb_dist.specs.WeightedList.{WeightedList, bind, dmap, unit}
use Rattle.gb_dist.proofs.Monad.{bind-unit, dmap-dmap, dmap_by_bind}
use Rattle.gb_terms.specs.declared.decl.Proc.{Proc}
use Rattle.gb_terms.specs.declared.decl.TypedName.{TypedName}
use Rattle.gb_terms.specs.declared.term.Instr.{Instr}
use Rattle.gb_terms.specs.declared.term.Term.{Term}
use Rattle.gb_walk.specs.Change.{Changes, term_changed}
use Rattle.gb_meaning.proofs.Maps.{get-set_other, get-set_same}
use Rattle.gb_meaning.proofs.Sequence.{followed_denominator, followed_run}
use Rattle.gb_laws.proofs.Zips.{Zip, zip-bind, zip-dmap}
use Rattle.gb_meaning.specs.Commands.{statements}
use Rattle.gb_meaning.specs.Memory.{Memory, arguments, assigned, first_values, outcome, result_in, result_name, value_or, write_local}
use Rattle.gb_meaning.specs.Names.{Map, Name, Path, empty, get, set}
use Rattle.gb_meaning.specs.Program.{Program, followed_by}
use Rattle.gb_meaning.specs.Program.Program.{call}
use Rattle.gb_meaning.specs.Program.Routine.{routine}
use Rattle.gb_meaning.specs.Runs.{new_frame, out, outcomes, returned, run_denominator, valued}
use Rattle.gb_meaning.specs.Setting.{Setting}
use Rattle.gb_meaning.specs.State.{State, closed}
use Rattle.gb_meaning.specs.Values.{Types, first, fit}
use Rattle.gb_meaning.specs.Written.{local_type}
use Rattle.gb_typing.specs.Context.{Context}
use Rattle.gb_typing.specs.Meaning.{denominator, run}
use Rattle.gb_typing.specs.Programs.{IsProcedure, locals_of}
use Rattle.gb_typing.proofs.Runs.{denominator_append, run_append}
use Rattle.gb_typing.proofs.Scripts.{none_some}
use Rattle.gb_inline.specs.Expanded.{each_set, result_set}
use Rattle.gb_inline.specs.Fresh.{is_taken}
use Rattle.gb_inline.specs.Renamed.{Renamings, each_renamed, name_renamed, reads_renamed}
use Rattle.gb_inline.proofs.Matched.{Matches}
use Rattle.gb_inline.proofs.Names.{AreApart, AreFor, IsNone, either_name, first_name, later_name, later_type}
use Rattle.gb_inline.proofs.Off.{Off, off_assigned, off_unused}
use Rattle.gb_inline.proofs.Renames.{Like, renamed_value}
use Rattle.gb_inline.proofs.RenamedRuns.{Framed, IsOther, each_matches, framed_keeps, like_keeps, path_apart}

-- as many of both
abbrev pub AsMany : {A B : Type 0} → List A → List B → Type 0
AsMany [] [] = Unit {0}
AsMany (x ∷ xs) (y ∷ ys) = AsMany xs ys
AsMany _ _ = ⊥

pub many_both : {A B : Type 0} (xs us : List A) (ys vs : List B) → AsMany xs ys → AsMany us vs → AsMany (xs ++ us) (ys ++ vs)
many_both [] us [] vs h k = k
many_both [] us (y ∷ ys) vs h k = absurd h
many_both (x ∷ xs) us [] vs h k = absurd h
many_both (x ∷ xs) us (y ∷ ys) vs h k = many_both xs us ys vs h k

-- the first values of locals
abbrev pub first_of_each : Types → List TypedName → List Value
first_of_each t [] = []
first_of_each t (l ∷ ls) = first t l.ty ∷ first_of_each t ls

pub many_firsts : (t : Types) (ls : List TypedName) → AsMany ls (first_of_each t ls)
many_firsts t [] = tt
many_firsts t (l ∷ ls) = many_firsts t ls

-- A frame of first values and arguments has these values, one after another.

firsts_are : (t : Types) (ls : List TypedName) → first_values t ls ≡ arguments empty ls (first_of_each t ls)
firsts_are t [] = refl
firsts_are t (l ∷ ls) = ap (λ z. set z (l.name ∷ []) (first t l.ty)) (firsts_are t ls)

arguments_are : (t : Types) (ps ls : List TypedName) (vs : List Value) → AsMany ps vs → arguments (first_values t ls) ps vs ≡ arguments empty (ps ++ ls) (vs ++ first_of_each t ls)
arguments_are t [] ls [] h = firsts_are t ls
arguments_are t [] ls (v ∷ vs) h = absurd h
arguments_are t (p ∷ ps) ls [] h = absurd h
arguments_are t (p ∷ ps) ls (v ∷ vs) h = ap (λ z. set z (p.name ∷ []) v) (arguments_are t ps ls vs h)

-- the memory in which new locals have these values
abbrev pub written : Renamings → List Value → Memory → Memory
written [] vs n = n
written (r ∷ rs) [] n = n
written (r ∷ rs) (v ∷ vs) n = written rs vs (write_local n r.new.name v)

written_globals : (rs : Renamings) (vs : List Value) (n : Memory) → (written rs vs n).globals ≡ n.globals
written_globals [] vs n = refl
written_globals (r ∷ rs) [] n = refl
written_globals (r ∷ rs) (v ∷ vs) n = written_globals rs vs (write_local n r.new.name v)

written_other : (rs : Renamings) (vs : List Value) (n : Memory) (p : Path) → IsOther rs p → get (written rs vs n).frame p ≡ get n.frame p
written_other [] vs n p h = refl
written_other (r ∷ rs) [] n p h = refl
written_other (r ∷ rs) (v ∷ vs) n p h = written_other rs vs (write_local n r.new.name v) p h.1 ∙ get-set_other n.frame (r.new.name ∷ []) v p h.0

none_other : (rs : Renamings) (x : Name) → IsNone rs x → IsOther rs (x ∷ [])
none_other [] x h = tt
none_other (r ∷ rs) x h = (path_apart x r.new.name (λ p. h.0 (sym p)), none_other rs x h.1)

-- under its new name each local has what it has in the frame of these values
written_reads : (rs : Renamings) (ks : List TypedName) (vs : List Value) → AreFor rs ks → AreApart rs → AsMany ks vs → (n : Memory) (x : Name) (t : Ty) → local_type ks x ≡ Some t →
    get (arguments empty ks vs) (x ∷ []) ≡ get (written rs vs n).frame (name_renamed rs x ∷ [])
written_reads [] [] vs w a m n x t e = none_some t e
written_reads [] (k ∷ ks) vs w a m n x t e = absurd w
written_reads (r ∷ rs) [] vs w a m n x t e = absurd w
written_reads (r ∷ rs) (k ∷ ks) [] w a m n x t e = absurd m
written_reads (r ∷ rs) (k ∷ ks) (v ∷ vs) w a m n x t e =
    either_name r.old x (get (arguments empty (k ∷ ks) (v ∷ vs)) (x ∷ []) ≡ get (written (r ∷ rs) (v ∷ vs) n).frame (name_renamed (r ∷ rs) x ∷ []))
    (λ p.
    ap (λ z. get (arguments empty (k ∷ ks) (v ∷ vs)) (z ∷ [])) (sym p ∙ w.0) ∙ get-set_same (arguments empty ks vs) (k.name ∷ []) v
    ∙ sym (get-set_same n.frame (r.new.name ∷ []) v) ∙ sym (written_other rs vs (write_local n r.new.name v) (r.new.name ∷ []) (none_other rs r.new.name a.0))
    ∙ ap (λ z. get (written (r ∷ rs) (v ∷ vs) n).frame (z ∷ [])) (sym (first_name r rs x p)))
    (λ p.
    get-set_other (arguments empty ks vs) (k.name ∷ []) v (x ∷ []) (path_apart x k.name (λ q. p (w.0 ∙ sym q)))
    ∙ written_reads rs ks vs w.2 a.1 m (write_local n r.new.name v) x t (sym (later_type k ks x (λ q. p (w.0 ∙ q))) ∙ e)
    ∙ ap (λ z. get (written (r ∷ rs) (v ∷ vs) n).frame (z ∷ [])) (sym (later_name r rs x p)))

-- The new locals of a call: those of a procedure, none of which is in use.
module _ (c : Context) (g : Setting) (used : List Var) (f : Proc) (w : IsProcedure c f) (rs : Renamings) (are : AreFor rs (locals_of f)) (apart : AreApart rs)
    (fresh : AllByRecursion (λ r. is_taken used r.new.name ≡ false) rs) where
  abbrev cs : Changes
  cs = reads_renamed rs

  abbrev ls : List TypedName
  ls = locals_of f

  -- terms that have these values in each memory that differs in locals alone that aren't in use
  abbrev pub HaveValues : State → Memory → List Term → List Value → Type 0
  HaveValues s m [] [] = Unit {0}
  HaveValues s m (e ∷ es) (v ∷ vs) = ((o : Memory) → Off used m o → valued g s e o ≡ v) × HaveValues s m es vs
  HaveValues s m _ _ = ⊥

  set_run : (ns : Renamings) → AllByRecursion (λ r. is_taken used r.new.name ≡ false) ns → (s : State) (m n : Memory) → Off used m n → (es : List Term) (vs : List Value) → HaveValues s m es vs →
      run g s (each_set ns es) n ≡ unit (written ns vs n)
  set_run [] u s m n o es vs h = refl
  set_run (r ∷ ns) u s m n o [] [] h = refl
  set_run (r ∷ ns) u s m n o [] (v ∷ vs) h = absurd h
  set_run (r ∷ ns) u s m n o (e ∷ es) [] h = absurd h
  set_run (r ∷ ns) u s m n o (e ∷ es) (v ∷ vs) h =
      ap (λ z. run g s (each_set ns es) (write_local n r.new.name z)) (h.0 n o) ∙ set_run ns u.1 s m (write_local n r.new.name v) (off_unused used g r.new.name v m n u.0 o) es vs h.1

  set_denominator : (ns : Renamings) (es : List Term) → denominator g (each_set ns es) ≡ 1
  set_denominator [] es = refl
  set_denominator (r ∷ ns) [] = refl
  set_denominator (r ∷ ns) (e ∷ es) = set_denominator ns es

  result_run : (s : State) (xs : List Var) (e : Term) → ◌≡◌ {A = Memory → WeightedList Memory} (λ o. run g s (result_set xs e) o) (λ o. unit (assigned g.types o xs (valued g s e o)))
  result_run s [] e = refl
  result_run s (x ∷ xs) e = refl

  result_denominator : (xs : List Var) (e : Term) → denominator g (result_set xs e) ≡ 1
  result_denominator [] e = refl
  result_denominator (x ∷ xs) e = refl

  other_used : (ns : Renamings) → AllByRecursion (λ r. is_taken used r.new.name ≡ false) ns → (x : Name) → is_taken used x ≡ true → IsOther ns (x ∷ [])
  other_used [] u x e = tt
  other_used (r ∷ ns) u x e = (path_apart x r.new.name (λ p. false≢true (sym u.0 ∙ ap (is_taken used) (sym p) ∙ e)), other_used ns u.1 x e)

  module _ (s : State) (xs : List Var) (es : List Term) (vs : List Value) (many : AsMany f.params vs) (m n : Memory) (o : Off used m n) (firsts : List Term)
      (values : HaveValues s m (es ++ firsts) (vs ++ first_of_each g.types f.locals)) where
    abbrev body : List Instr
    body = each_renamed cs rs f.body.list

    abbrev result : Term
    result = term_changed f.value cs

    abbrev inner : Memory
    inner = record { globals = m.globals; frame = new_frame g f.params f.locals vs }

    abbrev outer : Memory
    outer = written rs (vs ++ first_of_each g.types f.locals) n

    starts : Framed c ls rs are apart g n.frame inner outer
    starts = record {
      like = record {
        globals = (let k = o.globals in k) ∙ sym (written_globals rs (vs ++ first_of_each g.types f.locals) n);
        locals = λ x t e.
            ap (λ z. fit g.types t (get z (x ∷ []))) (arguments_are g.types f.params f.locals vs many)
            ∙ ap (fit g.types t) (written_reads rs ls (vs ++ first_of_each g.types f.locals) are apart (many_both f.params f.locals vs (first_of_each g.types f.locals) many (many_firsts g.types f.locals)) n x t e);
      };
      others = λ p h. written_other rs (vs ++ first_of_each g.types f.locals) n p h;
    }

    -- the body runs under new names as it does in the procedure
    bodies : Zip (Framed c ls rs are apart g n.frame) (out g closed (statements g f.body.list) inner) (run g s body outer)
    bodies = (each_matches c ls rs are apart g (Framed c ls rs are apart g n.frame) (framed_keeps c ls rs are apart g n.frame) closed s f.body.list (let b = w.body in b.statements)).ends inner outer starts

    abbrev back : Memory → Memory
    back a = returned g xs m (outcome a.globals (valued g closed f.value a))

    abbrev goes_on : Memory → Memory
    goes_on b = assigned g.types b xs (valued g s result b)

    result_held : (G : Map) (v : Value) → result_in (outcome G v) ≡ v
    result_held G v = ap (λ z. value_or z (Many [])) (get-set_same empty (result_name ∷ []) v)

    ends_alike : (a b : Memory) → Framed c ls rs are apart g n.frame a b → Off used (back a) (goes_on b)
    ends_alike a b h =
        let v = valued g closed f.value a in
        let like = h.like in
        let same : v ≡ valued g s result b = renamed_value c ls rs are g f.value w.value closed s a b like in
        let caller : Memory = record { globals = a.globals; frame = m.frame } in
        let near : Off used caller b = record { globals = like.globals; locals = λ x e. o.locals x e ∙ sym (h.others (x ∷ []) (other_used rs fresh x e)) } in
        subst (λ z. z) (λ i. Off used (assigned g.types caller xs (sym (result_held a.globals v) i)) (assigned g.types b xs (same i)))
        (off_assigned used g xs v caller b near)

    -- so does the whole
    place_run : Zip (Off used) (dmap (returned g xs m) (outcomes g (routine f.params f.locals (statements g f.body.list) f.value) vs m.globals))
        (run g s (each_set rs (es ++ firsts) ++ (body ++ result_set xs result)) n)
    place_run =
        let there : run g s (each_set rs (es ++ firsts) ++ (body ++ result_set xs result)) n ≡ dmap goes_on (run g s body outer) =
        run_append g s (each_set rs (es ++ firsts)) (body ++ result_set xs result) n
        ∙ ap (λ l. bind l (λ z. run g s (body ++ result_set xs result) z)) (set_run rs fresh s m n o (es ++ firsts) (vs ++ first_of_each g.types f.locals) values)
        ∙ bind-unit outer (λ z. run g s (body ++ result_set xs result) z)
        ∙ run_append g s body (result_set xs result) outer ∙ ap (bind (run g s body outer)) (result_run s xs result) ∙ sym (dmap_by_bind goes_on (run g s body outer)) in
        let L = out g closed (statements g f.body.list) inner in
        let here : dmap (returned g xs m) (outcomes g (routine f.params f.locals (statements g f.body.list) f.value) vs m.globals) ≡ dmap back L =
        dmap-dmap (returned g xs m) (λ (a : Memory). outcome a.globals (valued g closed f.value a)) L in
        subst (λ z. z) (λ i. Zip (Off used) (sym here i) (sym there i)) (zip-dmap (Framed c ls rs are apart g n.frame) (Off used) L (run g s body outer) back goes_on bodies ends_alike)

  place_denominator : (s : State) (xs : List Var) (ts : List Term) → denominator g (each_set rs ts ++ (each_renamed cs rs f.body.list ++ result_set xs (term_changed f.value cs))) ≡ denominator g f.body.list
  place_denominator s xs ts =
      let B = each_renamed cs rs f.body.list in
      let T = result_set xs (term_changed f.value cs) in
      let same : denominator g f.body.list ≡ denominator g B = (each_matches c ls rs are apart g (Like g ls rs) (like_keeps c ls rs are apart g) closed s f.body.list (let b = w.body in b.statements)).scales in
      denominator_append g (each_set rs ts) (B ++ T) ∙ ap (λ z. z * denominator g (B ++ T)) (set_denominator rs ts) ∙ ap (λ z. 1 * z) (denominator_append g B T ∙ ap (λ z. denominator g B * z) (result_denominator xs (term_changed f.value cs)))
      ∙ (let u : 1 * (denominator g B * 1) ≡ denominator g B = omega arith in u) ∙ sym same

  -- a call, and what stands in its place
  pub placed : (s : State) (xs : List Var) (es firsts : List Term) → ((m : Memory) → (vs : List Value) × AsMany f.params vs × (vs ≡ map (λ e. valued g s e m) es) × HaveValues s m (es ++ firsts) (vs ++ first_of_each g.types f.locals)) →
      (a b : Program) → Matches g (Off used) s s a b →
      Matches g (Off used) s s (call xs (routine f.params f.locals (statements g f.body.list) f.value) es a)
      (followed_by (statements g (each_set rs (es ++ firsts) ++ (each_renamed cs rs f.body.list ++ result_set xs (term_changed f.value cs)))) b)
  placed s xs es firsts values a b k =
      let P = each_set rs (es ++ firsts) ++ (each_renamed cs rs f.body.list ++ result_set xs (term_changed f.value cs)) in
      record {
        scales = (λ i. denominator g f.body.list * k.scales i) ∙ sym (followed_denominator g (statements g P) b ∙ ap (λ z. z * run_denominator g b) (place_denominator s xs (es ++ firsts)));
        ends = λ m n o.
            let x = values m in
            subst (λ z. Zip (Off used) (bind (dmap (returned g xs m) (outcomes g (routine f.params f.locals (statements g f.body.list) f.value) (map (λ e. valued g s e m) es) m.globals)) (λ z. out g s a z)) z)
            (sym (followed_run g s (statements g P) b n))
            (zip-bind (Off used) (Off used) _ _ (λ z. out g s a z) (λ z. out g s b z)
            (subst (λ vs. Zip (Off used) (dmap (returned g xs m) (outcomes g (routine f.params f.locals (statements g f.body.list) f.value) vs m.globals)) (run g s P n)) x.2
            (place_run s xs es x.0 x.1 m n o firsts x.3))
            k.ends);
      }
