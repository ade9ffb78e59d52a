-- Statements under new names run as they did, and have good loops where they had.
use Rattle.std.proofs.Common.{◌≡◌, ◌≢◌, min, List, [], ◌∷◌, map, Option, Some, None, refl, ap, sym, ◌∙◌, subst}
use Rattle.std.specs.List.{AllByRecursion}
use Rattle.gb_core.specs.declared.ty.Ty.{Ty}
use Rattle.gb_core.specs.declared.value.Value.{Value}
use Rattle.gb_core.specs.declared.var.Var.{Var}
use Rattle.gb_core.specs.declared.var.Var.TheVariants as var
use Rattle.gb_terms.specs.declared.decl.TypedName.{TypedName}
use Rattle.gb_terms.specs.declared.term.Instr.{Instr, Row_of-Instr, end_of-Instr, more_of-Instr}
use Rattle.gb_terms.specs.declared.term.Head.TheVariants.{Assign, Sample, Call', If', While'}
use Rattle.gb_terms.specs.declared.term.Term.{Term}
use Rattle.gb_core.specs.Numbering.{parts_of}
use Rattle.gb_walk.specs.Change.{Changes, term_changed}
use Rattle.gb_meaning.specs.Holds.{LoopsAreGood}
use Rattle.gb_meaning.proofs.Bodies.{statement_call, statement_if, statement_while}
use Rattle.gb_meaning.proofs.Maps.{get-set_other, get-set_same}
use Rattle.gb_meaning.proofs.Memories.{read-write_other_local}
use Rattle.gb_meaning.proofs.Numberings.{fit_has}
use Rattle.gb_meaning.specs.Commands.{called, program_of, statement, statements, terms_in}
use Rattle.gb_meaning.specs.Loops.{IsGood}
use Rattle.gb_meaning.specs.Meanings.{number_in, truth, weights_in}
use Rattle.gb_meaning.specs.Memory.{Memory, assigned, read_local, result_in, write, write_each, write_local}
use Rattle.gb_meaning.specs.Names.{Map, Name, Path, empty, get, set}
use Rattle.gb_meaning.specs.Program.{Program, Routine}
use Rattle.gb_meaning.specs.Program.Program.{branch, loop}
use Rattle.gb_meaning.specs.Runs.{greatest, is_true, most_turns, turns_at, valued}
use Rattle.gb_meaning.specs.Setting.{Setting}
use Rattle.gb_meaning.specs.State.{State, closed}
use Rattle.gb_meaning.specs.Values.{fit}
use Rattle.gb_meaning.specs.Written.{local_type, type_of}
use Rattle.gb_laws.specs.Finite.{IsFinite}
use Rattle.gb_laws.specs.Operators.{parts_in}
use Rattle.gb_laws.specs.Programs.{HaveTypes, Take, variable_type}
use Rattle.gb_laws.proofs.Sizes.{fit_in, widened}
use Rattle.gb_typing.specs.Context.{Context, erased, procedure}
use Rattle.gb_typing.specs.Fits.{IsSettingOf}
use Rattle.gb_typing.specs.Modules.{ProcedureType}
use Rattle.gb_typing.specs.Programs.{AreStatements, EachStatement, HaveVariableTypes, IsCall, IsExpression, IsStatement}
use Rattle.gb_typing.proofs.Drawing.{subject_sound}
use Rattle.gb_typing.proofs.Scripts.{none_some}
use Rattle.gb_inline.specs.Renamed.{Renamings, each_renamed, name_renamed, reads_renamed, row_renamed, statement_renamed, var_renamed}
use Rattle.gb_inline.proofs.GoodLoops.{good_matched}
use Rattle.gb_inline.proofs.Matched.{Matches, match_assign, match_branch, match_call, match_done, match_loop, match_sample}
use Rattle.gb_inline.proofs.Names.{AreApart, AreFor, IsNone, either_name, first_name, first_type, later_name, later_type, renamed_apart, renamed_other}
use Rattle.gb_inline.proofs.Renames.{Like, most_is, renamed_denominator, renamed_meaning, renamed_of_type, renamed_value, renamed_values}
use mathlib.Core.Former.{Count}

abbrev first_of : Path → Name
first_of [] = []
first_of (x ∷ p) = x

pub path_apart : (x y : Name) → x ≢ y → (x ∷ []) ≢ (y ∷ [])
path_apart x y n p = n (ap first_of p)

-- none of the places of these new names
abbrev pub IsOther : Renamings → Path → Type 0
IsOther rs p = AllByRecursion (λ r. p ≢ (r.new.name ∷ [])) rs

pub other_none : (rs : Renamings) (p : Path) (y : Name) → p ≡ y ∷ [] → IsOther rs p → IsNone rs y
other_none [] p y e h = tt
other_none (r ∷ rs) p y e h = ((λ k. h.0 (e ∙ sym (ap (λ z. z ∷ []) k))), other_none rs p y e h.1)

module _ (c : Context) (ls : List TypedName) (rs : Renamings) (are : AreFor rs ls) (apart : AreApart rs) (g : Setting) where
  abbrev cs : Changes
  cs = reads_renamed rs

  -- a relation in which memories are alike under these names, and which statements keep
  pub record Keeps (R : Memory → Memory → Type 0) : Type 0 where
    pub like : (m n : Memory) → R m n → Like g ls rs m n
    pub writes : (x : Var) (t : Ty) → variable_type (erased c) ls x ≡ Some t → (m n : Memory) → R m n → (v : Value) → R (write g.types m x v) (write g.types n (var_renamed rs x) v)
    pub calls : (m n : Memory) → R m n → (G : Map) → R (record { globals = G; frame = m.frame }) (record { globals = G; frame = n.frame })

  like_local : (x : Name) (t : Ty) → local_type ls x ≡ Some t → (m n : Memory) → Like g ls rs m n → (v : Value) → Like g ls rs (write_local m x v) (write_local n (name_renamed rs x) v)
  like_local x t e m n h v = record { globals = h.globals; locals = there }
    where
      there : (y : Name) (u : Ty) → local_type ls y ≡ Some u → read_local g.types (write_local m x v) y u ≡ read_local g.types (write_local n (name_renamed rs x) v) (name_renamed rs y) u
      there y u f =
          either_name x y (read_local g.types (write_local m x v) y u ≡ read_local g.types (write_local n (name_renamed rs x) v) (name_renamed rs y) u)
          (λ p.
          ap (λ z. read_local g.types (write_local m x v) z u) (sym p) ∙ ap (fit g.types u) (get-set_same m.frame (x ∷ []) v)
          ∙ sym (ap (fit g.types u) (get-set_same n.frame (name_renamed rs x ∷ []) v)) ∙ ap (λ z. read_local g.types (write_local n (name_renamed rs x) v) (name_renamed rs z) u) p)
          (λ p.
          read-write_other_local g.types m y x u v (path_apart y x (λ q. p (sym q))) ∙ h.locals y u f
          ∙ sym (read-write_other_local g.types n (name_renamed rs y) (name_renamed rs x) u v (path_apart (name_renamed rs y) (name_renamed rs x) (λ q. renamed_apart x y t u p rs ls are apart e f (sym q)))))

  like_write : (x : Var) (t : Ty) → variable_type (erased c) ls x ≡ Some t → (m n : Memory) → Like g ls rs m n → (v : Value) → Like g ls rs (write g.types m x v) (write g.types n (var_renamed rs x) v)
  like_write (var.Local x) t e m n h v = like_local x t e m n h v
  like_write (var.Global a x) t e m n h v = record { globals = ap (λ z. set z (a ∷ x ∷ []) v) h.globals; locals = h.locals }
  like_write (var.Glob a) t e m n h v = none_some t e

  pub like_keeps : Keeps (Like g ls rs)
  like_keeps = record { like = λ m n h. h; writes = like_write; calls = λ m n h G. record { globals = refl; locals = h.locals } }

  -- besides, the other places of the second frame hold what they hold in F
  pub record Framed (F : Map) (m n : Memory) : Type 0 where
    pub like : Like g ls rs m n
    pub others : (p : Path) → IsOther rs p → get n.frame p ≡ get F p

  framed_write : (F : Map) (x : Var) (t : Ty) → variable_type (erased c) ls x ≡ Some t → (m n : Memory) → Framed F m n → (v : Value) → Framed F (write g.types m x v) (write g.types n (var_renamed rs x) v)
  framed_write F (var.Local x) t e m n h v = record {
    like = like_local x t e m n h.like v;
    others = λ p o.
        get-set_other n.frame (name_renamed rs x ∷ []) v p (λ q. renamed_other x t rs ls are e (name_renamed rs x) (other_none rs p (name_renamed rs x) q o) refl) ∙ h.others p o;
  }
  framed_write F (var.Global a x) t e m n h v = record { like = like_write (var.Global a x) t e m n h.like v; others = h.others }
  framed_write F (var.Glob a) t e m n h v = none_some t e

  pub framed_keeps : (F : Map) → Keeps (Framed F)
  framed_keeps F = record {
    like = λ m n h. h.like;
    writes = framed_write F;
    calls = λ m n h G. record { like = record { globals = refl; locals = (let k = h.like in k.locals) }; others = h.others };
  }

  module _ (R : Memory → Memory → Type 0) (k : Keeps R) (s q : State) where
    abbrev M : Program → Program → Type 0
    M a b = Matches g R s q a b

    kept_each : (xs : List Var) (ts : List Ty) → HaveTypes (erased c) ls xs ts → (vs : List Value) (m n : Memory) → R m n → R (write_each g.types m xs vs) (write_each g.types n (map (var_renamed rs) xs) vs)
    kept_each [] ts w vs m n r = r
    kept_each (x ∷ xs) [] w vs m n r = absurd w
    kept_each (x ∷ xs) (t ∷ ts) w [] m n r = r
    kept_each (x ∷ xs) (t ∷ ts) w (v ∷ vs) m n r = kept_each xs ts w.1 vs _ _ (k.writes x t w.0 m n r v)

    kept_taken : (xs : List Var) (t : Ty) → Take (erased c) ls xs t → (v : Value) (m n : Memory) → R m n → R (assigned g.types m xs v) (assigned g.types n (map (var_renamed rs) xs) v)
    kept_taken [] t w v m n r = r
    kept_taken (x ∷ []) t w v m n r = k.writes x t w m n r v
    kept_taken (x ∷ y ∷ xs) t w v m n r = kept_each (x ∷ y ∷ xs) (parts_in t) w (parts_of v) m n r

    most_same : (e : Term) → IsExpression c ls e → most_turns e ≡ most_turns (term_changed e cs)
    most_same e w = most_is e ∙ ap greatest (sym (renamed_of_type c ls rs are [] apart e w)) ∙ sym (most_is (term_changed e cs))

    guards : (e : Term) → IsExpression c ls e → (m n : Memory) → R m n → is_true g s e m ≡ is_true g q (term_changed e cs) n
    guards e w m n r = ap truth (renamed_meaning c ls rs are g e w s q m n (k.like m n r))

    counts : (e : Term) → IsExpression c ls e → (m n : Memory) → R m n → turns_at g s e m ≡ turns_at g q (term_changed e cs) n
    counts e w m n r = let most = most_same e w in λ i. min (number_in (renamed_meaning c ls rs are g e w s q m n (k.like m n r) i)) (most i)

    called_matches : (xs : List Var) (o : Option Routine) (es : List Term) (t : Option ProcedureType) → IsCall c ls xs t es → (a b : Program) → M a b →
        M (called xs o es a) (called (map (var_renamed rs) xs) o (map (λ e. term_changed e cs) es) b)
    called_matches xs o es None w a b h = absurd w
    called_matches xs None es (Some t) w a b h = h
    called_matches xs (Some o) es (Some t) w a b h =
        match_call g R s q xs (map (var_renamed rs) xs) o es (map (λ e. term_changed e cs) es) a b (λ m n r. renamed_values c ls rs are g es t.params w.0 s q m n (k.like m n r))
        (λ m n r. (let l = k.like m n r in l.globals)) (λ m n r p. kept_taken xs t.result w.1 (result_in p) _ _ (k.calls m n r p.globals)) h

    mutual
      statement_matches : (i : Instr) → IsStatement c ls i → (a b : Program) → M a b → M (statement g i a) (statement g (statement_renamed cs rs i) b)
      statement_matches (Assign xs e) w a b h =
          match_assign g R s q xs (map (var_renamed rs) xs) e (term_changed e cs) a b
          (λ m n r.
          let x = w.0 in
          subst (λ v. R (assigned g.types m xs (valued g s e m)) (assigned g.types n (map (var_renamed rs) xs) v)) (renamed_value c ls rs are g e x.expression s q m n (k.like m n r))
          (kept_taken xs (type_of e) w.1 (valued g s e m) m n r)) h
      statement_matches (Sample x d) w a b h =
          match_sample g R s q x (var_renamed rs x) d (term_changed d cs) a b (sym (renamed_denominator c ls rs are g d)) (λ m n r. ap weights_in (renamed_meaning c ls rs are g d w.0 s q m n (k.like m n r)))
          (λ m n r v. k.writes x _ w.2 m n r v) h
      statement_matches (Call' xs p n es) w a b h =
          subst (λ z. M (called xs (g.procedure p) (terms_in es) a) z) (sym (statement_call g (map (var_renamed rs) xs) p (map (λ e. term_changed e cs) (terms_in es)) b))
          (called_matches xs (g.procedure p) (terms_in es) (procedure c p) w a b h)
      statement_matches (If' e m a n b) w x y h =
          subst (λ z. M (branch e (program_of g a) (program_of g b) x) z) (sym (statement_if g (term_changed e cs) (record { list = row_renamed cs rs a }) (record { list = row_renamed cs rs b }) y))
          (match_branch g R s q e (term_changed e cs) _ _ x _ _ y (λ m n r. guards e w.0.0 m n r) (row_matches a w.1) (row_matches b w.2) h)
      statement_matches (While' e v n a) w x y h =
          subst (λ z. M (loop e v (program_of g a) x) z) (sym (statement_while g (term_changed e cs) (term_changed v cs) (record { list = row_renamed cs rs a }) y))
          (match_loop g R s q e (term_changed e cs) v (term_changed v cs) _ _ x y (λ m n r. guards e w.0.0 m n r) (most_same v w.1.0) (λ m n r. counts v w.1.0 m n r) (row_matches a w.2) h)

      pub row_matches : {n : Count} (is : Row_of-Instr n) → AreStatements c ls is → M (program_of g is) (statements g (row_renamed cs rs is))
      row_matches end_of-Instr w = match_done g R s q
      row_matches (more_of-Instr (Assign xs e) is) w = statement_matches (Assign xs e) w.0 _ _ (row_matches is w.1)
      row_matches (more_of-Instr (Sample x d) is) w = statement_matches (Sample x d) w.0 _ _ (row_matches is w.1)
      row_matches (more_of-Instr (Call' xs p n es) is) w = statement_matches (Call' xs p n es) w.0 _ _ (row_matches is w.1)
      row_matches (more_of-Instr (If' e m a n b) is) w = statement_matches (If' e m a n b) w.0 _ _ (row_matches is w.1)
      row_matches (more_of-Instr (While' e v n a) is) w = statement_matches (While' e v n a) w.0 _ _ (row_matches is w.1)

    -- a body under new names runs as it did
    pub each_matches : (is : List Instr) → EachStatement c ls is → M (statements g is) (statements g (each_renamed cs rs is))
    each_matches [] w = match_done g R s q
    each_matches (i ∷ is) w = statement_matches i w.0 _ _ (each_matches is w.1)

  -- Loops.
  module _ (fits : IsSettingOf c g) (types : HaveVariableTypes ls) where
    -- a frame that holds under the names of locals what another one holds under their new names
    abbrev back : Renamings → Memory → Map
    back [] n = empty
    back (r ∷ rs) n = set (back rs n) (r.old ∷ []) (read_local g.types n r.new.name r.new.ty)

    finite_local : (ks : List TypedName) → HaveVariableTypes ks → (x : Name) (t : Ty) → local_type ks x ≡ Some t → IsFinite t
    finite_local [] w x t e = none_some t e
    finite_local (l ∷ ks) w x t e = either_name l.name x (IsFinite t) (λ p. subst IsFinite (first_type l ks x t p e) (widened g.types (let f = fits.types in f.inhabited) l.ty w.0)) (λ p. finite_local ks w.1 x t (sym (later_type l ks x p) ∙ e))

    back_reads : (ns : Renamings) (ks : List TypedName) → AreFor ns ks → HaveVariableTypes ks → (n : Memory) (x : Name) (t : Ty) → local_type ks x ≡ Some t →
        fit g.types t (get (back ns n) (x ∷ [])) ≡ read_local g.types n (name_renamed ns x) t
    back_reads [] [] w v n x t e = none_some t e
    back_reads [] (l ∷ ks) w v n x t e = absurd w
    back_reads (r ∷ ns) [] w v n x t e = absurd w
    back_reads (r ∷ ns) (l ∷ ks) w v n x t e =
        either_name r.old x (fit g.types t (get (back (r ∷ ns) n) (x ∷ [])) ≡ read_local g.types n (name_renamed (r ∷ ns) x) t)
        (λ p.
        let same : r.new.ty ≡ t = w.1 ∙ first_type l ks x t (sym w.0 ∙ p) e in
        ap (λ z. fit g.types t (get (back (r ∷ ns) n) (z ∷ []))) (sym p) ∙ ap (fit g.types t) (get-set_same (back ns n) (r.old ∷ []) _)
        ∙ ap (λ u. fit g.types t (Some (read_local g.types n r.new.name u))) same
        ∙ fit_has g.types t (read_local g.types n r.new.name t) (fit_in g.types (let f = fits.types in f.inhabited) t (finite_local (l ∷ ks) v x t e) (get n.frame (r.new.name ∷ [])))
        ∙ ap (λ z. read_local g.types n z t) (sym (first_name r ns x p)))
        (λ p.
        ap (fit g.types t) (get-set_other (back ns n) (r.old ∷ []) _ (x ∷ []) (path_apart x r.old (λ q. p (sym q))))
        ∙ back_reads ns ks w.2 v.1 n x t (sym (later_type l ks x (λ q. p (w.0 ∙ q))) ∙ e) ∙ ap (λ z. read_local g.types n z t) (sym (later_name r ns x p)))

    before : (n : Memory) → (m : Memory) × Like g ls rs m n
    before n = (record { globals = n.globals; frame = back rs n }, record { globals = refl; locals = λ x t e. back_reads rs ls are types n x t e })

    called_good : (xs ys : List Var) (o : Option Routine) (es fs : List Term) (a b : Program) → (LoopsAreGood g a → LoopsAreGood g b) → LoopsAreGood g (called xs o es a) → LoopsAreGood g (called ys o fs b)
    called_good xs ys None es fs a b k h = k h
    called_good xs ys (Some o) es fs a b k h = k h

    loop_good : {n : Count} (e v : Term) (a : Row_of-Instr n) → IsExpression c ls e → IsExpression c ls v → AreStatements c ls a → IsGood g closed e v (program_of g a) →
        IsGood g closed (term_changed e cs) (term_changed v cs) (statements g (row_renamed cs rs a))
    loop_good e v a w wv wa h =
        good_matched g (Like g ls rs) closed closed e (term_changed e cs) v (term_changed v cs) (program_of g a) (statements g (row_renamed cs rs a))
        (λ m n r. guards (Like g ls rs) like_keeps closed closed e w m n r) (most_same (Like g ls rs) like_keeps closed closed v wv) (λ m n r. counts (Like g ls rs) like_keeps closed closed v wv m n r)
        (row_matches (Like g ls rs) like_keeps closed closed a wa) before (subject_sound c g fits ls a wa).1 h

    mutual
      statement_good : (i : Instr) → IsStatement c ls i → (a b : Program) → (LoopsAreGood g a → LoopsAreGood g b) → LoopsAreGood g (statement g i a) → LoopsAreGood g (statement g (statement_renamed cs rs i) b)
      statement_good (Assign xs e) w a b k h = k h
      statement_good (Sample x d) w a b k h = k h
      statement_good (Call' xs p n es) w a b k h =
          subst (LoopsAreGood g) (sym (statement_call g (map (var_renamed rs) xs) p (map (λ e. term_changed e cs) (terms_in es)) b)) (called_good xs (map (var_renamed rs) xs) (g.procedure p) (terms_in es) (map (λ e. term_changed e cs) (terms_in es)) a b k h)
      statement_good (If' e m a n b) w x y k h =
          subst (LoopsAreGood g) (sym (statement_if g (term_changed e cs) (record { list = row_renamed cs rs a }) (record { list = row_renamed cs rs b }) y)) (row_good a w.1 h.0, row_good b w.2 h.1, k h.2)
      statement_good (While' e v n a) w x y k h =
          subst (LoopsAreGood g) (sym (statement_while g (term_changed e cs) (term_changed v cs) (record { list = row_renamed cs rs a }) y)) (loop_good e v a w.0.0 w.1.0 w.2 h.0, row_good a w.2 h.1, k h.2)

      row_good : {n : Count} (is : Row_of-Instr n) → AreStatements c ls is → LoopsAreGood g (program_of g is) → LoopsAreGood g (statements g (row_renamed cs rs is))
      row_good end_of-Instr w h = tt
      row_good (more_of-Instr (Assign xs e) is) w h = statement_good (Assign xs e) w.0 (program_of g is) (statements g (row_renamed cs rs is)) (row_good is w.1) h
      row_good (more_of-Instr (Sample x d) is) w h = statement_good (Sample x d) w.0 (program_of g is) (statements g (row_renamed cs rs is)) (row_good is w.1) h
      row_good (more_of-Instr (Call' xs p n es) is) w h = statement_good (Call' xs p n es) w.0 (program_of g is) (statements g (row_renamed cs rs is)) (row_good is w.1) h
      row_good (more_of-Instr (If' e m a n b) is) w h = statement_good (If' e m a n b) w.0 (program_of g is) (statements g (row_renamed cs rs is)) (row_good is w.1) h
      row_good (more_of-Instr (While' e v n a) is) w h = statement_good (While' e v n a) w.0 (program_of g is) (statements g (row_renamed cs rs is)) (row_good is w.1) h

    -- its loops are good
    pub each_good : (is : List Instr) → EachStatement c ls is → LoopsAreGood g (statements g is) → LoopsAreGood g (statements g (each_renamed cs rs is))
    each_good [] w h = tt
    each_good (i ∷ is) w h = statement_good i w.0 (statements g is) (statements g (each_renamed cs rs is)) (each_good is w.1) h
