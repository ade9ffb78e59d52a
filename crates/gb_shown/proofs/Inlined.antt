-- `inline` keeps names: new locals are numbered, and first values of types have names.
use Rattle.std.proofs.Common.{◌≡◌, ◌<◌, ◌+◌, ◌^◌, ℕ, zero, suc, ◌&&◌, Bool, true, false, if◌then◌else◌, List, [], ◌∷◌, ◌++◌, map, Option, Some, None, refl, ap, ap₂, sym, ◌∙◌, subst, arith}
use Rattle.std.proofs.lemmas.Option.{same_Some, none-some}
use Rattle.std.specs.List.{AllByRecursion, list_all}
use Rattle.std.specs.Option.{option_map}
use Rattle.std.specs.Prelude.{bytes_eq}
use Rattle.gb_core.specs.declared.refusal.Why.TheVariants.{Shape}
use Rattle.gb_core.specs.declared.ty.Ty.{Ty}
use Rattle.gb_core.specs.declared.ty.Ty.TheVariants as ty
use Rattle.gb_core.specs.declared.value.Value.{out-Value}
use Rattle.gb_core.specs.declared.value.Value.TheVariants.{Num}
use Rattle.gb_core.specs.declared.var.Var.{Var}
use Rattle.gb_core.specs.declared.var.Var.TheVariants.{Global, Local, Glob}
use Rattle.gb_terms.specs.declared.decl.Proc.{Proc}
use Rattle.gb_terms.specs.declared.decl.TypedName.{TypedName}
use Rattle.gb_terms.specs.declared.module.ProcRef.{ProcRef}
use Rattle.gb_terms.specs.declared.op.Op.TheVariants as op
use Rattle.gb_terms.specs.declared.op.Read.TheVariants.{Program}
use Rattle.gb_terms.specs.declared.op.Side.{Side}
use Rattle.gb_terms.specs.declared.op.Side.TheVariants as side
use Rattle.gb_terms.specs.declared.op.Side.TheVariants.{Own}
use Rattle.gb_terms.specs.declared.term.Cmd.{items-the_row-Instr}
use Rattle.gb_terms.specs.declared.term.Term.{Term}
use Rattle.gb_terms.specs.declared.term.Head.TheVariants.{Lit, Read, Builtin, Assign, Sample, While, Call', If', While'}
use Rattle.gb_terms.specs.declared.term.Instr.{Instr, Row_of-Instr, end_of-Instr, more_of-Instr}
use Rattle.gb_walk.specs.Change.{Changes, term_changed}
use Rattle.gb_meaning.specs.Commands.{terms_in}
use Rattle.gb_meaning.specs.Names.{Name}
use Rattle.gb_steps.specs.declared.step.Acts.{Acts}
use Rattle.gb_steps.specs.declared.step.Acts.TheVariants as on
use Rattle.gb_steps.specs.declared.step.Calls.{Calls}
use Rattle.gb_goal.specs.Answers.Answer.{given}
use Rattle.gb_goal.specs.Goal.{Goal}
use Rattle.gb_goal.specs.Goal.Code.{body, procedure}
use Rattle.gb_goal.specs.Goal.Goal.{hoare, phoare, equiv, ambient}
use Rattle.gb_goal.specs.Scope.{Declarations, procedure_of}
use Rattle.gb_goal.specs.declared.scope.ProcName.{ProcName}
use Rattle.gb_ended.specs.Loops.{unproved_of}
use Rattle.gb_laws.proofs.Constructors.{option_is}
use Rattle.gb_typing.specs.Programs.{locals_of}
use Rattle.gb_typing.proofs.Given.{refused_given, same_given}
use Rattle.gb_prog.specs.OneBody.{OneBody}
use Rattle.gb_trans.specs.Transformed.{with_body}
use Rattle.gb_inline.specs.declared.fresh.Renaming.{Renaming}
use Rattle.gb_inline.specs.Fresh.{numbered, is_taken, free_from, free_name, under_name, renamed_first, new_names}
use Rattle.gb_inline.specs.Renamed.{Renamings, name_renamed, var_renamed, reads_renamed, statement_renamed, row_renamed, each_renamed}
use Rattle.gb_inline.specs.Expanded.{each_set, result_set, in_place, expanded}
use Rattle.gb_forms.specs.Firsts.{none_got, first_of, firsts}
use Rattle.gb_inline.specs.Inlined.{is_asked, unless_unproved, asked, Expansion, side_inlined, next_inlined, statement_inlined, row_inlined, each_inlined, used, once, going_on, repeated, without_calls, inlined, or_none, or_given, both_inlined, inline_both, inline_row}
use Rattle.gb_print_names.specs.declared.bound_names.Enumeration.{Enumeration}
use Rattle.gb_print.specs.Written.{is_name_text, is_path, is_numeral_here, is_target_here, are_targets_here, IsWrittenProcedure}
use Rattle.gb_print.proofs.Tokens.{both}
use Rattle.gb_shown.proofs.TypedForms.{name_path}
use Rattle.gb_shown.specs.Named.{IsNamedType, IsNamed, IsNamedInstr, AreNamedInstrs, IsNamedVariable}
use Rattle.gb_shown.specs.Rules.{HasFirst, IsNamedLocal, IsNamedProcedure, AreNamedProcedures, KeepsNames}
use Rattle.gb_shown.proofs.Marked.{numbered_name, name_l}
use Rattle.gb_shown.proofs.SpeltTypes.{out_unit, out_bool, out_bits, out_mod, out_enumeration}
use Rattle.gb_shown.proofs.SpeltTrees.{AllNamed, node_named, terms_named}
use Rattle.gb_shown.proofs.Changed.{PutNamed, changed_named}
use Rattle.gb_shown.proofs.SpeltForms.{as_result}
use Rattle.gb_shown.proofs.Programs.{AllOf, Leads, by_one}
use Rattle.gb_shown.proofs.SpeltStatements.{EachNamed, row_each, named_call, named_if, named_while, append_named}
use Rattle.gb_shown.proofs.Transformed.{body_keeps}
use mathlib.Core.Former.{Count}

-- New names.

either_free : (b : Bool) (o : Option Name) (y x : Name) → (o ≡ Some x → is_name_text x ≡ true) → is_name_text y ≡ true → (if b then o else Some y) ≡ Some x → is_name_text x ≡ true
either_free true o y x f n e = f e
either_free false o y x f n e = subst (λ z. is_name_text z ≡ true) (same_Some y x e) n

free_named : (n k : ℕ) (vs : List Var) (x : Name) → n + k < 2 ^ 64 → free_from n k vs ≡ Some x → is_name_text x ≡ true
unfolding free_from
free_named zero k vs x low e = absurd (none-some x e)
free_named (suc n) k vs x low e =
    either_free (is_taken vs (numbered k)) (free_from n (k + 1) vs) (numbered k) x (λ h. free_named n (k + 1) vs x (omega (arith, low)) h) (numbered_name 108 refl name_l k (omega (arith, low))) e

local_target : (x : Name) → is_name_text x ≡ true → is_target_here [] (Local x) ≡ true
local_target x h = name_path x h

-- a new local
abbrev IsNew : Renaming → Type 0
IsNew r = IsNamedVariable r.new

abbrev AreNew : Renamings → Type 0
AreNew rs = AllByRecursion IsNew rs

new_behind : (l : TypedName) → IsNamedType l.ty → (x : Name) → is_name_text x ≡ true → (o : Option Renamings) → ((ss : Renamings) → o ≡ Some ss → AreNew ss) → (rs : Renamings) → option_map (λ ss. under_name l x ∷ ss) o ≡ Some rs → AreNew rs
new_behind l t x n None f rs e = absurd (none-some rs e)
new_behind l t x n (Some ss) f rs e = subst AreNew (same_Some (under_name l x ∷ ss) rs e) ((n, t), f ss refl)

first_new : (l : TypedName) → IsNamedType l.ty → (next : Name → Option Renamings) → ((x : Name) (ss : Renamings) → next x ≡ Some ss → AreNew ss) → (o : Option Name) → ((x : Name) → o ≡ Some x → is_name_text x ≡ true) → (rs : Renamings) →
    renamed_first l next o ≡ Some rs → AreNew rs
first_new l t next f None g rs e = absurd (none-some rs e)
first_new l t next f (Some x) g rs e = new_behind l t x (g x refl) (next x) (λ ss h. f x ss h) rs e

module _ (es : List Enumeration) where
  abbrev AreLocals : List TypedName → Type 0
  AreLocals ls = AllByRecursion (IsNamedLocal es) ls

  names_new : (ls : List TypedName) → AreLocals ls → (vs : List Var) (rs : Renamings) → new_names vs ls ≡ Some rs → AreNew rs
  names_new [] h vs rs e = subst AreNew (same_Some [] rs e) tt
  names_new (l ∷ ls) h vs rs e =
      first_new l h.0.0.1 (λ x. new_names (vs ++ Local x ∷ []) ls) (λ x ss k. names_new ls h.1 (vs ++ Local x ∷ []) ss k) (free_name vs) (λ x k. free_named (2 ^ 32) 0 vs x (omega arith) k) rs e

  -- Reads and statements under new names.

  reads_named : (rs : Renamings) → AreNew rs → PutNamed es (reads_renamed rs)
  reads_named [] h = tt
  reads_named (r ∷ rs) h = (node_named es (Read (Program (Local r.new.name) Own)) [] r.new.ty (name_path r.new.name h.0.0, h.0.1) (as_result r.new.ty h.0.1) tt, reads_named rs h.1)

  either_path : (b : Bool) (x y : Name) → is_path x ≡ true → is_path y ≡ true → is_path (if b then x else y) ≡ true
  either_path true x y h k = h
  either_path false x y h k = k

  name_target : (rs : Renamings) → AreNew rs → (x : Name) → is_path x ≡ true → is_path (name_renamed rs x) ≡ true
  name_target [] h x p = p
  name_target (r ∷ rs) h x p = either_path (bytes_eq r.old x) r.new.name (name_renamed rs x) (name_path r.new.name h.0.0) (name_target rs h.1 x p)

  var_target : (rs : Renamings) → AreNew rs → (v : Var) → is_target_here [] v ≡ true → is_target_here [] (var_renamed rs v) ≡ true
  var_target rs h (Local x) p = name_target rs h x p
  var_target rs h (Global m x) p = p
  var_target rs h (Glob m) p = p

  each_target : (rs : Renamings) → AreNew rs → (xs : List Var) → list_all (is_target_here []) xs ≡ true → list_all (is_target_here []) (map (var_renamed rs) xs) ≡ true
  each_target rs h [] p = refl
  each_target rs h (v ∷ vs) p = let k = both (is_target_here [] v) (list_all (is_target_here []) vs) p in ap₂ (λ a b. a && b) (var_target rs h v k.0) (each_target rs h vs k.1)

  some_target : (rs : Renamings) → AreNew rs → (xs : List Var) → are_targets_here [] xs ≡ true → are_targets_here [] (map (var_renamed rs) xs) ≡ true
  some_target rs h [] p = p
  some_target rs h (v ∷ vs) p = each_target rs h (v ∷ vs) p

  module _ (cs : Changes) (put : PutNamed es cs) (rs : Renamings) (new : AreNew rs) where
    arguments_named : (ts : List Term) → AllNamed es ts → AllNamed es (map (λ e. term_changed e cs) ts)
    arguments_named [] h = tt
    arguments_named (t ∷ ts) h = (changed_named es t cs put h.0, arguments_named ts h.1)

    mutual
      renamed_named : (i : Instr) → IsNamedInstr es i → IsNamedInstr es (statement_renamed cs rs i)
      renamed_named (Assign xs e) w = (some_target rs new xs w.0, changed_named es e cs put w.1)
      renamed_named (Sample x d) w = (var_target rs new x w.0, changed_named es d cs put w.1)
      renamed_named (Call' xs p n ts) w = named_call es (map (var_renamed rs) xs) p (map (λ e. term_changed e cs) (terms_in ts)) (each_target rs new xs w.0) w.1 (arguments_named (terms_in ts) (terms_named es ts w.2))
      renamed_named (If' e m a n b) w = named_if es (term_changed e cs) (record { list = row_renamed cs rs a }) (record { list = row_renamed cs rs b }) (changed_named es e cs put w.0) (row_named a w.1) (row_named b w.2)
      renamed_named (While' e v n a) w = named_while es (term_changed e cs) (term_changed v cs) (record { list = row_renamed cs rs a }) (changed_named es e cs put w.0) (changed_named es v cs put w.1) (row_named a w.2)

      row_named : {n : Count} (is : Row_of-Instr n) → AreNamedInstrs es is → EachNamed es (row_renamed cs rs is)
      row_named end_of-Instr w = tt
      row_named (more_of-Instr i is) w = (renamed_named i w.0, row_named is w.1)

    list_named : (is : List Instr) → EachNamed es is → EachNamed es (each_renamed cs rs is)
    list_named [] w = tt
    list_named (i ∷ is) w = (renamed_named i w.0, list_named is w.1)

  -- First values.

  option_named : (t : Ty) → IsNamedType t → IsNamedType (ty.Opt t)
  option_named t h = subst IsNamedType (sym (option_is t)) (h, tt)

  got_named : (t : Ty) → IsNamedType t → IsNamed es (none_got t)
  got_named t h = node_named es (Builtin op.Oget) _ t tt (as_result t h) (node_named es (Builtin op.None) [] (ty.Opt t) (option_named t h) (as_result (ty.Opt t) (option_named t h)) tt, tt)

  first_named : (t : Ty) → IsNamedType t → HasFirst es t → IsNamed es (first_of t)
  unfolding out-Value denote.Hole.Carrier.out
  first_named ty.Unit h k = node_named es (Lit (Num 0)) [] ty.Unit (tt, ap (λ l. is_numeral_here es l 0) out_unit) tt tt
  first_named ty.Bool h k = node_named es (Lit (Num 0)) [] ty.Bool (tt, ap (λ l. is_numeral_here es l 0) out_bool) tt tt
  first_named (ty.Bits n) h k = node_named es (Lit (Num 0)) [] (ty.Bits n) (h, ap (λ l. is_numeral_here es l 0) (out_bits n)) h tt
  first_named (ty.Mod n) h k = node_named es (Lit (Num 0)) [] (ty.Mod n) (h, ap (λ l. is_numeral_here es l 0) (out_mod n)) h tt
  first_named (ty.Enumeration x n) h k = node_named es (Lit (Num 0)) [] (ty.Enumeration x n) (h, ap (λ l. is_numeral_here es l 0) (out_enumeration x n) ∙ k) h tt
  first_named (ty.Opt' m t) h k = node_named es (Builtin op.None) [] (ty.Opt' m t) h h tt
  first_named (ty.Map' m k n t) h w = node_named es (Builtin op.Empty) [] (ty.Map' m k n t) h h tt
  first_named t h k = got_named t h

  firsts_named : (ls : List TypedName) → AreLocals ls → AllNamed es (firsts ls)
  firsts_named [] h = tt
  firsts_named (l ∷ ls) h = (first_named l.ty h.0.0.1 h.0.1, firsts_named ls h.1)

  -- A body in place of a call.

  set_named : (rs : Renamings) → AreNew rs → (ts : List Term) → AllNamed es ts → EachNamed es (each_set rs ts)
  set_named [] h ts w = tt
  set_named (r ∷ rs) h [] w = tt
  set_named (r ∷ rs) h (t ∷ ts) w = ((ap (λ b. b && true) (local_target r.new.name h.0.0), w.0), set_named rs h.1 ts w.1)

  result_named : (xs : List Var) (e : Term) → list_all (is_target_here []) xs ≡ true → IsNamed es e → EachNamed es (result_set xs e)
  result_named [] e p w = tt
  result_named (x ∷ xs) e p w = ((p, w), tt)

  terms_append : (ts us : List Term) → AllNamed es ts → AllNamed es us → AllNamed es (ts ++ us)
  terms_append [] us v w = w
  terms_append (t ∷ ts) us v w = (v.0, terms_append ts us v.1 w)

  locals_behind : (ps ls : List TypedName) → AreLocals (ps ++ ls) → AreLocals ls
  locals_behind [] ls h = h
  locals_behind (p ∷ ps) ls h = locals_behind ps ls h.1

  place_named : (f : Proc) → IsNamedProcedure es f → (rs : Renamings) → AreNew rs → (xs : List Var) → list_all (is_target_here []) xs ≡ true → (ts : List Term) → AllNamed es ts → EachNamed es (in_place f rs xs ts)
  place_named f n rs h xs p ts w =
      let reads = reads_named rs h in
      let sets = set_named rs h (ts ++ firsts f.locals) (terms_append ts (firsts f.locals) w (firsts_named f.locals (locals_behind f.params f.locals n.locals))) in
      append_named es (each_set rs (ts ++ firsts f.locals)) _ sets
      (append_named es (each_renamed (reads_renamed rs) rs f.body.list) (result_set xs (term_changed f.value (reads_renamed rs))) (list_named (reads_renamed rs) reads rs h f.body.list n.body)
      (result_named xs (term_changed f.value (reads_renamed rs)) p (changed_named es f.value (reads_renamed rs) reads n.value)))

  expanded_named : (vs : List Var) (o : Option Proc) → ((f : Proc) → o ≡ Some f → IsNamedProcedure es f) → (xs : List Var) → list_all (is_target_here []) xs ≡ true → (ts : List Term) → AllNamed es ts → (js : List Instr) → expanded vs o xs ts ≡ Some js → EachNamed es js
  expanded_named vs None n xs p ts w js e = absurd (none-some js e)
  expanded_named vs (Some f) n xs p ts w js e = step (new_names vs (locals_of f)) refl e
    where
      k : IsNamedProcedure es f
      k = n f refl

      step : (o : Option Renamings) → new_names vs (locals_of f) ≡ o → option_map (λ rs. in_place f rs xs ts) o ≡ Some js → EachNamed es js
      step None i e = absurd (none-some js e)
      step (Some rs) i e = subst (EachNamed es) (same_Some (in_place f rs xs ts) js e) (place_named f k rs (names_new (locals_of f) k.locals vs rs i) xs p ts w)

  -- The first call.

  abbrev Gives : Option (List Instr) → Type 0
  Gives o = (js : List Instr) → o ≡ Some js → EachNamed es js

  -- what becomes of calls is named
  abbrev Expands : Expansion → Type 0
  Expands x = (xs : List Var) (f : ProcRef) (ts : List Term) → list_all (is_target_here []) xs ≡ true → IsWrittenProcedure [] f → AllNamed es ts → Gives (x xs f ts)

  side_keeps : (e : Term) (a b : List Instr) → IsNamed es e → EachNamed es a → EachNamed es b → (o r : Option (List Instr)) → Gives o → Gives r → Gives (side_inlined e a b o r)
  side_keeps e a b x v w (Some c) r f g js h = subst (EachNamed es) (same_Some _ js h) (named_if es e (record { list = c }) (record { list = b }) x (f c refl) w, tt)
  side_keeps e a b x v w None (Some c) f g js h = subst (EachNamed es) (same_Some _ js h) (named_if es e (record { list = a }) (record { list = c }) x v (g c refl), tt)
  side_keeps e a b x v w None None f g js h = absurd (none-some js h)

  next_keeps : (i : Instr) (is : List Instr) → IsNamedInstr es i → EachNamed es is → (o r : Option (List Instr)) → Gives o → Gives r → Gives (next_inlined i is o r)
  next_keeps i is v w (Some ks) r f g js h = subst (EachNamed es) (same_Some (ks ++ is) js h) (append_named es ks is (f ks refl) w)
  next_keeps i is v w None (Some ks) f g js h = subst (EachNamed es) (same_Some (i ∷ ks) js h) (v, g ks refl)
  next_keeps i is v w None None f g js h = absurd (none-some js h)

  while_keeps : (e v : Term) → IsNamed es e → IsNamed es v → (o : Option (List Instr)) → Gives o → Gives (option_map (λ js. While e v (record { list = js }) ∷ []) o)
  while_keeps e v x y None f js h = absurd (none-some js h)
  while_keeps e v x y (Some ks) f js h = subst (EachNamed es) (same_Some _ js h) (named_while es e v (record { list = ks }) x y (f ks refl), tt)

  module _ (x : Expansion) (n : Expands x) where
    mutual
      statement_keeps : (i : Instr) → IsNamedInstr es i → Gives (statement_inlined x i)
      statement_keeps (Call' xs p k ts) w = n xs p (terms_in ts) w.0 w.1 (terms_named es ts w.2)
      statement_keeps (If' e m a k b) w = side_keeps e (items-the_row-Instr _ a) (items-the_row-Instr _ b) w.0 (row_each es a w.1) (row_each es b w.2) (row_inlined x a) (row_inlined x b) (row_keeps a w.1) (row_keeps b w.2)
      statement_keeps (While' e v k a) w = while_keeps e v w.0 w.1 (row_inlined x a) (row_keeps a w.2)
      statement_keeps (Assign xs e) w = λ js h. absurd (none-some js h)
      statement_keeps (Sample y d) w = λ js h. absurd (none-some js h)

      row_keeps : {k : Count} (is : Row_of-Instr k) → AreNamedInstrs es is → Gives (row_inlined x is)
      row_keeps end_of-Instr w = λ js h. absurd (none-some js h)
      row_keeps (more_of-Instr i is) w = next_keeps i (items-the_row-Instr _ is) w.0 (row_each es is w.1) (statement_inlined x i) (row_inlined x is) (statement_keeps i w.0) (row_keeps is w.1)

    list_keeps : (is : List Instr) → EachNamed es is → Gives (each_inlined x is)
    list_keeps [] w = λ js h. absurd (none-some js h)
    list_keeps (i ∷ is) w = next_keeps i is w.0 w.1 (statement_inlined x i) (each_inlined x is) (statement_keeps i w.0) (list_keeps is w.1)

  going_keeps : (next : List Instr → List Instr) → ((js : List Instr) → EachNamed es js → EachNamed es (next js)) → (is : List Instr) → EachNamed es is → (o : Option (List Instr)) → Gives o → EachNamed es (going_on next is o)
  going_keeps next k is w None g = w
  going_keeps next k is w (Some js) g = k js (g js refl)

  repeated_keeps : (f : List Instr → Option (List Instr)) → ((is : List Instr) → EachNamed es is → Gives (f is)) → (n : ℕ) (is : List Instr) → EachNamed es is → EachNamed es (repeated n f is)
  unfolding repeated
  repeated_keeps f k zero is w = w
  repeated_keeps f k (suc n) is w = going_keeps (repeated n f) (λ js v. repeated_keeps f k n js v) is w (f is) (k is w)

  module _ (ds : Declarations) (procedures : AreNamedProcedures es ds) (w : Calls) where
    unproved_named : (u : Option ProcName) (o : Option Proc) → ((f : Proc) → o ≡ Some f → IsNamedProcedure es f) → (f : Proc) → unless_unproved u o ≡ Some f → IsNamedProcedure es f
    unproved_named None o n f e = n f e
    unproved_named (Some u) o n f e = absurd (none-some f e)

    asked_named : (p : ProcRef) → IsWrittenProcedure [] p → (f : Proc) → asked ds w p ≡ Some f → IsNamedProcedure es f
    asked_named p h f e = step (is_asked w p) e
      where
        step : (b : Bool) → (if b then unless_unproved (unproved_of ds p) (procedure_of ds p) else None) ≡ Some f → IsNamedProcedure es f
        step true e = unproved_named (unproved_of ds p) (procedure_of ds p) (procedures.declared p h) f e
        step false e = absurd (none-some f e)

    once_keeps : (r : Side) (p q : Term) (is : List Instr) → EachNamed es is → Gives (once ds w r p q is)
    once_keeps r p q is k = list_keeps (λ xs f ts. expanded (used r p q is) (asked ds w f) xs ts) (λ xs f ts h v u js e. expanded_named (used r p q is) (asked ds w f) (asked_named f v) xs h ts u js e) is k

    inlined_keep : (r : Side) (p q : Term) (is : List Instr) → EachNamed es is → Gives (inlined ds w r p q is)
    inlined_keep r p q is k = step (once ds w r p q is) (once_keeps r p q is k)
      where
        step : (o : Option (List Instr)) → Gives o → Gives (option_map (λ js. without_calls (once ds w r p q) js) o)
        step None g js h = absurd (none-some js h)
        step (Some ks) g js h = subst (EachNamed es) (same_Some _ js h) (repeated_keeps (once ds w r p q) (once_keeps r p q) (2 ^ 32) ks (g ks refl))

    or_none_keeps : (o : Option (List Instr)) → Gives o → (js : List Instr) → or_none o ≡ given js → EachNamed es js
    or_none_keeps None g js e = refused_given Shape js e
    or_none_keeps (Some is) g js e = subst (EachNamed es) (same_given is js e) (g is refl)

    or_given_keeps : (o : Option (List Instr)) (is : List Instr) → Gives o → EachNamed es is → EachNamed es (or_given o is)
    or_given_keeps None is g k = k
    or_given_keeps (Some js) is g k = g js refl

    both_inlined_keep : (p q : Term) (is js : List Instr) → EachNamed es is → EachNamed es js → IsNamed es p → IsNamed es q → (a b : Option (List Instr)) → Gives a → Gives b → (Gs : List Goal) → both_inlined p q is js a b ≡ given Gs → AllOf es Gs
    both_inlined_keep p q is js v u x y None None f g Gs e = refused_given Shape Gs e
    both_inlined_keep p q is js v u x y (Some ks) b f g Gs e = subst (AllOf es) (same_given _ Gs e) ((f ks refl, or_given_keeps b js g u, x, y), tt)
    both_inlined_keep p q is js v u x y None (Some ks) f g Gs e = subst (AllOf es) (same_given _ Gs e) ((v, g ks refl, x, y), tt)

    both_keep : (a : Acts) (G : Goal) (Gs : List Goal) → inline_both ds w a G ≡ given Gs → Leads es Gs G
    both_keep on.All (equiv (body is) (body js) p q) Gs e h =
        both_inlined_keep p q is js h.0 h.1 h.2 h.3 (inlined ds w side.Left p q is) (inlined ds w side.Right p q js) (inlined_keep side.Left p q is h.0) (inlined_keep side.Right p q js h.1) Gs e
    both_keep on.All (equiv (body is) (procedure b) p q) Gs e h = refused_given Shape Gs e
    both_keep on.All (equiv (procedure a) b p q) Gs e h = refused_given Shape Gs e
    both_keep on.All (hoare a p q) Gs e h = refused_given Shape Gs e
    both_keep on.All (phoare a r p q b) Gs e h = refused_given Shape Gs e
    both_keep on.All (ambient f) Gs e h = refused_given Shape Gs e
    both_keep on.Left G Gs e h = refused_given Shape Gs e
    both_keep on.Right G Gs e h = refused_given Shape Gs e

    pub inline_keeps : (a : Acts) → KeepsNames es (inline_row ds w a)
    inline_keeps a G h Gs e =
        by_one es (with_body (λ (o : OneBody). or_none (inlined ds w o.side o.pre o.post o.list))) (inline_both ds w a G) G Gs
        (body_keeps es (λ (o : OneBody). or_none (inlined ds w o.side o.pre o.post o.list)) (λ o k js i. or_none_keeps (inlined ds w o.side o.pre o.post o.list) (inlined_keep o.side o.pre o.post o.list k) js i) Gs) (both_keep a G Gs) a e h
