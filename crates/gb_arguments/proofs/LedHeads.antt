-- A head is of its type where modules are put in.
use Rattle.std.proofs.Common.{◌≡◌, ℕ, zero, suc, ◌<◌, Bool, true, false, if◌then◌else◌, List, [], ◌∷◌, ◌++◌, map, length, get_or, Option, Some, None, bytes_eq, refl, ap, sym, ◌∙◌, subst}
use Rattle.std.specs.Option.{option_map}
use Rattle.std.proofs.lemmas.List.{length-map}
use Rattle.std.proofs.lemmas.Option.{none-some}
use Rattle.gb_core.specs.declared.ty.Ty.{Ty}
use Rattle.gb_core.specs.declared.ty.Ty.TheVariants as ty
use Rattle.gb_core.specs.declared.var.Var.TheVariants as var
use Rattle.gb_terms.specs.declared.decl.Param.{Param}
use Rattle.gb_terms.specs.declared.decl.TypedName.{TypedName}
use Rattle.gb_terms.specs.declared.module.Mexp.{Mexp}
use Rattle.gb_terms.specs.declared.module.ProcRef.{ProcRef}
use Rattle.gb_terms.specs.declared.op.Read.TheVariants as read
use Rattle.gb_terms.specs.declared.op.Side.{Side}
use Rattle.gb_terms.specs.declared.op.Side.TheVariants as side
use Rattle.gb_terms.specs.declared.term.Head.{Head}
use Rattle.gb_terms.specs.declared.term.Head.TheVariants as head
use Rattle.gb_terms.specs.declared.term.Head.TheVariants.{Proc, Body'}
use Rattle.gb_terms.specs.declared.term.Pair.{Pair}
use Rattle.gb_terms.specs.declared.term.Subject.{Subject}
use Rattle.gb_meaning.specs.Memory.{result_name}
use Rattle.gb_meaning.specs.Names.{Name}
use Rattle.gb_meaning.specs.Operators.{outcome_type}
use Rattle.gb_meaning.specs.Written.{local_type}
use Rattle.gb_laws.specs.Typing.{AreLiterals, Binder, IsBoundAt, IsHead, IsLiteral, IsMemory, IsProbability, IsSide, binder}
use Rattle.gb_laws.specs.Typing.Binder.{value, index, memory, program}
use Rattle.gb_typing.specs.Context.{Context, Frame, erased, frame_of, local_in, procedure}
use Rattle.gb_typing.specs.Modules.{ProcedureType}
use Rattle.gb_typing.specs.Typing.{IsFrame, IsNamed, IsThere, after, before, procedure_in}
use Rattle.gb_arguments.specs.Led.{HeadMayStand, IsLed, IsReadable, led, led_binder, led_frame, led_name}
use Rattle.gb_instances.specs.Put.{head_put, name_put, procedure_put, subject_put}
use Rattle.gb_arguments.proofs.LedTypes.{are_bool, distribution_led, finite_led, globless_led, led_bool, led_distributions, no_distribution_led, operator_led, real_led, truth_led}
use Rattle.gb_arguments.proofs.Literals.{finite_globless}
use Rattle.gb_arguments.proofs.TypeParts.{glob_put, leaf_put}

get_map : {A B : Type 0} (f : A → B) (xs : List A) (x : A) (i : ℕ) → get_or (map f xs) i (f x) ≡ f (get_or xs i x)
get_map f [] x i = refl
get_map f (y ∷ xs) x zero = refl
get_map f (y ∷ xs) x (suc i) = get_map f xs x i

map_append : {A B : Type 0} (f : A → B) (xs ys : List A) → map f (xs ++ ys) ≡ map f xs ++ map f ys
map_append f [] ys = refl
map_append f (x ∷ xs) ys = ap (λ z. f x ∷ z) (map_append f xs ys)

module _ (ps : List Param) (es : List Mexp) where
  abbrev n : Name → Name
  n = name_put ps es

  local_led : (ls : List TypedName) (x : Name) → local_type (map (led_name ps es) ls) x ≡ option_map (led ps es) (local_type ls x)
  local_led [] x = refl
  local_led (l ∷ ls) x = step (bytes_eq x l.name) (local_led ls x)
    where
      step : (b : Bool) → local_type (map (led_name ps es) ls) x ≡ option_map (led ps es) (local_type ls x) →
          (if b then Some (led ps es l.ty) else local_type (map (led_name ps es) ls) x) ≡ option_map (led ps es) (if b then Some l.ty else local_type ls x)
      step true e = refl
      step false e = e

  local_in_led : (f : Frame) (x : Name) (t : Ty) → local_in f x ≡ Some t → local_in (led_frame ps es f) x ≡ Some (led ps es t)
  local_in_led None x t e = absurd (none-some t e)
  local_in_led (Some ls) x t e = local_led ls x ∙ ap (option_map (led ps es)) e

  is_frame_led : (f : Frame) → IsFrame f → IsFrame (led_frame ps es f)
  is_frame_led None w = w
  is_frame_led (Some ls) w = tt

  literals_led : (t : Ty) (xs : List Pair) → AreLiterals t xs → AreLiterals (led ps es t) xs
  literals_led t [] w = tt
  literals_led t (x ∷ xs) w = (subst (λ z. IsLiteral z x.value) (sym (globless_led n t (finite_globless t w.0.0))) w.0, literals_led t xs w.1)

  module _ (W : Name → Type 0) (d e : Context) (l : IsLed ps es W d e) where
    frame_led : (s : Side) → frame_of e s ≡ led_frame ps es (frame_of d s)
    frame_led side.Own = l.own
    frame_led side.Left = l.left
    frame_led side.Right = l.right
    frame_led (side.Memory i) = ap (λ z. get_or z i None) l.named ∙ get_map (led_frame ps es) d.named None i
    frame_led (side.Bound i) = ap (λ z. get_or z i None) l.frames ∙ get_map (led_frame ps es) d.frames None i

    binder_led : (i : ℕ) → binder (erased e) i ≡ led_binder ps es (binder (erased d) i)
    binder_led i = ap (λ z. get_or z i program) l.bound ∙ get_map (led_binder ps es) d.bound program i

    memory_led : (b : Binder) → IsMemory b → IsMemory (led_binder ps es b)
    memory_led (value t) w = w
    memory_led (index q) w = w
    memory_led memory w = w
    memory_led program w = w

    side_led : (s : Side) → IsSide (erased d) s → IsSide (erased e) s
    side_led side.Own w = tt
    side_led side.Left w = tt
    side_led side.Right w = tt
    side_led (side.Memory i) w = subst (λ k. i < k) (sym (ap length l.named ∙ length-map d.named (led_frame ps es))) w
    side_led (side.Bound i) w = subst IsMemory (sym (binder_led i)) (memory_led (binder (erased d) i) w)

    there_led : (s : Side) → IsFrame (frame_of d s) → IsFrame (frame_of e s)
    there_led s w = subst IsFrame (sym (frame_led s)) (is_frame_led (frame_of d s) w)

    pub readable_led : (s : Side) → IsReadable d s → IsReadable e s
    readable_led s w = (side_led s w.0, there_led s w.1)

    bound_at : (b : Binder) (t : Ty) → IsBoundAt b t → IsBoundAt (led_binder ps es b) (led ps es t)
    bound_at (value u) t w = (no_distribution_led n t w.0, ap (led ps es) w.1)
    bound_at (index q) (ty.Mod k) w = subst (IsBoundAt (index q)) (sym (leaf_put n (ty.Mod k) refl)) w
    bound_at (index q) _ w = absurd w
    bound_at memory t w = absurd w
    bound_at program t w = absurd w

    -- procedures that are there
    there : (r : ProcRef) → IsThere (procedure d r) → (t : ProcedureType) × (procedure d r ≡ Some t)
    there r w = step (procedure d r) refl w
      where
        step : (o : Option ProcedureType) → procedure d r ≡ o → IsThere o → (t : ProcedureType) × (procedure d r ≡ Some t)
        step None h w = absurd w
        step (Some t) h w = (t, h)

    procedure_there : (r : ProcRef) → IsThere (procedure d r) → IsThere (procedure e (procedure_put ps es r))
    procedure_there r w = let t = there r w in subst IsThere (sym (let p = l.procedure r t.0 t.1 in p.0)) tt

    subject_there : (s : Subject) → IsThere (procedure_in d s) → IsThere (procedure_in e (subject_put ps es s))
    subject_there (Proc r) w = procedure_there r w
    subject_there (Body' k is) w = absurd w

    -- what is read before a procedure, and after it
    before_there : (r : ProcRef) → IsThere (procedure d r) → before (procedure e (procedure_put ps es r)) ≡ led_frame ps es (before (procedure d r))
    before_there r w = let t = there r w in let p = l.procedure r t.0 t.1 in ap before p.0 ∙ ap Some (sym p.1) ∙ sym (ap (λ o. led_frame ps es (before o)) t.1)

    after_there : (r : ProcRef) → IsThere (procedure d r) → after (procedure e (procedure_put ps es r)) ≡ led_frame ps es (after (procedure d r))
    after_there r w =
        let t = there r w in
        let p = l.procedure r t.0 t.1 in
        ap after p.0 ∙ ap (λ z. Some (record { name = result_name; ty = z } ∷ [])) (sym p.2) ∙ sym (ap (λ o. led_frame ps es (after o)) t.1)

    pub before_led : (s : Subject) → IsThere (procedure_in d s) → before (procedure_in e (subject_put ps es s)) ≡ led_frame ps es (before (procedure_in d s))
    before_led (Proc r) w = before_there r w
    before_led (Body' k is) w = absurd w

    pub after_led : (s : Subject) → IsThere (procedure_in d s) → after (procedure_in e (subject_put ps es s)) ≡ led_frame ps es (after (procedure_in d s))
    after_led (Proc r) w = after_there r w
    after_led (Body' k is) w = absurd w

    -- arguments of a probability
    probability_led : (r : ProcRef) (ts : List Ty) → IsThere (procedure d r) → IsProbability (let c = erased d in c.parameters r) ts →
        IsProbability (let c = erased e in c.parameters (procedure_put ps es r)) (map (led ps es) ts)
    probability_led r ts w k =
        let t = there r w in
        let p = l.procedure r t.0 t.1 in
        subst (λ o. IsProbability (option_map (λ (t : ProcedureType). map (λ x. x.ty) t.params) o) (map (led ps es) ts)) (sym p.0)
        (ap (map (led ps es)) (subst (λ o. IsProbability (option_map (λ (t : ProcedureType). map (λ x. x.ty) t.params) o) ts) t.1 k)
        ∙ map_append (led ps es) (map (λ x. x.ty) (let y = t.0 in y.params)) (ty.Bool ∷ [])
        ∙ (λ i. types_led (let y = t.0 in y.params) p.1 i ++ led_bool n i ∷ []))
      where
        each : (xs : List TypedName) → map (led ps es) (map (λ x. x.ty) xs) ≡ map (λ x. x.ty) (map (led_name ps es) xs)
        each [] = refl
        each (x ∷ xs) = ap (λ z. led ps es x.ty ∷ z) (each xs)

        types_led : (xs : List TypedName) → map (led_name ps es) xs ≡ xs → map (led ps es) (map (λ x. x.ty) xs) ≡ map (λ x. x.ty) xs
        types_led xs k = each xs ∙ ap (map (λ x. x.ty)) k

    operator_there : (k : Name) (us : List Ty) (t : Ty) → d.operator k ≡ Some (record { params = us; result = t }) → e.operator k ≡ Some (record { params = map (led ps es) us; result = led ps es t })
    operator_there k us t w =
        let o = l.operator k (record { params = us; result = t }) w in o.0 ∙ (λ i. Some (record { params = sym o.1 i; result = sym o.2 i }))

    global_there : (m x : Name) (t : Ty) → d.global m x ≡ Some t → e.global m x ≡ Some (led ps es t)
    global_there m x t w = let g = l.global m x t w in g.0 ∙ ap Some (sym g.1)

    pub head_led : (h : Head) (us : List Ty) (t : Ty) → IsHead (erased d) h us t → IsNamed d h t → HeadMayStand W h →
        IsHead (erased e) (head_put ps es h) (map (led ps es) us) (led ps es t) × IsNamed e (head_put ps es h) (led ps es t)
    head_led (head.Lit v) [] t w k m = (subst (λ z. IsLiteral z v) (sym (globless_led n t (finite_globless t w.0))) w, tt)
    head_led (head.Whole q) [] t w k m = (ap (led ps es) w ∙ leaf_put n ty.Int refl, tt)
    head_led (head.Read (read.Logical i)) [] t w k m = ((finite_led n t w.0, l.logical i t w.1), tt)
    head_led (head.Read (read.Program (var.Global p x) r)) [] t w k m =
        ((side_led r w.0, finite_led n t w.1, global_there p x t w.2), (there_led r k.0, global_there p x t k.1))
    head_led (head.Read (read.Program (var.Local x) r)) [] t w k m =
        ((side_led r w.0, finite_led n t w.1), subst (λ f. local_in f x ≡ Some (led ps es t)) (sym (frame_led r)) (local_in_led (frame_of d r) x t k))
    head_led (head.Read (read.Program (var.Glob a) r)) [] t w k m =
        let same = ap (led ps es) w.1 ∙ glob_put n a in ((side_led r w.0, same), (there_led r k.0, l.whole a m, same))
    head_led (head.Bound i) [] t w k m = (subst (λ b. IsBoundAt b (led ps es t)) (sym (binder_led i)) (bound_at (binder (erased d) i) t w), tt)
    head_led (head.Builtin o) us t w k m = (operator_led n o us t w, tt)
    head_led (head.User x) us t w k m = (operator_there x us t w, tt)
    head_led (head.All u) (a ∷ []) t w k m = ((finite_led n u w.0, are_bool n (a ∷ t ∷ []) w.1), tt)
    head_led (head.Some u) (a ∷ []) t w k m = ((finite_led n u w.0, are_bool n (a ∷ t ∷ []) w.1), tt)
    head_led head.AllMemory (a ∷ []) t w k m = (are_bool n (a ∷ t ∷ []) w, tt)
    head_led head.SomeMemory (a ∷ []) t w k m = (are_bool n (a ∷ t ∷ []) w, tt)
    head_led head.Mu (x ∷ a ∷ []) t w k m = (((distribution_led n x w.0).0, truth_led n a w.1, real_led n t w.2), tt)
    head_led (head.Sum q) (a ∷ []) t w k m = ((w.0, (real_led n a w.1.0, (real_led n t w.1.1.0, tt))), tt)
    head_led (head.Weights xs) [] t w k m =
        let x = distribution_led n t w.0 in ((x.0, subst (λ z. AreLiterals z xs) (sym x.1) (literals_led (outcome_type t) xs w.1), w.2), tt)
    head_led head.Map (x ∷ a ∷ []) t w k m = (((distribution_led n x w.0).0, finite_led n a w.1, ap (led ps es) w.2 ∙ led_distributions n a), tt)
    head_led head.Restrict (x ∷ a ∷ []) t w k m = (((distribution_led n t w.0).0, ap (led ps es) w.1, truth_led n a w.2), tt)
    head_led (head.Pr p r) us t w k m = ((probability_led p us k.2 w.0, side_led r w.1, real_led n t w.2), (there_led r k.0, k.1, procedure_there p k.2))
    head_led (head.Hoare s) (a ∷ b ∷ []) t w k m = (are_bool n (a ∷ b ∷ t ∷ []) w, subject_there s k)
    head_led (head.Phoare s r) (a ∷ b ∷ x ∷ []) t w k m = ((are_bool n (a ∷ b ∷ t ∷ []) w.0, real_led n x w.1), subject_there s k)
    head_led (head.Equiv s u) (a ∷ b ∷ []) t w k m = (are_bool n (a ∷ b ∷ t ∷ []) w, (subject_there s k.0, subject_there u k.1))
    head_led (head.AllModule b) us t w k m = absurd k
    head_led (head.Glob x r) us t w k m = absurd k
    head_led _ us t w k m = absurd w
