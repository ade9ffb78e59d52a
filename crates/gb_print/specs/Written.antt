-- Forms whose printed text can be read: their names are names of the language, their numbers are in range, and each head has its
-- operands. A place says which names are printed; a stage, whether blocks and `glob` in types may stand in the form, as in goals.
use Rattle.std.specs.Prelude.{◌≡◌, ℕ, ℤ, ◌+◌, ◌^◌, Bool, true, false, not, ◌&&◌, if◌then◌else◌, nat_lt, nat_le, List, [], ◌∷◌, map, Option, Some, None, pos, negsuc}
use Rattle.std.specs.List.{list_all, slice_get}
use Rattle.gb_core.specs.declared.ty.Ty.{Ty, out-Ty}
use Rattle.gb_core.specs.declared.ty.Ty.TheOpen as ty_layer
use Rattle.gb_core.specs.declared.value.Value.{Value, out-Value}
use Rattle.gb_core.specs.declared.value.Value.TheOpen as value_layer
use Rattle.gb_core.specs.declared.var.Var.{Var}
use Rattle.gb_core.specs.declared.var.Var.TheVariants.{Global, Local, Glob}
use Rattle.gb_lex.specs.Byte.{is_word_start, is_word_byte}
use Rattle.gb_lex.specs.declared.token.Kind.TheVariants.{Word}
use Rattle.gb_limits.specs.declared.left_out.TheConstants.{LEFT_OUT}
use Rattle.gb_limits.specs.LeftOut.{is_word_of}
use Rattle.gb_limits.specs.Lexeme.{terminal_of}
use Rattle.gb_read_script.specs.Words.{is_name}
use Rattle.gb_terms.specs.declared.module.Bind.{Bind}
use Rattle.gb_terms.specs.declared.module.Bound.{Bound}
use Rattle.gb_terms.specs.declared.module.Mexp.{Mexp, out-Mexp}
use Rattle.gb_terms.specs.declared.module.Mexp.TheOpen as mexp_layer
use Rattle.gb_terms.specs.declared.module.ProcRef.{ProcRef}
use Rattle.gb_terms.specs.declared.op.Op.{Op}
use Rattle.gb_terms.specs.declared.op.Op.TheVariants as op
use Rattle.gb_terms.specs.declared.op.Read.{Read}
use Rattle.gb_terms.specs.declared.op.Read.TheVariants.{Logical, Program}
use Rattle.gb_terms.specs.declared.op.Side.{Side}
use Rattle.gb_terms.specs.declared.op.Side.TheVariants as side
use Rattle.gb_terms.specs.declared.term.Pair.{Pair}
use Rattle.gb_terms.specs.declared.term.Term.{Term, out-Term}
use Rattle.gb_terms.specs.declared.term.Head.{Head}
use Rattle.gb_terms.specs.declared.term.Head.TheVariants as head
use Rattle.gb_terms.specs.declared.term.Head.TheVariants.{Proc, Body, Assign, Sample, Call, If, While}
use Rattle.gb_terms.specs.declared.term.Instr.{Instr}
use Rattle.gb_terms.specs.declared.term.Cmd.{Cmd}
use Rattle.gb_terms.specs.declared.term.Subject.{Subject}
use Rattle.gb_terms.specs.declared.op.Rel.{Rel}
use Rattle.gb_walk.specs.Layers.{is_binder}
use Rattle.gb_print_names.specs.declared.bound_names.Enumeration.{Enumeration}
use Rattle.gb_print_names.specs.declared.bound_names.Known.{Known}
use Rattle.gb_print_names.specs.BoundNames.{Name, Place, under}
use Rattle.gb_print_names.specs.Names.{module_name, shown_name, typed_name, constants}
use Rattle.gb_print_names.specs.Occurring.{inside}
use Rattle.gb_print_names.specs.Open.{type_of, is_open, is_int, type_read}
use Rattle.gb_print.specs.Layout.{letter, stands, outcome, type_needed}
use Rattle.gb_print.specs.Nodes.{words}

-- Names and numbers.

abbrev pub is_word : List ℕ → Bool
is_word [] = false
is_word (b ∷ w) = is_word_start b && list_all is_word_byte w

-- a word that is neither reserved nor left out
abbrev pub is_name_text : List ℕ → Bool
is_name_text x = is_word x && (is_name (terminal_of Word x) && not (is_word_of LEFT_OUT x))

-- names with dots between them
abbrev pub is_path : List ℕ → Bool
is_path x = list_all is_name_text (words x)

-- a number that is read
abbrev pub in_range : ℕ → Bool
in_range n = nat_lt n (2 ^ 127)

-- There is a name here, which can be read.
abbrev pub is_path_there : Option Name → Bool
is_path_there (Some x) = is_path x
is_path_there None = false

-- There is a name of one word here.
abbrev pub is_name_there : Option Name → Bool
is_name_there (Some x) = is_name_text x
is_name_there None = false

-- Types.

mutual
  -- A type as it stands in forms and contexts. `glob` stands in goals alone.
  pub data IsWrittenType (stage : ℕ) (bound : List Known) : Ty → Type 0 where
    unit : {t : Ty} → out-Ty t ≡ ty_layer.Unit → IsWrittenType stage bound t
    bool : {t : Ty} → out-Ty t ≡ ty_layer.Bool → IsWrittenType stage bound t
    whole : {t : Ty} → out-Ty t ≡ ty_layer.Int → IsWrittenType stage bound t
    real : {t : Ty} → out-Ty t ≡ ty_layer.Real → IsWrittenType stage bound t
    bits : {t : Ty} {n : ℕ} → out-Ty t ≡ ty_layer.Bits n → in_range n ≡ true → IsWrittenType stage bound t
    numbers : {t : Ty} {n : ℕ} → out-Ty t ≡ ty_layer.Mod n → in_range n ≡ true → IsWrittenType stage bound t
    enumeration : {t : Ty} {x : Name} {n : ℕ} → out-Ty t ≡ ty_layer.Enumeration x n → is_path x ≡ true → IsWrittenType stage bound t
    abstract : {t : Ty} {x : Name} → out-Ty t ≡ ty_layer.Abstract x → is_path x ≡ true → IsWrittenType stage bound t
    product : {t u v : Ty} {ts : List Ty} → out-Ty t ≡ ty_layer.Tuple (u ∷ v ∷ ts) → AreWrittenTypes stage bound (u ∷ v ∷ ts) → IsWrittenType stage bound t
    option : {t u : Ty} → out-Ty t ≡ ty_layer.Opt u → IsWrittenType stage bound u → IsWrittenType stage bound t
    maps : {t u v : Ty} → out-Ty t ≡ ty_layer.Map u v → IsWrittenType stage bound u → IsWrittenType stage bound v → IsWrittenType stage bound t
    globals : {t : Ty} {m : Name} → out-Ty t ≡ ty_layer.Glob m → nat_le 1 stage ≡ true → is_path (module_name bound m) ≡ true → IsWrittenType stage bound t

  pub data AreWrittenTypes (stage : ℕ) (bound : List Known) : List Ty → Type 0 where
    none : AreWrittenTypes stage bound []
    more : {t : Ty} {ts : List Ty} → IsWrittenType stage bound t → AreWrittenTypes stage bound ts → AreWrittenTypes stage bound (t ∷ ts)

-- Heads.

abbrev pub is_numeral_here : List Enumeration → ty_layer.Ty-F Ty → ℕ → Bool
is_numeral_here es ty_layer.Unit n = true
is_numeral_here es ty_layer.Bool n = true
is_numeral_here es (ty_layer.Enumeration x size) n = is_path_there (slice_get (constants es x) n)
is_numeral_here es t n = in_range n

mutual
  -- a value by its numbers: one, or two parts at least
  pub data IsWrittenValue : Value → Type 0 where
    numeral : {v : Value} {n : ℕ} → out-Value v ≡ value_layer.Num n → in_range n ≡ true → IsWrittenValue v
    parts : {v a b : Value} {vs : List Value} → out-Value v ≡ value_layer.Many (a ∷ b ∷ vs) → AreWrittenValues (a ∷ b ∷ vs) → IsWrittenValue v

  pub data AreWrittenValues : List Value → Type 0 where
    no_value : AreWrittenValues []
    more_value : {v : Value} {vs : List Value} → IsWrittenValue v → AreWrittenValues vs → AreWrittenValues (v ∷ vs)

-- a literal of a type: a number, under its name where it has one, or a value with parts
abbrev pub IsWrittenLiteral : List Enumeration → Ty → Value → value_layer.Value-F Value → Type 0
IsWrittenLiteral es t v (value_layer.Num n) = is_numeral_here es (out-Ty t) n ≡ true
IsWrittenLiteral es t v (value_layer.Many vs) = IsWrittenValue v

-- a value of a type that has a name of one word
abbrev pub is_word_here : List Enumeration → ty_layer.Ty-F Ty → ℕ → Bool
is_word_here es ty_layer.Unit n = true
is_word_here es ty_layer.Bool n = true
is_word_here es (ty_layer.Enumeration x size) n = is_name_there (slice_get (constants es x) n)
is_word_here es t n = false

abbrev pub has_word : List Enumeration → Ty → value_layer.Value-F Value → Bool
has_word es t (value_layer.Num n) = is_word_here es (out-Ty t) n
has_word es t (value_layer.Many vs) = false

abbrev pub is_weight_here : List Enumeration → Ty → Pair → Bool
is_weight_here es t p = has_word es t (out-Value p.value) && in_range p.weight

-- weights, at least one
abbrev pub are_weights_here : List Enumeration → Ty → List Pair → Bool
are_weights_here es t [] = false
are_weights_here es t (p ∷ ps) = list_all (is_weight_here es t) (p ∷ ps)

abbrev pub is_whole_here : ℤ → Bool
is_whole_here (pos n) = in_range n
is_whole_here (negsuc n) = in_range (n + 1)

abbrev pub is_side_here : Place → Side → Bool
is_side_here at side.Own = true
is_side_here at side.Left = true
is_side_here at side.Right = true
is_side_here at (side.Memory i) = is_name_there (slice_get at.memories i)
is_side_here at (side.Bound i) = is_name_there (shown_name (slice_get at.bound i))

abbrev pub is_variable_here : List Known → Var → Bool
is_variable_here bound (Global m x) = is_path (module_name bound m) && is_name_text x
is_variable_here bound (Local x) = is_path x
is_variable_here bound (Glob m) = is_path (module_name bound m)

abbrev pub is_read_here : Place → Read → Bool
is_read_here at (Logical i) = is_path_there (typed_name (slice_get at.logical i))
is_read_here at (Program x s) = is_variable_here at.bound x && is_side_here at s

abbrev pub is_phoare : Head → Bool
is_phoare (head.Phoare c r) = true
is_phoare _ = false

-- a form in front of a suffix, of an operator like `+`, or of the body of a loop, or behind a prefix `-`: no judgment with a bound
abbrev pub is_front : Term → Bool
is_front t = not (is_phoare (out-Term t).head)

-- an operator with its operands
abbrev pub has_operands : Op → List Term → Bool
has_operands op.Not (a ∷ []) = true
has_operands op.And (a ∷ b ∷ []) = true
has_operands op.Or (a ∷ b ∷ []) = true
has_operands op.Implies (a ∷ b ∷ []) = true
has_operands op.Iff (a ∷ b ∷ []) = true
has_operands op.Equal (a ∷ b ∷ []) = true
has_operands op.NotEqual (a ∷ b ∷ []) = true
has_operands op.Less (a ∷ b ∷ []) = true
has_operands op.AtMost (a ∷ b ∷ []) = true
has_operands op.Plus (a ∷ b ∷ []) = is_front a
has_operands op.Minus (a ∷ b ∷ []) = is_front a
has_operands op.Times (a ∷ b ∷ []) = is_front a
has_operands op.Negate (a ∷ []) = is_front a
has_operands op.Xor (a ∷ b ∷ []) = true
has_operands op.Divide (a ∷ b ∷ []) = is_front a
has_operands op.ToReal (a ∷ []) = is_front a
has_operands op.Abs (a ∷ []) = true
has_operands op.If (a ∷ b ∷ c ∷ []) = true
has_operands op.Tuple (a ∷ b ∷ ts) = true
has_operands (op.Part k) (a ∷ []) = is_front a && in_range k
has_operands op.Some (a ∷ []) = true
has_operands op.None [] = true
has_operands op.Oget (a ∷ []) = true
has_operands op.Empty [] = true
has_operands op.Get (a ∷ b ∷ []) = is_front a
has_operands op.Set (a ∷ b ∷ c ∷ []) = is_front a
has_operands op.InMap (a ∷ b ∷ []) = true
has_operands op.InSupport (a ∷ b ∷ []) = true
has_operands op.Mu1 (a ∷ b ∷ []) = true
has_operands op.Coin [] = true
has_operands op.Dunit (a ∷ []) = true
has_operands op.Product (a ∷ b ∷ []) = is_front a
has_operands _ ts = false

mutual
  -- a module by its name, or a functor with an argument at least
  pub data IsWrittenModule (bound : List Known) : Mexp → Type 0 where
    name : {m : Mexp} {x : Name} → out-Mexp m ≡ mexp_layer.Name x → is_path (module_name bound x) ≡ true → IsWrittenModule bound m
    apply : {m n : Mexp} {x : Name} {ms : List Mexp} → out-Mexp m ≡ mexp_layer.Apply x (n ∷ ms) → is_path (module_name bound x) ≡ true → AreWrittenModules bound (n ∷ ms) → IsWrittenModule bound m

  pub data AreWrittenModules (bound : List Known) : List Mexp → Type 0 where
    no_module : AreWrittenModules bound []
    more_module : {m : Mexp} {ms : List Mexp} → IsWrittenModule bound m → AreWrittenModules bound ms → AreWrittenModules bound (m ∷ ms)

-- a procedure of such a module
pub record IsWrittenProcedure (bound : List Known) (p : ProcRef) : Type 0 where
  pub module_is : IsWrittenModule bound p.module
  pub name_is : is_name_text p.name ≡ true

-- a module by its name alone
abbrev pub is_module_here : List Known → mexp_layer.Mexp-F Mexp → Bool
is_module_here bound (mexp_layer.Name x) = is_path (module_name bound x)
is_module_here bound (mexp_layer.Apply x ms) = false

-- a procedure of such a module, to which calls are bounded
abbrev pub is_oracle_here : List Known → ProcRef → Bool
is_oracle_here bound p = is_module_here bound (out-Mexp p.module) && is_name_text p.name

-- a memory with a name
abbrev pub is_memory_here : Place → Side → Bool
is_memory_here at (side.Memory i) = is_name_there (slice_get at.memories i)
is_memory_here at (side.Bound i) = is_name_there (shown_name (slice_get at.bound i))
is_memory_here at s = false

-- a variable that is written
abbrev pub is_target_here : List Known → Var → Bool
is_target_here bound (Global m x) = is_path (module_name bound m) && is_name_text x
is_target_here bound (Local x) = is_path x
is_target_here bound (Glob m) = false

-- one such variable or several
abbrev pub are_targets_here : List Known → List Var → Bool
are_targets_here bound [] = false
are_targets_here bound (x ∷ xs) = list_all (is_target_here bound) (x ∷ xs)

-- names, at least one
abbrev pub are_names : List Name → Bool
are_names [] = false
are_names (x ∷ xs) = list_all is_name_text (x ∷ xs)

-- a bound on calls
abbrev pub is_limit_here : List Known → Bound → Bool
is_limit_here bound b = are_names b.procs && is_oracle_here bound b.oracle && in_range b.most

-- an abstract module
abbrev pub is_bind_here : List Known → Bind → Bool
is_bind_here bound b = is_path b.ty && list_all is_path (map (module_name bound) b.minus) && list_all (is_limit_here bound) b.bounds

-- a type, where there is one
abbrev pub IsWrittenIfAny : ℕ → List Known → Option Ty → Type 0
IsWrittenIfAny stage bound None = Unit {0}
IsWrittenIfAny stage bound (Some t) = IsWrittenType stage bound t

-- Terms and programs.

-- where the form stands in which a head binds something
abbrev pub below : Head → Place → Place
below h at = if is_binder h then under (stands h) (letter h) at else at

mutual
  -- what a judgment speaks of: a procedure, or a block, which stands in goals alone
  pub data IsWrittenSubject (stage : ℕ) : Place → Subject → Type 0 where
    procedure : {at : Place} {p : ProcRef} → IsWrittenProcedure at.bound p → IsWrittenSubject stage at (Proc p)
    body : {at : Place} {c : Cmd} → nat_le 1 stage ≡ true → AreWrittenInstrs stage at c.list → IsWrittenSubject stage at (Body c)

  -- A statement. The variant of a loop ends with no bound of a judgment, behind which no block may stand.
  pub data IsWrittenInstr (stage : ℕ) : Place → Instr → Type 0 where
    assign : {at : Place} {xs : List Var} {e : Term} → are_targets_here at.bound xs ≡ true → IsWritten stage at e → IsWrittenInstr stage at (Assign xs e)
    sample : {at : Place} {x : Var} {d : Term} → is_target_here at.bound x ≡ true → IsWritten stage at d → IsWrittenInstr stage at (Sample x d)
    call : {at : Place} {xs : List Var} {p : ProcRef} {ts : List Term} → list_all (is_target_here at.bound) xs ≡ true → IsWrittenProcedure at.bound p → AreWrittenForms stage at ts → IsWrittenInstr stage at (Call xs p ts)
    branch : {at : Place} {e : Term} {a b : Cmd} → IsWritten stage at e → AreWrittenInstrs stage at a.list → AreWrittenInstrs stage at b.list → IsWrittenInstr stage at (If e a b)
    repeat : {at : Place} {e v : Term} {a : Cmd} → IsWritten stage at e → is_front v ≡ true → IsWritten stage at v → AreWrittenInstrs stage at a.list → IsWrittenInstr stage at (While e v a)

  pub data AreWrittenInstrs (stage : ℕ) : Place → List Instr → Type 0 where
    no_instr : {at : Place} → AreWrittenInstrs stage at []
    more_instr : {at : Place} {i : Instr} {is : List Instr} → IsWrittenInstr stage at i → AreWrittenInstrs stage at is → AreWrittenInstrs stage at (i ∷ is)

  -- arguments of a call
  pub data AreWrittenForms (stage : ℕ) : Place → List Term → Type 0 where
    no_form : {at : Place} → AreWrittenForms stage at []
    more_form : {at : Place} {t : Term} {ts : List Term} → IsWritten stage at t → AreWrittenForms stage at ts → AreWrittenForms stage at (t ∷ ts)

  -- a head with its arguments, and the type of the form
  pub data IsWrittenHead (stage : ℕ) : Place → Head → List Term → Ty → Type 0 where
    literal : {at : Place} {v : Value} {ty : Ty} → IsWrittenLiteral at.enumerations ty v (out-Value v) → IsWrittenHead stage at (head.Lit v) [] ty
    weights : {at : Place} {ps : List Pair} {ty : Ty} → are_weights_here at.enumerations (outcome ty) ps ≡ true → IsWrittenHead stage at (head.Weights ps) [] ty
    whole_number : {at : Place} {n : ℤ} {ty : Ty} → is_whole_here n ≡ true → IsWrittenHead stage at (head.Whole n) [] ty
    variable : {at : Place} {r : Read} {ty : Ty} → is_read_here at r ≡ true → IsWrittenHead stage at (head.Read r) [] ty
    bound : {at : Place} {i : ℕ} {ty : Ty} → is_path_there (shown_name (slice_get at.bound i)) ≡ true → IsWrittenHead stage at (head.Bound i) [] ty
    operator : {at : Place} {o : Op} {ts : List Term} {ty : Ty} → has_operands o ts ≡ true → IsWrittenHead stage at (head.Builtin o) ts ty
    uniform : {at : Place} {ty : Ty} → IsWrittenType 0 at.bound (outcome ty) → IsWrittenHead stage at (head.Builtin op.Uniform) [] ty
    user : {at : Place} {x : Name} {ts : List Term} {ty : Ty} → is_path x ≡ true → IsWrittenHead stage at (head.User x) ts ty
    all_values : {at : Place} {u : Ty} {t : Term} {ty : Ty} → IsWrittenType stage at.bound u → IsWrittenHead stage at (head.All u) (t ∷ []) ty
    some_value : {at : Place} {u : Ty} {t : Term} {ty : Ty} → IsWrittenType stage at.bound u → IsWrittenHead stage at (head.Some u) (t ∷ []) ty
    all_memories : {at : Place} {t : Term} {ty : Ty} → IsWrittenHead stage at head.AllMemory (t ∷ []) ty
    some_memory : {at : Place} {t : Term} {ty : Ty} → IsWrittenHead stage at head.SomeMemory (t ∷ []) ty
    all_modules : {at : Place} {b : Bind} {t : Term} {ty : Ty} → is_bind_here at.bound b ≡ true → IsWrittenHead stage at (head.AllModule b) (t ∷ []) ty
    measure : {at : Place} {d f : Term} {ty : Ty} → IsWrittenHead stage at head.Mu (d ∷ f ∷ []) ty
    image : {at : Place} {d f : Term} {ty : Ty} → IsWrittenHead stage at head.Map (d ∷ f ∷ []) ty
    restriction : {at : Place} {d f : Term} {ty : Ty} → IsWrittenHead stage at head.Restrict (d ∷ f ∷ []) ty
    sum : {at : Place} {q : ℕ} {f : Term} {ty : Ty} → in_range q ≡ true → IsWrittenIfAny stage at.bound (type_needed q (type_read f 0)) → IsWrittenHead stage at (head.Sum q) (f ∷ []) ty
    module_values : {at : Place} {m : Mexp} {s : Side} {ty : Ty} → IsWrittenModule at.bound m → is_side_here at s ≡ true → IsWrittenHead stage at (head.Glob m s) [] ty
    probability : {at : Place} {p : ProcRef} {s : Side} {t : Term} {ts : List Term} {ty : Ty} → IsWrittenProcedure at.bound p → is_memory_here at s ≡ true → IsWrittenHead stage at (head.Pr p s) (t ∷ ts) ty
    one_program : {at : Place} {c : Subject} {p q : Term} {ty : Ty} → IsWrittenSubject stage at c → IsWrittenHead stage at (head.Hoare c) (p ∷ q ∷ []) ty
    with_bound : {at : Place} {c : Subject} {r : Rel} {p q b : Term} {ty : Ty} → IsWrittenSubject stage at c → IsWrittenHead stage at (head.Phoare c r) (p ∷ q ∷ b ∷ []) ty
    two_programs : {at : Place} {c d : Subject} {p q : Term} {ty : Ty} → IsWrittenSubject stage at c → IsWrittenSubject stage at d → IsWrittenHead stage at (head.Equiv c d) (p ∷ q ∷ []) ty

  -- a term at a place: its head in it, its type where it may be printed, and its arguments
  pub data IsWritten (stage : ℕ) : Place → Term → Type 0 where
    written : {around : Place} {t : Term}
        → IsWrittenHead stage (inside (out-Term t).head (out-Term t).args around) (out-Term t).head (out-Term t).args (out-Term t).ty
        → (is_open t ≡ true → is_int (type_of t) ≡ false → IsWrittenType stage around.bound (type_of t))
        → AreWritten stage (inside (out-Term t).head (out-Term t).args around) (out-Term t).head (out-Term t).args → IsWritten stage around t

  -- the arguments of a head, the last of them where the head binds something
  pub data AreWritten (stage : ℕ) : Place → Head → List Term → Type 0 where
    none : {at : Place} {h : Head} → AreWritten stage at h []
    last : {at : Place} {h : Head} {t : Term} → IsWritten stage (below h at) t → AreWritten stage at h (t ∷ [])
    more : {at : Place} {h : Head} {t u : Term} {ts : List Term} → IsWritten stage at t → AreWritten stage at h (u ∷ ts) → AreWritten stage at h (t ∷ u ∷ ts)
