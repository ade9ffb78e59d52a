-- Small programs, on which the definitions are tried.
use Rattle.std.specs.Prelude.{ℕ, List, [], ◌∷◌, Some, None}
use Rattle.gb_core.specs.declared.ty.Ty.{Ty}
use Rattle.gb_core.specs.declared.ty.Ty.TheVariants.{Bool, Bits, Mod, Real}
use Rattle.gb_core.specs.declared.value.Value.TheVariants.{Num}
use Rattle.gb_core.specs.declared.var.Var.TheVariants.{Local}
use Rattle.gb_terms.specs.declared.op.Op.{Op}
use Rattle.gb_terms.specs.declared.op.Op.TheVariants as op
use Rattle.gb_terms.specs.declared.op.Side.TheVariants.{Own}
use Rattle.gb_terms.specs.declared.op.Read.TheVariants.{Program as of_program}
use Rattle.gb_terms.specs.declared.term.Term.{Term}
use Rattle.gb_terms.specs.declared.term.Head.TheVariants.{Lit, Read, Builtin, User, Bound, Map, Restrict, Pr}
use Rattle.gb_terms.specs.declared.module.Mexp.TheVariants.{Name as named}
use Rattle.gb_terms.specs.declared.module.ProcRef.{ProcRef}
use Rattle.gb_meaning.specs.Names.{Name}
use Rattle.gb_meaning.specs.Memory.{Memory, write_local, result_name}
use Rattle.gb_meaning.specs.Values.{Types}
use Rattle.gb_meaning.specs.Setting.{Setting}
use Rattle.gb_meaning.specs.Meanings.{nothing}
use Rattle.gb_meaning.specs.Program.{Program, Routine}
use Rattle.gb_meaning.specs.Program.Routine.{routine}
use Rattle.gb_meaning.specs.Program.Program.{done, assign, sample, branch, loop, call}
use Rattle.gb_meaning.specs.State.{no_memory}
use Rattle.gb_meaning.specs.Trees.{term, distributions, options}

-- the names b, i, x, y and z
abbrev pub b : Name
b = 98 ∷ []

abbrev pub i : Name
i = 105 ∷ []

abbrev pub x : Name
x = 120 ∷ []

abbrev pub y : Name
y = 121 ∷ []

abbrev pub z : Name
z = 122 ∷ []

-- a local, read in the own memory
abbrev pub local : Name → Ty → Term
local n ty = term (Read (of_program (Local n) Own)) [] ty

abbrev pub number : ℕ → Ty → Term
number n ty = term (Lit (Num n)) [] ty

abbrev pub operator : Op → List Term → Ty → Term
operator o ts ty = term (Builtin o) ts ty

abbrev pub coin : Term
coin = operator op.Coin [] (distributions Bool)

abbrev pub uniform : Ty → Term
uniform ty = operator op.Uniform [] (distributions ty)

-- `if (b) { x <$ {0,1}; } else { x <$ uniform (bits 2); }`
abbrev pub unequal_sides : Program
unequal_sides = branch (local b Bool) (sample (Local x) coin done) (sample (Local x) (uniform (Bits 2)) done) done

-- the memory in which a local alone has a value
abbrev pub memory_with : Name → ℕ → Memory
memory_with n k = write_local no_memory n (Num k)

-- `while (0 < i) variant i { x <$ {0,1}; i <- i - 1; }`, for i of type `int[3]`
abbrev pub counting_down : Program
counting_down =
    loop (operator op.Less (number 0 (Mod 3) ∷ local i (Mod 3) ∷ []) Bool) (local i (Mod 3))
    (sample (Local x) coin (assign (Local i ∷ []) (operator op.Minus (local i (Mod 3) ∷ number 1 (Mod 3) ∷ []) (Mod 3)) done)) done

-- `proc (x : bool) : bool = { var y : bool; var z : bool; z <$ {0,1}; return (x +^ y) +^ z; }`
abbrev pub flipping : Routine
flipping =
    routine (record { name = x; ty = Bool } ∷ []) (record { name = y; ty = Bool } ∷ record { name = z; ty = Bool } ∷ [])
    (sample (Local z) coin done)
    (operator op.Xor (operator op.Xor (local x Bool ∷ local y Bool ∷ []) Bool ∷ local z Bool ∷ []) Bool)

-- `b <@ flipping(true)`
abbrev pub calling : Program
calling = call (Local b ∷ []) flipping (number 1 Bool ∷ []) done

-- a reference to a procedure
abbrev pub reference : ProcRef
reference = record { «module» = named b; name = x }

-- the setting in which each procedure is this one
abbrev pub setting_of : Types → Routine → Setting
setting_of t r = record { types = t; operator = λ n xs. nothing; denominator = λ n. 1; procedure = λ p. Some r }

-- the setting in which there is no procedure
abbrev pub without_procedures : Types → Setting
without_procedures t = record { types = t; operator = λ n xs. nothing; denominator = λ n. 1; procedure = λ p. None }

-- `Pr[flipping(b) @ &m : res]`, for the own memory
abbrev pub probability_of_result : Term
probability_of_result = term (Pr reference Own) (local b Bool ∷ local result_name Bool ∷ []) Real

-- the innermost bound variable
abbrev pub bound : Ty → Term
bound ty = term (Bound 0) [] ty

-- `v < n`, of the bound v
abbrev pub is_below : ℕ → Term
is_below n = operator op.Less (bound (Bits 2) ∷ number n (Bits 2) ∷ []) Bool

-- `dmap (uniform (bits 2)) (fun v => v < 3)`
abbrev pub merged : Term
merged = term Map (uniform (Bits 2) ∷ is_below 3 ∷ []) (distributions Bool)

-- `drestrict (uniform (bits 2)) (fun v => v < 3)`
abbrev pub part_of_uniform : Term
part_of_uniform = term Restrict (uniform (Bits 2) ∷ is_below 3 ∷ []) (distributions (Bits 2))

-- `b ? {0,1} : dmap (uniform (bits 2)) (fun v => v < 3)`
abbrev pub chosen_distribution : Term
chosen_distribution = operator op.If (local b Bool ∷ coin ∷ merged ∷ []) (distributions Bool)

-- the script's operator x, at no arguments
abbrev pub named_operator : Ty → Term
named_operator ty = term (User x) [] ty

-- `oget None`
abbrev pub value_of_none : Ty → Term
value_of_none ty = operator op.Oget (operator op.None [] (options ty) ∷ []) ty
