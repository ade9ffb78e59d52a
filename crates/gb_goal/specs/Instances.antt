-- Instances: modules in place of a module's parameters, all at once, in the calls of its procedures.
use Rattle.std.specs.Prelude.{ℕ, List, [], ◌∷◌, ◌++◌, if◌then◌else◌, bytes_eq}
use Rattle.gb_terms.specs.declared.decl.Param.{Param}
use Rattle.gb_terms.specs.declared.decl.Proc.{Proc}
use Rattle.gb_terms.specs.declared.module.Mexp.{Mexp, Row_of-Mexp, end_of-Mexp, more_of-Mexp}
use Rattle.gb_terms.specs.declared.module.Mexp.TheVariants.{Name, Apply, Apply'}
use Rattle.gb_terms.specs.declared.module.ProcRef.{ProcRef}
use Rattle.gb_terms.specs.declared.term.Head.TheVariants.{Assign, Sample, Call, If, While, Call', If', While'}
use Rattle.gb_terms.specs.declared.term.Instr.{Instr, Row_of-Instr, end_of-Instr, more_of-Instr}
use Rattle.gb_terms.specs.Rows.{mexps_in, terms_in}

-- the name of the module that a module expression applies, and the modules that it is applied to
abbrev pub name_of : Mexp → List ℕ
name_of (Name n) = n
name_of (Apply' n k args) = n

abbrev pub arguments_of : Mexp → List Mexp
arguments_of (Name n) = []
arguments_of (Apply' n k args) = mexps_in args

-- a module expression that is given further modules
abbrev pub given_more : Mexp → List Mexp → Mexp
given_more m [] = m
given_more m (e ∷ es) = Apply (name_of m) (arguments_of m ++ e ∷ es)

-- what stands for a name: the argument for a parameter, the first one counts; or else the module of the name
abbrev pub stands_for : List Param → List Mexp → List ℕ → Mexp
stands_for [] es n = Name n
stands_for (p ∷ ps) [] n = Name n
stands_for (p ∷ ps) (e ∷ es) n = if bytes_eq n p.name then e else stands_for ps es n

abbrev mutual
  -- a module expression, where it is known what stands for each name
  pub put_in : (List ℕ → Mexp) → Mexp → Mexp
  put_in f (Name n) = f n
  put_in f (Apply' n k args) = given_more (f n) (put_in_all f args)

  pub put_in_all : {n : _} → (List ℕ → Mexp) → Row_of-Mexp n → List Mexp
  put_in_all f end_of-Mexp = []
  put_in_all f (more_of-Mexp m r) = put_in f m ∷ put_in_all f r

-- the same of a reference to a procedure
abbrev pub put_in_reference : (List ℕ → Mexp) → ProcRef → ProcRef
put_in_reference f p = record { «module» = put_in f p.module; name = p.name }

abbrev mutual
  -- the same of a statement: its calls are of what stands there
  pub call_with : (List ℕ → Mexp) → Instr → Instr
  call_with f (Assign xs e) = Assign xs e
  call_with f (Sample x d) = Sample x d
  call_with f (Call' xs p n es) = Call xs (put_in_reference f p) (terms_in es)
  call_with f (If' e m a n b) = If e (record { list = row_with f a }) (record { list = row_with f b })
  call_with f (While' e v n a) = While e v (record { list = row_with f a })

  pub row_with : {n : _} → (List ℕ → Mexp) → Row_of-Instr n → List Instr
  row_with f end_of-Instr = []
  row_with f (more_of-Instr i is) = call_with f i ∷ row_with f is

-- the same of lists
abbrev pub calls_with : (List ℕ → Mexp) → List Instr → List Instr
calls_with f [] = []
calls_with f (i ∷ is) = call_with f i ∷ calls_with f is

-- the same of a procedure
abbrev pub with_calls : (List ℕ → Mexp) → Proc → Proc
with_calls f p = record p { body = record { list = calls_with f p.body.list } }

-- a procedure of a module with these parameters, where these modules are given for them
abbrev pub instance : List Param → List Mexp → Proc → Proc
instance ps es p = with_calls (stands_for ps es) p
