-- Procedures of functors, where modules that can be written are given for parameters: what they call can be written too.
use Rattle.std.proofs.Common.{◌≡◌, Bool, true, false, if◌then◌else◌, bytes_eq, List, [], ◌∷◌, ◌++◌, refl, ap, sym, ◌∙◌, subst}
use Rattle.std.specs.List.{AllByRecursion}
use Rattle.gb_terms.specs.declared.decl.Param.{Param}
use Rattle.gb_terms.specs.declared.decl.Proc.{Proc}
use Rattle.gb_terms.specs.declared.module.Mexp as X
use Rattle.gb_terms.specs.declared.module.Mexp.{Mexp, Row_of-Mexp, end_of-Mexp, more_of-Mexp, items-the_row-Mexp, items_shown-the_row-Mexp-0, out-Mexp}
use Rattle.gb_terms.specs.declared.module.Mexp.TheOpen as layer
use Rattle.gb_terms.specs.declared.module.Mexp.TheVariants as mexp
use Rattle.gb_terms.specs.declared.module.Mexp.TheVariants.{Name as named, Apply, Apply'}
use Rattle.gb_terms.specs.declared.module.Mexp.TheViews.{out-roll-Mexp, outs-Apply'}
use Rattle.gb_terms.specs.declared.module.ProcRef.{ProcRef}
use Rattle.gb_terms.specs.declared.term.Head.TheVariants.{Assign, Sample, Call', If', While'}
use Rattle.gb_terms.specs.declared.term.Instr.{Instr, Row_of-Instr, end_of-Instr, more_of-Instr}
use Rattle.gb_terms.specs.Rows.{mexps_in, terms_in}
use Rattle.gb_goal.specs.Instances.{arguments_of, call_with, calls_with, given_more, instance, name_of, put_in, put_in_all, put_in_reference, row_with, stands_for}
use Rattle.gb_meaning.specs.Names.{Name}
use Rattle.gb_print_names.specs.declared.bound_names.Enumeration.{Enumeration}
use Rattle.gb_print.specs.Written.{is_path, AreWrittenModules, IsWrittenModule, IsWrittenProcedure}
use Rattle.gb_print.specs.Written as w
use Rattle.gb_shown.specs.Named.{AreNamedInstrs, IsNamedInstr}
use Rattle.gb_shown.proofs.SpeltStatements.{EachNamed, named_call, named_if, named_while}
use Rattle.gb_shown.proofs.SpeltTrees.{terms_named}
use Rattle.gb_shown.specs.Scopes.{IsNamedMember}
use mathlib.Core.Former.{Count}

-- module expressions that can be written
abbrev pub EachWritten : List Mexp → Type 0
EachWritten es = AllByRecursion (IsWrittenModule []) es

each_of : {es : List Mexp} → AreWrittenModules [] es → EachWritten es
each_of w.no_module = tt
each_of (w.more_module m ms) = (m, each_of ms)

of_each : (es : List Mexp) → EachWritten es → AreWrittenModules [] es
of_each [] k = w.no_module
of_each (e ∷ es) k = w.more_module k.0 (of_each es k.1)

-- what is written of the head and the arguments of a module expression
abbrev IsWrittenLayer : layer.Mexp-F Mexp → Type 0
IsWrittenLayer (layer.Name x) = is_path x ≡ true
IsWrittenLayer (layer.Apply x []) = ⊥
IsWrittenLayer (layer.Apply x (e ∷ es)) = (is_path x ≡ true) × EachWritten (e ∷ es)

written_layer : (m : Mexp) → IsWrittenModule [] m → IsWrittenLayer (out-Mexp m)
written_layer m (w.name e p) = subst IsWrittenLayer (sym e) p
written_layer m (w.apply e p ms) = subst IsWrittenLayer (sym e) (p, each_of ms)

out_name : (x : Name) → out-Mexp (mexp.Name x) ≡ layer.Name x
unfolding X.out-Mexp denote.Hole.Carrier.out
out_name x = refl

-- a module by its name
pub name_written : (x : Name) → is_path x ≡ true → IsWrittenModule [] (mexp.Name x)
name_written x h = w.name (out_name x) h

-- a functor with arguments, one at least
abbrev HasOne : List Mexp → Type 0
HasOne [] = ⊥
HasOne (e ∷ es) = Unit {0}

pub applied_written : (x : Name) → is_path x ≡ true → (es : List Mexp) → HasOne es → EachWritten es → IsWrittenModule [] (Apply x es)
applied_written x h (e ∷ es) o k = w.apply (ap out-Mexp (sym (mexp.rolls-Apply x (e ∷ es))) ∙ out-roll-Mexp (layer.Apply x (e ∷ es))) h (of_each (e ∷ es) k)
applied_written x h [] o k = absurd o

mexps_row : {n : Count} (r : Row_of-Mexp n) → items-the_row-Mexp _ r ≡ mexps_in r
mexps_row end_of-Mexp = refl
mexps_row (more_of-Mexp m r) = ap (λ z. m ∷ z) (mexps_row r)

-- the head and the arguments of a module expression
abbrev layer_of : Mexp → layer.Mexp-F Mexp
layer_of (named x) = layer.Name x
layer_of (Apply' x n args) = layer.Apply x (mexps_in args)

layer_is : (m : Mexp) → out-Mexp m ≡ layer_of m
layer_is (named x) = out_name x
layer_is (Apply' x n args) = outs-Apply' x n args ∙ ap (layer.Apply x) (items_shown-the_row-Mexp-0 n args ∙ mexps_row args)

of_layer : (x : Name) (es : List Mexp) → IsWrittenLayer (layer.Apply x es) → (is_path x ≡ true) × EachWritten es
of_layer x [] k = absurd k
of_layer x (e ∷ es) k = k

pub arguments_written : (m : Mexp) → IsWrittenModule [] m → (is_path (name_of m) ≡ true) × EachWritten (arguments_of m)
arguments_written (named x) h = (subst IsWrittenLayer (layer_is (named x)) (written_layer (named x) h), tt)
arguments_written (Apply' x n args) h = of_layer x (mexps_in args) (subst IsWrittenLayer (layer_is (Apply' x n args)) (written_layer (Apply' x n args) h))

pub both_written : (ms ns : List Mexp) → EachWritten ms → EachWritten ns → EachWritten (ms ++ ns)
both_written [] ns h k = k
both_written (m ∷ ms) ns h k = (h.0, both_written ms ns h.1 k)

-- a module expression that is given further modules
pub more_written : (m : Mexp) → IsWrittenModule [] m → (es : List Mexp) → EachWritten es → IsWrittenModule [] (given_more m es)
more_written m h [] k = h
more_written m h (e ∷ es) k =
    let a = arguments_written m h in applied_written (name_of m) a.0 (arguments_of m ++ e ∷ es) (has_one (arguments_of m)) (both_written (arguments_of m) (e ∷ es) a.1 k)
  where
    has_one : (ms : List Mexp) → HasOne (ms ++ e ∷ es)
    has_one [] = tt
    has_one (m ∷ ms) = tt

-- What stands for a name, where modules are given for parameters.
pub stands_written : (ps : List Param) (es : List Mexp) → EachWritten es → (x : Name) → is_path x ≡ true → IsWrittenModule [] (stands_for ps es x)
stands_written [] es k x h = name_written x h
stands_written (p ∷ ps) [] k x h = name_written x h
stands_written (p ∷ ps) (e ∷ es) k x h = step (bytes_eq x p.name) (stands_written ps es k.1 x h)
  where
    step : (b : Bool) → IsWrittenModule [] (stands_for ps es x) → IsWrittenModule [] (if b then e else stands_for ps es x)
    step true later = k.0
    step false later = later

module _ (f : Name → Mexp) (good : (x : Name) → is_path x ≡ true → IsWrittenModule [] (f x)) where
  mutual
    put_written : (m : Mexp) → IsWrittenModule [] m → IsWrittenModule [] (put_in f m)
    put_written (named x) h = good x (arguments_written (named x) h).0
    put_written (Apply' x n args) h = let a = arguments_written (Apply' x n args) h in more_written (f x) (good x a.0) (put_in_all f args) (all_written args a.1)

    all_written : {n : Count} (r : Row_of-Mexp n) → EachWritten (mexps_in r) → EachWritten (put_in_all f r)
    all_written end_of-Mexp k = tt
    all_written (more_of-Mexp m r) k = (put_written m k.0, all_written r k.1)

  pub reference_written : (p : ProcRef) → IsWrittenProcedure [] p → IsWrittenProcedure [] (put_in_reference f p)
  reference_written p h = record { module_is = put_written p.«module» h.module_is; name_is = h.name_is }

  module _ (es : List Enumeration) where
    mutual
      call_named : (i : Instr) → IsNamedInstr es i → IsNamedInstr es (call_with f i)
      call_named (Call' xs p n ts) k = named_call es xs (put_in_reference f p) (terms_in ts) k.0 (reference_written p k.1) (terms_named es ts k.2)
      call_named (If' e m a n b) k = named_if es e (record { list = row_with f a }) (record { list = row_with f b }) k.0 (row_named a k.1) (row_named b k.2)
      call_named (While' e v n a) k = named_while es e v (record { list = row_with f a }) k.0 k.1 (row_named a k.2)
      call_named (Assign xs e) k = k
      call_named (Sample x d) k = k

      row_named : {n : Count} (r : Row_of-Instr n) → AreNamedInstrs es r → EachNamed es (row_with f r)
      row_named end_of-Instr k = tt
      row_named (more_of-Instr i r) k = (call_named i k.0, row_named r k.1)

    calls_named : (is : List Instr) → EachNamed es is → EachNamed es (calls_with f is)
    calls_named [] k = tt
    calls_named (i ∷ is) k = (call_named i k.0, calls_named is k.1)

-- a procedure of a module, where these modules are given for its parameters
pub instance_named : (es : List Enumeration) (ps : List Param) (ms : List Mexp) → EachWritten ms → (p : Proc) → IsNamedMember es p → IsNamedMember es (instance ps ms p)
instance_named es ps ms k p n =
    let m = n.procedure in
    record {
      name = n.name;
      procedure = record {
        locals = m.locals;
        result = m.result;
        body = calls_named (stands_for ps ms) (stands_written ps ms k) es p.body.list m.body;
        value = m.value;
      };
    }
