-- When a module meets a module type. Three conditions are tested, in this order: what the module lacks the type's parameters give; it has
-- the type's procedures; and these call, of the type's parameters, those procedures alone that their signatures name.
use Rattle.std.specs.Prelude.{ℕ, Bool, false, ◌&&◌, if◌then◌else◌, List, [], ◌∷◌, map, Option, Some, None, bytes_eq}
use Rattle.std.specs.List.{list_any}
use Rattle.gb_core.specs.declared.place.Place.{Place}
use Rattle.gb_core.specs.declared.refusal.Why.TheVariants as why
use Rattle.gb_terms.specs.declared.decl.Module.{Module}
use Rattle.gb_terms.specs.declared.decl.Param.{Param}
use Rattle.gb_terms.specs.declared.module.Mexp.{Mexp}
use Rattle.gb_terms.specs.declared.module.Mexp.TheVariants.{Name, Apply'}
use Rattle.gb_terms.specs.declared.module.ProcRef.{ProcRef}
use Rattle.gb_goal.specs.Answers.{Answer, ◌>>=◌, not_built}
use Rattle.gb_goal.specs.Answers.Answer.{given, refused}
use Rattle.gb_goal.specs.declared.module_type.MayCall.{MayCall}
use Rattle.gb_goal.specs.declared.module_type.MayCall.TheVariants.{Every, Those}
use Rattle.gb_goal.specs.declared.module_type.ModuleType.{ModuleType}
use Rattle.gb_goal.specs.declared.module_type.Oracle.{Oracle}
use Rattle.gb_goal.specs.declared.module_type.Signature.{Signature}
use Rattle.gb_goal.specs.Scope.{Declarations, module_type_of, path_of}
use Rattle.gb_goal.specs.Instances.{given_more}
use Rattle.gb_goal.specs.Interfaces.{Interface, ProcedureType, Procedures, found, has_type, takes}
use Rattle.gb_goal.specs.Seen.{seen}
use Rattle.gb_mods.specs.declared.meets.Known.{Known as Held}
use Rattle.gb_mods.specs.Reach.{all_from}

-- a module as a text names it: the module expression, and what is known of the module
abbrev pub Known : Type 0
Known = Mexp × Interface

-- the same of what the code holds
abbrev pub known_seen : Held → Known
known_seen k = (k.module, seen k.interface)

-- The first two conditions.

abbrev pub type_of_signature : Signature → ProcedureType
type_of_signature s = record { params = s.params; result = s.result }

-- the first signature that no procedure meets
abbrev pub first_unmet : Procedures ProcedureType → List Signature → Option (List ℕ)
first_unmet ps [] = None
first_unmet ps (s ∷ ss) = if has_type (found ps s.name) (type_of_signature s) then first_unmet ps ss else Some s.name

-- the first procedure of a module type, or its own name where it has none
abbrev pub first_of : List ℕ → List Signature → List ℕ
first_of n [] = n
first_of n (s ∷ ss) = s.name

-- what a module lacks of a module type of this name
abbrev pub unmet : Declarations → Interface → List ℕ → ModuleType → Option (List ℕ)
unmet ds i n t = if takes ds i.lacks t.params then first_unmet i.procedures t.signatures else Some (first_of n t.signatures)

-- The third condition.

-- the name of a module in place of a parameter that is left open, which no script spells: nothing is declared under it
abbrev pub open_name : List ℕ → List ℕ
open_name x = 32 ∷ x

-- modules in place of these parameters
abbrev pub left_open : List Param → List Mexp
left_open qs = map (λ q. Name (open_name q.name)) qs

abbrev pub is_open : List ℕ → Mexp → Bool
is_open x (Name n) = bytes_eq n (open_name x)
is_open x (Apply' n k args) = false

-- the one of these parameters in whose place a module stands
abbrev pub open_parameter : List Param → Mexp → Option (List ℕ)
open_parameter [] e = None
open_parameter (q ∷ qs) e = if is_open q.name e then Some q.name else open_parameter qs e

abbrev pub is_oracle : List ℕ → List ℕ → Oracle → Bool
is_oracle x f o = bytes_eq o.parameter x && bytes_eq o.name f

-- a procedure of this name, of the parameter of this name, is among oracles
abbrev pub is_named : List Oracle → List ℕ → List ℕ → Bool
is_named os x f = list_any (is_oracle x f) os

abbrev pub ask_named : List Oracle → Option (List ℕ) → List ℕ → Place → Answer (Unit {0})
ask_named os None f p = given tt
ask_named os (Some x) f p = if is_named os x f then given tt else refused (why.Oracle (path_of (record { «module» = x; name = f }))) p

-- among procedures there are of these parameters none but the oracles
abbrev pub all_named : List Param → List Oracle → List ProcRef → Place → Answer (Unit {0})
all_named qs os [] p = given tt
all_named qs os (r ∷ rs) p = do
  _ ← ask_named os (open_parameter qs r.module) r.name p
  all_named qs os rs p

abbrev pub named_if : List Param → List Oracle → Option (List ProcRef) → Place → Answer (Unit {0})
named_if qs os None p = not_built p
named_if qs os (Some rs) p = all_named qs os rs p

-- a procedure of a module, with these parameters left open
abbrev pub with_open : Mexp → List Param → List ℕ → ProcRef
with_open e qs f = record { «module» = given_more e (left_open qs); name = f }

-- Of these parameters, the procedure of a module calls those procedures alone that it may call, through every procedure that it calls.
abbrev pub calls_named : Declarations → Option Module → Mexp → List Param → List ℕ → MayCall → Place → Answer (Unit {0})
calls_named ds a e qs f Every p = given tt
calls_named ds a e qs f (Those os) p = named_if qs os (all_from ds a (with_open e qs f ∷ [])) p

-- the same of each procedure of these signatures
abbrev pub each_calls_named : Declarations → Option Module → Mexp → List Param → List Signature → Place → Answer (Unit {0})
each_calls_named ds a e qs [] p = given tt
each_calls_named ds a e qs (s ∷ ss) p = do
  _ ← calls_named ds a e qs s.name s.oracles p
  each_calls_named ds a e qs ss p

-- All three.

abbrev pub unless_unmet : Option (List ℕ) → Place → Answer (Unit {0})
unless_unmet None p = given tt
unless_unmet (Some n) p = refused (why.ModuleType n) p

-- a module, inside of another one or outside, meets a module type of this name; the place is that of a refusal
abbrev pub meets : Declarations → Option Module → Known → List ℕ → ModuleType → Place → Answer (Unit {0})
meets ds a k n t p = do
  _ ← unless_unmet (unmet ds k.1 n t) p
  each_calls_named ds a k.0 t.params t.signatures p

-- .. the module type that this name stands for, if it does
abbrev pub meets_if : Declarations → Option Module → Known → List ℕ → Option ModuleType → Place → Answer (Unit {0})
meets_if ds a k n None p = refused (why.ModuleType n) p
meets_if ds a k n (Some t) p = meets ds a k n t p

abbrev pub meets_named : Declarations → Option Module → Known → List ℕ → Place → Answer (Unit {0})
meets_named ds a k n p = meets_if ds a k n (module_type_of ds n) p
