-- What procedures of abstract modules call can be written, where the modules that are given can.
use Rattle.std.proofs.Common.{◌≡◌, Bool, true, false, if◌then◌else◌, bytes_eq, List, [], ◌∷◌, Option, Some, None, refl, ap, sym, ◌∙◌, subst}
use Rattle.std.proofs.lemmas.Slice.Eq.{bytes_eq-Decides}
use Rattle.std.specs.List.{AllByRecursion}
use Rattle.gb_terms.specs.declared.decl.Param.{Param}
use Rattle.gb_terms.specs.declared.module.Mexp.{Mexp}
use Rattle.gb_terms.specs.declared.module.ProcRef.{ProcRef}
use Rattle.gb_goal.specs.Instances.{arguments_of}
use Rattle.gb_goal.specs.Interfaces.{signatures_of}
use Rattle.gb_goal.specs.Scope.{Declarations, module_type_of}
use Rattle.gb_goal.specs.declared.module_type.MayCall.{MayCall}
use Rattle.gb_goal.specs.declared.module_type.MayCall.TheVariants.{Every, Those}
use Rattle.gb_goal.specs.declared.module_type.ModuleType.{ModuleType}
use Rattle.gb_goal.specs.declared.module_type.Oracle.{Oracle}
use Rattle.gb_goal.specs.declared.module_type.Signature.{Signature}
use Rattle.gb_meaning.specs.Names.{Name}
use Rattle.gb_mods.specs.Asked.{all_oracles, asked_by, asked_for, oracles_if, oracles_in, oracles_named, signature_of}
use Rattle.gb_mods.specs.Meant.{meant_by}
use Rattle.gb_mods.specs.declared.meant.Meant.TheVariants.{Any}
use Rattle.gb_prog.proofs.There.{abstract_there}
use Rattle.gb_print_names.specs.declared.bound_names.Enumeration.{Enumeration}
use Rattle.gb_print.specs.Written.{is_name_text, is_path, IsWrittenProcedure}
use Rattle.gb_shown.proofs.Sequents.{all_append}
use Rattle.gb_shown.specs.Scopes.{AreNamedOracles, IsNamedOracle, IsNamedParam, IsNamedScope, IsNamedSignature}
use Rattle.gb_shown.proofs.FoundInForms.{module_type_found}
use Rattle.gb_shown.proofs.Given.{same_some}
use Rattle.gb_shown.proofs.Instances.{EachWritten, arguments_written, stands_written}
use Rattle.gb_shown.proofs.Paths.{name_is_path}

abbrev pub AreOracles : List Oracle → Type 0
AreOracles os = AllByRecursion IsNamedOracle os

-- the procedures of a module that is given for a parameter
oracles_of : (x : Name) → is_name_text x ≡ true → (ss : List Signature) → AllByRecursion IsNamedSignature ss → AreOracles (oracles_in x ss)
oracles_of x h [] k = tt
oracles_of x h (s ∷ ss) k = let n = k.0 in ((h, n.name), oracles_of x h ss k.1)

-- a signature stands under its name
pub signature_found : (ss : List Signature) → AllByRecursion IsNamedSignature ss → (x : Name) (s : Signature) → signature_of ss x ≡ Some s → (is_name_text x ≡ true) × IsNamedSignature s
signature_found [] k x s e = cc
signature_found (t ∷ ts) k x s e = step (bytes_eq t.name x) refl (signature_found ts k.1 x s) e
  where
    step : (b : Bool) → bytes_eq t.name x ≡ b → (signature_of ts x ≡ Some s → (is_name_text x ≡ true) × IsNamedSignature s) → (if b then Some t else signature_of ts x) ≡ Some s →
        (is_name_text x ≡ true) × IsNamedSignature s
    step true i later f = let n = k.0 in (ap is_name_text (sym ((bytes_eq-Decides t.name x).0 i)) ∙ n.name, subst IsNamedSignature (same_some f) n)
    step false i later f = later f

module _ (es : List Enumeration) (ds : Declarations) (k : IsNamedScope es ds) where
  -- the procedures of each module type
  pub signatures_there : (n : Name) → AllByRecursion IsNamedSignature (signatures_of (module_type_of ds n))
  signatures_there n = step (module_type_of ds n) refl
    where
      step : (o : Option ModuleType) → module_type_of ds n ≡ o → AllByRecursion IsNamedSignature (signatures_of o)
      step None e = tt
      step (Some t) e = let m = module_type_found es ds k n t e in m.signatures

  each_oracle : (qs : List Param) → AllByRecursion IsNamedParam qs → AreOracles (all_oracles ds qs)
  each_oracle [] h = tt
  each_oracle (q ∷ qs) h =
      let ss = signatures_of (module_type_of ds q.ty) in
      all_append IsNamedOracle (oracles_in q.name ss) (all_oracles ds qs) (oracles_of q.name h.0 ss (signatures_there q.ty)) (each_oracle qs h.1)

  named_oracles : (qs : List Param) → AllByRecursion IsNamedParam qs → (m : MayCall) → AreNamedOracles m → AreOracles (oracles_named ds qs m)
  named_oracles qs h Every n = each_oracle qs h
  named_oracles qs h (Those os) n = n

  oracles_found : (qs : List Param) → AllByRecursion IsNamedParam qs → (ss : List Signature) → AllByRecursion IsNamedSignature ss → (x : Name) (o : Option Signature) → signature_of ss x ≡ o →
      AreOracles (oracles_if ds qs o)
  oracles_found qs h ss n x None e = tt
  oracles_found qs h ss n x (Some s) e = let z = signature_found ss n x s e in let y = z.1 in named_oracles qs h s.oracles y.oracles

  -- the procedures that stand for oracles
  standing_written : (qs : List Param) (ms : List Mexp) → EachWritten ms → (os : List Oracle) → AreOracles os → AllByRecursion (IsWrittenProcedure []) (asked_for qs ms os)
  standing_written qs ms w [] h = tt
  standing_written qs ms w (o ∷ os) h =
      (record { module_is = stands_written qs ms w o.parameter (name_is_path o.parameter h.0.0); name_is = h.0.1 }, standing_written qs ms w os h.1)

  asked_written : (n : Name) (o : Option ModuleType) → module_type_of ds n ≡ o → (ms : List Mexp) → EachWritten ms → (x : Name) → AllByRecursion (IsWrittenProcedure []) (asked_by ds o ms x)
  asked_written n None e ms w x = tt
  asked_written n (Some t) e ms w x =
      let m = module_type_found es ds k n t e in
      standing_written t.params ms w (oracles_if ds t.params (signature_of t.signatures x)) (oracles_found t.params m.params t.signatures m.signatures x (signature_of t.signatures x) refl)

  -- what a procedure of an abstract module calls
  pub asked_named : (f : ProcRef) → IsWrittenProcedure [] f → (a : Name) (qs : List ProcRef) → meant_by ds f ≡ Any a qs → (is_path a ≡ true) × AllByRecursion (IsWrittenProcedure []) qs
  asked_named f w a qs e =
      let x = abstract_there ds f a qs e in
      let m = arguments_written f.«module» w.module_is in
      let b = x.bind in (
        subst (λ n. is_path n ≡ true) x.name m.0,
        subst (AllByRecursion (IsWrittenProcedure [])) x.asked (asked_written b.ty (module_type_of ds b.ty) refl (arguments_of f.«module») m.1 f.name),
      )
