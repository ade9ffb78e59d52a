-- Declarations under which names mean the same have the same programs within binders and the same truth.
use Rattle.std.proofs.Common.{◌≡◌, ℕ, Bool, true, false, if◌then◌else◌, List, [], ◌∷◌, ◌++◌, None, bytes_eq, refl, sym, subst}
use Rattle.std.proofs.Math.Path.{fun_ext}
use mathlib.Core.Former.{Count}
use Rattle.std.specs.List.{filter}
use Rattle.gb_terms.specs.declared.decl.Param.{Param}
use Rattle.gb_terms.specs.declared.module.Bind.{Bind}
use Rattle.gb_terms.specs.declared.module.Bound.{Bound}
use Rattle.gb_terms.specs.declared.module.Mexp.TheVariants.{Name as named}
use Rattle.gb_terms.specs.declared.op.Op.TheVariants as op
use Rattle.gb_terms.specs.declared.term.Term.{Term, Term', Row_of-Term, end_of-Term, more_of-Term, end_of-Head, more_of-Head}
use Rattle.gb_terms.specs.declared.term.Head.TheVariants as head
use Rattle.gb_meaning.specs.Names.{Name}
use Rattle.gb_meaning.specs.Values.{Global, World, has}
use Rattle.gb_meaning.specs.Memory.{Memory}
use Rattle.gb_meaning.specs.Program.{Oracle}
use Rattle.gb_meaning.specs.Setting.{Setting}
use Rattle.gb_meaning.specs.Setting.Meaning.{finite}
use Rattle.gb_meaning.specs.State.{State, under}
use Rattle.gb_meaning.specs.State.Binding.{value, memory, program}
use Rattle.gb_meaning.specs.Judgments.{IsTrueIn}
use Rattle.gb_meaning.specs.Declared.{Declarations, ModuleType, Signature, signature_in}
use Rattle.gb_meaning.specs.Modules.{found}
use Rattle.gb_meaning.specs.Linking.{Oracles}
use Rattle.gb_meaning.specs.Adversary.{Adversary, type_named, may_call, oracle_signature, callable}
use Rattle.gb_meaning.specs.Settings.{Chosen, is_chosen, Table, interpreted, setting, declared_globals}
use Rattle.gb_meaning.specs.Naming.{AnyName, EachParam}
use Rattle.gb_meaning.specs.Programs.{IsProcedureFor, HasProcedures, IsProgramFor, AreNamed, AreFull}
use Rattle.gb_meaning.specs.Bounds.{IsAnswer, AreOracles, oracle_in, without, EachCallsAtMost, GroupCall, IsGroupRun, IsBounded}
use Rattle.gb_meaning.specs.Within.{AreApart, KeepsOff, IsWithinIn, IsWithin}
use Rattle.gb_meaning.specs.Truth.{Choice, last_has_module, IsFirstTrue, Truth, TruthOfLast}

-- the module types of these names are the same
abbrev pub SameTypes : (Name → Type 0) → Declarations → Declarations → Type 0
SameTypes P ds es = (n : Name) → P n → type_named ds n ≡ type_named es n

turned-types : (P : Name → Type 0) (ds es : Declarations) → SameTypes P ds es → SameTypes P es ds
turned-types P ds es e n k = sym (e n k)

pub any-params : (ps : List Param) → EachParam AnyName ps
any-params [] = tt
any-params (p ∷ ps) = (tt, any-params ps)

module _ (P : Name → Type 0) (ds es : Declarations) (e : SameTypes P ds es) where
  oracle-same : (ps : List Param) → EachParam P ps → (o : Oracle) → oracle_signature ds ps o ≡ oracle_signature es ps o
  oracle-same [] k o = refl
  oracle-same (p ∷ ps) k o =
      λ i. if bytes_eq o.parameter p.name then signature_in (e p.ty k.0 i).signatures o.name else oracle-same ps k.1 o i

  module _ (t : ModuleType) (k : EachParam P t.params) where
    callable-same : (s : Signature) → callable ds t s ≡ callable es t s
    callable-same s = fun_ext (λ o i. if may_call s.oracles o then oracle-same t.params k o i else None)

    oracles-to : (g : Setting) (w : World) (os : Oracles) → AreOracles ds g w t os → AreOracles es g w t os
    oracles-to g w os h o = subst (λ z. IsAnswer g w z (os o)) (oracle-same t.params k o) (h o)

    procedures-to : (g : Setting) (a : Adversary) (ss : List Signature) → HasProcedures ds g t a ss → HasProcedures es g t a ss
    procedures-to g a [] h = tt
    procedures-to g a (s ∷ ss) h =
        (subst (λ z. IsProcedureFor g z a.footprint s (found a.procedures s.name)) (callable-same s) h.0, procedures-to g a ss h.1)

    pub program-to : (g : Setting) (w : World) (a : Adversary) → IsProgramFor ds g w t a → IsProgramFor es g w t a
    program-to g w a h = record { ordered = h.ordered; known = h.known; procedures = procedures-to g a t.signatures h.procedures }

    group-to : (g : Setting) (w : World) (a : Adversary) (o : Oracle) (fs : List Name) (m : Memory) (cs : List GroupCall) →
        IsGroupRun ds g w t a o fs m cs → IsGroupRun es g w t a o fs m cs
    group-to g w a o fs m [] h = tt
    group-to g w a o fs m (c ∷ cs) h =
        (h.0, (oracles-to g w c.oracles h.1.0, h.1.1), h.2, h.3, group-to g w a o (without c.name fs) c.after cs h.4)

module _ (P : Name → Type 0) (ds es : Declarations) (e : SameTypes P ds es) (t : ModuleType) (k : EachParam P t.params) where
  each-to : (g : Setting) (w : World) (a : Adversary) (o : Oracle) (q : ℕ) (fs : List Name) →
      EachCallsAtMost ds g w t a o q fs → EachCallsAtMost es g w t a o q fs
  each-to g w a o q [] h = tt
  each-to g w a o q (f ∷ fs) h =
      ((λ os good. h.0 os (oracles-to P es ds (turned-types P ds es e) t k g w os good)), each-to g w a o q fs h.1)

  pub bounded-to : (g : Setting) (w : World) (a : Adversary) (bs : List Bound) → IsBounded ds g w t a bs → IsBounded es g w t a bs
  bounded-to g w a [] h = tt
  bounded-to g w a (b ∷ bs) h = (
    each-to g w a (oracle_in b.oracle) b.most b.procs h.0,
    (λ m cs r. h.1 m cs (group-to P es ds (turned-types P ds es e) t k g w a (oracle_in b.oracle) b.procs m cs r)),
    bounded-to g w a bs h.2,
  )

-- module types and globals are the same
pub record SameFrame (ds es : Declarations) : Type 0 where
  pub types : SameTypes AnyName ds es
  pub globals : declared_globals ds ≡ declared_globals es

turned-frame : (ds es : Declarations) → SameFrame ds es → SameFrame es ds
turned-frame ds es e = record { types = turned-types AnyName ds es e.types; globals = sym e.globals }

module _ (ds es : Declarations) (e : SameFrame ds es) where
  keeps-to : (cs : List Chosen) (g : Setting) (xs : List Global) (ms : List Name) → KeepsOff ds cs g xs ms → KeepsOff es cs g xs ms
  keeps-to cs g xs [] h = tt
  keeps-to cs g xs (m ∷ ms) h =
      (subst (λ z. AreApart xs ((if is_chosen cs m then [] else filter (λ x. bytes_eq m x.parent) z) ++ g.types.footprint (named m))) e.globals h.0, keeps-to cs g xs ms h.1)

  pub within_in-to : (cs : List Chosen) (g : Setting) (w : World) (b : Bind) (a : Adversary) → IsWithinIn ds cs g w b a → IsWithinIn es cs g w b a
  within_in-to cs g w b a h =
      let t : ModuleType = type_named ds b.ty in
      let k : EachParam AnyName t.params = any-params t.params in
      record {
        program = subst (λ z. IsProgramFor es g w z a) (e.types b.ty tt) (program-to AnyName ds es e.types t k g w a h.program);
        named = subst (λ z. AreNamed a z.signatures) (e.types b.ty tt) h.named;
        full = subst (λ z. AreFull g a z.signatures) (e.types b.ty tt) h.full;
        apart = keeps-to cs g a.footprint b.minus h.apart;
        bounded = subst (λ z. IsBounded es g w z a b.bounds) (e.types b.ty tt) (bounded-to AnyName ds es e.types t k g w a b.bounds h.bounded);
      }

-- names mean the same, with one table in the first declarations and with another one in the second
pub record SameScope (ds es : Declarations) (w : World) (size : Name → ℕ) (t u : Table) : Type 0 where
  pub frame : SameFrame ds es
  pub settings : (cs : List Chosen) → setting ds (interpreted w size t cs) ≡ setting es (interpreted w size u cs)

pub turned : (ds es : Declarations) (w : World) (size : Name → ℕ) (t u : Table) → SameScope ds es w size t u → SameScope es ds w size u t
turned ds es w size t u e = record { frame = turned-frame ds es e.frame; settings = λ cs. sym (e.settings cs) }

module _ (ds es : Declarations) (w : World) (size : Name → ℕ) (t u : Table) (e : SameScope ds es w size t u) where
  pub within-to : (cs : List Chosen) (b : Bind) (a : Adversary) → IsWithin ds (interpreted w size t cs) b a → IsWithin es (interpreted w size u cs) b a
  within-to cs b a h =
      subst (λ g. IsWithinIn es cs g w b a) (e.settings cs) (within_in-to ds es e.frame cs (setting ds (interpreted w size t cs)) w b a h)

  true-to : (f : Term) (cs : List Chosen) (s : State) → IsTrueIn (setting ds (interpreted w size t cs)) f s → IsTrueIn (setting es (interpreted w size u cs)) f s
  true-to f cs s h = subst (λ g. IsTrueIn g f s) (e.settings cs) h

choice-to : (t : Bool) (A B C D : Type 0) → (A → C) → (B → D) → Choice t A B → Choice t C D
choice-to true A B C D f g h = f h
choice-to false A B C D f g h = g h

module _ (ds es : Declarations) (w : World) (size : Name → ℕ) (t u : Table) (e : SameScope ds es w size t u) where
  first-to : {n : Count} (r : Row_of-Term n) (cs : List Chosen) (s : State) →
      IsFirstTrue es r (interpreted w size u cs) s → IsFirstTrue ds r (interpreted w size t cs) s
  first-to end_of-Term cs s h = tt
  first-to (more_of-Term f r) cs s h = true-to es ds w size u t (turned ds es w size t u e) f cs s h

  mutual
    pub truth-to : (f : Term) (cs : List Chosen) (s : State) → Truth ds f (interpreted w size t cs) s → Truth es f (interpreted w size u cs) s
    truth-to (Term' p (more_of-Head (head.AllModule b) end_of-Head) n ts ty) cs s h =
        λ a k. let ks : List Chosen = record { bind = b; program = a } ∷ cs in
        last-to ts ks (under s program) (h a (within-to es ds w size u t (turned ds es w size t u e) ks b a k))
    truth-to (Term' p (more_of-Head (head.All y) end_of-Head) n ts ty) cs s h =
        choice-to (last_has_module ts) _ _ _ _
        (λ f v k. last-to ts cs (under s (value (finite v))) (f v (subst (λ g. has g.types y v ≡ true) (sym (e.settings cs)) k)))
        (true-to ds es w size t u e (Term' p (more_of-Head (head.All y) end_of-Head) n ts ty) cs s) h
    truth-to (Term' p (more_of-Head head.AllMemory end_of-Head) n ts ty) cs s h =
        choice-to (last_has_module ts) _ _ _ _ (λ f m. last-to ts cs (under s (memory m)) (f m))
        (true-to ds es w size t u e (Term' p (more_of-Head head.AllMemory end_of-Head) n ts ty) cs s) h
    truth-to (Term' p (more_of-Head (head.Builtin op.Implies) end_of-Head) n ts ty) cs s h =
        choice-to (last_has_module ts) _ _ _ _ (λ f k. last-to ts cs s (f (first-to ts cs s k)))
        (true-to ds es w size t u e (Term' p (more_of-Head (head.Builtin op.Implies) end_of-Head) n ts ty) cs s) h
    truth-to f cs s h = true-to ds es w size t u e f cs s h

    last-to : {n : Count} (r : Row_of-Term n) (cs : List Chosen) (s : State) →
        TruthOfLast ds r (interpreted w size t cs) s → TruthOfLast es r (interpreted w size u cs) s
    last-to end_of-Term cs s h = tt
    last-to (more_of-Term f end_of-Term) cs s h = truth-to f cs s h
    last-to (more_of-Term f (more_of-Term g ts)) cs s h = last-to (more_of-Term g ts) cs s h
