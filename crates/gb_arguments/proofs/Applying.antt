-- Names of some kind are applied to one module at least, in all module expressions that are reached from those in which they are.
use Rattle.std.proofs.Common.{◌≡◌, inl, inr, Bool, true, false, if◌then◌else◌, List, [], ◌∷◌, ◌++◌, map, Option, Some, None, bytes_eq, refl, sym, subst}
use Rattle.std.proofs.lemmas.Option.{none-some}
use mathlib.Core.Former.{Count}
use Rattle.gb_terms.specs.declared.decl.Param.{Param}
use Rattle.gb_terms.specs.declared.module.Mexp.{Mexp, Row_of-Mexp, end_of-Mexp, more_of-Mexp}
use Rattle.gb_terms.specs.declared.module.Mexp.TheVariants.{Name as named, Apply'}
use Rattle.gb_terms.specs.declared.module.ProcRef.{ProcRef}
use Rattle.gb_terms.specs.Rows.{mexps_in}
use Rattle.gb_goal.specs.declared.module_type.ModuleType.{ModuleType}
use Rattle.gb_goal.specs.declared.module_type.Oracle.{Oracle}
use Rattle.gb_goal.specs.declared.scope.Entry.{Entry}
use Rattle.gb_goal.specs.declared.scope.Entry.TheVariants as entry
use Rattle.gb_goal.specs.Instances.{arguments_of, given_more, name_of, put_in, put_in_all, put_in_reference, stands_for}
use Rattle.gb_goal.specs.Interfaces.{Interface, fits, given, interface_at, interface_of, interfaces_at, lacking, left_over}
use Rattle.gb_goal.specs.Scope.{Declarations, entry_of, module_type_of, proc_of}
use Rattle.gb_meaning.specs.Names.{Name}
use Rattle.gb_typing.proofs.PutIn.{arguments_are}
use Rattle.gb_mods.specs.Asked.{asked_by, asked_for, oracles_if, signature_of}
use Rattle.gb_mods.specs.Called.{calls_if}
use Rattle.gb_mods.specs.Meets.{left_open}
use Rattle.gb_mods.specs.Reach.{called_declared, called_from}
use Rattle.gb_mods.proofs.Closed.{IsIn}

-- P is so of each name that is applied to no modules.
module _ (P : Name → Type 0) where
  abbrev pub IsNone : {n : Count} → Name → Row_of-Mexp n → Type 0
  IsNone m end_of-Mexp = P m
  IsNone m (more_of-Mexp e r) = Unit {0}

  abbrev mutual
    pub IsApplied : Mexp → Type 0
    IsApplied (named n) = Unit {0}
    IsApplied (Apply' n k args) = IsNone n args × AreApplied args

    pub AreApplied : {n : Count} → Row_of-Mexp n → Type 0
    AreApplied end_of-Mexp = Unit {0}
    AreApplied (more_of-Mexp m r) = IsApplied m × AreApplied r

  abbrev EachApplied : List Mexp → Type 0
  EachApplied [] = Unit {0}
  EachApplied (m ∷ ms) = IsApplied m × EachApplied ms

  in_list : {n : Count} (r : Row_of-Mexp n) → AreApplied r → EachApplied (mexps_in r)
  in_list end_of-Mexp w = tt
  in_list (more_of-Mexp m r) w = (w.0, in_list r w.1)

  in_row : {n : Count} (r : Row_of-Mexp n) → EachApplied (mexps_in r) → AreApplied r
  in_row end_of-Mexp w = tt
  in_row (more_of-Mexp m r) w = (w.0, in_row r w.1)

  its_arguments : (m : Mexp) → IsApplied m → EachApplied (arguments_of m)
  its_arguments (named n) w = tt
  its_arguments (Apply' n k args) w = in_list args w.1

  each_both : (xs ys : List Mexp) → EachApplied xs → EachApplied ys → EachApplied (xs ++ ys)
  each_both [] ys w h = h
  each_both (x ∷ xs) ys w h = (w.0, each_both xs ys w.1 h)

  -- a module expression that has arguments
  abbrev HasSome : List Mexp → Type 0
  HasSome [] = ⊥
  HasSome (m ∷ ms) = Unit {0}

  some_behind : (xs : List Mexp) (y : Mexp) (ys : List Mexp) → HasSome (xs ++ y ∷ ys)
  some_behind [] y ys = tt
  some_behind (x ∷ xs) y ys = tt

  not_none : {n : Count} (m : Name) (r : Row_of-Mexp n) → HasSome (mexps_in r) → IsNone m r
  not_none m end_of-Mexp h = absurd h
  not_none m (more_of-Mexp e r) h = tt

  with_arguments : (m : Mexp) → EachApplied (arguments_of m) → HasSome (arguments_of m) → IsApplied m
  with_arguments (named n) w h = tt
  with_arguments (Apply' n k args) w h = (not_none n args h, in_row args w)

  pub given_more_applied : (m : Mexp) (es : List Mexp) → IsApplied m → EachApplied es → IsApplied (given_more m es)
  given_more_applied m [] w h = w
  given_more_applied m (e ∷ es) w h =
      let same = arguments_are (name_of m) (arguments_of m ++ e ∷ es) in
      with_arguments (given_more m (e ∷ es)) (subst EachApplied (sym same) (each_both (arguments_of m) (e ∷ es) (its_arguments m w) h)) (subst HasSome (sym same) (some_behind (arguments_of m) e es))

  -- What is put for names.

  module _ (f : Name → Mexp) (each : (n : Name) → IsApplied (f n)) where
    mutual
      put_applied : (m : Mexp) → IsApplied (put_in f m)
      put_applied (named n) = each n
      put_applied (Apply' n k args) = given_more_applied (f n) (put_in_all f args) (each n) (all_put args)

      all_put : {n : Count} (r : Row_of-Mexp n) → EachApplied (put_in_all f r)
      all_put end_of-Mexp = tt
      all_put (more_of-Mexp m r) = (put_applied m, all_put r)

    put_each : (qs : List ProcRef) (q : ProcRef) → IsIn (map (put_in_reference f) qs) q → IsApplied q.«module»
    put_each [] q h = absurd h
    put_each (p ∷ qs) q (inl e) = subst (λ (z : ProcRef). IsApplied z.«module») e (put_applied p.«module»)
    put_each (p ∷ qs) q (inr h) = put_each qs q h

  stands_applied : (ps : List Param) (es : List Mexp) → EachApplied es → (n : Name) → IsApplied (stands_for ps es n)
  stands_applied [] es w n = tt
  stands_applied (p ∷ ps) [] w n = tt
  stands_applied (p ∷ ps) (e ∷ es) w n = step (bytes_eq n p.name) (stands_applied ps es w.1 n)
    where
      step : (b : Bool) → IsApplied (stands_for ps es n) → IsApplied (if b then e else stands_for ps es n)
      step true h = w.0
      step false h = h

  module _ (ds : Declarations) where
    asked_each : (ps : List Param) (es : List Mexp) → EachApplied es → (os : List Oracle) (q : ProcRef) → IsIn (asked_for ps es os) q → IsApplied q.«module»
    asked_each ps es w [] q h = absurd h
    asked_each ps es w (o ∷ os) q (inl e) = subst (λ (z : ProcRef). IsApplied z.«module») e (stands_applied ps es w o.parameter)
    asked_each ps es w (o ∷ os) q (inr h) = asked_each ps es w os q h

    asked_applied : (t : Option ModuleType) (es : List Mexp) → EachApplied es → (f : Name) (q : ProcRef) → IsIn (asked_by ds t es f) q → IsApplied q.«module»
    asked_applied None es w f q h = absurd h
    asked_applied (Some t) es w f q h = asked_each t.params es w (oracles_if ds t.params (signature_of t.signatures f)) q h

    entry_applied : (x : Option Entry) (es : List Mexp) → EachApplied es → (f : Name) (q : ProcRef) → IsIn (called_declared ds x es f) q → IsApplied q.«module»
    entry_applied (Some (entry.Module m)) es w f q h = put_each (stands_for m.params es) (stands_applied m.params es w) (calls_if (proc_of m.procs f)) q h
    entry_applied (Some (entry.AbstractModule b)) es w f q h = asked_applied (module_type_of ds b.ty) es w f q h
    entry_applied None es w f q h = absurd h
    entry_applied (Some (entry.Lemma s bs)) es w f q h = absurd h
    entry_applied (Some (entry.Type t)) es w f q h = absurd h
    entry_applied (Some entry.AbstractType) es w f q h = absurd h
    entry_applied (Some (entry.Constant c)) es w f q h = absurd h
    entry_applied (Some (entry.Operator o)) es w f q h = absurd h
    entry_applied (Some (entry.ModuleType t)) es w f q h = absurd h
    entry_applied (Some (entry.AbstractOperator o)) es w f q h = absurd h
    entry_applied (Some (entry.Terminating g)) es w f q h = absurd h

    -- so it is in what is called
    pub called_applied : (r q : ProcRef) → IsApplied r.«module» → IsIn (called_from ds None r) q → IsApplied q.«module»
    called_applied r q w h = entry_applied (entry_of ds (name_of r.«module»)) (arguments_of r.«module») (its_arguments r.«module» w) r.name q h

    -- Module expressions of the scope, where P is so of each name of a module.
    module _ (all : (n : Name) (j : Interface) → interface_of ds None n ≡ Some j → P n) where
      none_or : {n : Count} (m : Name) (r : Row_of-Mexp n) → P m → IsNone m r
      none_or m end_of-Mexp h = h
      none_or m (more_of-Mexp e r) h = tt

      mutual
        pub known_applied : (m : Mexp) (k : Interface) → interface_at ds None m ≡ Some k → IsApplied m
        known_applied (named n) k e = tt
        known_applied (Apply' n c args) k e = by_name (interface_of ds None n) refl e (λ ps ls h. row_applied args ps ls h)
          where
            by_name : (o : Option Interface) → interface_of ds None n ≡ o → given ds o (interfaces_at ds None args) ≡ Some k →
                ((ps ls : List Param) → left_over ds ps (interfaces_at ds None args) ≡ Some ls → AreApplied args) → IsNone n args × AreApplied args
            by_name None q e go = absurd (none-some k e)
            by_name (Some j) q e go = (none_or n args (all n j q), by_left (left_over ds j.lacks (interfaces_at ds None args)) refl e)
              where
                by_left : (o : Option (List Param)) → left_over ds j.lacks (interfaces_at ds None args) ≡ o → lacking j o ≡ Some k → AreApplied args
                by_left None h e = absurd (none-some k e)
                by_left (Some ls) h e = go j.lacks ls h

        row_applied : {n : Count} (r : Row_of-Mexp n) (ps ls : List Param) → left_over ds ps (interfaces_at ds None r) ≡ Some ls → AreApplied r
        row_applied end_of-Mexp ps ls e = tt
        row_applied (more_of-Mexp m r) [] ls e = absurd (none-some ls e)
        row_applied (more_of-Mexp m r) (p ∷ ps) ls e =
            by_fit (interface_at ds None m) refl e (λ k h. known_applied m k h) (λ h. row_applied r ps ls h)
          where
            by_fit : (o : Option Interface) → interface_at ds None m ≡ o → (if fits ds o (module_type_of ds p.ty) then left_over ds ps (interfaces_at ds None r) else None) ≡ Some ls →
                ((k : Interface) → interface_at ds None m ≡ Some k → IsApplied m) → (left_over ds ps (interfaces_at ds None r) ≡ Some ls → AreApplied r) → IsApplied m × AreApplied r
            by_fit None h e one rest = absurd (none-some ls e)
            by_fit (Some k) h e one rest = step (fits ds (Some k) (module_type_of ds p.ty)) e
              where
                step : (b : Bool) → (if b then left_over ds ps (interfaces_at ds None r) else None) ≡ Some ls → IsApplied m × AreApplied r
                step true e = (one k h, rest e)
                step false e = absurd (none-some ls e)

  left_applied : (qs : List Param) → EachApplied (left_open qs)
  left_applied [] = tt
  left_applied (q ∷ qs) = (tt, left_applied qs)

  -- .. with parameters that are left open
  pub opened_applied : (m : Mexp) (qs : List Param) → IsApplied m → IsApplied (given_more m (left_open qs))
  opened_applied m qs w = given_more_applied m (left_open qs) w (left_applied qs)
