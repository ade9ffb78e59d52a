-- The footprint that is computed of a module covers the globals of its open program.
use Rattle.std.proofs.Common.{◌≡◌, inl, inr, Bool, true, false, ◌||◌, if◌then◌else◌, List, [], ◌∷◌, ◌++◌, map, filter, Option, Some, None, bytes_eq, refl, ap, sym, ◌∙◌, subst}
use Rattle.std.specs.List.{list_any}
use Rattle.std.proofs.lemmas.Bool.{false≢true}
use Rattle.std.proofs.lemmas.List.{append-nil}
use Rattle.std.proofs.lemmas.Option.{none-some, same_Some}
use Rattle.std.proofs.lemmas.Slice.Eq.{bytes_eq-Decides}
use Rattle.gb_core.specs.declared.var.Var.{Var}
use Rattle.gb_core.specs.declared.var.Var.TheVariants as var
use Rattle.gb_core.specs.declared.var.Var.TheVariants.{Glob}
use Rattle.gb_terms.specs.declared.decl.Module.{Module}
use Rattle.gb_terms.specs.declared.decl.Param.{Param}
use Rattle.gb_terms.specs.declared.module.Mexp.{Mexp}
use Rattle.gb_terms.specs.declared.module.Mexp.TheVariants.{Name as named, Apply'}
use Rattle.gb_terms.specs.declared.module.ProcRef.{ProcRef}
use Rattle.gb_terms.specs.declared.term.Term.{Term}
use Rattle.gb_goal.specs.declared.scope.Entry.{Entry}
use Rattle.gb_goal.specs.declared.scope.Entry.TheVariants as entry
use Rattle.gb_goal.specs.Instances.{name_of}
use Rattle.gb_goal.specs.Interfaces.{Interface, given, interface_at, interface_of, interfaces_at, lacking, left_over, of_entry}
use Rattle.gb_goal.specs.Scope as scope
use Rattle.gb_goal.specs.Scope.{entry_of}
use Rattle.gb_meaning.specs.Names.{Name}
use Rattle.gb_meaning.specs.Declared.{Declarations, ModuleType, declared}
use Rattle.gb_meaning.specs.Footprints.{footprint_globals, head_name, in_order, is_global, of_all, of_callee, own_entry, stands_for, var_order}
use Rattle.gb_meaning.specs.Footprints as meant
use Rattle.gb_meaning.specs.Modules.{closed, found, module_at}
use Rattle.gb_meaning.specs.Modules as linked
use Rattle.gb_meaning.specs.Programs.{AreInOrder}
use Rattle.gb_meaning.specs.Settings.{Chosen, Interpretation, footprints, is_chosen, program_footprint, setting, types_of}
use Rattle.gb_meaning.specs.Values.{Global, World}
use Rattle.gb_typing.specs.Alike.{NameSigned}
use Rattle.gb_typing.specs.Chosen.{AreUnchosen, IsChosenOver, chosen_under}
use Rattle.gb_typing.specs.Scopes.{context_of, IsTypedScope}
use Rattle.gb_typing.specs.Sequents.{AreBinders}
use Rattle.gb_typing.proofs.OwnFootprint.{own_footprint, program_there}
use Rattle.gb_mods.specs.Order.{joined}
use Rattle.gb_mods.specs.Reach.{all_from}
use Rattle.gb_arguments.specs.Collect.{open_binders}
use Rattle.gb_arguments.specs.Covers.{Covers}
use Rattle.gb_instances.specs.Footprint.{all_touched, footprint, own as own_of_module, own_of, procedures_of, with_reached}
use Rattle.gb_arguments.specs.OpenGoals.{AreOpenFit}
use Rattle.gb_arguments.proofs.AbstractThere.{gives}
use Rattle.gb_arguments.proofs.Apart.{same_stands}
use Rattle.gb_arguments.proofs.Bridge.{closed_each, module_is}
use Rattle.gb_arguments.proofs.FootprintMembers.{either, has_either, has_front, in_ordered, joined_has}
use Rattle.gb_arguments.proofs.Members.{Has, any_is, one_is}
use Rattle.gb_arguments.proofs.Touches.{procedures_touch}
use Rattle.gb_arguments.proofs.Whole.{of_name}

-- No program is chosen under the name of a declared module.

pub none_chosen : (ks : List Chosen) (n : Name) → chosen_under ks n ≡ None → is_chosen ks n ≡ false
none_chosen [] n e = refl
none_chosen (c ∷ ks) n e = step (bytes_eq n c.bind.name) (none_chosen ks n) e
  where
    step : (b : Bool) → (chosen_under ks n ≡ None → is_chosen ks n ≡ false) → (if b then Some c else chosen_under ks n) ≡ None → (b || is_chosen ks n) ≡ false
    step true go e = absurd (none-some c (sym e))
    step false go e = go e

module _ (cs : List Chosen) where
  rest_unchosen : (h : Name) (x : Entry) (es : scope.Declarations) → AreUnchosen cs (declared ((h, x) ∷ es)) → AreUnchosen cs (declared es)
  rest_unchosen h (entry.Module c) es u = u.1
  rest_unchosen h (entry.AbstractModule b) es u = u
  rest_unchosen h (entry.Lemma s bs) es u = u
  rest_unchosen h (entry.Type t) es u = u
  rest_unchosen h entry.AbstractType es u = u
  rest_unchosen h (entry.Constant c) es u = u
  rest_unchosen h (entry.Operator o) es u = u
  rest_unchosen h (entry.ModuleType t) es u = u
  rest_unchosen h (entry.AbstractOperator o) es u = u
  rest_unchosen h (entry.Terminating f) es u = u

  pub unchosen_there : (m : Name) (d : Module) (es : scope.Declarations) → AreUnchosen cs (declared es) → entry_of es m ≡ Some (entry.Module d) → is_chosen cs m ≡ false
  unchosen_there m d [] u q = absurd (none-some (entry.Module d) q)
  unchosen_there m d ((h, x) ∷ es) u q = step (bytes_eq m h) refl q (unchosen_there m d es (rest_unchosen h x es u))
    where
      step : (t : Bool) → bytes_eq m h ≡ t → (if t then Some x else entry_of es m) ≡ Some (entry.Module d) → (entry_of es m ≡ Some (entry.Module d) → is_chosen cs m ≡ false) → is_chosen cs m ≡ false
      step true r q go =
          let y = subst (λ (z : Entry). AreUnchosen cs (declared ((h, z) ∷ es))) (same_Some x (entry.Module d) q) u in
          none_chosen cs m (ap (chosen_under cs) ((bytes_eq-Decides m h).0 r) ∙ y.0)
      step false r q go = go q

record OfName (ds : scope.Declarations) (m : Mexp) (k : Interface) : Type 0 where
  its : Interface
  there : interface_of ds None (name_of m) ≡ Some its
  same : its.procedures ≡ k.procedures

with_lacks : (j k : Interface) (o : Option (List Param)) → lacking j o ≡ Some k → j.procedures ≡ k.procedures
with_lacks j k None e = absurd (none-some k e)
with_lacks j k (Some ps) e = ap (λ (z : Interface). z.procedures) (same_Some (record j { lacks = ps }) k e)

by_name : (ds : scope.Declarations) (m : Mexp) (k : Interface) → interface_at ds None m ≡ Some k → OfName ds m k
by_name ds (named n) k e = record { its = k; there = e; same = refl }
by_name ds (Apply' n c args) k e = step (interface_of ds None n) refl e
  where
    step : (o : Option Interface) → interface_of ds None n ≡ o → given ds o (interfaces_at ds None args) ≡ Some k → OfName ds (Apply' n c args) k
    step None q e = absurd (none-some k e)
    step (Some j) q e = record { its = j; there = q; same = with_lacks j k (left_over ds j.lacks (interfaces_at ds None args)) e }

same_head : (m : Mexp) → head_name m ≡ name_of m
same_head (named n) = refl
same_head (Apply' n c args) = refl

filtered : (p : Global → Bool) (w : World) (z : Global) → Has (filter p w) z → p z ≡ true
filtered p [] z h = absurd h
filtered p (x ∷ w) z h = step (p x) refl h (filtered p w z)
  where
    step : (b : Bool) → p x ≡ b → Has (if b then x ∷ filter p w else filter p w) z → (Has (filter p w) z → p z ≡ true) → p z ≡ true
    step true q (inl e) go = sym (ap p e) ∙ q
    step true q (inr h) go = go h
    step false q h go = go h

module _ (ds : scope.Declarations) (scoped : IsTypedScope (declared ds)) (f0 : Term)
    (signed : (n : Name) (t : ModuleType) → (context_of (declared ds)).modules.types n ≡ Some t → NameSigned (declared ds) t t.signatures)
    (i : Interpretation) (chosen : IsChosenOver (declared ds) i)
    (m : Mexp) (k : Interface) (seen : interface_at ds None m ≡ Some k) (w : AreBinders (context_of (declared ds)) (open_binders k.lacks)) (fit : AreOpenFit ds scoped k.lacks f0 w k)
    (ys : List Var) (computed : footprint ds (m, k) ≡ Some ys) where
  abbrev D : Declarations
  D = declared ds

  abbrev cs : List Chosen
  cs = i.programs

  abbrev fps : linked.Modules (List Var)
  fps = footprints D cs

  j : OfName ds m k
  j = by_name ds m k seen

  of_procedures : (z : Var) → Has (of_all (module_at fps m [])) z → Has ys z
  of_procedures z h =
      let s = of_name ds scoped i chosen (name_of m) j.its j.there in
      let x = s.together (gives fps m) z (subst (λ l. Has (of_all l) z) (module_is ds scoped k.lacks f0 w (λ q. []) fps m [] ∙ ap (fps (name_of m)) (append-nil (gives fps m))) h) in
      procedures_touch ds scoped f0 signed i chosen m k seen w fit ys computed x.0 x.1.0 (ap (λ l. found l x.0) (sym j.same) ∙ x.1.1) z
      (subst (λ l. Has (of_callee (found l x.0)) z)
      (sym (s.extra (gives fps m) k.lacks) ∙ ap (λ l. fps (name_of m) (gives fps m ++ l)) (sym (closed_each ds scoped k.lacks f0 w (λ q. []) fps k.lacks))
      ∙ sym (module_is ds scoped k.lacks f0 w (λ q. []) fps m (map (λ q. []) k.lacks))) x.2)

  own_there : (n : Name) → n ≡ name_of m → is_chosen cs n ≡ true → Has (own_of_module ds m) (Glob n)
  own_there n q c = by_found (entry_of ds (name_of m)) refl j.there
    where
      by_entry : (x : Entry) → entry_of ds (name_of m) ≡ Some x → of_entry ds (Some x) ≡ Some j.its → Has (own_of_module ds m) (Glob n)
      by_entry (entry.Module d) h e = absurd (false≢true (sym (unchosen_there cs (name_of m) d ds chosen.unchosen h) ∙ ap (is_chosen cs) (sym q) ∙ c))
      by_entry (entry.AbstractModule b) h e = subst (λ xs. Has xs (Glob n)) (sym (ap (own_of (name_of m)) h)) (inl (ap Glob (sym q)))
      by_entry _ h e = absurd (none-some j.its e)

      by_found : (o : Option Entry) → entry_of ds (name_of m) ≡ o → of_entry ds o ≡ Some j.its → Has (own_of_module ds m) (Glob n)
      by_found None h e = absurd (none-some j.its e)
      by_found (Some x) h e = by_entry x h e

  of_own : (z : Var) → Has (own_entry (is_chosen cs) m) z → Has ys z
  unfolding footprint
  of_own z h = by_chosen (is_chosen cs (head_name m)) refl h
    where
      by_reached : Has (own_of_module ds m) z → (o : Option (List ProcRef)) → with_reached ds m o ≡ Some ys → Has ys z
      by_reached h None e = absurd (none-some ys e)
      by_reached h (Some rs) e =
          subst (λ xs. Has xs z) (same_Some (joined (own_of_module ds m ++ all_touched ds rs) []) ys e)
          (joined_has (own_of_module ds m ++ all_touched ds rs) z (has_front (own_of_module ds m) (all_touched ds rs) z h))

      by_chosen : (b : Bool) → is_chosen cs (head_name m) ≡ b → Has (if b then Glob (head_name m) ∷ [] else []) z → Has ys z
      by_chosen false q h = absurd h
      by_chosen true q (inr h) = absurd h
      by_chosen true q (inl e) = by_reached (subst (Has (own_of_module ds m)) e (own_there (head_name m) (same_head m) q)) (all_from ds None (procedures_of (m, k))) computed

  -- what the module touches in the meaning is in the footprint that is computed
  pub all_in : (z : Var) → Has (meant.footprint fps (is_chosen cs) m) z → Has ys z
  all_in z h = either (λ o. of_own z o) (λ o. of_procedures z o) (has_either (own_entry (is_chosen cs) m) (of_all (module_at fps m [])) z (in_ordered _ z h))

  -- the globals of programs stand in the order of the world
  module _ (ordered : (n : Name) (x : Chosen) → chosen_under i.programs n ≡ Some x → AreInOrder i.world x.program.footprint) where
    abbrev own : Name → List Global
    own n = (setting D i).types.footprint (named n)

    own_stands : (z : Global) (y : Var) → stands_for (program_footprint cs) z y ≡ true → stands_for own z y ≡ true
    own_stands z (var.Global a x) e = e
    own_stands z (var.Local x) e = e
    own_stands z (var.Glob a) e = step (chosen_under cs a) refl
      where
        none_there : (ks : List Chosen) → chosen_under ks a ≡ None → program_footprint ks a ≡ []
        none_there [] q = refl
        none_there (c ∷ ks) q = at (bytes_eq a c.bind.name) q (none_there ks)
          where
            at : (b : Bool) → (if b then Some c else chosen_under ks a) ≡ None → (chosen_under ks a ≡ None → program_footprint ks a ≡ []) → (if b then c.program.footprint else program_footprint ks a) ≡ []
            at true q go = absurd (none-some c (sym q))
            at false q go = go q

        step : (o : Option Chosen) → chosen_under cs a ≡ o → list_any (is_global z) (own a) ≡ true
        step None q = absurd (false≢true (sym (ap (list_any (is_global z)) (none_there cs q)) ∙ e))
        step (Some x) q = ap (list_any (is_global z)) (own_footprint D i a x q (ordered a x q)) ∙ sym (ap (list_any (is_global z)) (program_there cs a x q)) ∙ e

    pub covers : Covers (setting D i) ys ((types_of D i).footprint m)
    covers x h =
        let z = one_is (is_global x) (footprint_globals i.world (program_footprint cs) (meant.footprint fps (is_chosen cs) m)) h in
        let y = one_is (stands_for (program_footprint cs) z.0) (meant.footprint fps (is_chosen cs) m)
        (filtered (λ g. list_any (stands_for (program_footprint cs) g) (meant.footprint fps (is_chosen cs) m)) i.world z.0 z.1) in
        any_is (stands_for own x) ys y.0 (all_in y.0 y.1) (same_stands (setting D i) x z.0 z.2 y.0 ∙ own_stands z.0 y.0 y.2)
