-- Types that hold the globals of modules, and types with labels, by their parts.
use Rattle.std.proofs.Common.{◌≡◌, Bool, true, false, ◌||◌, Some, None, List, [], ◌∷◌, map, refl, ap, sym, ◌∙◌}
use Rattle.std.specs.List.{list_any}
use Rattle.std.proofs.lemmas.Bool.{false≢true}
use mathlib.Core.Former.{Count}
use Rattle.gb_core.specs.declared.ty.Ty as X
use Rattle.gb_core.specs.declared.ty.Ty.{Ty, Row_of-Ty, end_of-Ty, more_of-Ty, out-Ty, roll-Ty, fold-Ty, items-the_row-Ty, items_shown-the_row-Ty-0}
use Rattle.gb_core.specs.declared.ty.Ty.TheVariants as ty
use Rattle.gb_core.specs.declared.ty.Ty.TheOpen as layer
use Rattle.gb_core.specs.declared.ty.Ty.TheBlock as B
use Rattle.gb_core.specs.declared.ty.Ty.TheViews.{roll-out-Ty}
use Rattle.gb_core.specs.declared.ty.Ty.TheFolds.{fold-roll-Ty}
use Rattle.gb_meaning.specs.Names.{Name}
use Rattle.gb_laws.specs.Operators.{row}
use Rattle.gb_laws.proofs.Constructors.{option_is, tuple_is}
use Rattle.gb_labels.specs.Labels.{Labels, labelled_layer, labelled_ty}
use Rattle.gb_labels.specs.Things.{holds_layer, holds_glob, all_names, both_names, module_of, modules_of, modules_of_all}

out_opt : (p : _) (x : Ty) → out-Ty (ty.Opt' p (more_of-Ty x end_of-Ty)) ≡ layer.Opt x
unfolding X.out-Ty denote.Hole.Carrier.out B.shown-the_row-Ty-1 denote.Hole.Carrier.shown
out_opt p x = refl

out_map : (p q : _) (k x : Ty) → out-Ty (ty.Map' p (more_of-Ty k end_of-Ty) q (more_of-Ty x end_of-Ty)) ≡ layer.Map k x
unfolding X.out-Ty denote.Hole.Carrier.out B.shown-the_row-Ty-1 denote.Hole.Carrier.shown
out_map p q k x = refl

out_distr : (p : _) (x : Ty) → out-Ty (ty.Distr' p (more_of-Ty x end_of-Ty)) ≡ layer.Distr x
unfolding X.out-Ty denote.Hole.Carrier.out B.shown-the_row-Ty-1 denote.Hole.Carrier.shown
out_distr p x = refl

out_tuple : (n : _) (r : _) → out-Ty (ty.Tuple' n r) ≡ layer.Tuple (items-the_row-Ty _ r)
unfolding X.out-Ty denote.Hole.Carrier.out
out_tuple n r = ap layer.Tuple (items_shown-the_row-Ty-0 n r)

-- a type is made of its layer
made_of : (t : Ty) (l : layer.Ty-F Ty) → out-Ty t ≡ l → t ≡ roll-Ty l
made_of t l e = sym (roll-out-Ty t) ∙ ap roll-Ty e

is_opt : (p : _) (x : Ty) → ty.Opt' p (more_of-Ty x end_of-Ty) ≡ ty.Opt x
is_opt p x = made_of _ _ (out_opt p x) ∙ ty.rolls-Opt x

is_map : (p q : _) (k x : Ty) → ty.Map' p (more_of-Ty k end_of-Ty) q (more_of-Ty x end_of-Ty) ≡ ty.Map k x
is_map p q k x = made_of _ _ (out_map p q k x) ∙ ty.rolls-Map k x

pub is_distr : (p : _) (x : Ty) → ty.Distr' p (more_of-Ty x end_of-Ty) ≡ ty.Distr x
is_distr p x = made_of _ _ (out_distr p x) ∙ ty.rolls-Distr x

is_tuple : (n : _) (r : _) → ty.Tuple' n r ≡ ty.Tuple (items-the_row-Ty _ r)
is_tuple n r = made_of _ _ (out_tuple n r) ∙ ty.rolls-Tuple (items-the_row-Ty _ r)

-- Globals held, by the parts.

holds_opt : (p : _) (x : Ty) → holds_glob (ty.Opt' p (more_of-Ty x end_of-Ty)) ≡ holds_glob x
holds_opt p x = ap holds_glob (made_of _ _ (out_opt p x)) ∙ fold-roll-Ty Bool holds_layer (layer.Opt x)

holds_map : (p q : _) (k x : Ty) → holds_glob (ty.Map' p (more_of-Ty k end_of-Ty) q (more_of-Ty x end_of-Ty)) ≡ (holds_glob k || holds_glob x)
holds_map p q k x = ap holds_glob (made_of _ _ (out_map p q k x)) ∙ fold-roll-Ty Bool holds_layer (layer.Map k x)

holds_distr : (p : _) (x : Ty) → holds_glob (ty.Distr' p (more_of-Ty x end_of-Ty)) ≡ holds_glob x
holds_distr p x = ap holds_glob (made_of _ _ (out_distr p x)) ∙ fold-roll-Ty Bool holds_layer (layer.Distr x)

holds_tuple : (n : _) (r : _) → holds_glob (ty.Tuple' n r) ≡ list_any (λ b. b) (map holds_glob (items-the_row-Ty _ r))
holds_tuple n r = ap holds_glob (made_of _ _ (out_tuple n r)) ∙ fold-roll-Ty Bool holds_layer (layer.Tuple (items-the_row-Ty _ r))

holds_name : (m : Name) → holds_glob (ty.Glob m) ≡ true
holds_name m = ap holds_glob (sym (ty.rolls-Glob m)) ∙ fold-roll-Ty Bool holds_layer (layer.Glob m)

-- Labels put into a type, by the parts.

-- the types without parts that aren't those of globals
abbrev pub is_leaf : Ty → Bool
is_leaf (ty.Tuple' n r) = false
is_leaf (ty.Opt' p x) = false
is_leaf (ty.Map' p k q x) = false
is_leaf (ty.Distr' p x) = false
is_leaf (ty.Glob m) = false
is_leaf _ = true

module _ (ls : Labels) where
  pub labelled_leaf : (t : Ty) → is_leaf t ≡ true → labelled_ty ls t ≡ t
  labelled_leaf ty.Unit h = ap (labelled_ty ls) (sym ty.rolls-Unit) ∙ fold-roll-Ty Ty (labelled_layer ls) layer.Unit
  labelled_leaf ty.Bool h = ap (labelled_ty ls) (sym ty.rolls-Bool) ∙ fold-roll-Ty Ty (labelled_layer ls) layer.Bool
  labelled_leaf (ty.Bits n) h = ap (labelled_ty ls) (sym (ty.rolls-Bits n)) ∙ fold-roll-Ty Ty (labelled_layer ls) (layer.Bits n)
  labelled_leaf (ty.Mod n) h = ap (labelled_ty ls) (sym (ty.rolls-Mod n)) ∙ fold-roll-Ty Ty (labelled_layer ls) (layer.Mod n)
  labelled_leaf (ty.Enumeration x n) h = ap (labelled_ty ls) (sym (ty.rolls-Enumeration x n)) ∙ fold-roll-Ty Ty (labelled_layer ls) (layer.Enumeration x n)
  labelled_leaf (ty.Abstract x) h = ap (labelled_ty ls) (sym (ty.rolls-Abstract x)) ∙ fold-roll-Ty Ty (labelled_layer ls) (layer.Abstract x)
  labelled_leaf ty.Int h = ap (labelled_ty ls) (sym ty.rolls-Int) ∙ fold-roll-Ty Ty (labelled_layer ls) layer.Int
  labelled_leaf ty.Real h = ap (labelled_ty ls) (sym ty.rolls-Real) ∙ fold-roll-Ty Ty (labelled_layer ls) layer.Real
  labelled_leaf _ h = absurd (false≢true h)

  labelled_opt : (p : _) (x : Ty) → labelled_ty ls (ty.Opt' p (more_of-Ty x end_of-Ty)) ≡ ty.Opt (labelled_ty ls x)
  labelled_opt p x = ap (labelled_ty ls) (made_of _ _ (out_opt p x)) ∙ fold-roll-Ty Ty (labelled_layer ls) (layer.Opt x)

  labelled_map : (p q : _) (k x : Ty) → labelled_ty ls (ty.Map' p (more_of-Ty k end_of-Ty) q (more_of-Ty x end_of-Ty)) ≡ ty.Map (labelled_ty ls k) (labelled_ty ls x)
  labelled_map p q k x = ap (labelled_ty ls) (made_of _ _ (out_map p q k x)) ∙ fold-roll-Ty Ty (labelled_layer ls) (layer.Map k x)

  labelled_distr : (p : _) (x : Ty) → labelled_ty ls (ty.Distr' p (more_of-Ty x end_of-Ty)) ≡ ty.Distr (labelled_ty ls x)
  labelled_distr p x = ap (labelled_ty ls) (made_of _ _ (out_distr p x)) ∙ fold-roll-Ty Ty (labelled_layer ls) (layer.Distr x)

  labelled_tuple : (n : _) (r : _) → labelled_ty ls (ty.Tuple' n r) ≡ ty.Tuple (map (labelled_ty ls) (items-the_row-Ty _ r))
  labelled_tuple n r = ap (labelled_ty ls) (made_of _ _ (out_tuple n r)) ∙ fold-roll-Ty Ty (labelled_layer ls) (layer.Tuple (items-the_row-Ty _ r))

or_false : (a b : Bool) → (a || b) ≡ false → (a ≡ false) × (b ≡ false)
or_false false b h = (refl, h)
or_false true b h = absurd (false≢true (sym h))

-- labels change no type that holds no globals
module _ (ls : Labels) where
  mutual
    pub globless_kept : (t : Ty) → holds_glob t ≡ false → labelled_ty ls t ≡ t
    globless_kept (ty.Glob m) h = absurd (false≢true (sym h ∙ holds_name m))
    globless_kept (ty.Tuple' n r) h = labelled_tuple ls n r ∙ ap ty.Tuple (rows_kept r (sym (holds_tuple n r) ∙ h)) ∙ sym (is_tuple n r)
    globless_kept (ty.Opt' p (more_of-Ty x end_of-Ty)) h = labelled_opt ls p x ∙ ap ty.Opt (globless_kept x (sym (holds_opt p x) ∙ h)) ∙ sym (is_opt p x)
    globless_kept (ty.Map' p (more_of-Ty k end_of-Ty) q (more_of-Ty x end_of-Ty)) h =
        let both = or_false (holds_glob k) (holds_glob x) (sym (holds_map p q k x) ∙ h) in
        labelled_map ls p q k x ∙ (λ i. ty.Map (globless_kept k both.0 i) (globless_kept x both.1 i)) ∙ sym (is_map p q k x)
    globless_kept (ty.Distr' p (more_of-Ty x end_of-Ty)) h = labelled_distr ls p x ∙ ap ty.Distr (globless_kept x (sym (holds_distr p x) ∙ h)) ∙ sym (is_distr p x)
    globless_kept ty.Unit h = labelled_leaf ls ty.Unit refl
    globless_kept ty.Bool h = labelled_leaf ls ty.Bool refl
    globless_kept (ty.Bits n) h = labelled_leaf ls (ty.Bits n) refl
    globless_kept (ty.Mod n) h = labelled_leaf ls (ty.Mod n) refl
    globless_kept (ty.Enumeration x n) h = labelled_leaf ls (ty.Enumeration x n) refl
    globless_kept (ty.Abstract x) h = labelled_leaf ls (ty.Abstract x) refl
    globless_kept ty.Int h = labelled_leaf ls ty.Int refl
    globless_kept ty.Real h = labelled_leaf ls ty.Real refl

    rows_kept : {n : Count} (r : Row_of-Ty n) → list_any (λ b. b) (map holds_glob (items-the_row-Ty _ r)) ≡ false → map (labelled_ty ls) (items-the_row-Ty _ r) ≡ items-the_row-Ty _ r
    rows_kept end_of-Ty h = refl
    rows_kept (more_of-Ty t r) h =
        let both = or_false (holds_glob t) (list_any (λ b. b) (map holds_glob (items-the_row-Ty _ r))) h in
        λ i. globless_kept t both.0 i ∷ rows_kept r both.1 i

-- without numbers of labels no type changes
mutual
  pub unlabelled_ty : (t : Ty) → labelled_ty [] t ≡ t
  unlabelled_ty (ty.Glob m) = ap (labelled_ty []) (sym (ty.rolls-Glob m)) ∙ fold-roll-Ty Ty (labelled_layer []) (layer.Glob m)
  unlabelled_ty (ty.Tuple' n r) = labelled_tuple [] n r ∙ ap ty.Tuple (rows_unlabelled r) ∙ sym (is_tuple n r)
  unlabelled_ty (ty.Opt' p (more_of-Ty x end_of-Ty)) = labelled_opt [] p x ∙ ap ty.Opt (unlabelled_ty x) ∙ sym (is_opt p x)
  unlabelled_ty (ty.Map' p (more_of-Ty k end_of-Ty) q (more_of-Ty x end_of-Ty)) =
      labelled_map [] p q k x ∙ (λ i. ty.Map (unlabelled_ty k i) (unlabelled_ty x i)) ∙ sym (is_map p q k x)
  unlabelled_ty (ty.Distr' p (more_of-Ty x end_of-Ty)) = labelled_distr [] p x ∙ ap ty.Distr (unlabelled_ty x) ∙ sym (is_distr p x)
  unlabelled_ty ty.Unit = labelled_leaf [] ty.Unit refl
  unlabelled_ty ty.Bool = labelled_leaf [] ty.Bool refl
  unlabelled_ty (ty.Bits n) = labelled_leaf [] (ty.Bits n) refl
  unlabelled_ty (ty.Mod n) = labelled_leaf [] (ty.Mod n) refl
  unlabelled_ty (ty.Enumeration x n) = labelled_leaf [] (ty.Enumeration x n) refl
  unlabelled_ty (ty.Abstract x) = labelled_leaf [] (ty.Abstract x) refl
  unlabelled_ty ty.Int = labelled_leaf [] ty.Int refl
  unlabelled_ty ty.Real = labelled_leaf [] ty.Real refl

  rows_unlabelled : {n : Count} (r : Row_of-Ty n) → map (labelled_ty []) (items-the_row-Ty _ r) ≡ items-the_row-Ty _ r
  rows_unlabelled end_of-Ty = refl
  rows_unlabelled (more_of-Ty t r) = λ i. unlabelled_ty t i ∷ rows_unlabelled r i

-- Modules of a type, by its parts.

pub module_opt : (t u : Ty) (m : Name) → t ≡ ty.Opt u → u ≡ ty.Glob m → module_of t ≡ Some m
module_opt t u m e f = ap module_of (e ∙ ap ty.Opt f ∙ option_is (ty.Glob m))

module_boxed : (p : _) (u : Ty) → ((m : Name) → u ≡ ty.Glob m → ⊥) → module_of (ty.Opt' p (more_of-Ty u end_of-Ty)) ≡ None
module_boxed p (ty.Glob m) a = absurd (a m refl)
module_boxed p _ a = refl

pub module_opt_none : (t u : Ty) → t ≡ ty.Opt u → ((m : Name) → u ≡ ty.Glob m → ⊥) → module_of t ≡ None
module_opt_none t u e a = ap module_of (e ∙ option_is u) ∙ module_boxed _ u a

parts_named : (us : List Ty) → modules_of_all (row us) ≡ all_names (map modules_of us)
parts_named [] = refl
parts_named (u ∷ us) = ap (both_names (modules_of u)) (parts_named us)

pub modules_tuple : (t : Ty) (us : List Ty) → t ≡ ty.Tuple us → modules_of t ≡ all_names (map modules_of us)
modules_tuple t us e = ap modules_of (e ∙ tuple_is us) ∙ parts_named us
