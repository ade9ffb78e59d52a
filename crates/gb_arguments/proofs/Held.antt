-- What a footprint has stands for globals among those that the footprint stands for.
use Rattle.std.proofs.Common.{◌≡◌, Bool, true, false, ◌&&◌, ◌||◌, List, [], ◌∷◌, filter, Option, Some, if◌then◌else◌, bytes_eq, refl, ap, sym, ◌∙◌, subst}
use Rattle.std.specs.List.{list_any}
use Rattle.std.proofs.lemmas.Bool.{false≢true}
use Rattle.std.proofs.lemmas.Option.{none-some, same_Some}
use Rattle.gb_core.specs.declared.ty.Ty.{Ty}
use Rattle.gb_core.specs.declared.var.Var.{Var}
use Rattle.gb_core.specs.declared.var.Var.TheVariants as var
use Rattle.gb_meaning.specs.Declared.{Signature}
use Rattle.gb_meaning.specs.Footprints.{footprint_globals, of_all, stands_for}
use Rattle.gb_meaning.specs.Modules.{Procedures, found}
use Rattle.gb_meaning.specs.Names.{Name}
use Rattle.gb_meaning.specs.Program.{Oracle}
use Rattle.gb_meaning.specs.Setting.{Setting}
use Rattle.gb_meaning.specs.Typing.{global_type}
use Rattle.gb_meaning.specs.Values.{Global, World}
use Rattle.gb_arguments.specs.Typed.{AreWithin, IsWithin}
use Rattle.gb_arguments.proofs.Filtered.{or_true, same_found}
use Rattle.gb_arguments.proofs.Typed.{front_within, rest_within}

module _ (w : World) (pf : Name → List Global) (q : Global → Bool) where
  -- a global whose names the test takes keeps its type
  kept : (m y : Name) → ((g : Global) → (bytes_eq m g.parent && bytes_eq y g.name) ≡ true → q g ≡ true) → (v : World) (u : Ty) → global_type v m y ≡ Some u →
      global_type (filter q v) m y ≡ Some u
  kept m y h [] u e = e
  kept m y h (g ∷ v) u e = step (bytes_eq m g.parent && bytes_eq y g.name) refl (q g) refl e (kept m y h v u)
    where
      step : (b : Bool) → (bytes_eq m g.parent && bytes_eq y g.name) ≡ b → (c : Bool) → q g ≡ c → (if b then Some g.ty else global_type v m y) ≡ Some u →
          (global_type v m y ≡ Some u → global_type (filter q v) m y ≡ Some u) → global_type (if c then g ∷ filter q v else filter q v) m y ≡ Some u
      step true i true k e go = ap (λ (b : Bool). if b then Some g.ty else global_type (filter q v) m y) i ∙ e
      step true i false k e go = absurd (false≢true (sym k ∙ h g i))
      step false i true k e go = ap (λ (b : Bool). if b then Some g.ty else global_type (filter q v) m y) i ∙ go e
      step false i false k e go = go e

  one_within : (x : Var) → ((g : Global) → stands_for pf g x ≡ true → q g ≡ true) → IsWithin w pf (filter q w) x
  one_within (var.Global m y) h = λ u e. kept m y h w u e
  one_within (var.Local y) h = tt
  one_within (var.Glob a) h = λ x e u k. kept x.parent x.name (λ g z. h g (same_found (pf a) x g z e)) w u k

  each_within : (xs : List Var) → ((g : Global) → list_any (stands_for pf g) xs ≡ true → q g ≡ true) → AreWithin w pf (filter q w) xs
  each_within [] h = tt
  each_within (x ∷ xs) h = (
    one_within x (λ g e. h g (ap (λ b. b || list_any (stands_for pf g) xs) e)),
    each_within xs (λ g e. h g (or_true (stands_for pf g x) (list_any (stands_for pf g) xs) e)),
  )

pub entries_within : (w : World) (pf : Name → List Global) (xs : List Var) → AreWithin w pf (footprint_globals w pf xs) xs
entries_within w pf xs = each_within w pf (λ g. list_any (stands_for pf g) xs) xs (λ g e. e)

module _ (g : Setting) (ss : Oracle → Option Signature) (w : World) (pf : Name → List Global) (gs : List Global) where
  -- a procedure touches what all of its module do
  pub found_within : (ms : Procedures (List Var)) → AreWithin w pf gs (of_all ms) → (n : Name) (xs : List Var) → found ms n ≡ Some xs → AreWithin w pf gs xs
  found_within [] h n xs e = absurd (none-some xs e)
  found_within (m ∷ ms) h n xs e = step (bytes_eq n m.0) (found_within ms (rest_within g ss w pf gs m.1 (of_all ms) h) n xs) e
    where
      step : (b : Bool) → (found ms n ≡ Some xs → AreWithin w pf gs xs) → (if b then Some m.1 else found ms n) ≡ Some xs → AreWithin w pf gs xs
      step true go e = subst (AreWithin w pf gs) (same_Some m.1 xs e) (front_within g ss w pf gs m.1 (of_all ms) h)
      step false go e = go e
