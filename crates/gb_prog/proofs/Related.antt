-- Memories that are alike: what typed variables read, and what writes, calls and answers keep.
use Rattle.std.proofs.Common.{◌≡◌, Bool, true, List, [], ◌∷◌, map, inl, inr, Some, refl, ap, sym, ◌∙◌, subst}
use Rattle.std.proofs.lemmas.Option.{none-some}
use Rattle.gb_core.specs.declared.ty.Ty.{Ty}
use Rattle.gb_core.specs.declared.value.Value.{Value}
use Rattle.gb_core.specs.declared.value.Value.TheVariants.{Num, Many}
use Rattle.gb_core.specs.declared.var.Var.{Var}
use Rattle.gb_core.specs.declared.var.Var.TheVariants as var
use Rattle.gb_core.specs.Numbering.{first_or, parts_in, parts_of}
use Rattle.gb_core.proofs.Lawful.{out-Many}
use Rattle.gb_meaning.specs.Memory.{Memory, assigned, result_in, write}
use Rattle.gb_meaning.specs.Names.{Map, Path, get, set}
use Rattle.gb_meaning.specs.Runs.{returned}
use Rattle.gb_meaning.specs.Setting.{Setting}
use Rattle.gb_meaning.specs.Values.{Global, Types, fit}
use Rattle.gb_meaning.proofs.Maps.{path_discrete, get-set_other, get-set_same}
use Rattle.gb_laws.specs.Cells.{Covers, cells_of}
use Rattle.gb_meaning.specs.Typing.{Names, type_of, Takes}
use Rattle.gb_prog.specs.Coupled.{values_of, IsKept, Alike}
use Rattle.gb_prog.proofs.Places.{AtEach, at_place, assigned_kept}
use Rattle.gb_prog.proofs.Expressions.{IsSame}

-- globals have the same values where each of them is read the same
module _ (t : Types) (G H : Map) where
  abbrev pub ReadsSame : Path → Ty → Type 0
  ReadsSame p u = fit t u (get G p) ≡ fit t u (get H p)

  abbrev read_in : Map → Global → Value
  read_in M x = fit t x.ty (get M (x.parent ∷ x.name ∷ []))

  parts_many : (vs : List Value) → parts_of (Many vs) ≡ vs
  parts_many vs = ap parts_in (out-Many vs)

  abbrev rest_of : List Value → List Value
  rest_of [] = []
  rest_of (v ∷ vs) = vs

  split : (gs : List Global) → map (read_in G) gs ≡ map (read_in H) gs → AtEach ReadsSame gs
  split [] e = tt
  split (x ∷ gs) e = (ap (λ vs. first_or vs (Num 0)) e, split gs (ap rest_of e))

  pub each_same : (gs : List Global) → values_of t gs G ≡ values_of t gs H → AtEach ReadsSame gs
  each_same gs e = split gs (sym (parts_many (map (read_in G) gs)) ∙ ap parts_of e ∙ parts_many (map (read_in H) gs))

  joined : (gs : List Global) → AtEach ReadsSame gs → map (read_in G) gs ≡ map (read_in H) gs
  joined [] h = refl
  joined (x ∷ gs) h =
      let one = h.0 in
      let two = joined gs h.1 in
      λ i. one i ∷ two i

  pub same_each : (gs : List Global) → AtEach ReadsSame gs → values_of t gs G ≡ values_of t gs H
  same_each gs h = ap Many (joined gs h)

-- one place gets the same value on both sides
pub set_same : (t : Types) (p : Path) (v : Value) (G H : Map) (gs : List Global) → AtEach (ReadsSame t G H) gs → AtEach (ReadsSame t (set G p v) (set H p v)) gs
set_same t p v G H [] h = tt
set_same t p v G H (x ∷ gs) h = (here (path_discrete (x.parent ∷ x.name ∷ []) p), set_same t p v G H gs h.1)
  where
    held : (M : Map) → (x.parent ∷ x.name ∷ []) ≡ p → get (set M p v) (x.parent ∷ x.name ∷ []) ≡ Some v
    held M e = ap (get (set M p v)) e ∙ get-set_same M p v

    here : Dec ((x.parent ∷ x.name ∷ []) ≡ p) → fit t x.ty (get (set G p v) (x.parent ∷ x.name ∷ [])) ≡ fit t x.ty (get (set H p v) (x.parent ∷ x.name ∷ []))
    here (yes e) = ap (fit t x.ty) (held G e ∙ sym (held H e))
    here (no k) =
        ap (fit t x.ty) (get-set_other G p v (x.parent ∷ x.name ∷ []) k) ∙ h.0
        ∙ sym (ap (fit t x.ty) (get-set_other H p v (x.parent ∷ x.name ∷ []) k))

module _ (g : Setting) (names : Names) (R : Map → Map → Bool) (kept : IsKept names.globals R) where
  abbrev pub A : Memory → Memory → Type 0
  A = Alike g.types names.globals R

  pub alike_reads : (m n : Memory) → A m n → (x : Var) (u : Ty) → type_of names x ≡ Some u → Covers (IsSame g names m n) (cells_of g.types x u)
  alike_reads m n a (var.Global p x) u e c (inl k) =
      subst (IsSame g names m n) (sym k) (at_place (ReadsSame g.types m.globals n.globals) names.globals (each_same g.types m.globals n.globals names.globals a.own) p x u e)
  alike_reads m n a (var.Global p x) u e c (inr i) = absurd i
  alike_reads m n a (var.Local x) u e c (inl k) = subst (IsSame g names m n) (sym k) (ap (λ f. fit g.types u (get f (x ∷ []))) a.frames)
  alike_reads m n a (var.Local x) u e c (inr i) = absurd i
  alike_reads m n a (var.Glob b) u e c i = absurd (none-some u e)

  pub alike_writes : (x : Var) (u : Ty) → type_of names x ≡ Some u → (v : Value) (m n : Memory) → A m n → A (write g.types m x v) (write g.types n x v)
  alike_writes (var.Global p x) u e v m n a = record {
    frames = a.frames;
    own = same_each g.types (set m.globals (p ∷ x ∷ []) v) (set n.globals (p ∷ x ∷ []) v) names.globals (set_same g.types (p ∷ x ∷ []) v m.globals n.globals names.globals (each_same g.types m.globals n.globals names.globals a.own));
    related = at_place (λ q z. (v : Value) (G H : Map) → R G H ≡ true → R (set G q v) (set H q v) ≡ true) names.globals kept p x u e v m.globals n.globals a.related;
  }
  alike_writes (var.Local x) u e v m n a = record { frames = ap (λ f. set f (x ∷ []) v) a.frames; own = a.own; related = a.related }
  alike_writes (var.Glob b) u e v m n a = absurd (none-some u e)

  pub alike_assigned : (xs : List Var) (u : Ty) → Takes names xs u → (v : Value) (m n : Memory) → A m n → A (assigned g.types m xs v) (assigned g.types n xs v)
  alike_assigned xs u w v m n a = assigned_kept g.types names A alike_writes xs u w v m n a

  -- the callers, after calls that ended alike
  pub alike_returned : (xs : List Var) (u : Ty) → Takes names xs u → (m n : Memory) → A m n → (a b : Memory) → A a b → A (returned g xs m a) (returned g xs n b)
  alike_returned xs u w m n r a b k =
      let same : result_in a ≡ result_in b = ap (λ f. result_in (record { globals = a.globals; frame = f })) k.frames in
      let left : Memory = record { globals = a.globals; frame = m.frame } in
      let right : Memory = record { globals = b.globals; frame = n.frame } in
      subst (λ v. A (returned g xs m a) (assigned g.types right xs v)) same
      (alike_assigned xs u w (result_in a) left right (record { frames = r.frames; own = k.own; related = k.related }))
