-- Statements read no places but those that they are found to read.
use Rattle.std.proofs.Common.{◌≡◌, List, ◌++◌, Option, Some, None, refl, sym, subst}
use Rattle.std.proofs.lemmas.Option.{same_Some, none-some}
use Rattle.std.specs.Option.{option_map}
use Rattle.gb_core.specs.declared.var.Var.{Var}
use Rattle.gb_terms.specs.declared.decl.Proc.{Proc}
use Rattle.gb_terms.specs.declared.decl.TypedName.{TypedName}
use Rattle.gb_terms.specs.declared.module.ProcRef.{ProcRef}
use Rattle.gb_terms.specs.declared.term.Instr.{Instr}
use Rattle.gb_meaning.specs.Commands.{statements}
use Rattle.gb_meaning.specs.Setting.{Setting}
use Rattle.gb_laws.specs.Cells.{Key}
use Rattle.gb_goal.specs.Scope.{Declarations, procedure_of}
use Rattle.gb_mods.specs.Called.{all_reached, calls}
use Rattle.gb_mods.specs.Meant.{meant_by}
use Rattle.gb_mods.specs.Read.{each_read, read_by}
use Rattle.gb_mods.proofs.Closed.{AreFollowed, IsIn, all_closed}
use Rattle.gb_prog.specs.Means.{Means}
use Rattle.gb_typing.specs.Context.{Context}
use Rattle.gb_typing.specs.Programs.{EachStatement, IsProcedure}
use Rattle.gb_trans.proofs.Named.{EachNamed, named_append}
use Rattle.gb_trans.proofs.ReadPlaces.{At, read_each, read_within}
use Rattle.gb_trans.proofs.Within.{ReadsWithin}
use Rattle.gb_trans.specs.Kill.{reads_if, reads_of}

-- how what statements read is known
record IsKnown (ds : Declarations) (is : List Instr) (xs : List Var) : Type 0 where
  reached : List ProcRef
  closed : AreFollowed ds reached reached
  there : (q : ProcRef) → IsIn (calls is) q → IsIn reached q
  others : List Var
  found : read_by ds reached ≡ Some others
  all : each_read is ++ others ≡ xs

known : (ds : Declarations) (is : List Instr) (xs : List Var) → reads_of ds is ≡ Some xs → IsKnown ds is xs
unfolding reads_of
known ds is xs f = by_reached (all_reached ds (calls is)) refl f
  where
    by_others : (S : List ProcRef) → all_reached ds (calls is) ≡ Some S → (o : Option (List Var)) → read_by ds S ≡ o → option_map (λ ys. each_read is ++ ys) o ≡ Some xs → IsKnown ds is xs
    by_others S r None w f = absurd (none-some xs f)
    by_others S r (Some ys) w f =
        let z = all_closed ds (calls is) S r in
        record { reached = S; closed = z.closed; there = z.there; others = ys; found = w; all = same_Some (each_read is ++ ys) xs f }

    by_reached : (o : Option (List ProcRef)) → all_reached ds (calls is) ≡ o → reads_if ds is o ≡ Some xs → IsKnown ds is xs
    by_reached None r f = absurd (none-some xs f)
    by_reached (Some S) r f = by_others S r (read_by ds S) refl f

-- declared procedures are typed, and references mean what they stand for
module _ (g : Setting) (ds : Declarations) (c : Context) (typed : (p : ProcRef) (a : Proc) → procedure_of ds p ≡ Some a → IsProcedure c a)
    (means : (p : ProcRef) → Means g p (meant_by ds p)) where
  pub known_within : (ls : List TypedName) (is : List Instr) → EachStatement c ls is → (xs : List Var) → reads_of ds is ≡ Some xs → (G : Key → Type 0) → EachNamed g.types G xs →
      ReadsWithin g (At G) (statements g is)
  known_within ls is w xs e G v =
      let k = known ds is xs e in
      let z = named_append g.types G (each_read is) k.others (subst (EachNamed g.types G) (sym k.all) v) in
      read_within g ds c typed means k.reached k.closed G (read_each g ds G k.reached k.others k.found z.1) ls is w k.there z.0
