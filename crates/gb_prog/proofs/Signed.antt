-- A procedure of a program for a module type, by its signature.
use Rattle.std.proofs.Common.{◌≡◌, Bool, true, false, if◌then◌else◌, List, [], ◌∷◌, Option, Some, None, bytes_eq, refl, ap, sym, ◌∙◌}
use Rattle.std.proofs.lemmas.Bool.{false≢true}
use Rattle.std.proofs.lemmas.Option.{none-some}
use Rattle.std.proofs.lemmas.Slice.Eq.{bytes_eq-Decides}
use Rattle.gb_goal.specs.Interfaces.{ProcedureType, signature_types}
use Rattle.gb_meaning.specs.Names.{Name}
use Rattle.gb_meaning.specs.Program.{Routine}
use Rattle.gb_meaning.specs.Setting.{Setting}
use Rattle.gb_meaning.specs.Sound.{FullRoutine}
use Rattle.gb_meaning.specs.Adversary.{Adversary, callable}
use Rattle.gb_meaning.specs.Declared.{Declarations, ModuleType, Signature}
use Rattle.gb_meaning.specs.Modules.{found}
use Rattle.gb_meaning.specs.Programs.{AreFull, HasProcedures, IfThere, IsProcedureFor}
use Rattle.gb_meaning.specs.Typing.{IsTypedRoutine}
use Rattle.gb_mods.specs.Asked.{signature_of}

turned : (n k : Name) (b : Bool) → bytes_eq n k ≡ b → bytes_eq k n ≡ b
turned n k true e = (bytes_eq-Decides k n).1 (sym ((bytes_eq-Decides n k).0 e))
turned n k false e = step (bytes_eq k n) refl
  where
    step : (b : Bool) → bytes_eq k n ≡ b → b ≡ false
    step true f = absurd (false≢true (sym e ∙ (bytes_eq-Decides n k).1 (sym ((bytes_eq-Decides k n).0 f))))
    step false f = refl

module _ (ds : Declarations) (g : Setting) (t : ModuleType) (a : Adversary) where
  -- the signature of this name, and the procedure
  pub record IsSigned (ss : List Signature) (f : Name) : Type 0 where
    pub signature : Signature
    pub named_so : signature_of ss f ≡ Some signature
    pub body : Routine
    pub there : found a.procedures f ≡ Some body
    pub typed : IsTypedRoutine g (callable ds t signature) a.footprint body
    pub full : FullRoutine g body

  first_signed : (s : Signature) (ss : List Signature) (f : Name) → bytes_eq f s.name ≡ true → (o : Option Routine) → found a.procedures s.name ≡ o →
      IsProcedureFor g (callable ds t s) a.footprint s o → IfThere (FullRoutine g) o → IsSigned (s ∷ ss) f
  first_signed s ss f e None q w h = absurd w
  first_signed s ss f e (Some r) q w h = record {
    signature = s;
    named_so = ap (λ (b : Bool). if b then Some s else signature_of ss f) (turned f s.name true e);
    body = r;
    there = ap (found a.procedures) ((bytes_eq-Decides f s.name).0 e) ∙ q;
    typed = w.1;
    full = h;
  }

  pub signed_there : (ss : List Signature) → HasProcedures ds g t a ss → AreFull g a ss → (f : Name) (u : ProcedureType) → found (signature_types ss) f ≡ Some u → IsSigned ss f
  signed_there [] w h f u e = absurd (none-some u e)
  signed_there (s ∷ ss) w h f u e = step (bytes_eq f s.name) refl e (signed_there ss w.1 h.1 f u)
    where
      step : (b : Bool) → bytes_eq f s.name ≡ b → (if b then Some (record { params = s.params; result = s.result }) else found (signature_types ss) f) ≡ Some u →
          (found (signature_types ss) f ≡ Some u → IsSigned ss f) → IsSigned (s ∷ ss) f
      step true q e go = first_signed s ss f q (found a.procedures s.name) refl w.0 h.0
      step false q e go =
          let z = go e in
          record {
            signature = z.signature;
            named_so = ap (λ (b : Bool). if b then Some s else signature_of ss f) (turned f s.name false q) ∙ z.named_so;
            body = z.body;
            there = z.there;
            typed = z.typed;
            full = z.full;
          }
