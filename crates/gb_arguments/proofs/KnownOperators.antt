-- A typed term names operators that its context knows.
use Rattle.std.proofs.Common.{◌≡◌, List, [], ◌∷◌, Some}
use mathlib.Core.Former.{Count}
use Rattle.gb_core.specs.declared.ty.Ty.{Ty}
use Rattle.gb_terms.specs.declared.decl.TypedName.{TypedName}
use Rattle.gb_terms.specs.declared.term.Term.{Term, Term', Row_of-Term, end_of-Term, more_of-Term, end_of-Head, more_of-Head}
use Rattle.gb_terms.specs.declared.term.Head.{Head}
use Rattle.gb_terms.specs.declared.term.Head.TheVariants as head
use Rattle.gb_meaning.specs.Names.{Name}
use Rattle.gb_meaning.specs.Naming.{AnyName}
use Rattle.gb_laws.specs.Typing.{OperatorType, types_of, IsHead}
use Rattle.gb_typing.specs.Context.{Context, erased}
use Rattle.gb_typing.specs.Naming.{NoName, HeadNames, TermNames, TermsName}
use Rattle.gb_typing.specs.Typing.{first, middle, last, IsTyped, AreTyped}

module _ (Q : Name → Type 0) where
  abbrev pub Operators : Context → Type 0
  Operators c = (k : Name) (o : OperatorType) → c.operator k ≡ Some o → Q k

  head_others : (c : Context) → Operators c → (h : Head) (us : List Ty) (t : Ty) → IsHead (erased c) h us t → HeadNames NoName AnyName h t → HeadNames NoName Q h t
  head_others c f (head.User n) us t w k = f n _ w
  head_others c f _ us t w k = k

  in_first : (c : Context) → Operators c → (h : Head) → Operators (first c h)
  in_first c f (head.Hoare s) = f
  in_first c f (head.Phoare s r) = f
  in_first c f (head.Equiv s u) = f
  in_first c f _ = f

  in_middle : (c : Context) → Operators c → (h : Head) → Operators (middle c h)
  in_middle c f (head.Hoare s) = f
  in_middle c f (head.Phoare s r) = f
  in_middle c f (head.Equiv s u) = f
  in_middle c f _ = f

  in_last : (c : Context) → Operators c → (ls : List TypedName) (h : Head) (us : List Ty) → Operators (last c ls h us)
  in_last c f ls (head.All u) us = f
  in_last c f ls (head.Some u) us = f
  in_last c f ls head.AllMemory us = f
  in_last c f ls head.SomeMemory us = f
  in_last c f ls (head.AllModule b) us = f
  in_last c f ls (head.Sum q) us = f
  in_last c f ls head.Mu [] = f
  in_last c f ls head.Mu (u ∷ us) = f
  in_last c f ls head.Map [] = f
  in_last c f ls head.Map (u ∷ us) = f
  in_last c f ls head.Restrict [] = f
  in_last c f ls head.Restrict (u ∷ us) = f
  in_last c f ls (head.Pr p r) us = f
  in_last c f ls (head.Hoare s) us = f
  in_last c f ls (head.Phoare s r) us = f
  in_last c f ls (head.Equiv s u) us = f
  in_last c f ls _ us = f

  mutual
    pub term_others : (c : Context) → Operators c → (t : Term) → IsTyped c t → TermNames NoName AnyName t → TermNames NoName Q t
    term_others c f (Term' p (more_of-Head h end_of-Head) n ts ty) w k =
        (head_others c f h (types_of ts) ty w.0 k.0, terms_others (first c h) (middle c h) (last c w.2 h (types_of ts)) (in_first c f h) (in_middle c f h) (in_last c f w.2 h (types_of ts)) ts w.3 k.1)

    terms_others : {n : Count} (a b d : Context) → Operators a → Operators b → Operators d → (ts : Row_of-Term n) → AreTyped a b d ts → TermsName NoName AnyName ts → TermsName NoName Q ts
    terms_others a b d x y z end_of-Term w k = tt
    terms_others a b d x y z (more_of-Term t end_of-Term) w k = (term_others d z t w k.0, tt)
    terms_others a b d x y z (more_of-Term t (more_of-Term u ts)) w k = (term_others a x t w.0 k.0, terms_others b b d y y z (more_of-Term u ts) w.1 k.1)
