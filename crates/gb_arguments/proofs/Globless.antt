-- In what operators of a typed scope give, no type of a module's globals stands.
use Rattle.std.proofs.Common.{◌≡◌, ℕ, suc, zero, Bool, true, false, ◌&&◌, List, [], ◌∷◌, ◌++◌, map, reverse, get_or, Option, Some, None, refl, ap, sym, ◌∙◌, subst}
use mathlib.Core.Former.{Count}
use Rattle.std.proofs.lemmas.Bool.{false≢true, and_parts}
use Rattle.std.proofs.lemmas.List.{reverse-append}
use Rattle.gb_core.specs.declared.ty.Ty as X
use Rattle.gb_core.specs.declared.ty.Ty.{Ty, Row_of-Ty, end_of-Ty, more_of-Ty, out-Ty, roll-Ty, items-the_row-Ty, items_shown-the_row-Ty-0}
use Rattle.gb_core.specs.declared.ty.Ty.TheVariants as ty
use Rattle.gb_core.specs.declared.ty.Ty.TheOpen as layer
use Rattle.gb_core.specs.declared.ty.Ty.TheBlock as B
use Rattle.gb_core.specs.declared.ty.Ty.TheViews.{roll-out-Ty}
use Rattle.gb_core.specs.declared.ty.Ty.TheFolds.{fold-roll-Ty}
use Rattle.gb_core.specs.Types.{finite_step, is_finite, all_true}
use Rattle.gb_terms.specs.declared.module.Mexp.{Mexp}
use Rattle.gb_terms.specs.declared.module.Mexp.TheVariants.{Name as named, Apply'}
use Rattle.gb_terms.specs.declared.op.Read.{Read}
use Rattle.gb_terms.specs.declared.op.Read.TheVariants.{Logical, Program}
use Rattle.gb_terms.specs.declared.term.Pair.{Pair}
use Rattle.gb_terms.specs.declared.term.Term.{Term, Term', Row_of-Term, end_of-Term, more_of-Term, end_of-Head, more_of-Head}
use Rattle.gb_terms.specs.declared.term.Head.{Head}
use Rattle.gb_terms.specs.declared.term.Head.TheVariants as head
use Rattle.gb_meaning.specs.Drawn.{has_weights}
use Rattle.gb_meaning.specs.Names.{Name}
use Rattle.gb_meaning.specs.Operators.{outcome_type}
use Rattle.gb_meaning.specs.Written.{type_of}
use Rattle.gb_meaning.specs.Globs.{EachGlob, EachGlobIn}
use Rattle.gb_meaning.specs.Naming.{AnyName, EachName}
use Rattle.gb_typing.specs.Naming.{NoName, HeadNames, TermNames, TermsName}
use Rattle.gb_laws.specs.Finite.{AreFiniteWith, IsVariableType}
use Rattle.gb_laws.specs.Operators.{IsDistributionType}
use Rattle.gb_laws.specs.Typing.{Binder, AreLiterals, IsBoundAt, IsHead, OperatorType, binder, types_of}
use Rattle.gb_laws.specs.Typing.Binder.{value, index, memory, program}
use Rattle.gb_typing.specs.Context.{Context, erased, within}
use Rattle.gb_terms.specs.declared.decl.TypedName.{TypedName}
use Rattle.gb_typing.specs.Typing.{first, middle, last, IsTyped, AreTyped}
use Rattle.gb_typing.specs.Scopes.{of_operator, IsMeasured, AreMeasured}

-- a type in which no type of a module's globals stands
abbrev pub IsFree : Ty → Type 0
IsFree t = EachGlob NoName t

-- Types with a number of values of their own.

out_opt : (p : _) (x : Ty) → out-Ty (ty.Opt' p (more_of-Ty x end_of-Ty)) ≡ layer.Opt x
unfolding X.out-Ty denote.Hole.Carrier.out B.shown-the_row-Ty-1 denote.Hole.Carrier.shown
out_opt p x = refl

out_map : (p q : _) (k x : Ty) → out-Ty (ty.Map' p (more_of-Ty k end_of-Ty) q (more_of-Ty x end_of-Ty)) ≡ layer.Map k x
unfolding X.out-Ty denote.Hole.Carrier.out B.shown-the_row-Ty-1 denote.Hole.Carrier.shown
out_map p q k x = refl

out_distr : (p : _) (x : Ty) → out-Ty (ty.Distr' p (more_of-Ty x end_of-Ty)) ≡ layer.Distr x
unfolding X.out-Ty denote.Hole.Carrier.out B.shown-the_row-Ty-1 denote.Hole.Carrier.shown
out_distr p x = refl

out_tuple : (n : _) (r : _) → out-Ty (ty.Tuple' n r) ≡ layer.Tuple (items-the_row-Ty _ r)
unfolding X.out-Ty denote.Hole.Carrier.out
out_tuple n r = ap layer.Tuple (items_shown-the_row-Ty-0 n r)

finite_at : (t : Ty) (l : layer.Ty-F Ty) → out-Ty t ≡ l → is_finite t ≡ is_finite (roll-Ty l)
finite_at t l e = ap is_finite (sym (roll-out-Ty t) ∙ ap roll-Ty e)

finite_opt : (p : _) (x : Ty) → is_finite (ty.Opt' p (more_of-Ty x end_of-Ty)) ≡ is_finite x
finite_opt p x = finite_at _ _ (out_opt p x) ∙ fold-roll-Ty Bool finite_step (layer.Opt x)

finite_map : (p q : _) (k x : Ty) → is_finite (ty.Map' p (more_of-Ty k end_of-Ty) q (more_of-Ty x end_of-Ty)) ≡ (is_finite k && is_finite x)
finite_map p q k x = finite_at _ _ (out_map p q k x) ∙ fold-roll-Ty Bool finite_step (layer.Map k x)

finite_distr : (p : _) (x : Ty) → is_finite (ty.Distr' p (more_of-Ty x end_of-Ty)) ≡ false
finite_distr p x = finite_at _ _ (out_distr p x) ∙ fold-roll-Ty Bool finite_step (layer.Distr x)

finite_tuple : (n : _) (r : _) → is_finite (ty.Tuple' n r) ≡ all_true (map is_finite (items-the_row-Ty _ r))
finite_tuple n r = finite_at _ _ (out_tuple n r) ∙ fold-roll-Ty Bool finite_step (layer.Tuple (items-the_row-Ty _ r))

finite_glob : (a : Name) → is_finite (ty.Glob a) ≡ false
finite_glob a = ap is_finite (sym (ty.rolls-Glob a)) ∙ fold-roll-Ty Bool finite_step (layer.Glob a)

mutual
  pub counted_free : (t : Ty) → is_finite t ≡ true → IsFree t
  counted_free (ty.Tuple' n r) h = rows_free r (sym (finite_tuple n r) ∙ h)
  counted_free (ty.Opt' p (more_of-Ty x end_of-Ty)) h = (counted_free x (sym (finite_opt p x) ∙ h), tt)
  counted_free (ty.Map' p (more_of-Ty k end_of-Ty) q (more_of-Ty x end_of-Ty)) h =
      let both = and_parts (is_finite k) (is_finite x) (sym (finite_map p q k x) ∙ h) in
      ((counted_free k both.0, tt), (counted_free x both.1, tt))
  counted_free (ty.Distr' p (more_of-Ty x end_of-Ty)) h = absurd (false≢true (sym (finite_distr p x) ∙ h))
  counted_free (ty.Glob a) h = absurd (false≢true (sym (finite_glob a) ∙ h))
  counted_free _ h = tt

  rows_free : {n : Count} (r : Row_of-Ty n) → all_true (map is_finite (items-the_row-Ty _ r)) ≡ true → EachGlobIn NoName r
  rows_free end_of-Ty h = tt
  rows_free (more_of-Ty t r) h =
      let both = and_parts (is_finite t) (all_true (map is_finite (items-the_row-Ty _ r))) h in (counted_free t both.0, rows_free r both.1)

-- the outcomes of a distribution
outcome_free : (t : Ty) → IsFree t → IsFree (outcome_type t)
outcome_free (ty.Distr' p (more_of-Ty x end_of-Ty)) h = h.0
outcome_free ty.Unit h = tt
outcome_free ty.Bool h = tt
outcome_free (ty.Bits n) h = tt
outcome_free (ty.Mod n) h = tt
outcome_free (ty.Enumeration x n) h = tt
outcome_free (ty.Tuple' n ts) h = tt
outcome_free (ty.Opt' p x) h = tt
outcome_free (ty.Map' p k q x) h = tt
outcome_free (ty.Abstract x) h = tt
outcome_free (ty.Glob x) h = tt
outcome_free ty.Int h = tt
outcome_free ty.Real h = tt

weighed_free : (t : Ty) (ps : List Pair) → IsDistributionType t → AreLiterals (outcome_type t) ps → has_weights ps ≡ true → IsFree t
weighed_free t [] d h w = absurd (false≢true w)
weighed_free (ty.Distr' p (more_of-Ty x end_of-Ty)) (q ∷ ps) d h w = (counted_free x h.0.0, tt)
weighed_free _ (q ∷ ps) d h w = absurd d

-- What is bound.

abbrev IsFreeBinder : Binder → Type 0
IsFreeBinder (value t) = IsFree t
IsFreeBinder _ = Unit {0}

abbrev AreFreeBinders : List Binder → Type 0
AreFreeBinders [] = Unit {0}
AreFreeBinders (b ∷ bs) = IsFreeBinder b × AreFreeBinders bs

bound_there : (bs : List Binder) (i : ℕ) → AreFreeBinders bs → IsFreeBinder (get_or bs i program)
bound_there [] i h = tt
bound_there (b ∷ bs) zero h = h.0
bound_there (b ∷ bs) (suc i) h = bound_there bs i h.1

bound_free : (b : Binder) (t : Ty) → IsFreeBinder b → IsBoundAt b t → IsFree t
bound_free (value u) t h w = subst (EachGlob NoName) w.1 h
bound_free (index q) (ty.Mod n) h w = tt
bound_free (index q) _ h w = absurd w
bound_free memory t h w = absurd w
bound_free program t h w = absurd w

both_free : (bs cs : List Binder) → AreFreeBinders bs → AreFreeBinders cs → AreFreeBinders (bs ++ cs)
both_free [] cs h k = k
both_free (b ∷ bs) cs h k = (h.0, both_free bs cs h.1 k)

-- a context without logical variables, in which nothing of a module's globals is bound, and given by operators
record IsFreeIn (c : Context) : Type 0 where
  logical : (i : ℕ) → c.logical i ≡ None
  operators : (n : Name) (o : OperatorType) → c.operator n ≡ Some o → IsFree o.result
  bound : AreFreeBinders c.bound

abbrev is_some : Option Ty → Bool
is_some None = false
is_some (Some t) = true

read_free : (c : Context) → IsFreeIn c → (r : Read) (t : Ty) → IsHead (erased c) (head.Read r) [] t → HeadNames NoName AnyName (head.Read r) t → IsFree t
read_free c f (Logical i) t w k = absurd (false≢true (ap is_some (sym (f.logical i) ∙ w.1)))
read_free c f (Program x r) t w k = k.1

glob_free : (m : Mexp) (t : Ty) → EachName NoName m → IsFree t
glob_free (named a) t k = absurd k
glob_free (Apply' m n args) t k = absurd k.0

-- a form that binds an outcome and has a type of its own
abbrev is_drawn : Head → Bool
is_drawn head.Map = true
is_drawn head.Restrict = true
is_drawn _ = false

head_free : (c : Context) → IsFreeIn c → (h : Head) (us : List Ty) (t : Ty) → is_drawn h ≡ false → IsHead (erased c) h us t → HeadNames NoName AnyName h t → IsFree t
head_free c f (head.Lit v) [] t d w k = counted_free t w.0
head_free c f (head.Whole n) [] t d w k = subst (EachGlob NoName) (sym w) tt
head_free c f (head.Read r) [] t d w k = read_free c f r t w k
head_free c f (head.Bound i) [] t d w k = bound_free (binder (erased c) i) t (bound_there c.bound i f.bound) w
head_free c f (head.Builtin o) us t d w k = k
head_free c f (head.User n) us t d w k = f.operators n _ w
head_free c f (head.All u) (a ∷ []) t d w k = subst (EachGlob NoName) (sym w.1.1.0) tt
head_free c f (head.Some u) (a ∷ []) t d w k = subst (EachGlob NoName) (sym w.1.1.0) tt
head_free c f head.AllMemory (a ∷ []) t d w k = subst (EachGlob NoName) (sym w.1.0) tt
head_free c f head.SomeMemory (a ∷ []) t d w k = subst (EachGlob NoName) (sym w.1.0) tt
head_free c f (head.AllModule b) (a ∷ []) t d w k = subst (EachGlob NoName) (sym w.1.0) tt
head_free c f head.Mu (x ∷ a ∷ []) t d w k = subst (EachGlob NoName) (sym w.2) tt
head_free c f (head.Sum q) (a ∷ []) t d w k = subst (EachGlob NoName) (sym w.1.1.0) tt
head_free c f (head.Weights ps) [] t d w k = weighed_free t ps w.0 w.1 w.2
head_free c f head.Map us t d w k = absurd (false≢true (sym d))
head_free c f head.Restrict us t d w k = absurd (false≢true (sym d))
head_free c f (head.Pr p r) us t d w k = subst (EachGlob NoName) (sym w.2) tt
head_free c f (head.Glob m r) [] t d w k = glob_free m t k
head_free c f (head.Hoare b) (p ∷ q ∷ []) t d w k = subst (EachGlob NoName) (sym w.1.1.0) tt
head_free c f (head.Phoare b r) (p ∷ q ∷ x ∷ []) t d w k = subst (EachGlob NoName) (sym w.0.1.1.0) tt
head_free c f (head.Equiv a b) (p ∷ q ∷ []) t d w k = subst (EachGlob NoName) (sym w.1.1.0) tt
head_free c f _ us t d w k = absurd w

-- under a binder of an outcome
under_free : (c : Context) → IsFreeIn c → (t : Ty) → IsFree t → IsFreeIn (within c (value t) None)
under_free c f t h = record { logical = f.logical; operators = f.operators; bound = (h, f.bound) }

-- a term whose type is such a one where it is typed and speaks of no module
abbrev IsFreeTerm : Term → Type 0
IsFreeTerm t = (c : Context) → IsFreeIn c → IsTyped c t → TermNames NoName AnyName t → IsFree (type_of t)

abbrev AreFreeTerms : {m : Count} → Row_of-Term m → Type 0
AreFreeTerms end_of-Term = Unit {0}
AreFreeTerms (more_of-Term t ts) = IsFreeTerm t × AreFreeTerms ts

-- the type of a node, by its arguments
node_free : {m : Count} (h : Head) (ts : Row_of-Term m) (t : Ty) → AreFreeTerms ts → (c : Context) → IsFreeIn c → (ls : List TypedName) → IsHead (erased c) h (types_of ts) t →
    AreTyped (first c h) (middle c h) (last c ls h (types_of ts)) ts → HeadNames NoName AnyName h t → TermsName NoName AnyName ts → IsFree t
node_free head.Map (more_of-Term d (more_of-Term a end_of-Term)) t g c f ls w s k j =
    let x = g.0 c f s.0 j.0 in
    let y = g.1.0 (within c (value (outcome_type (type_of d))) None) (under_free c f (outcome_type (type_of d)) (outcome_free (type_of d) x)) s.1 j.1.0 in
    subst (EachGlob NoName) (sym w.2) (y, tt)
node_free head.Map end_of-Term t g c f ls w s k j = absurd w
node_free head.Map (more_of-Term d end_of-Term) t g c f ls w s k j = absurd w
node_free head.Map (more_of-Term d (more_of-Term a (more_of-Term u ts))) t g c f ls w s k j = absurd w
node_free head.Restrict (more_of-Term d (more_of-Term a end_of-Term)) t g c f ls w s k j = subst (EachGlob NoName) w.1 (g.0 c f s.0 j.0)
node_free head.Restrict end_of-Term t g c f ls w s k j = absurd w
node_free head.Restrict (more_of-Term d end_of-Term) t g c f ls w s k j = absurd w
node_free head.Restrict (more_of-Term d (more_of-Term a (more_of-Term u ts))) t g c f ls w s k j = absurd w
node_free h ts t g c f ls w s k j = head_free c f h (types_of ts) t refl w k

mutual
  -- the type of a typed term that speaks of no module
  term_free : (t : Term) → IsFreeTerm t
  term_free (Term' b (more_of-Head h end_of-Head) n ts t) = λ c f w k. node_free h ts t (terms_free ts) c f w.2 w.0 w.3 k.0 k.1

  terms_free : {m : Count} (ts : Row_of-Term m) → AreFreeTerms ts
  terms_free end_of-Term = tt
  terms_free (more_of-Term t ts) = (term_free t, terms_free ts)

-- Operators.

-- what the operators of a context give
abbrev pub GivesFree : Context → Type 0
GivesFree c = (n : Name) (o : OperatorType) → c.operator n ≡ Some o → IsFree o.result

mutual
  pub variable_free : (t : Ty) → IsVariableType t → IsFree t
  variable_free (ty.Tuple' n ts) w = variables_free ts w
  variable_free (ty.Opt' p x) w = variables_free x w
  variable_free (ty.Map' p k q x) w = (variables_free k w.0, variables_free x w.1)
  variable_free (ty.Glob a) w = absurd (false≢true w)
  variable_free (ty.Distr' p x) w = absurd w
  variable_free _ w = tt

  variables_free : {n : Count} (ts : Row_of-Ty n) → AreFiniteWith false ts → EachGlobIn NoName ts
  variables_free end_of-Ty w = tt
  variables_free (more_of-Ty t ts) w = (variable_free t w.0, variables_free ts w.1)

pub measured_free : (t : Ty) → IsMeasured t → IsFree t
measured_free ty.Int w = tt
measured_free ty.Real w = tt
measured_free ty.Unit w = tt
measured_free ty.Bool w = tt
measured_free (ty.Bits n) w = tt
measured_free (ty.Mod n) w = tt
measured_free (ty.Enumeration x n) w = tt
measured_free (ty.Tuple' n ts) w = variable_free (ty.Tuple' n ts) w
measured_free (ty.Opt' p x) w = variable_free (ty.Opt' p x) w
measured_free (ty.Map' p k q x) w = variable_free (ty.Map' p k q x) w
measured_free (ty.Abstract x) w = tt
measured_free (ty.Glob a) w = absurd (false≢true w)
measured_free (ty.Distr' p x) w = absurd w

reversed_free : (ps : List Ty) → AreMeasured ps → AreFreeBinders (reverse (map value ps))
reversed_free [] h = tt
reversed_free (p ∷ ps) h =
    subst AreFreeBinders (sym (reverse-append (value p ∷ []) (map value ps)))
    (both_free (reverse (map value ps)) (value p ∷ []) (reversed_free ps h.1) (measured_free p h.0, tt))

-- an operator with a body gives nothing of the globals of modules
pub defined_free : (c : Context) → GivesFree c → (ps : List Ty) (body : Term) → AreMeasured ps → IsTyped (of_operator c ps) body → TermNames NoName AnyName body → IsFree (type_of body)
defined_free c g ps body h w k = term_free body (of_operator c ps) (record { logical = λ i. refl; operators = g; bound = reversed_free ps h }) w k
