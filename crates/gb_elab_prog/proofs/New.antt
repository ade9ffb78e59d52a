-- What commands `type`, `op` and `module type` declare stands under new names.
use Rattle.std.proofs.Common.{◌≡◌, ℕ, Bool, true, false, ◌||◌, suc, if◌then◌else◌, List, [], ◌∷◌, ◌++◌, length, take, drop, Option, Some, None, is_some, bytes_eq, refl, ap, ◌∙◌, subst}
use Rattle.std.specs.Prelude.{Result, Ok, Err, IfOk}
use Rattle.gb_core.specs.declared.place.Place.{Place}
use Rattle.gb_core.specs.declared.refusal.Refused.{Refused}
use Rattle.gb_core.specs.declared.refusal.Why.{Why}
use Rattle.gb_core.specs.declared.ty.Ty.{Ty}
use Rattle.gb_goal.specs.Answers.{Answer, ◌>>=◌, Answers}
use Rattle.gb_goal.specs.Answers.Answer.{given, refused}
use Rattle.gb_goal.specs.Scope.{Declarations, entry_of, AreNew}
use Rattle.gb_goal.specs.declared.scope.Entry.{Entry}
use Rattle.gb_goal.specs.declared.scope.Entry.TheVariants as entry
use Rattle.gb_script.specs.declared.head.Head.{Head}
use Rattle.gb_script.specs.declared.head.Head.TheVariants as head
use Rattle.gb_script.specs.declared.tree.Node.{Node}
use Rattle.gb_script.specs.Tree.{head_of, text_of, parts_of, place_of}
use Rattle.gb_names.specs.Types.{type_of}
use Rattle.gb_elab_prog.specs.Fresh.{free}
use Rattle.gb_elab_prog.specs.Types.{constants, enumeration, enumeration_type, new, only, type_entries, without}
use Rattle.gb_elab_prog.specs.ModuleTypes.{module_type_entries, parameters, signatures}
use Rattle.gb_elab_prog.specs.Operators.{operator_entry}
use Rattle.gb_elab_prog.specs.Entries.{entries_by, entries_given}

-- what is given after a step is given by the step and what follows
pub given_bind : {A B : Type 0} (a : Answer A) (k : A → Answer B) (y : B) → (a >>= k) ≡ given y → (x : A) × (a ≡ given x) × (k x ≡ given y)
given_bind (given x) k y h = (x, refl, h)
given_bind (refused w p) k y h = cc

pub given_is : {A : Type 0} (x y : A) → given x ≡ given y → x ≡ y
given_is x y h = cc

if_refused : {A : Type 0} (b : Bool) (w : Why) (p : Place) (a : Answer A) (y : A) → (if b then refused w p else a) ≡ given y → b ≡ false
if_refused true w p a y h = cc
if_refused false w p a y h = refl

neither : (a b : Bool) → (a || b) ≡ false → (a ≡ false) × (b ≡ false)
neither true b e = cc
neither false b e = (refl, e)

pub none_of : {A : Type 0} (o : Option A) → is_some o ≡ false → o ≡ None
none_of None e = refl
none_of (Some x) e = cc

-- a name of none of several things
pub not_first : (n : List ℕ) (d : List ℕ × Entry) (ds : Declarations) → entry_of (d ∷ ds) n ≡ None → (bytes_eq n d.0 ≡ false) × (entry_of ds n ≡ None)
not_first n d ds = step (bytes_eq n d.0)
  where
    step : (b : Bool) → (if b then Some d.1 else entry_of ds n) ≡ None → (b ≡ false) × (entry_of ds n ≡ None)
    step true e = cc
    step false e = (refl, e)

none_behind : (ds : Declarations) (n : List ℕ) (d : List ℕ × Entry) → entry_of ds n ≡ None → bytes_eq n d.0 ≡ false → entry_of (ds ++ d ∷ []) n ≡ None
none_behind [] n d e f = ap (λ b. if b then Some d.1 else None) f
none_behind (x ∷ ds) n d e f =
    let k = not_first n x ds e in ap (λ b. if b then Some x.1 else entry_of (ds ++ d ∷ []) n) k.0 ∙ none_behind ds n d k.1 f

-- one thing more of a new name
new_behind : (ds added : Declarations) (n : List ℕ) (e : Entry) → AreNew ds added → entry_of ds n ≡ None → entry_of added n ≡ None → AreNew ds (added ++ (n, e) ∷ [])
new_behind ds [] n e h k l = (k, tt)
new_behind ds (d ∷ added) n e h k l =
    let r = not_first n d added l in (h.0, new_behind (ds ++ d ∷ []) added n e h.1 (none_behind ds n d k r.0) r.1)

constants_new : (ds : Declarations) (t : Ty) (i : ℕ) (added all : Declarations) (xs : List Node) → AreNew ds added → constants ds t i added xs ≡ given all → AreNew ds all
constants_new ds t i added all [] h e = subst (AreNew ds) (given_is added all e) h
constants_new ds t i added all (x ∷ xs) h e =
    let a = given_bind (new ds added x) _ all e in
    let b = neither _ _ (if_refused (is_some (entry_of ds (text_of x)) || is_some (entry_of added (text_of x))) _ _ (given tt) a.0 a.1) in
    constants_new ds t (suc i) _ all xs (new_behind ds added (text_of x) _ h (none_of _ b.0) (none_of _ b.1)) a.2

without_is : (xs : List Node) (added all : Declarations) → without xs added ≡ given all → added ≡ all
without_is [] added all e = given_is added all e
without_is (x ∷ xs) added all e = cc

only_new : (ds : Declarations) (x : Node) (e : Entry) → entry_of ds (text_of x) ≡ None → AreNew ds (only x e)
only_new ds x e h = (h, tt)

enumeration_new : (ds : Declarations) (x : Node) (cs more : List Node) (all : Declarations) → entry_of ds (text_of x) ≡ None → enumeration ds x cs more ≡ given all → AreNew ds all
enumeration_new ds x cs more all h e =
    let t : Ty = enumeration_type x (length cs) in
    let a = given_bind (constants ds t 0 (only x (entry.Type t)) cs) (without more) all e in
    subst (AreNew ds) (without_is more a.0 all a.2) (constants_new ds t 0 (only x (entry.Type t)) a.0 cs (only_new ds x (entry.Type t) h) a.1)

type_new : (ds : Declarations) (x : Node) (h : Head) (ps : List Node) (p : Place) (all : Declarations) → entry_of ds (text_of x) ≡ None → type_entries ds x h ps p ≡ given all → AreNew ds all
type_new ds x head.AbstractType ps p all k e = subst (AreNew ds) (given_is (only x entry.AbstractType) all e) (only_new ds x entry.AbstractType k)
type_new ds x head.TypeAlias (t ∷ []) p all k e =
    let a = given_bind (type_of ds t) _ all e in subst (AreNew ds) (given_is (only x (entry.Type a.0)) all a.2) (only_new ds x (entry.Type a.0) k)
type_new ds x head.Enumeration (c ∷ cs) p all k e = enumeration_new ds x (take 256 (c ∷ cs)) (drop 256 (c ∷ cs)) all k e
type_new ds x _ ps p all k e = cc

free_none : (ds : Declarations) (x : Node) (y : Unit {0}) → free ds x ≡ given y → entry_of ds (text_of x) ≡ None
free_none ds x y e = none_of _ (if_refused (is_some (entry_of ds (text_of x))) _ _ (given tt) y e)

module_type_new : (ds : Declarations) (x : Node) (qs ss : List Node) (all : Declarations) → module_type_entries ds x qs ss ≡ given all → AreNew ds all
unfolding module_type_entries
module_type_new ds x qs ss all e =
    let a = given_bind (free ds x) _ all e in
    let b = given_bind (parameters ds [] qs) _ all a.2 in
    let c = given_bind (signatures ds b.0 [] ss) _ all b.2 in
    let t : Entry = entry.ModuleType (record { params = b.0; signatures = c.0 }) in
    subst (AreNew ds) (given_is (only x t) all c.2) (only_new ds x t (free_none ds x a.0 a.1))

by_head : (ds : Declarations) (h : Head) (ps : List Node) (p : Place) (all : Declarations) → entries_by ds h ps p ≡ given all → AreNew ds all
by_head ds head.TypeDeclaration (x ∷ d ∷ []) p all e =
    let a = given_bind (free ds x) _ all e in type_new ds x (head_of d) (parts_of d) (place_of d) all (free_none ds x a.0 a.1) a.2
by_head ds head.OperatorDeclaration (x ∷ d ∷ []) p all e =
    let a = given_bind (free ds x) _ all e in
    let b = given_bind (operator_entry ds (head_of d) (parts_of d) (place_of d)) _ all a.2 in
    subst (AreNew ds) (given_is (only x b.0) all b.2) (only_new ds x b.0 (free_none ds x a.0 a.1))
by_head ds head.ModuleType (x ∷ qs ∷ ss ∷ []) p all e = module_type_new ds x (parts_of qs) (parts_of ss) all e
by_head ds _ _ p all e = cc

pub entries_new : (ds : Declarations) (t : Node) (all : Declarations) → entries_given ds t ≡ given all → AreNew ds all
entries_new ds t all e = by_head ds (head_of t) (parts_of t) (place_of t) all e

-- what a function returned stands under new names, where it is what the command declares
pub new_if_given : (ds : Declarations) (t : Node) (r : Result Declarations Refused) → Answers (entries_given ds t) r → IfOk r (AreNew ds)
new_if_given ds t (Ok all) h = entries_new ds t all h
new_if_given ds t (Err e) h = tt
