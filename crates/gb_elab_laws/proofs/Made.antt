-- A module that is given was made of its parameters and its members.
use Rattle.std.proofs.Common.{◌≡◌, List, [], ◌∷◌, Option, subst}
use Rattle.gb_core.specs.declared.place.Place.{Place}
use Rattle.gb_terms.specs.declared.decl.Module.{Module}
use Rattle.gb_goal.specs.Answers.Answer.{given}
use Rattle.gb_goal.specs.Scope.{Declarations}
use Rattle.gb_script.specs.declared.head.Head.{Head}
use Rattle.gb_script.specs.declared.head.Head.TheVariants as head
use Rattle.gb_script.specs.declared.tree.Node.{Node}
use Rattle.gb_script.specs.Tree.{head_of, text_of, parts_of, place_of}
use Rattle.gb_elab_prog.specs.Contexts.{nothing_around}
use Rattle.gb_elab_prog.specs.Fresh as fresh
use Rattle.gb_elab_prog.specs.Modules.{all_short, ascribed, empty_module, module_by, module_given, plain, with_body, with_members, with_parameters}
use Rattle.gb_elab_prog.specs.Stated.{Stated, meets_stated, stated}
use Rattle.gb_elab_prog.specs.declared.stated.Where.{Where}
use Rattle.gb_elab_prog.specs.declared.stated.Where.TheVariants.{Front, Behind}
use Rattle.gb_elab_laws.proofs.Given.{given_bind, given_is, not_given}

-- the members of a text make this module of one that has none
abbrev pub Makes : Declarations → Module → List Node → Module → Type 0
Makes ds k ts m = with_members ds nothing_around k ts ≡ given m

-- the type that a module states is only tested, and so are the sizes of its bodies
pub with_body_made : (ds : Declarations) (k : Module) (w : Where) (o : Option Stated) (ts : List Node) (m : Module) → with_body ds k w o ts ≡ given m → Makes ds k ts m
unfolding with_body
with_body_made ds k w o ts m h =
    let made = given_bind (with_members ds nothing_around k ts) _ m h in
    let met = given_bind (meets_stated ds w made.0 o) _ m made.2 in
    let short = given_bind (all_short ts) _ m met.2 in
    subst (Makes ds k ts) (given_is made.0 m short.2) made.1

-- a module of these members, with these parameters, whose name is free
pub record IsMade (ds : Declarations) (m : Module) : Type 0 where
  pub name : Node
  pub params : List Node
  pub members : List Node
  pub front : Module
  pub free : fresh.free ds name ≡ given tt
  pub taken : with_parameters ds (empty_module (text_of name)) params ≡ given front
  pub made : Makes ds front members m

plain_made : (ds : Declarations) (x : Node) (qs ys ts : List Node) (m : Module) → plain ds x qs ys ts ≡ given m → IsMade ds m
unfolding plain
plain_made ds x qs ys ts m h =
    let f = given_bind (fresh.free ds x) _ m h in
    let k = given_bind (with_parameters ds (empty_module (text_of x)) qs) _ m f.2 in
    let o = given_bind (stated ds ys) (λ (o : Option Stated). with_body ds k.0 Behind o ts) m k.2 in
    record { name = x; params = qs; members = ts; front = k.0; free = f.1; taken = k.1; made = with_body_made ds k.0 Behind o.0 ts m o.2 }

ascribed_made : (ds : Declarations) (x t : Node) (qs ts : List Node) (m : Module) → ascribed ds x t qs ts ≡ given m → IsMade ds m
unfolding ascribed
ascribed_made ds x t qs ts m h =
    let f = given_bind (fresh.free ds x) _ m h in
    let o = given_bind (stated ds (t ∷ [])) _ m f.2 in
    let k = given_bind (with_parameters ds (empty_module (text_of x)) qs) (λ (k : Module). with_body ds k Front o.0 ts) m o.2 in
    record { name = x; params = qs; members = ts; front = k.0; free = f.1; taken = k.1; made = with_body_made ds k.0 Front o.0 ts m k.2 }

made_by : (ds : Declarations) (k : Head) (xs : List Node) (p : Place) (m : Module) → module_by ds k xs p ≡ given m → IsMade ds m
made_by ds head.Module (x ∷ qs ∷ ys ∷ ts ∷ []) p m h = plain_made ds x (parts_of qs) (parts_of ys) (parts_of ts) m h
made_by ds head.AscribedModule (x ∷ t ∷ qs ∷ ts ∷ []) p m h = ascribed_made ds x t (parts_of qs) (parts_of ts) m h
made_by ds _ _ p m h = absurd (not_given _ _ m h)

pub module_made : (ds : Declarations) (t : Node) (m : Module) → module_given ds t ≡ given m → IsMade ds m
module_made ds t m h = made_by ds (head_of t) (parts_of t) (place_of t) m h
