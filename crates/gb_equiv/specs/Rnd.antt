-- `rnd`: two samplings at the end, coupled by a function and its inverse; and one sampling at the end of one body.
use Rattle.std.specs.Prelude.{◌≡◌, if◌then◌else◌, List, [], ◌∷◌, Option, Some, None}
use Rattle.std.specs.Option.{option_or, option_zip}
use Rattle.gb_core.specs.declared.refusal.Why.TheVariants.{Shape}
use Rattle.gb_core.specs.declared.ty.Ty.{Ty}
use Rattle.gb_core.specs.declared.var.Var.{Var}
use Rattle.gb_core.specs.SameTypes.{ty_eq}
use Rattle.gb_terms.specs.declared.decl.TypedName.{TypedName}
use Rattle.gb_terms.specs.declared.op.Side.TheVariants.{Left, Right}
use Rattle.gb_terms.specs.declared.op.Read.TheVariants.{Program}
use Rattle.gb_terms.specs.declared.term.Term.{Term}
use Rattle.gb_walk.specs.declared.change.Change.TheVariants.{ToTerm, OfBound}
use Rattle.gb_walk.specs.Change.{term_changed}
use Rattle.gb_meaning.specs.Written.{type_of}
use Rattle.gb_laws.specs.Plain.{IsPlain}
use Rattle.gb_laws.specs.Typing.Binder.{value}
use Rattle.gb_typing.specs.Context.{Context, within}
use Rattle.gb_typing.specs.Sequents.{two}
use Rattle.gb_typing.specs.Typing.{IsTyped}
use Rattle.gb_goal.specs.Answers.{Answer}
use Rattle.gb_goal.specs.Goal.{Goal}
use Rattle.gb_goal.specs.Goal.Code.{body}
use Rattle.gb_goal.specs.Goal.Goal.{hoare, equiv}
use Rattle.gb_goal.specs.Rows.{Row, refusing}
use Rattle.gb_typing.specs.Forms.{and_form, equal_form, located}
use Rattle.gb_typing.specs.Samplings.{Sampling, last_sampling}
use Rattle.gb_typing.specs.Supports.{nearest, in_support, weight, for_support}
use Rattle.gb_equiv.specs.Drawn.{clashing, unless_clash, by_end}
use Rattle.gb_forms.specs.Coupled.{coupled_post}
use Rattle.gb_forms.specs.declared.coupled.Maps.{Maps}
use Rattle.gb_forms.specs.declared.coupled.Coupled.{Coupled}
use Rattle.gb_walk.specs.Clash.{Exclusions}
use Rattle.gb_mods.specs.Exclusions.{exclusions}
use Rattle.gb_goal.specs.Scope.{Declarations}

-- the functions forth and back: none is the identity, which needs one type, and one is its own inverse
abbrev pub maps : List Term → Ty → Ty → Option Maps
maps [] a b = if ty_eq a b then Some (record { forth = nearest a; back = nearest b }) else None
maps (f ∷ []) a b = Some (record { forth = f; back = f })
maps (f ∷ g ∷ []) a b = Some (record { forth = f; back = g })
maps _ a b = None

-- two samplings, read on both sides, and functions between their values
abbrev pub coupling : Sampling → Sampling → Maps → Coupled
coupling x y ms = record { left = record { from = located Left x.from; ty = x.ty }; right = record { from = located Right y.from; ty = y.ty }; maps = ms }

-- the postcondition of a sampled value and its image
abbrev pub with_values : Sampling → Sampling → Maps → Term → Term
with_values x y ms q = term_changed q (ToTerm (Program x.target Left) (nearest x.ty) ∷ ToTerm (Program y.target Right) ms.forth ∷ [])

-- the postcondition before the two samplings
abbrev pub post_before : Sampling → Sampling → Maps → Term → Term
post_before x y ms q = coupled_post (coupling x y ms) (with_values x y ms q)

-- the equivalence of what stands before the two samplings
abbrev pub without_samplings : Sampling → Sampling → Maps → Term → Term → Goal
without_samplings x y ms p q = equiv (body x.before) (body y.before) p (post_before x y ms q)

-- The target that the postcondition reads beside a variable that clashes with it: the left one, or else the right one.
abbrev pub clash_of : Exclusions → Sampling → Sampling → Term → Option Var
clash_of es x y q = option_or (clashing es Left x.target q) (clashing es Right y.target q)

abbrev pub by_maps : Exclusions → Sampling → Sampling → Term → Term → Option Maps → Answer (List Goal)
by_maps es x y p q (Some ms) = unless_clash (clash_of es x y q) (without_samplings x y ms p q)
by_maps es x y p q None = refusing Shape

abbrev pub by_ends : Exclusions → List Term → Term → Term → Option (Sampling × Sampling) → Answer (List Goal)
by_ends es fs p q (Some (x, y)) = by_maps es x y p q (maps fs x.ty y.ty)
by_ends es fs p q None = refusing Shape

-- the goal without the samplings that end its bodies; on one body there is no function
abbrev pub rnd_row : Declarations → List Term → Row
rnd_row ds fs (equiv (body is) (body js) p q) = by_ends (exclusions ds) fs p q (option_zip (last_sampling is) (last_sampling js))
rnd_row ds [] (hoare (body is) p q) = by_end (exclusions ds) p q (last_sampling is)
rnd_row ds fs G = refusing Shape

-- A function from values of a type to values of another: a plain term under a binder of its argument, which may read both memories.
pub record IsFunction (c : Context) (a b : Ty) (f : Term) : Type 0 where
  pub typed : IsTyped (within c (value a) None) f
  pub plain : IsPlain f
  pub result : type_of f ≡ b

-- functions that couple values of two types: forth and back; one is from a type to itself
abbrev pub AreFunctions : Context → Ty → Ty → List Term → Type 0
AreFunctions c a b [] = Unit {0}
AreFunctions c a b (f ∷ []) = (a ≡ b) × IsFunction c a b f
AreFunctions c a b (f ∷ h ∷ []) = IsFunction c a b f × IsFunction c b a h
AreFunctions c a b _ = Unit {0}

-- functions between the values of two samplings, if there are two
abbrev pub AreBetween : Context → List Term → Option (Sampling × Sampling) → Type 0
AreBetween c fs (Some (x, y)) = AreFunctions c x.ty y.ty fs
AreBetween c fs None = Unit {0}

-- the functions of a step: between the values of the samplings that end both bodies
abbrev pub AreTypedFunctions : Context → List Term → List TypedName → List TypedName → Goal → Type 0
AreTypedFunctions c fs ls rs (equiv (body is) (body js) p q) = AreBetween (two c ls rs) fs (option_zip (last_sampling is) (last_sampling js))
AreTypedFunctions c fs ls rs G = Unit {0}
