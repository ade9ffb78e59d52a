-- What `call` on one of two bodies gives, and when.
use Rattle.std.proofs.Common.{◌≡◌, ◌<◌, Bool, true, false, ◌||◌, if◌then◌else◌, List, [], ◌∷◌, length, Option, Some, None, refl, sym, ◌∙◌, subst, nat_lt}
use Rattle.std.proofs.lemmas.Bool.{or_parts}
use Rattle.std.proofs.lemmas.Option.{same_Some, none-some}
use Rattle.gb_core.specs.declared.refusal.Why.TheVariants.{NotLossless, Shape, SideCondition}
use Rattle.gb_core.specs.declared.var.Var.{Var}
use Rattle.gb_terms.specs.declared.decl.Proc.{Proc}
use Rattle.gb_terms.specs.declared.term.Term.{Term}
use Rattle.gb_steps.specs.declared.step.Contract.{Contract}
use Rattle.gb_goal.specs.Answers.{Answer}
use Rattle.gb_goal.specs.Answers.Answer.{given}
use Rattle.gb_goal.specs.Goal.{Goal}
use Rattle.gb_goal.specs.Rows.{refusing}
use Rattle.gb_goal.specs.Scope.{Declarations, procedure_of}
use Rattle.gb_mods.specs.Exclusions.{exclusions}
use Rattle.gb_mods.specs.Written.{written}
use Rattle.gb_laws.specs.Plain.{IsPlain}
use Rattle.gb_typing.specs.Forms.{located}
use Rattle.gb_typing.proofs.Given.{refused_given, same_given}
use Rattle.gb_prog.specs.Writes.{TypedVariable}
use Rattle.gb_prog.specs.OneBody.{OneBody}
use Rattle.gb_full.specs.Loss.{Loss, nowhere, sampled, called}
use Rattle.gb_call.specs.Call.{Callee, callee, callee_of, if_few, left_of, unless_clash}
use Rattle.gb_call.specs.LastCall.{LastCall}
use Rattle.gb_call.specs.Outcomes.{clash_after}
use Rattle.gb_call.specs.Written.{with_types}
use Rattle.gb_call.proofs.Callees.{few}
use Rattle.gb_call_both.specs.OneSide.{by_side_callee, by_side_globals, lost, of_side_callee, on_side, side_goals, speaks, unless_speaking, where_full}
use Rattle.gb_call_both.proofs.SideSteps.{plain_form}

-- the callee of a call that ends a body
pub record IsCallee (ds : Declarations) (o : Option LastCall) (k : Callee) : Type 0 where
  pub last : o ≡ Some k.call
  pub found : procedure_of ds k.call.procedure ≡ Some k.declared
  pub known : written ds k.call.procedure ≡ Some k.written

pub callee_is : (ds : Declarations) (o : Option LastCall) (k : Callee) → callee_of ds o ≡ Some k → IsCallee ds o k
callee_is ds None k e = absurd (none-some k e)
callee_is ds (Some l) k e = by_parts (procedure_of ds l.procedure) refl (written ds l.procedure) refl e
  where
    by_parts : (a : Option Proc) → procedure_of ds l.procedure ≡ a → (x : Option (List Var)) → written ds l.procedure ≡ x → callee l a x ≡ Some k → IsCallee ds (Some l) k
    by_parts (Some a) f (Some xs) w e = subst (IsCallee ds (Some l)) (same_Some (record { call = l; declared = a; written = xs }) k e) (record { last = refl; found = f; known = w })
    by_parts None f x w e = absurd (none-some k e)
    by_parts (Some a) f None w e = absurd (none-some k e)

module _ (ds : Declarations) (b : Option Term) (s : Contract) (o : OneBody) (Gs : List Goal) where
  -- the conditions of the rule at a call, and the goals that it gives
  pub record IsSideGiven (k : Callee) : Type 0 where
    pub few : length k.call.targets < 9
    pub plain_pre : IsPlain s.pre
    pub plain_post : IsPlain s.post
    pub clear : clash_after (exclusions ds) o.side k.call.targets k.written (located o.side s.post) o.post ≡ None
    pub full : lost ds b k.call.procedure ≡ nowhere
    pub globals : List TypedVariable
    pub types : with_types ds (left_of o.side k (on_side o.side s) o.post) ≡ Some globals
    pub goals : side_goals b s o k globals ≡ Gs

  module _ (k : Callee) where
    abbrev last_part : Answer (List Goal)
    last_part = by_side_globals b s o k (with_types ds (left_of o.side k (on_side o.side s) o.post))

    abbrev clash : Option Var
    clash = clash_after (exclusions ds) o.side k.call.targets k.written (located o.side s.post) o.post

    abbrev full_part : Answer (List Goal)
    full_part = where_full (lost ds b k.call.procedure) last_part

    module _ (f : length k.call.targets < 9) (p : IsPlain s.pre × IsPlain s.post) (c : clash ≡ None) where
      by_globals : lost ds b k.call.procedure ≡ nowhere → (W : Option (List TypedVariable)) → with_types ds (left_of o.side k (on_side o.side s) o.post) ≡ W → by_side_globals b s o k W ≡ given Gs → IsSideGiven k
      by_globals l None t e = refused_given Shape Gs e
      by_globals l (Some W) t e =
          record { few = f; plain_pre = p.0; plain_post = p.1; clear = c; full = l; globals = W; types = t; goals = same_given (side_goals b s o k W) Gs e }

      by_loss : (l : Loss) → lost ds b k.call.procedure ≡ l → where_full l last_part ≡ given Gs → IsSideGiven k
      by_loss nowhere l e = by_globals l (with_types ds (left_of o.side k (on_side o.side s) o.post)) refl e
      by_loss (sampled x) l e = refused_given (NotLossless x) Gs e
      by_loss called l e = refused_given Shape Gs e

    by_clash : length k.call.targets < 9 → IsPlain s.pre × IsPlain s.post → (x : Option Var) → clash ≡ x → unless_clash x full_part ≡ given Gs → IsSideGiven k
    by_clash f p None c e = by_loss f p c (lost ds b k.call.procedure) refl e
    by_clash f p (Some x) c e = refused_given (SideCondition x) Gs e

    by_forms : length k.call.targets < 9 → (x : Bool) → (speaks s.pre || speaks s.post) ≡ x → (if x then refusing Shape else unless_clash clash full_part) ≡ given Gs → IsSideGiven k
    by_forms f true x e = refused_given Shape Gs e
    by_forms f false x e = let y = or_parts (speaks s.pre) (speaks s.post) x in by_clash f (plain_form s.pre y.0, plain_form s.post y.1) clash refl e

    by_targets : (x : Bool) → nat_lt (length k.call.targets) 9 ≡ x → (if x then unless_speaking s (unless_clash clash full_part) else refusing Shape) ≡ given Gs → IsSideGiven k
    by_targets true x e = by_forms (few k.call.targets x) (speaks s.pre || speaks s.post) refl e
    by_targets false x e = refused_given Shape Gs e

    pub side_given : by_side_callee ds b s o k ≡ given Gs → IsSideGiven k
    side_given e = by_targets (nat_lt (length k.call.targets) 9) refl e

  -- there is such a call
  pub callee_given : (m : Option Callee) → of_side_callee ds b s o m ≡ given Gs → (k : Callee) × (m ≡ Some k) × IsSideGiven k
  callee_given None e = refused_given Shape Gs e
  callee_given (Some k) e = (k, refl, side_given k e)
