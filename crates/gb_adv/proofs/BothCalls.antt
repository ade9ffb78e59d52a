-- Two procedures that are one procedure of an abstract module: where their oracles keep a form, they end alike from alike memories.
use Rattle.std.proofs.Common.{◌≡◌, Bool, false, ◌||◌, List, [], ◌∷◌, Some, None, bytes_eq, ap, sym, ◌∙◌}
use Rattle.std.specs.List.{AllByRecursion}
use Rattle.gb_core.specs.declared.ty.Ty.TheVariants as ty
use Rattle.gb_core.specs.declared.value.Value.{Value}
use Rattle.gb_core.specs.declared.var.Var.{Var}
use Rattle.gb_core.specs.declared.var.Var.TheVariants as var
use Rattle.gb_dist.specs.Coupling.{Coupling}
use Rattle.gb_dist.specs.WeightedList.{On}
use Rattle.gb_dist.proofs.Basic.{coupling_weakening}
use Rattle.gb_dist.proofs.Entries.{On_of_Every}
use Rattle.gb_dist.proofs.Facts.{coupling_facts}
use Rattle.gb_terms.specs.declared.module.Mexp.TheVariants.{Name as named}
use Rattle.gb_terms.specs.declared.module.ProcRef.{ProcRef}
use Rattle.gb_terms.specs.declared.term.Term.{Term}
use Rattle.gb_walk.specs.Clash.{clashes}
use Rattle.gb_goal.specs.Answers.Answer.{given}
use Rattle.gb_goal.specs.Goal.{Goal}
use Rattle.gb_goal.specs.Scope.{Declarations}
use Rattle.gb_goal.specs.declared.sequent.Sequent.{Sequent}
use Rattle.gb_meaning.specs.Judgments.{Judge, IsFair, IsTrueUnder}
use Rattle.gb_meaning.specs.Memory.{Memory, read}
use Rattle.gb_meaning.specs.Names.{Map}
use Rattle.gb_meaning.specs.Program.{Routine}
use Rattle.gb_meaning.specs.Runs.{outcomes, routine_denominator}
use Rattle.gb_meaning.specs.Setting.{Setting}
use Rattle.gb_meaning.specs.State.{State, between}
use Rattle.gb_meaning.specs.Values.{Global}
use Rattle.gb_meaning.proofs.Runs.{routine_entries, routine_positive}
use Rattle.gb_laws.proofs.Fair.{memory_discrete}
use Rattle.gb_meaning.specs.Declared.{declared}
use Rattle.gb_mods.specs.Exclusions.{exclusions}
use Rattle.gb_mods.specs.Meant.{meant_by}
use Rattle.gb_mods.specs.declared.meant.Meant.TheVariants.{Any}
use Rattle.gb_typing.specs.Context.{Context, reframed}
use Rattle.gb_typing.specs.Fits.{IsOfType, IsSettingOf}
use Rattle.gb_typing.specs.Meaning.{Stands}
use Rattle.gb_typing.specs.Puts.{clash}
use Rattle.gb_typing.specs.Rules.{IsSettingOver, outermost}
use Rattle.gb_typing.specs.Scopes.{context_of, IsTypedScope}
use Rattle.gb_typing.specs.Sequents.{of_sequent, IsTypedSequent}
use Rattle.gb_typing.specs.Typing.{IsForm}
use Rattle.gb_typing.proofs.ClashFree.{no_share}
use Rattle.gb_typing.proofs.Globals.{or_false}
use Rattle.gb_prog.specs.BothAnyOf.{AreBothAnyOf, EachPair}
use Rattle.gb_prog.proofs.KeptOff.{kept_off}
use Rattle.gb_prog.proofs.Meanings.{both_mean}
use Rattle.gb_prog.proofs.Signatures.{type_same}
use Rattle.gb_prog.specs.Writes.{DifferIn}
use Rattle.gb_prog.specs.Coupled.{Alike, IsKept}
use Rattle.gb_prog.specs.Kept.{AreKeeping}
use Rattle.gb_prog.proofs.Kept.{abstract_coupled}
use Rattle.gb_call.proofs.Callees.{IsResult}
use Rattle.gb_adv.specs.Abstract.{AbstractProcedure}
use Rattle.gb_adv.specs.Oracles.{each_keep_both, writes_of}
use Rattle.gb_adv.proofs.Called.{each_outcome, knows}
use Rattle.gb_adv.proofs.EachKept.{AreLeaving, each_kept}
use Rattle.gb_adv.proofs.Found.{AreOne, IsFound}
use Rattle.gb_adv.proofs.KeptPairs.{oracle_there}
use Rattle.gb_adv.proofs.Left.{MeetNone, any_left, oracle_leaves}
use Rattle.gb_adv.proofs.Related.{related, related_is, related_kept}

-- Memories in which two procedures of an abstract module end that started in m and n: they have the same result, all that is the module's
-- own is the same, and what is kept holds. Each is as before but for what is the module's own and what the oracles write.
pub record AreEnds (g : Setting) (j : Judge) (v : State) (i : Term) (f : AbstractProcedure) (W U : List Var) (m n x y : Memory) : Type 0 where
  pub frames : x.frame ≡ y.frame
  pub own : read g.types x (var.Glob f.owner) (ty.Glob f.owner) ≡ read g.types y (var.Glob f.owner) (ty.Glob f.owner)
  pub kept : IsTrueUnder g j i (between v x y)
  pub left : IsResult g (let t = f.type in t.result) x × DifferIn g.types (var.Glob f.owner ∷ W) m (record { globals = x.globals; frame = m.frame })
  pub right : IsResult g (let t = f.type in t.result) y × DifferIn g.types (var.Glob f.owner ∷ U) n (record { globals = y.globals; frame = n.frame })

module _ (ds : Declarations) (scoped : IsTypedScope (declared ds)) (t : Sequent) (typed : IsTypedSequent (context_of (declared ds)) t) where
  abbrev c : Context
  c = of_sequent (context_of (declared ds)) t typed.frames

  module _ (p q : ProcRef) (f h : AbstractProcedure) (left_found : IsFound ds p f) (right_found : IsFound ds q h) (one : AreOne f h) where
    -- one that is the other by its name has the same module
    pub right_meant : meant_by ds q ≡ Any f.owner h.oracles
    right_meant = right_found.meant ∙ ap (λ a. Any a h.oracles) (sym one.owner)

    pub same_name : p.name ≡ q.name
    same_name = sym left_found.name ∙ one.name ∙ right_found.name

    -- they have one type
    pub one_type : f.type ≡ h.type
    one_type = type_same ds p f.owner f.oracles left_found.meant f.type left_found.known q h.oracles right_meant same_name h.type right_found.known

    module _ (W U : List Var) (left_known : writes_of ds f.oracles ≡ Some W) (right_known : writes_of ds h.oracles ≡ Some U) (i : Term) (clear : MeetNone (exclusions ds) f.owner i W U)
        (w : IsForm (reframed (outermost c) None (Some []) (Some [])) i)
        (g : Setting) (fits : IsSettingOf c g) (outer : IsSettingOf (outermost c) g) (over : IsSettingOver (declared ds) g) (j : Judge) (fair : IsFair g j) (v : State)
        (Gs : List Goal) (shown : each_keep_both ds i f.oracles h.oracles ≡ given Gs) (stand : AllByRecursion (Stands g j v) Gs) where
      abbrev gs : List Global
      gs = g.types.footprint (named f.owner)

      abbrev R : Map → Map → Bool
      R = related c g outer j fair v i w

      both : AreBothAnyOf ds g f.owner f.oracles h.oracles p q
      both = both_mean ds scoped g over p q f.owner f.oracles h.oracles left_found.meant right_meant same_name

      apart : (y : Var) → clashes (exclusions ds) (var.Glob f.owner) y ≡ false → clash g (var.Glob f.owner) y ≡ false
      apart (var.Glob b) e =
          let k = or_false (bytes_eq f.owner b) _ e in
          let l = no_share g (exclusions ds) (kept_off ds scoped g over) (var.Glob f.owner) (var.Glob b) e in
          λ i. k.0 i || l i
      apart (var.Global m y) e = no_share g (exclusions ds) (kept_off ds scoped g over) (var.Glob f.owner) (var.Global m y) e
      apart (var.Local y) e = no_share g (exclusions ds) (kept_off ds scoped g over) (var.Glob f.owner) (var.Local y) e

      stays : IsKept gs R
      stays = related_kept c g outer j fair v i w f.owner (clashes (exclusions ds) (var.Glob f.owner)) apart clear.left_read clear.right_read

      left_leaving : AreLeaving ds c g fits (knows ds scoped t typed) outer j fair v i w gs f.oracles
      left_leaving o k u e =
          let x = oracle_there ds c g fits (knows ds scoped t typed) o u e in
          let z = x.typed in
          oracle_leaves ds scoped g over f.oracles W left_known f.owner clear.left_written o k x.means x.there z.sound

      right_leaving : AreLeaving ds c g fits (knows ds scoped t typed) outer j fair v i w gs h.oracles
      right_leaving o k u e =
          let x = oracle_there ds c g fits (knows ds scoped t typed) o u e in
          let z = x.typed in
          oracle_leaves ds scoped g over h.oracles U right_known f.owner clear.right_written o k x.means x.there z.sound

      keeping : EachPair (AreKeeping ds g gs R) f.oracles h.oracles
      keeping = each_kept ds c g fits (knows ds scoped t typed) outer j fair v i w gs f.oracles h.oracles left_leaving right_leaving Gs shown stand

      module _ (r s : Routine) (left_there : g.procedure p ≡ Some r) (right_there : g.procedure q ≡ Some s) (left_typed : IsOfType g f.type r) (right_typed : IsOfType g f.type s)
          (vs : List Value) (m n : Memory) (own : read g.types m (var.Glob f.owner) (ty.Glob f.owner) ≡ read g.types n (var.Glob f.owner) (ty.Glob f.owner))
          (holds : IsTrueUnder g j i (between v m n)) where
        abbrev LeftEnd : Memory → Type 0
        LeftEnd x = IsResult g (let t = f.type in t.result) x × DifferIn g.types (var.Glob f.owner ∷ W) m (record { globals = x.globals; frame = m.frame })

        abbrev RightEnd : Memory → Type 0
        RightEnd y = IsResult g (let t = f.type in t.result) y × DifferIn g.types (var.Glob f.owner ∷ U) n (record { globals = y.globals; frame = n.frame })

        coupled : Coupling (Alike g.types gs R) (outcomes g r vs m.globals) (routine_denominator g r) (outcomes g s vs n.globals) (routine_denominator g s)
        coupled =
            abstract_coupled ds g f.owner f.oracles h.oracles p q both R keeping stays r s left_there right_there vs m.globals n.globals own
            (sym (related_is c g outer j fair v i w m n) ∙ holds)

        left_sound : On LeftEnd (outcomes g r vs m.globals)
        left_sound =
            On_of_Every LeftEnd (outcomes g r vs m.globals) (routine_entries g r left_typed.sound vs m.globals)
            (each_outcome g f.type r left_typed (var.Glob f.owner ∷ W) (any_left ds scoped g over f.oracles W left_known f.owner p left_found.meant r left_there) vs m)

        right_sound : On RightEnd (outcomes g s vs n.globals)
        right_sound =
            On_of_Every RightEnd (outcomes g s vs n.globals) (routine_entries g s right_typed.sound vs n.globals)
            (each_outcome g f.type s right_typed (var.Glob f.owner ∷ U) (any_left ds scoped g over h.oracles U right_known f.owner q right_meant s right_there) vs n)

        -- from memories where what is kept holds, and all that is the module's own is the same, and from the same arguments
        pub both_end : Coupling (AreEnds g j v i f W U m n) (outcomes g r vs m.globals) (routine_denominator g r) (outcomes g s vs n.globals) (routine_denominator g s)
        both_end =
            coupling_weakening {Q = λ x y. Alike g.types gs R x y × LeftEnd x × RightEnd y} {R = AreEnds g j v i f W U m n}
            (λ x y z. (let k = z.0 in record { frames = k.frames; own = k.own; kept = related_is c g outer j fair v i w x y ∙ k.related; left = z.1; right = z.2 }))
            (coupling_facts memory_discrete memory_discrete {Q = Alike g.types gs R} {l1 = outcomes g r vs m.globals} {k1 = routine_denominator g r} {l2 = outcomes g s vs n.globals} {k2 = routine_denominator g s}
            LeftEnd RightEnd (routine_positive g r left_typed.sound) (routine_positive g s right_typed.sound) left_sound right_sound coupled)
