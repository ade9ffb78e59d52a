-- The loops that the subgoals of rules on procedures of abstract modules reach.
use Rattle.std.proofs.Common.{◌≡◌, Bool, true, false, ◌&&◌, if◌then◌else◌, List, [], ◌∷◌, ◌++◌, Option, Some, None, refl, ap, subst}
use Rattle.std.proofs.lemmas.Option.{same_Some, none-some}
use Rattle.std.specs.List.{AllByRecursion}
use Rattle.std.specs.Option.{option_map}
use Rattle.gb_core.specs.declared.refusal.Why.TheVariants.{NotLossless, Shape}
use Rattle.gb_core.specs.declared.var.Var.{Var}
use Rattle.gb_terms.specs.declared.decl.TypedName.{TypedName}
use Rattle.gb_terms.specs.declared.module.ProcRef.{ProcRef}
use Rattle.gb_terms.specs.declared.op.Side.TheVariants.{Own, Left, Right}
use Rattle.gb_terms.specs.declared.term.Instr.{Instr}
use Rattle.gb_terms.specs.declared.term.Term.{Term}
use Rattle.gb_walk.specs.Clash.{variables_read}
use Rattle.gb_meaning.specs.Commands.{statements}
use Rattle.gb_meaning.specs.Setting.{Setting}
use Rattle.gb_goal.specs.Answers.{Answer}
use Rattle.gb_goal.specs.Answers.Answer.{given, refused}
use Rattle.gb_goal.specs.Goal.{Goal}
use Rattle.gb_goal.specs.Goal.Code.{body, procedure}
use Rattle.gb_goal.specs.Goal.Goal.{hoare, phoare, equiv, ambient}
use Rattle.gb_goal.specs.Interfaces.{ProcedureType, procedure_type}
use Rattle.gb_goal.specs.Rows.{refusing}
use Rattle.gb_goal.specs.Scope.{Declarations}
use Rattle.gb_meaning.specs.Declared.{declared}
use Rattle.gb_meaning.specs.Holds.{LoopsAreGood}
use Rattle.gb_mods.specs.Exclusions.{exclusions}
use Rattle.gb_mods.specs.Written.{written}
use Rattle.gb_steps.specs.declared.step.AbstractRule.{AbstractRule}
use Rattle.gb_steps.specs.declared.step.AbstractRule.TheVariants.{Call, CallUntil, Proc}
use Rattle.gb_steps.specs.declared.step.Until.{Until}
use Rattle.gb_typing.specs.Context.{Context}
use Rattle.gb_typing.specs.Goals.{IsGoalOver}
use Rattle.gb_typing.specs.Programs.{IsBody}
use Rattle.gb_typing.proofs.Given.{refused_at, refused_given, same_given}
use Rattle.gb_prog.specs.Ends.{KeepsEnds, LoopsEnd}
use Rattle.gb_prog.specs.Writes.{TypedVariable}
use Rattle.gb_prog.proofs.Own.{good_append}
use Rattle.gb_call.specs.Call.{if_few, in_front, unless_clash}
use Rattle.gb_call.specs.LastCall.{LastCall, last_call}
use Rattle.gb_call.specs.Outcomes.{clash_after}
use Rattle.gb_call.proofs.LastCalls.{called_typed}
use Rattle.gb_adv.specs.Abstract.{AbstractCall, AbstractProcedure, abstract_call, abstract_procedure, calling, same_abstract}
use Rattle.gb_adv.specs.Call.{before_call, both_goals, by_writes, by_written, call_row, clash_of_both, on_both, on_one, one_goals, read_after}
use Rattle.gb_adv.specs.Oracles.{behind, each_keep_both, each_keeps, keep_both, meeting, meeting_both, with_both, writes_of, keeps}
use Rattle.gb_adv.specs.OwnNames.{own_names}
use Rattle.gb_adv.specs.Proc as procedures_of
use Rattle.gb_adv.specs.Proc.{proc_row}
use Rattle.gb_adv.specs.Rows.{abstract_row}
use Rattle.gb_adv.specs.Until.{by_full, by_writes_until, each_keep_until, end_until, as_long, keep_until, on_both_until, until_goals, until_row, with_until}
use Rattle.gb_call_both.specs.OneSide.{speaks, where_full}
use Rattle.gb_full.specs.Loss.{Loss, nowhere, sampled, called, code_loss}
use Rattle.gb_accepted.proofs.CallsEnd.{few, unclashing}

-- what is given where a test holds
tested : (b : Bool) (a : Answer (List Goal)) (Gs : List Goal) → (if b then a else refusing Shape) ≡ given Gs → a ≡ given Gs
tested true a Gs e = e
tested false a Gs e = refused_given Shape Gs e

module _ (ds : Declarations) (g : Setting) (c : Context) where
  abbrev End : List Goal → Type 0
  End Gs = AllByRecursion (LoopsEnd g) Gs

  abbrev Good : List Instr → Type 0
  Good is = LoopsAreGood g (statements g is)

  -- Oracles.

  end_append : (Gs Hs : List Goal) → End Gs → End Hs → End (Gs ++ Hs)
  end_append [] Hs h k = k
  end_append (G ∷ Gs) Hs h k = (h.0, end_append Gs Hs h.1 k)

  behind_ends : (a : Answer (List Goal)) (Hs Gs : List Goal) → ((Fs : List Goal) → a ≡ given Fs → End Fs) → End Hs → behind a Hs ≡ given Gs → End Gs
  behind_ends (given Fs) Hs Gs f h e = subst End (same_given (Fs ++ Hs) Gs e) (end_append Fs Hs (f Fs refl) h)
  behind_ends (refused w p) Hs Gs f h e = refused_at w p Gs e

  front_ends : (G : Goal) (a : Answer (List Goal)) (Gs : List Goal) → LoopsEnd g G → ((Hs : List Goal) → a ≡ given Hs → End Hs) → in_front G a ≡ given Gs → End Gs
  front_ends G (given Hs) Gs h f e = subst End (same_given (G ∷ Hs) Gs e) (h, f Hs refl)
  front_ends G (refused w p) Gs h f e = refused_at w p Gs e

  oracles_end : (i : Term) (os : List ProcRef) → End (each_keeps i os)
  oracles_end i [] = tt
  oracles_end i (o ∷ os) = (tt, oracles_end i os)

  pairs_end : (i : Term) (os ps : List ProcRef) (Gs : List Goal) → each_keep_both ds i os ps ≡ given Gs → End Gs
  pairs_end i [] ps Gs e = subst End (same_given [] Gs e) tt
  pairs_end i (o ∷ os) [] Gs e = subst End (same_given [] Gs e) tt
  pairs_end i (o ∷ os) (p ∷ ps) Gs e = by_types (λ Hs f. pairs_end i os ps Hs f) (procedure_type ds None o) (procedure_type ds None p) e
    where
      by_types : ((Hs : List Goal) → each_keep_both ds i os ps ≡ given Hs → End Hs) → (t u : Option ProcedureType) → with_both i o t p u (each_keep_both ds i os ps) ≡ given Gs → End Gs
      by_types rest (Some t) (Some u) e =
          front_ends (keep_both i o t p u) (each_keep_both ds i os ps) Gs (tt, tt) rest
          (tested (own_names t.params && own_names u.params) (in_front (keep_both i o t p u) (each_keep_both ds i os ps)) Gs e)
      by_types rest (Some t) None e = refused_given Shape Gs e
      by_types rest None u e = refused_given Shape Gs e

  -- two goals for each oracle, of what is kept until an event has come about
  until_pairs_end : (u : Until) (os ps : List ProcRef) (Gs : List Goal) → each_keep_until ds u os ps ≡ given Gs → End Gs
  until_pairs_end u [] ps Gs e = subst End (same_given [] Gs e) tt
  until_pairs_end u (o ∷ os) [] Gs e = subst End (same_given [] Gs e) tt
  until_pairs_end u (o ∷ os) (p ∷ ps) Gs e = by_types (λ Hs f. until_pairs_end u os ps Hs f) (procedure_type ds None o) (procedure_type ds None p) e
    where
      by_types : ((Hs : List Goal) → each_keep_until ds u os ps ≡ given Hs → End Hs) → (t v : Option ProcedureType) → with_until u o t p v (each_keep_until ds u os ps) ≡ given Gs → End Gs
      by_types rest (Some t) (Some v) e =
          front_ends (keep_until u o t p v) (in_front (keeps u.event p) (each_keep_until ds u os ps)) Gs (tt, tt)
          (λ Hs f. front_ends (keeps u.event p) (each_keep_until ds u os ps) Hs tt rest f)
          (tested (own_names t.params && own_names v.params) (in_front (keep_until u o t p v) (in_front (keeps u.event p) (each_keep_until ds u os ps))) Gs e)
      by_types rest (Some t) None e = refused_given Shape Gs e
      by_types rest None v e = refused_given Shape Gs e

  -- what is given where nothing loses weight
  full_given : (l : Loss) (a : Answer (List Goal)) (Gs : List Goal) → where_full l a ≡ given Gs → a ≡ given Gs
  full_given nowhere a Gs e = e
  full_given (sampled x) a Gs e = refused_given (NotLossless x) Gs e
  full_given called a Gs e = refused_given Shape Gs e

  -- .. and where a test doesn't hold
  untested : (b : Bool) (a : Answer (List Goal)) (Gs : List Goal) → (if b then refusing Shape else a) ≡ given Gs → a ≡ given Gs
  untested true a Gs e = refused_given Shape Gs e
  untested false a Gs e = e

  -- Calls.

  call_there : (o : Option LastCall) (k : AbstractCall) → abstract_call ds o ≡ Some k → o ≡ Some k.call
  call_there None k e = absurd (none-some k e)
  call_there (Some l) k e = by_procedure (abstract_procedure ds l.procedure) e
    where
      by_procedure : (p : Option AbstractProcedure) → option_map (calling l) p ≡ Some k → Some l ≡ Some k.call
      by_procedure (Some f) e = ap (λ (z : AbstractCall). Some z.call) (same_Some (calling l f) k e)
      by_procedure None e = absurd (none-some k e)

  -- what stands before a call
  before_ends : (ls : List TypedName) (is : List Instr) → IsBody c ls is → (k : AbstractCall) → abstract_call ds (last_call is) ≡ Some k → Good is → Good k.call.before
  before_ends ls is w k e h =
      let x = called_typed c ls is k.call w (call_there (last_call is) k e) in
      ((good_append g (let l = k.call in l.before) (x.last ∷ [])).0 (subst Good x.shape h)).0

  module _ (i p q : Term) (Gs : List Goal) where
    both_end : (k l : AbstractCall) (x y : Option (List TypedVariable)) → both_goals ds k l i p q x y ≡ given Gs → Good k.call.before → Good l.call.before → End Gs
    both_end k l (Some W) (Some U) e h j = behind_ends (each_keep_both ds i k.called.oracles l.called.oracles) _ Gs (λ Fs f. pairs_end i k.called.oracles l.called.oracles Fs f) ((h, j), tt) e
    both_end k l (Some W) None e h j = refused_given Shape Gs e
    both_end k l None y e h j = refused_given Shape Gs e

    writes_end : (k l : AbstractCall) (x y : Option (List Var)) → by_writes ds k l i p q x y ≡ given Gs → Good k.call.before → Good l.call.before → End Gs
    writes_end k l (Some W) (Some U) e h j =
        let V = read_after ds Left k i q W in
        let T = read_after ds Right l i q U in
        let clash = clash_of_both (exclusions ds) k l i q W U in
        both_end k l V T (unclashing clash (both_goals ds k l i p q V T) Gs (unclashing (meeting_both (exclusions ds) k.called.owner i W U) (unless_clash clash (both_goals ds k l i p q V T)) Gs e)) h j
    writes_end k l (Some W) None e h j = refused_given Shape Gs e
    writes_end k l None y e h j = refused_given Shape Gs e

    on_both_end : (ls rs : List TypedName) (is js : List Instr) → IsBody c ls is → IsBody c rs js → (x y : Option AbstractCall) → abstract_call ds (last_call is) ≡ x → abstract_call ds (last_call js) ≡ y →
        on_both ds i p q x y ≡ given Gs → Good is → Good js → End Gs
    on_both_end ls rs is js w v (Some k) (Some l) f j e h z =
        let goals = by_writes ds k l i p q (writes_of ds k.called.oracles) (writes_of ds l.called.oracles) in
        let test = tested (same_abstract k.called l.called) (if_few k.call.targets (if_few l.call.targets goals)) Gs e in
        writes_end k l (writes_of ds k.called.oracles) (writes_of ds l.called.oracles) (few l.call.targets goals Gs (few k.call.targets (if_few l.call.targets goals) Gs test))
        (before_ends ls is w k f h) (before_ends rs js v l j z)
    on_both_end ls rs is js w v (Some k) None f j e h z = refused_given Shape Gs e
    on_both_end ls rs is js w v None y f j e h z = refused_given Shape Gs e

    until_end : (u : Until) (k l : AbstractCall) (x y : Option (List TypedVariable)) → until_goals ds u k l p q x y ≡ given Gs → Good k.call.before → Good l.call.before → End Gs
    until_end u k l (Some W) (Some U) e h j = behind_ends (each_keep_until ds u k.called.oracles l.called.oracles) _ Gs (λ Fs f. until_pairs_end u k.called.oracles l.called.oracles Fs f) ((h, j), tt) e
    until_end u k l (Some W) None e h j = refused_given Shape Gs e
    until_end u k l None y e h j = refused_given Shape Gs e

    writes_until_end : (u : Until) (k l : AbstractCall) (x y : Option (List Var)) → by_writes_until ds u k l p q x y ≡ given Gs → Good k.call.before → Good l.call.before → End Gs
    writes_until_end u k l (Some W) (Some U) e h j =
        let said = end_until u k.called in
        let V = read_after ds Left k said q W in
        let T = read_after ds Right l said q U in
        let goals = until_goals ds u k l p q V T in
        let clash = clash_of_both (exclusions ds) k l said q W U in
        let meet = meeting_both (exclusions ds) k.called.owner (as_long u u.kept) W U in
        let right = where_full (code_loss ds (procedure l.call.procedure)) goals in
        let full = unclashing clash (by_full ds u said k l p q W U) Gs (unclashing meet (unless_clash clash (by_full ds u said k l p q W U)) Gs e) in
        until_end u k l V T (full_given (code_loss ds (procedure l.call.procedure)) goals Gs (full_given (code_loss ds (procedure k.call.procedure)) right Gs full)) h j
    writes_until_end u k l (Some W) None e h j = refused_given Shape Gs e
    writes_until_end u k l None y e h j = refused_given Shape Gs e

    on_both_until_end : (u : Until) (ls rs : List TypedName) (is js : List Instr) → IsBody c ls is → IsBody c rs js → (x y : Option AbstractCall) → abstract_call ds (last_call is) ≡ x → abstract_call ds (last_call js) ≡ y →
        on_both_until ds u p q x y ≡ given Gs → Good is → Good js → End Gs
    on_both_until_end u ls rs is js w v (Some k) (Some l) f j e h z =
        let goals = by_writes_until ds u k l p q (writes_of ds k.called.oracles) (writes_of ds l.called.oracles) in
        let silent = if speaks u.event then refusing Shape else goals in
        let test = tested (same_abstract k.called l.called) (if_few k.call.targets (if_few l.call.targets silent)) Gs e in
        writes_until_end u k l (writes_of ds k.called.oracles) (writes_of ds l.called.oracles)
        (untested (speaks u.event) goals Gs (few l.call.targets silent Gs (few k.call.targets (if_few l.call.targets silent) Gs test)))
        (before_ends ls is w k f h) (before_ends rs js v l j z)
    on_both_until_end u ls rs is js w v (Some k) None f j e h z = refused_given Shape Gs e
    on_both_until_end u ls rs is js w v None y f j e h z = refused_given Shape Gs e

    one_ends : (k : AbstractCall) (x : Option (List TypedVariable)) → one_goals k i p q x ≡ given Gs → Good k.call.before → End Gs
    one_ends k None e h = refused_given Shape Gs e
    one_ends k (Some W) e h =
        subst End (same_given _ Gs e) (end_append (each_keeps i k.called.oracles) (hoare (body k.call.before) p (before_call k W i q) ∷ []) (oracles_end i k.called.oracles) (h, tt))

    written_ends : (k : AbstractCall) (x : Option (List Var)) → by_written ds k i p q x ≡ given Gs → Good k.call.before → End Gs
    written_ends k None e h = refused_given Shape Gs e
    written_ends k (Some W) e h =
        let V = read_after ds Own k i q W in
        let clash = clash_after (exclusions ds) Own k.call.targets W i q in
        one_ends k V (unclashing clash (one_goals k i p q V) Gs (unclashing (meeting (exclusions ds) k.called.owner (variables_read Own i)) (unless_clash clash (one_goals k i p q V)) Gs e)) h

    on_one_ends : (ls : List TypedName) (is : List Instr) → IsBody c ls is → (x : Option AbstractCall) → abstract_call ds (last_call is) ≡ x → on_one ds i p q x ≡ given Gs → Good is → End Gs
    on_one_ends ls is w None f e h = refused_given Shape Gs e
    on_one_ends ls is w (Some k) f e h =
        written_ends k (written ds k.call.procedure) (few k.call.targets (by_written ds k i p q (written ds k.call.procedure)) Gs e) (before_ends ls is w k f h)

    -- Procedures.

    procedures_end : (f h : AbstractProcedure) (x y : Option (List Var)) → procedures_of.by_writes ds f h i p q x y ≡ given Gs → End Gs
    procedures_end f h (Some W) (Some U) e =
        behind_ends (each_keep_both ds i f.oracles h.oracles) _ Gs (λ Fs k. pairs_end i f.oracles h.oracles Fs k) (tt, (tt, tt))
        (unclashing (meeting_both (exclusions ds) f.owner i W U) (procedures_of.both_goals ds f h i p q) Gs e)
    procedures_end f h (Some W) None e = refused_given Shape Gs e
    procedures_end f h None y e = refused_given Shape Gs e

    of_both_end : (x y : Option AbstractProcedure) → procedures_of.on_both ds i p q x y ≡ given Gs → End Gs
    of_both_end (Some f) (Some h) e =
        let goals = procedures_of.by_writes ds f h i p q (writes_of ds f.oracles) (writes_of ds h.oracles) in
        procedures_end f h (writes_of ds f.oracles) (writes_of ds h.oracles) (tested (same_abstract f h && own_names f.type.params) goals Gs e)
    of_both_end (Some f) None e = refused_given Shape Gs e
    of_both_end None y e = refused_given Shape Gs e

    of_one_ends : (x : Option AbstractProcedure) → procedures_of.on_one ds i p q x ≡ given Gs → End Gs
    of_one_ends None e = refused_given Shape Gs e
    of_one_ends (Some f) e =
        subst End (same_given (procedures_of.one_goals f i p q) Gs (unclashing (meeting (exclusions ds) f.owner (variables_read Own i)) (given (procedures_of.one_goals f i p q)) Gs e))
        (end_append (each_keeps i f.oracles) _ (oracles_end i f.oracles) (tt, (tt, tt)))

  calls_end : (i : Term) (ls rs : List TypedName) (G : Goal) → IsGoalOver c ls rs G → (Gs : List Goal) → call_row ds i G ≡ given Gs → LoopsEnd g G → End Gs
  calls_end i ls rs (equiv (body is) (body js) p q) w Gs e h = on_both_end i p q Gs ls rs is js w.1 w.2 (abstract_call ds (last_call is)) (abstract_call ds (last_call js)) refl refl e h.0 h.1
  calls_end i ls rs (hoare (body is) p q) w Gs e h = on_one_ends i p q Gs ls is w.0 (abstract_call ds (last_call is)) refl e h
  calls_end i ls rs (equiv (body is) (procedure f) p q) w Gs e h = refused_given Shape Gs e
  calls_end i ls rs (equiv (procedure f) b p q) w Gs e h = refused_given Shape Gs e
  calls_end i ls rs (hoare (procedure f) p q) w Gs e h = refused_given Shape Gs e
  calls_end i ls rs (phoare a r p q b) w Gs e h = refused_given Shape Gs e
  calls_end i ls rs (ambient f) w Gs e h = refused_given Shape Gs e

  until_ends : (u : Until) (ls rs : List TypedName) (G : Goal) → IsGoalOver c ls rs G → (Gs : List Goal) → until_row ds u G ≡ given Gs → LoopsEnd g G → End Gs
  until_ends u ls rs (equiv (body is) (body js) p q) w Gs e h = on_both_until_end u.kept p q Gs u ls rs is js w.1 w.2 (abstract_call ds (last_call is)) (abstract_call ds (last_call js)) refl refl e h.0 h.1
  until_ends u ls rs (equiv (body is) (procedure f) p q) w Gs e h = refused_given Shape Gs e
  until_ends u ls rs (equiv (procedure f) b p q) w Gs e h = refused_given Shape Gs e
  until_ends u ls rs (hoare a p q) w Gs e h = refused_given Shape Gs e
  until_ends u ls rs (phoare a r p q b) w Gs e h = refused_given Shape Gs e
  until_ends u ls rs (ambient f) w Gs e h = refused_given Shape Gs e

  proc_ends : (i : Term) (G : Goal) (Gs : List Goal) → proc_row ds i G ≡ given Gs → End Gs
  proc_ends i (equiv (procedure f) (procedure h) p q) Gs e = of_both_end i p q Gs (abstract_procedure ds f) (abstract_procedure ds h) e
  proc_ends i (hoare (procedure f) p q) Gs e = of_one_ends i p q Gs (abstract_procedure ds f) e
  proc_ends i (equiv (procedure f) (body is) p q) Gs e = refused_given Shape Gs e
  proc_ends i (equiv (body is) b p q) Gs e = refused_given Shape Gs e
  proc_ends i (hoare (body is) p q) Gs e = refused_given Shape Gs e
  proc_ends i (phoare a r p q b) Gs e = refused_given Shape Gs e
  proc_ends i (ambient f) Gs e = refused_given Shape Gs e

pub abstract_ends : (ds : Declarations) (c : Context) (ls rs : List TypedName) (r : AbstractRule) (G : Goal) → IsGoalOver c ls rs G → (Gs : List Goal) → abstract_row ds r G ≡ given Gs → KeepsEnds (declared ds) Gs G
abstract_ends ds c ls rs (Call i) G w Gs e g over h = calls_end ds g c i ls rs G w Gs e h
abstract_ends ds c ls rs (CallUntil u) G w Gs e g over h = until_ends ds g c u ls rs G w Gs e h
abstract_ends ds c ls rs (Proc i) G w Gs e g over h = proc_ends ds g c i G Gs e
