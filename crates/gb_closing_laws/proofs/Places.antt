-- Contexts of parts of a conclusion, in which forms are typed.
use Rattle.std.proofs.Common.{◌≡◌, ◌+◌, Bool, true, false, ◌&&◌, if◌then◌else◌, List, [], ◌∷◌, ◌++◌, map, length, Some, refl, ap, sym, ◌∙◌, arith}
use Rattle.std.specs.List.{AllByRecursion}
use Rattle.std.proofs.lemmas.Bool.{false≢true}
use Rattle.std.proofs.lemmas.List.{length-append}
use Rattle.gb_core.specs.declared.ty.Ty.{Ty}
use Rattle.gb_core.specs.declared.value.Value.{Value}
use Rattle.gb_terms.specs.declared.decl.TypedName.{TypedName}
use Rattle.gb_terms.specs.declared.op.Op.TheVariants as op
use Rattle.gb_terms.specs.declared.term.Term.{Term, Term', Row_of-Term, end_of-Term, more_of-Term, end_of-Head, more_of-Head, out-Term}
use Rattle.gb_terms.specs.declared.term.Head.TheVariants as head
use Rattle.gb_meaning.specs.Meanings.{truth}
use Rattle.gb_meaning.specs.Memory.{Memory}
use Rattle.gb_meaning.specs.Setting.{Setting}
use Rattle.gb_meaning.specs.State.{State}
use Rattle.gb_meaning.specs.Values.{Types, has}
use Rattle.gb_meaning.specs.Judgments.{Judge, IsFair, speaking, den}
use Rattle.gb_meaning.specs.Operators.{operated}
use Rattle.gb_meaning.specs.Terms.{argument, parts}
use Rattle.gb_meaning.proofs.Truths.{truth_of}
use Rattle.gb_meaning.specs.Holds.{AreValues, context}
use Rattle.gb_laws.specs.Finite.{IsFinite}
use Rattle.gb_laws.specs.Operators.{IsOperator}
use Rattle.gb_laws.specs.Typing.{types_of}
use Rattle.gb_typing.specs.Context.{Context, Frame}
use Rattle.gb_typing.specs.Typing.{IsForm, AreTyped}
use Rattle.gb_typing.specs.Fits.{IsSettingOf}
use Rattle.gb_smt.specs.declared.leaves.Leaf.{Leaf}
use Rattle.gb_smt.specs.declared.leaves.Context.{Context as LeafContext}
use Rattle.gb_smt.specs.Leaves.{with_variable, with_memory, connective, assumed, all_assumed, assumed_by, unless_true, is_true}
use Rattle.gb_smt_laws.proofs.Used.{each_together}
use Rattle.gb_amb.proofs.Wider.{small, more_variable, more_memory, wider}
use Rattle.gb_amb.proofs.States.{memory_at, variable_agrees, memory_agrees}
use Rattle.gb_closing_laws.proofs.Opening.{IsOpening, variable_opens, memory_opens}
use mathlib.Core.Former.{Count}

abbrev pub AreForms : Context → List Term → Type 0
AreForms c ts = AllByRecursion (IsForm c) ts

abbrev pub AreTrueIn : Setting → Judge → State → List Term → Type 0
AreTrueIn g i s ts = AllByRecursion (λ t. den g i t s ≡ true) ts

-- the frames of memories with locals
abbrev pub AreFrames : List Frame → Type 0
AreFrames ns = (fs : List (List TypedName)) × (ns ≡ map (λ l. Some l) fs)

-- In each context over a base in which a leaf is typed, and in each state of it, true hypotheses give a true conclusion.
abbrev pub IsTrueLeaf : Context → Setting → Judge → Leaf → Type 0
IsTrueLeaf b g i l =
    (us : List Ty) → AllByRecursion IsFinite us → (ns : List Frame) → AreFrames ns → IsSettingOf (small b us ns) g → AreForms (small b us ns) l.hyps → IsForm (small b us ns) l.conclusion →
    (vs : List Value) → AreValues g.types us vs → (ms : List Memory) → AreTrueIn g i (context vs ms) l.hyps → den g i l.conclusion (context vs ms) ≡ true

-- Lists.

pub one_more : {X : Type 0} (xs : List X) (x : X) → length (xs ++ x ∷ []) ≡ length xs + 1
one_more xs x = omega (arith, length-append xs (x ∷ []))

each_more : {X : Type 0} (P : X → Type 0) (xs : List X) (x : X) → AllByRecursion P xs → P x → AllByRecursion P (xs ++ x ∷ [])
each_more P xs x a p = each_together P xs (x ∷ []) a (p, tt)

each_moved : {X : Type 0} (P Q : X → Type 0) → ((x : X) → P x → Q x) → (xs : List X) → AllByRecursion P xs → AllByRecursion Q xs
each_moved P Q f [] a = tt
each_moved P Q f (x ∷ xs) a = (f x a.0, each_moved P Q f xs a.1)

-- what is known of each element by two facts of it
each_moved_by : {X : Type 0} (P R Q : X → Type 0) → ((x : X) → P x → R x → Q x) → (xs : List X) → AllByRecursion P xs → AllByRecursion R xs → AllByRecursion Q xs
each_moved_by P R Q f [] a b = tt
each_moved_by P R Q f (x ∷ xs) a b = (f x a.0 b.0, each_moved_by P R Q f xs a.1 b.1)

pub frames_more : (fs : List (List TypedName)) (ls : List TypedName) → map (λ l. Some l) fs ++ Some ls ∷ [] ≡ map (λ l. Some l) (fs ++ ls ∷ [])
frames_more [] ls = refl
frames_more (f ∷ fs) ls = ap (λ ns. Some f ∷ ns) (frames_more fs ls)

values_more : (t : Types) (us : List Ty) (vs : List Value) (u : Ty) (v : Value) → AreValues t us vs → has t u v ≡ true → AreValues t (us ++ u ∷ []) (vs ++ v ∷ [])
values_more t [] [] u v w h = (h, tt)
values_more t [] (x ∷ vs) u v w h = absurd w
values_more t (x ∷ us) [] u v w h = absurd w
values_more t (x ∷ us) (y ∷ vs) u v w h = (w.0, values_more t us vs u v w.1 h)

pub as_many : (t : Types) (us : List Ty) (vs : List Value) → AreValues t us vs → length vs ≡ length us
as_many t [] [] w = refl
as_many t [] (x ∷ vs) w = absurd w
as_many t (x ∷ us) [] w = absurd w
as_many t (x ∷ us) (y ∷ vs) w = let k = as_many t us vs w.1 in omega (arith, k)

module _ (b : Context) (g : Setting) where
  -- a setting of a context is one of others over the same base
  pub setting_moved : (us vs : List Ty) (ns ms : List Frame) → IsSettingOf (small b us ns) g → IsSettingOf (small b vs ms) g
  setting_moved us vs ns ms x = record {
    types = record { inhabited = x.types.inhabited; operators = x.types.operators; distributions = x.types.distributions };
    once = x.once;
    procedures = x.procedures;
  }

  module _ (i : Judge) (fair : IsFair g i) where
    -- a part of the conclusion: its context, in which the hypotheses are forms, and are true
    pub record Place (c : LeafContext) (us : List Ty) (ns : List Frame) (hs : List Term) (vs : List Value) (ms : List Memory) : Type 0 where
      pub variables : c.logical ≡ length us
      pub memories : c.memories ≡ length ns
      pub opening : IsOpening c.changes
      pub finite : AllByRecursion IsFinite us
      pub frames : AreFrames ns
      pub fits : IsSettingOf (small b us ns) g
      pub values : AreValues g.types us vs
      pub forms : AreForms (small b us ns) hs
      pub assumed : AreTrueIn g i (context vs ms) hs

    module _ (c : LeafContext) (us : List Ty) (ns : List Frame) (hs : List Term) (vs : List Value) (ms : List Memory) (k : Place c us ns hs vs ms) where
      pub place_with_variable : (u : Ty) → IsFinite u → (v : Value) → has g.types u v ≡ true → Place (with_variable c u) (us ++ u ∷ []) ns hs (vs ++ v ∷ []) ms
      place_with_variable u fin v h = record {
        variables = ap (λ n. n + 1) k.variables ∙ sym (one_more us u);
        memories = k.memories;
        opening = variable_opens c.changes k.opening c.logical u;
        finite = each_more IsFinite us u k.finite fin;
        frames = k.frames;
        fits = setting_moved us (us ++ u ∷ []) ns ns k.fits;
        values = values_more g.types us vs u v k.values h;
        forms = each_moved (IsForm (small b us ns)) (IsForm (small b (us ++ u ∷ []) ns)) (λ f w. wider b us ns (us ++ u ∷ []) ns (more_variable us ns u) f w) hs k.forms;
        assumed =
            each_moved_by (IsForm (small b us ns)) (λ f. den g i f (context vs ms) ≡ true) (λ f. den g i f (context (vs ++ v ∷ []) ms) ≡ true)
            (λ f w e. sym (ap truth (variable_agrees b us ns g k.fits i fair u vs (as_many g.types us vs k.values) v ms f w)) ∙ e) hs k.forms k.assumed;
      }

      pub place_with_memory : (ls : List TypedName) (m : Memory) → Place (with_memory c) us (ns ++ Some ls ∷ []) hs vs (memory_at (length ns) m ms)
      place_with_memory ls m = record {
        variables = k.variables;
        memories = ap (λ n. n + 1) k.memories ∙ sym (one_more ns (Some ls));
        opening = memory_opens c.changes k.opening c.memories;
        finite = k.finite;
        frames = (k.frames.0 ++ ls ∷ [], ap (λ xs. xs ++ Some ls ∷ []) k.frames.1 ∙ frames_more k.frames.0 ls);
        fits = setting_moved us us ns (ns ++ Some ls ∷ []) k.fits;
        values = k.values;
        forms = each_moved (IsForm (small b us ns)) (IsForm (small b us (ns ++ Some ls ∷ []))) (λ f w. wider b us ns us (ns ++ Some ls ∷ []) (more_memory us ns (Some ls)) f w) hs k.forms;
        assumed =
            each_moved_by (IsForm (small b us ns)) (λ f. den g i f (context vs ms) ≡ true) (λ f. den g i f (context vs (memory_at (length ns) m ms)) ≡ true)
            (λ f w e. sym (ap truth (memory_agrees b us ns g k.fits i fair vs ms m f w)) ∙ e) hs k.forms k.assumed;
      }

      pub place_with_premise : (fs : List Term) → AreForms (small b us ns) fs → AreTrueIn g i (context vs ms) fs → Place c us ns (hs ++ fs) vs ms
      place_with_premise fs w e = record {
        variables = k.variables;
        memories = k.memories;
        opening = k.opening;
        finite = k.finite;
        frames = k.frames;
        fits = k.fits;
        values = k.values;
        forms = each_together (IsForm (small b us ns)) hs fs k.forms w;
        assumed = each_together (λ f. den g i f (context vs ms) ≡ true) hs fs k.assumed e;
      }

-- what a true form gives

module _ (c : Context) (g : Setting) (i : Judge) (s : State) where
  abbrev pub Given : List Term → Type 0
  Given ts = AreForms c ts × AreTrueIn g i s ts

  pub both_given : (xs ys : List Term) → Given xs → Given ys → Given (xs ++ ys)
  both_given xs ys a b = (each_together (IsForm c) xs ys a.0 b.0, each_together (λ f. den g i f s ≡ true) xs ys a.1 b.1)

  alone : (t : Term) → IsForm c t → den g i t s ≡ true → Given (unless_true t)
  alone t w e = by_test (is_true (out-Term t).head)
    where
      by_test : (x : Bool) → Given (if x then [] else t ∷ [])
      by_test true = (tt, tt)
      by_test false = ((w, tt), (e, tt))

  both_parts : (a d : Bool) → (a && d) ≡ true → (a ≡ true) × (d ≡ true)
  both_parts true d e = (refl, e)
  both_parts false d e = absurd (false≢true e)

  mutual
    pub assumed_given : (t : Term) → IsForm c t → den g i t s ≡ true → Given (assumed t)
    assumed_given (Term' p (more_of-Head (head.Builtin op.And) end_of-Head) n ts ty) w e =
        let k = w.typed in
        and_given ts (Term' p (more_of-Head (head.Builtin op.And) end_of-Head) n ts ty) ty w e k.0 k.3 e
    assumed_given (Term' p (more_of-Head h end_of-Head) n ts ty) w e = alone (Term' p (more_of-Head h end_of-Head) n ts ty) w e

    and_given : {n : Count} (ts : Row_of-Term n) (t : Term) (ty : Ty) → IsForm c t → den g i t s ≡ true → IsOperator op.And (types_of ts) ty → AreTyped c c c ts →
        truth (operated g.types op.And ty (map (argument s) (parts g (speaking g i) ts))) ≡ true → Given (assumed_by (connective (head.Builtin op.And)) (all_assumed ts) t)
    and_given end_of-Term t ty w e o k d = alone t w e
    and_given (more_of-Term x end_of-Term) t ty w e o k d = alone t w e
    and_given (more_of-Term x (more_of-Term y end_of-Term)) t ty w e o k d =
        let each = both_parts (den g i x s) (den g i y s) (sym (truth_of (den g i x s && den g i y s)) ∙ d) in
        both_given (assumed x) (assumed y) (assumed_given x (record { typed = k.0; truth = o.0 }) each.0) (assumed_given y (record { typed = k.1; truth = o.1.0 }) each.1)
    and_given (more_of-Term x (more_of-Term y (more_of-Term z ts))) t ty w e o k d = alone t w e
