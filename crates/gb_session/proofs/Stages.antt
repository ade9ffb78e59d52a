-- What stood before, as it is kept.
use Rattle.std.proofs.Common.{◌≡◌, ℕ, zero, suc, ◌+◌, ◌-◌, ◌<◌, Bool, true, false, List, [], ◌∷◌, length, take, Some, None, refl, ap, sym, subst, ◌∙◌, arith}
use Rattle.gb_goal.specs.Scope.{Declarations}
use Rattle.gb_print_names.specs.declared.bound_names.Enumeration.{Enumeration}
use Rattle.gb_state.specs.declared.state.State.{State}
use Rattle.gb_state.specs.Opened.{is_undeclared}
use Rattle.gb_session.specs.History.{Stage, History, back_to, has_earlier, undone}
use Rattle.gb_state.specs.Kept.{AreUndeclared, GoesBack}
use Rattle.gb_session.specs.Kept.{stage_of, before, stages_before}
use Rattle.gb_state.specs.declared.kept.Kept.{Kept}

-- a session with this behind and before it
abbrev pub history : List ℕ → Bool → Stage → List Kept → History
history file keeps s ks = record { file = file; keeps = keeps; present = s; earlier = stages_before ks s }

pub same_stage : (s t : State) (es fs : List Enumeration) (k : Kept) → t.scope ≡ take k.declared s.scope → t.proof ≡ k.proof → t.lemmas ≡ take k.proved s.lemmas
    → fs ≡ take k.enumerated es → stage_of t fs ≡ before k (stage_of s es)
same_stage s t es fs k scope proof lemmas enumerations = rw (scope, proof, lemmas, enumerations) refl

some_is : {A : Type 0} (x y : A) → Some x ≡ Some y → x ≡ y
some_is x y e = cc

-- one command is taken off
pub goes_back : (file : List ℕ) (keeps : Bool) (s t : State) (es fs : List Enumeration) (ks left : List Kept) (n : ℕ) → GoesBack ks left s t (Some n) → fs ≡ take n es
    → history file keeps (stage_of t fs) left ≡ back_to (stages_before ks (stage_of s es)) (history file keeps (stage_of s es) ks)
goes_back file keeps s t es fs [] left n (empty, same, e) is = absurd (cc)
goes_back file keeps s t es fs (k ∷ ks) left n (rest, b, e) is =
    ap (λ x. history file keeps (stage_of t fs) x) rest
    ∙ ap (λ x. history file keeps x ks) (same_stage s t es fs k b.scope b.proof b.lemmas (is ∙ ap (λ m. take m es) (some_is n k.enumerated e)))

pub none_before : (file : List ℕ) (keeps : Bool) (s t : State) (es : List Enumeration) (ks left : List Kept) → GoesBack ks left s t None
    → history file keeps (stage_of t es) left ≡ back_to (stages_before ks (stage_of s es)) (history file keeps (stage_of s es) ks)
none_before file keeps s t es [] left (empty, same, e) =
    ap (λ x. history file keeps (stage_of t es) x) empty ∙ ap (λ (x : State). history file keeps (stage_of x es) []) same
none_before file keeps s t es (k ∷ ks) left (rest, b, e) = absurd (cc)

pub some_kept : (s t : State) (x : Stage) (ks left : List Kept) (n : ℕ) → GoesBack ks left s t (Some n) → true ≡ has_earlier (stages_before ks x)
some_kept s t x [] left n (empty, same, e) = absurd (cc)
some_kept s t x (k ∷ ks) left n g = refl

pub none_kept : (s t : State) (x : Stage) (ks left : List Kept) → GoesBack ks left s t None → false ≡ has_earlier (stages_before ks x)
none_kept s t x [] left g = refl
none_kept s t x (k ∷ ks) left (rest, b, e) = absurd (cc)

pub length_before : (ks : List Kept) (s : Stage) → length (stages_before ks s) ≡ length ks
length_before [] s = refl
length_before (k ∷ ks) s = ap suc (length_before ks (before k s))

-- where nothing is left, nothing is taken off
stays : (n : ℕ) (h : History) → h.earlier ≡ [] → undone n h ≡ h
stays zero h none = refl
stays (suc n) h none =
    let same : back_to h.earlier h ≡ h = ap (λ es. back_to es h) none in
    ap (undone n) same ∙ stays n h none

-- n commands are taken off, of which the last one is taken off first
pub undone_more : (n count : ℕ) (h next : History) → count < n → next ≡ back_to h.earlier h → undone (n - (count + 1)) next ≡ undone (n - count) h
undone_more n count h next less is =
    let k : n - count ≡ suc (n - (count + 1)) = omega arith in
    ap (undone (n - (count + 1))) is ∙ ap (λ m. undone m h) (sym k)

by_emptiness : (es : List Stage) → false ≡ has_earlier es → es ≡ []
by_emptiness [] e = refl
by_emptiness (x ∷ es) e = absurd (cc)

pub undone_all : (n count : ℕ) (h next : History) → false ≡ has_earlier h.earlier → next ≡ back_to h.earlier h → next ≡ undone (n - count) h
undone_all n count h next none is =
    let empty = by_emptiness h.earlier none in
    is ∙ ap (λ es. back_to es h) empty ∙ sym (stays (n - count) h empty)

-- how many are left
left_after : (es : List Stage) (h next : History) → h.earlier ≡ es → true ≡ has_earlier es → next ≡ back_to es h → length es ≡ suc (length next.earlier)
left_after [] h next same some is = absurd (cc)
left_after (e ∷ es) h next same some is = ap (λ (x : History). suc (length x.earlier)) (sym is)

pub one_less : (h next : History) → true ≡ has_earlier h.earlier → next ≡ back_to h.earlier h → length h.earlier ≡ suc (length next.earlier)
one_less h next some is = left_after h.earlier h next refl some is

pub none_left : (h : History) → false ≡ has_earlier h.earlier → length h.earlier ≡ 0
none_left h none = ap length (by_emptiness h.earlier none)
