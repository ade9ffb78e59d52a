-- Sessions in which what is declared and what is open is named.
use Rattle.std.proofs.Common.{◌≡◌, ℕ, Bool, true, false, is_some, if◌then◌else◌, bytes_eq, List, [], ◌∷◌, ◌++◌, append-nil, Option, Some, None, refl, sym, subst}
use Rattle.std.specs.List.{AllByRecursion}
use Rattle.gb_goal.specs.Binders.{with_declared_modules}
use Rattle.gb_goal.specs.Scope.{Declarations, entry_of, path_of}
use Rattle.gb_goal.specs.declared.sequent.Sequent.{Sequent}
use Rattle.gb_print_names.specs.declared.bound_names.Enumeration.{Enumeration}
use Rattle.gb_print.specs.Written.{is_path}
use Rattle.gb_shown.specs.Named.{IsNamedBind, IsNamedSequent}
use Rattle.gb_shown.specs.Scopes.{IsNamedScope, IsNamedStatement}
use Rattle.gb_shown.proofs.Later.{all_so}
use Rattle.gb_theory.specs.Built.{Session, OpenProof}
use Rattle.gb_state.specs.declared.state.Claim.{Claim}
use Rattle.gb_state.specs.declared.state.Claim.TheVariants as claim
use Rattle.gb_state.specs.Opened.{in_context, modules_of}
use Rattle.gb_session.specs.History.{Stage, fresh_stage}
use Rattle.gb_accepted.proofs.Good.{IsGood, fresh_is_good}

-- enumerations that are declared
abbrev pub AreDeclared : List Enumeration → Declarations → Type 0
AreDeclared es ds = AllByRecursion (λ (e : Enumeration). is_some (entry_of ds e.name) ≡ true) es

-- what is claimed, as it will be declared
abbrev pub IsNamedClaim : List Enumeration → Claim → Type 0
IsNamedClaim es (claim.Lemma n q bs) = (is_path n ≡ true) × IsNamedStatement es q
IsNamedClaim es (claim.Loops f) = is_path (path_of f) ≡ true

-- the modules that are declared while the steps of its proof run
pub claim_modules : (es : List Enumeration) (c : Claim) → IsNamedClaim es c → AllByRecursion IsNamedBind (modules_of c)
claim_modules es (claim.Lemma n q bs) k = let s = k.1 in let w = s.sequent in w.modules
claim_modules es (claim.Loops f) k = tt

-- a goal is named as it is shown, with these modules in its context, and with none
pub shown_named : (es : List Enumeration) (c : Claim) (q : Sequent) → IsNamedClaim es c → IsNamedSequent es q → IsNamedSequent es (in_context c q)
shown_named es c q k n = record { variables = n.variables; memories = n.memories; modules = claim_modules es c k; hyps = n.hyps; conclusion = n.conclusion }

pub alone_named : (es : List Enumeration) (q : Sequent) → IsNamedSequent es q → IsNamedSequent es (with_declared_modules q)
alone_named es q n = record { variables = n.variables; memories = n.memories; modules = tt; hyps = n.hyps; conclusion = n.conclusion }

abbrev pub IsNamedProof : List Enumeration → Option OpenProof → Type 0
IsNamedProof es None = Unit {0}
IsNamedProof es (Some p) = IsNamedClaim es p.claim × AllByRecursion (IsNamedSequent es) p.goals

-- what is declared and what is open, with these enumerations
pub record IsNamedSession (es : List Enumeration) (s : Session) : Type 0 where
  pub scope : IsNamedScope es s.scope
  pub listed : AreDeclared es s.scope
  pub proof : IsNamedProof es s.proof

pub record IsNamedStage (s : Stage) : Type 0 where
  pub good : IsGood s.session
  pub named : IsNamedSession s.enumerations s.session

pub fresh_is_named : IsNamedStage fresh_stage
fresh_is_named = record { good = fresh_is_good; named = record { scope = tt; listed = tt; proof = tt } }

-- nothing more is listed
pub none_more : (es : List Enumeration) (s : Session) → IsNamedSession es s → IsNamedSession (es ++ []) s
none_more es s k = subst (λ xs. IsNamedSession xs s) (sym (append-nil es)) k

-- what is declared stays so
pub in_front : (ds more : Declarations) (x : List ℕ) → is_some (entry_of ds x) ≡ true → is_some (entry_of (ds ++ more) x) ≡ true
in_front [] more x h = absurd (cc)
in_front (d ∷ ds) more x h = step (bytes_eq x d.0) (in_front ds more x) h
  where
    step : (b : Bool) → (is_some (entry_of ds x) ≡ true → is_some (entry_of (ds ++ more) x) ≡ true) →
        is_some (if b then Some d.1 else entry_of ds x) ≡ true → is_some (if b then Some d.1 else entry_of (ds ++ more) x) ≡ true
    step true behind k = refl
    step false behind k = behind k

behind_these : (ds more : Declarations) (x : List ℕ) → is_some (entry_of more x) ≡ true → is_some (entry_of (ds ++ more) x) ≡ true
behind_these [] more x h = h
behind_these (d ∷ ds) more x h = step (bytes_eq x d.0) (behind_these ds more x h)
  where
    step : (b : Bool) → is_some (entry_of (ds ++ more) x) ≡ true → is_some (if b then Some d.1 else entry_of (ds ++ more) x) ≡ true
    step true k = refl
    step false k = k

pub declared_later : (es : List Enumeration) (ds more : Declarations) → AreDeclared es ds → AreDeclared es (ds ++ more)
declared_later es ds more h = all_so _ _ (λ (e : Enumeration). in_front ds more e.name) es h

pub declared_behind : (es : List Enumeration) (ds more : Declarations) → AreDeclared es more → AreDeclared es (ds ++ more)
declared_behind es ds more h = all_so _ _ (λ (e : Enumeration). behind_these ds more e.name) es h
