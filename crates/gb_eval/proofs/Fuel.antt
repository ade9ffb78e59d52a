-- Why what opens operators ends.
use Rattle.std.proofs.Common.{◌≡◌, ℕ, zero, suc, pred, ◌+◌, ◌*◌, ◌<◌, ◌≤◌, Bool, true, false, if◌then◌else◌, bytes_eq, [], ◌∷◌, Option, Some, None, sym, subst, arith}
use Rattle.std.proofs.lemmas.Option.{none-some}
use Rattle.gb_terms.specs.declared.term.Term.{Term, size-Term}
use Rattle.gb_goal.specs.Scope.{Declarations, entry_of}
use Rattle.gb_meaning.specs.Names.{Name}
use Rattle.gb_eval.specs.declared.script.Script.{Script}
use Rattle.gb_eval.specs.Script.{body_in, body_named, body_at}

abbrev size_of : Option Term → ℕ
size_of None = 0
size_of (Some t) = size-Term t

-- at least the size of each body
room : Declarations → ℕ
room [] = 0
room (d ∷ ds) = size_of (body_in (Some d.1)) + room ds

within : (ds : Declarations) (n : Name) → size_of (body_named ds n) ≤ room ds
unfolding room
within [] n = omega arith
within (d ∷ ds) n = step (bytes_eq n d.0) (within ds n)
  where
    step : (b : Bool) → size_of (body_named ds n) ≤ room ds → size_of (body_in (if b then Some d.1 else entry_of ds n)) ≤ size_of (body_in (Some d.1)) + room ds
    step true h = omega arith
    step false h = omega (arith, h)

-- what may be spent where operators are opened so many times
pub fuel : Declarations → ℕ → ℕ
fuel ds zero = 0
fuel ds (suc k) = fuel ds k + (8 * room ds + 8)

-- a body has less to spend than its operator
pub falls : (ds : Declarations) (d : ℕ) (n : Name) (t : Term) → body_at ds d n ≡ Some t → fuel ds (pred d) + 8 * size-Term t + 7 < fuel ds d
unfolding fuel
falls ds zero n t e = absurd (none-some t e)
falls ds (suc k) n t e = let w : size-Term t ≤ room ds = subst (λ o. size_of o ≤ room ds) e (within ds n) in omega (arith, w)

abbrev pub fuel_in : Script → ℕ
fuel_in s = fuel s.scope.now s.depth

pub opens : (s u : Script) (n : Name) (t : Term) → Some t ≡ body_at s.scope.now s.depth n → u.scope.now ≡ s.scope.now → u.depth ≡ pred s.depth → fuel_in u + 8 * size-Term t + 7 < fuel_in s
opens s u n t h e f =
    let same : fuel_in u ≡ fuel s.scope.now (pred s.depth) = (λ i. fuel (e i) (f i)) in
    let less = falls s.scope.now s.depth n t (sym h) in
    omega (arith, same, less)
