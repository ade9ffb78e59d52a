-- Files as a list of names with their bytes, and what a read of them may answer.
use Rattle.std.specs.Prelude.{◌≡◌, ℕ, ◌<◌, List, length, take, drop, find, bytes_eq, Option, Result, option_map, MatchOption, IfOk, IsNone, IsSomeAnd}

-- the bytes under a name: of two files of one name the first counts
abbrev pub bytes_of : List ℕ → List (List ℕ × List ℕ) → Option (List ℕ)
bytes_of name files = option_map (λ file. file.1) (find (λ file. bytes_eq file.0 name) files)

-- n bytes at the front of `into` are the next ones of `rest`: at least one where there is one and `into` isn't empty
abbrev pub TakesFront : List ℕ → List ℕ → ℕ → Type 0
TakesFront rest into n = (take n into ≡ take n rest) × (0 < length into → 0 < length rest → 0 < n)

-- a read at a place gives the bytes from there on, and `None` exactly where the name isn't held; or it fails
abbrev pub ReadsHeld : {E : Type 0} → Option (List ℕ) → ℕ → Result (Option ℕ) E → List ℕ → Type 0
ReadsHeld held at result into =
    IfOk result (λ answer. MatchOption held (IsNone answer) (λ bytes. IsSomeAnd answer (TakesFront (drop at bytes) into)))
