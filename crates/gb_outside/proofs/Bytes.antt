-- Fronts of bytes, and what a row of writes appends.
use Rattle.std.proofs.Common.{◌≡◌, ℕ, ◌+◌, ◌-◌, ◌≤◌, List, [], ◌++◌, length, take, drop, refl, arith, append_assoc}
use Rattle.std.specs.Prelude.{Option, Some, None, Ok, IfSome, unwrap_or}
use Rattle.std.specs.Io.KnownBytes.{Appends}
use Rattle.std.proofs.lemmas.Grind.{common_steps}
use Rattle.std.proofs.lemmas.List.{take-append-le, length-take-le}
use Rattle.std.proofs.Math.Seq.{take-add}
use Rattle.gb_outside.specs.HeldBytes.{bytes_of, ReadsHeld}
use Rattle.gb_outside.specs.declared.traits.Failed.{Failed}

-- what stands from a place to the end
pub take-rest : (m : ℕ) (bytes : List ℕ) → take (length bytes - m) (drop m bytes) ≡ drop m bytes
take-rest m bytes = grind (arith, common_steps)

-- two fronts that were written one behind the other are a front
pub Appends-more : (m n : ℕ) (bytes : List ℕ) (old mid new : Option (List ℕ)) → Appends old mid (take m bytes) → Appends mid new (take n (drop m bytes)) → Appends old new (take (m + n) bytes)
Appends-more m n bytes None mid new first second = tt
Appends-more m n bytes (Some xs) None new first second = absurd first
Appends-more m n bytes (Some xs) (Some ys) None first second = absurd second
Appends-more m n bytes (Some xs) (Some ys) (Some zs) first second =
    rw (second, first, append_assoc, ← take-add m n bytes) refl

-- a piece of a buffer, as long as it was asked for
pub length-piece : (n : ℕ) (into tail : List ℕ) → n ≤ length into → length (take n (into ++ tail)) ≡ n
length-piece n into tail within = rw (take-append-le n into tail within) (length-take-le n into within)

-- what was read is a front of the bytes that are held, and one more piece of it too
reads_on_held : (found : Option (List ℕ)) (at n : ℕ) (front into tail : List ℕ) → at ≡ length front → n ≤ length into → front ≡ take at (unwrap_or found []) → ReadsHeld {E = Failed} found at (Ok (Some n)) into → front ++ take n (into ++ tail) ≡ take (at + n) (unwrap_or found [])
reads_on_held None at n front into tail len within is_front step = absurd (cc)
reads_on_held (Some file) at n front into tail len within is_front step =
    rw (take-append-le n into tail within, step.0, take-add at n file, ← is_front) refl

-- the same where that is told
pub reads_on : (told told' : Option (List (List ℕ × List ℕ))) (name : List ℕ) (at n : ℕ) (front into tail : List ℕ) → told' ≡ told → at ≡ length front → n ≤ length into → IfSome told (λ held. front ≡ take at (unwrap_or (bytes_of name held) [])) → IfSome told' (λ held. ReadsHeld {E = Failed} (bytes_of name held) at (Ok (Some n)) into) → IfSome told (λ held. front ++ take n (into ++ tail) ≡ take (at + n) (unwrap_or (bytes_of name held) []))
reads_on None told' name at n front into tail same len within is_front step = tt
reads_on (Some held) told' name at n front into tail same len within is_front step =
    reads_on_held (bytes_of name held) at n front into tail len within is_front (rw same at step)
