-- Counters of 64 bits, which stay at their last value.
use Rattle.std.specs.Prelude.{ℕ, ◌+◌, ◌-◌, ◌^◌, ◌<◌, min}

-- the count goes on by one, or stays at the last value
abbrev pub next_count : ℕ → ℕ
next_count count = min (count + 1) (2 ^ 64 - 1)

-- the count rose, or stands at the last value
abbrev pub HasRisen : ℕ → ℕ → Type 0
HasRisen before after = after < 2 ^ 64 - 1 → before < after
