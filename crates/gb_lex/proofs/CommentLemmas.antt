-- Comments, byte by byte.
use Rattle.std.proofs.Common.{◌≡◌, ℕ, zero, suc, ◌+◌, ◌≤◌, ◌<◌, List, [], ◌∷◌, length, get_or, drop, refl, ap, sym, ◌∙◌, arith, add-one, Option, Some, None}
use Rattle.std.proofs.Math.Seq.{drop-cons}
use Rattle.std.proofs.Math.ListN.{drop_of_length-le}
use Rattle.gb_lex.specs.Comment.{next_depth, next_last, ended, comment_end}

pub comment_end-cons : (depth last at b : ℕ) (rest : List ℕ)
    → comment_end depth last at (b ∷ rest)
    ≡ ended (next_depth depth last b) at (comment_end (next_depth depth last b) (next_last last b) (at + 1) rest)
unfolding comment_end
comment_end-cons depth last at b rest = refl

drop-here : (text : List ℕ) (at : ℕ) → at < length text → drop at text ≡ get_or text at 0 ∷ drop (at + 1) text
drop-here text at h =
    drop-cons text at 0 h ∙ ap (λ n. get_or text at 0 ∷ drop n text) (sym (add-one at))

pub comment_end-at : (text : List ℕ) (depth last at : ℕ) → at < length text
    → comment_end depth last at (drop at text)
    ≡ ended (next_depth depth last (get_or text at 0)) at
    (comment_end (next_depth depth last (get_or text at 0)) (next_last last (get_or text at 0)) (at + 1)
    (drop (at + 1) text))
comment_end-at text depth last at h =
    ap (comment_end depth last at) (drop-here text at h)
    ∙ comment_end-cons depth last at (get_or text at 0) (drop (at + 1) text)

pub comment_end-none : (text : List ℕ) (depth last at : ℕ) → length text ≤ at
    → comment_end depth last at (drop at text) ≡ None
unfolding comment_end
comment_end-none text depth last at h = rw (drop_of_length-le text h) refl

pub ruleset steps = (comment_end-at, comment_end-none)

ended-within : (depth at size end : ℕ) (later : Option ℕ) → ended depth at later ≡ Some end
    → (later ≡ Some end → end ≤ at + 1 + size) → end ≤ at + suc size
ended-within zero at size end later e within = let h : at + 1 ≡ end = cc in omega arith
ended-within (suc depth) at size end later e within = omega (arith, within e)

-- a comment ends within its text
pub comment_end-within : (text : List ℕ) (depth last at end : ℕ) → comment_end depth last at text ≡ Some end
    → end ≤ at + length text
unfolding comment_end
comment_end-within [] depth last at end e = absurd (cc)
comment_end-within (b ∷ rest) depth last at end e =
    ended-within (next_depth depth last b) at (length rest) end
    (comment_end (next_depth depth last b) (next_last last b) (at + 1) rest) e
    (comment_end-within rest (next_depth depth last b) (next_last last b) (at + 1) end)
