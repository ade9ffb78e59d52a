-- Answers that are gathered in a list, one after another.
use Rattle.std.proofs.Common.{◌≡◌, List, ◌++◌, refl, ap}
use Rattle.std.proofs.lemmas.List.{append_assoc}
use Rattle.gb_goal.specs.Answers.{Answer, ◌>>=◌}
use Rattle.gb_goal.specs.Answers.Answer.{given, refused}

-- what is given, behind what was given before
abbrev pub behind : {A : Type 0} → List A → Answer (List A) → Answer (List A)
behind xs a = a >>= λ ys. given (xs ++ ys)

-- .. behind others
pub behind_both : {A : Type 0} (xs ys : List A) (a : Answer (List A)) → behind (xs ++ ys) a ≡ behind xs (behind ys a)
behind_both xs ys (given zs) = ap given (append_assoc xs ys zs)
behind_both xs ys (refused w q) = refl
