-- Words that ask for a session.
use Rattle.std.proofs.Common.{◌≡◌, ℕ, true, List, [], ◌∷◌, Option, Some, None, refl, subst}
use Rattle.std.specs.Prelude.{IfSome, ⊤}
use Rattle.gb_app.specs.declared.status.Status.{Status}
use Rattle.gb_app.specs.declared.status.Status.TheVariants as status
use Rattle.gb_app.specs.Checked.{Held}
use Rattle.gb_app.specs.Typing.{Ended}
use Rattle.gb_app.specs.Words.{file_of, asks_for_session}

-- they name no file
pub no_file : (words : List (List ℕ)) → asks_for_session words ≡ true → file_of words ≡ None
no_file [] e = absurd (cc)
no_file (verb ∷ []) e = refl
no_file (verb ∷ word ∷ []) e = absurd (cc)
no_file (verb ∷ word ∷ another ∷ more) e = absurd (cc)

-- where no file is named nothing is promised of one
pub of_none : (held : Held) → IfSome held (λ files. ⊤)
of_none None = tt
of_none (Some files) = tt

-- a session doesn't end with the usage line
pub not_usage : {A : Type 0} (s : Status) (text : List ℕ) (left old new : Option (List ℕ)) → Ended s text left old new → s ≡ status.Usage → A
not_usage s text left old new e is = absurd (subst (λ x. Ended x text left old new) is e)
