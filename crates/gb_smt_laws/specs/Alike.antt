-- Meanings that are the same: fractions by cross products, all else by equality.
use Rattle.std.specs.Prelude.{◌≡◌, true, List, [], ◌∷◌, Some}
use Rattle.gb_meaning.specs.Names.{Name}
use Rattle.gb_meaning.specs.Fractions.{is_same}
use Rattle.gb_meaning.specs.Setting.{Meaning, Setting}
use Rattle.gb_meaning.specs.Setting.Meaning.{fraction}
use Rattle.gb_laws.specs.Context.{AreOf}
use Rattle.gb_laws.specs.Typing.{OperatorType}
use Rattle.gb_typing.specs.Context.{Context}

abbrev pub Alike : Meaning → Meaning → Type 0
Alike (fraction a) (fraction b) = is_same a b ≡ true
Alike x y = x ≡ y

abbrev pub AllAlike : List Meaning → List Meaning → Type 0
AllAlike [] [] = Unit {0}
AllAlike (x ∷ xs) (y ∷ ys) = Alike x y × AllAlike xs ys
AllAlike _ _ = ⊥

-- each operator of the script gives the same from the same arguments, where they are of its types
abbrev pub RespectAlike : Context → Setting → Type 0
RespectAlike c g = (n : Name) (o : OperatorType) → c.operator n ≡ Some o → (xs ys : List Meaning) →
    AreOf g.types o.params xs → AreOf g.types o.params ys → AllAlike xs ys → Alike (g.operator n xs) (g.operator n ys)
