-- Lexemes that spell symbols, and the values of these, whatever the places of the lexemes.
use Rattle.std.specs.Prelude.{ℕ, ◌≡◌, ◌+◌, ◌≤◌, Bool, true, false, List, [], ◌∷◌, ◌++◌, length, map, take, drop, nat_le}
use Rattle.gb_script.specs.declared.table.Symbol.{Symbol}
use Rattle.gb_script.specs.declared.table.Symbol.TheVariants.{Token, Part}
use Rattle.gb_script.specs.Grammar.{Grammar, Production, IsProduction, Allowed}
use Rattle.gb_goal.specs.Answers.{nowhere}
use Rattle.gb_limits.specs.Kinds.{kind_of}
use Rattle.gb_script.specs.declared.action.Action.{Action}
use Rattle.gb_script.specs.declared.action.Action.TheVariants.{Spell}
use Rattle.gb_script.specs.declared.action.Rule.{Rule}
use Rattle.gb_script.specs.declared.terminal.Terminal.{Terminal}
use Rattle.gb_script.specs.declared.terminal.Terminal.TheVariants.{Other}
use Rattle.gb_script.specs.declared.text.Lexeme.{Lexeme}
use Rattle.gb_script.specs.declared.text.Text.{Text}
use Rattle.gb_script.specs.declared.value.Value.{Value}
use Rattle.gb_script.specs.Build.{made}
use Rattle.gb_print.proofs.Fine.{is_fine}
use Rattle.gb_print.proofs.Chains.{operands_in, Conforms}

-- a token that stands nowhere
abbrev pub lexeme : Terminal → List ℕ → Lexeme
lexeme t n = record { terminal = t; name = n; place = nowhere }

abbrev pub lexeme_kind : Lexeme → ℕ
lexeme_kind l = kind_of l.terminal

abbrev pub lexeme_kinds : List Lexeme → List ℕ
lexeme_kinds ls = map lexeme_kind ls

-- the bytes of the first token; none where there is none
abbrev pub first_name : List Lexeme → List ℕ
first_name [] = []
first_name (l ∷ ls) = l.name

-- a text of one token of these bytes
abbrev pub bare : List ℕ → Text
bare n = record { lexemes = lexeme Other n ∷ []; end = nowhere }

-- what a rule makes of values at a token of these bytes, and the values that it leaves
abbrev pub ruled : Rule → List ℕ → List Value → List Value
ruled r n us = made r.action (bare n) 0 (take r.takes us) ++ drop r.takes us

-- Some symbol is a token.
abbrev pub has_token : List Symbol → Bool
has_token [] = false
has_token (Token k ∷ ss) = true
has_token (Part n ∷ ss) = has_token ss

-- A production looks at the bytes of its first token only where it has a token.
abbrev pub is_fair : Action → List Symbol → Bool
is_fair (Spell h) ss = has_token ss
is_fair _ ss = true

module _ (g : Grammar Rule) where
  -- The lexemes up to a rest spell the symbols, whose values are these.
  pub data Reads : List Symbol → List Lexeme → List Lexeme → List Value → Type 0 where
    done : {ls : List Lexeme} → Reads [] ls ls []
    token : {k : ℕ} {ss : List Symbol} {l : Lexeme} {ls rest : List Lexeme} {vs : List Value} → lexeme_kind l ≡ k → is_fine (lexeme_kind l) l.name ≡ true → Reads ss ls rest vs → Reads (Token k ∷ ss) (l ∷ ls) rest vs
    part : {n : ℕ} {ss : List Symbol} {ls mid rest : List Lexeme} {us vs ws : List Value} {m : ℕ} (r : Production Rule) → IsProduction g n r → Allowed r (lexeme_kinds ls) → is_fair r.rule.action r.body ≡ true
        → nat_le r.rule.takes (length us) ≡ true → ruled r.rule (first_name ls) us ++ vs ≡ ws → Conforms r (operands_in us) m → m + operands_in vs ≤ operands_in ws → Reads r.body ls mid us → Reads ss mid rest vs → Reads (Part n ∷ ss) ls rest ws
