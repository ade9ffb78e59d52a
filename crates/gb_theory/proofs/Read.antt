-- What a piece of a text is read as.
use Rattle.std.proofs.Common.{◌≡◌, ◌≢◌, ℕ, List, None, inl, inr, refl, subst, ◌⊎◌}
use Rattle.std.specs.Prelude.{Result, Ok, Err, IfOk, IfErr, OnOk}
use Rattle.gb_core.specs.declared.place.Place.{Place}
use Rattle.gb_core.specs.declared.refusal.Refused.{Refused}
use Rattle.gb_core.specs.declared.refusal.Refused.TheVariants.{NoMemory, ReadFault, Script}
use Rattle.gb_core.specs.declared.refusal.Why.{Why}
use Rattle.gb_lex.specs.Lex.{tokens_of, fault_of, IsCharacterFault}
use Rattle.gb_lex.specs.declared.token.Token.{Token}
use Rattle.gb_script.specs.declared.tree.Node.{Node}
use Rattle.gb_language.specs.declared.rows.TheConstants.{COMMAND}
use Rattle.gb_limits.specs.Lexeme.{text_at}
use Rattle.gb_read_script.specs.Reading.{SpellsCommand, IsRefusal, IsAllowed}
use Rattle.gb_theory.specs.Outcome.{IsReadAs}
use Rattle.gb_theory.specs.Sessions.{IsDue, Meets}

of_memory : (text : List ℕ) (at : Place) (e : Refused) → e ≡ NoMemory → IsDue (IsReadAs text at) e
of_memory text at NoMemory is = tt
of_memory text at ReadFault is = absurd (cc)
of_memory text at (Script why place) is = absurd (cc)

of_character : (text : List ℕ) (at : Place) (e : Refused) → IsCharacterFault text at e → IsDue (IsReadAs text at) e
of_character text at NoMemory h = tt
of_character text at ReadFault h = let is = h.2 in absurd (cc)
of_character text at (Script why place) h = inl h

-- tokens that are refused
pub character_due : (text : List ℕ) (at : Place) (e : Refused) → (e ≡ NoMemory) ⊎ IsCharacterFault text at e → IsDue (IsReadAs text at) e
character_due text at e (inl is) = of_memory text at e is
character_due text at e (inr h) = of_character text at e h

-- what the tokens of a text are read as
pub read_due : (text : List ℕ) (at : Place) (tokens : List Token) (r : Result Node Refused)
    → tokens ≡ tokens_of text → fault_of text ≡ None
    → IfOk r (λ c. SpellsCommand (text_at text at tokens) c)
    → OnOk r (IsAllowed COMMAND (text_at text at tokens))
    → IfErr r (λ e. e ≢ ReadFault)
    → ((why : Why) (place : Place) → r ≡ Err (Script why place) → IsRefusal COMMAND (text_at text at tokens) why place)
    → Meets (λ (c : Node). c) (IsReadAs text at) r
read_due text at tokens (Ok c) are none found allowed answered refusal =
    (none, subst (λ ts. SpellsCommand (text_at text at ts) c) are found, subst (λ ts. IsAllowed COMMAND (text_at text at ts)) are allowed)
read_due text at tokens (Err NoMemory) are none found allowed answered refusal = tt
read_due text at tokens (Err ReadFault) are none found allowed answered refusal = absurd (answered refl)
read_due text at tokens (Err (Script why place)) are none found allowed answered refusal =
    inr (none, subst (λ ts. IsRefusal COMMAND (text_at text at ts) why place) are (refusal why place refl))
