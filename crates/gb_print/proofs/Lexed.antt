-- The tokens of bytes, one after another.
use Rattle.std.specs.Prelude.{ℕ, zero, suc, ◌≡◌, ◌-◌, Bool, true, false, List, [], ◌∷◌, ◌++◌, length, take, drop}
use Rattle.std.specs.List.{list_all, prefix_len}
use Rattle.std.specs.Str.Lossy.{utf8_lossy}
use Rattle.std.proofs.Common.{refl, ap, ◌∙◌, arith}
use Rattle.gb_lex.specs.declared.token.Kind.{Kind}
use Rattle.gb_lex.specs.declared.token.What.{What}
use Rattle.gb_lex.specs.declared.token.What.TheVariants.{Blank, Unclosed, Token as IsToken, Faulty}
use Rattle.gb_lex.specs.declared.token.Piece.{Piece}
use Rattle.gb_lex.specs.Piece.{token, first_piece}
use Rattle.gb_limits.specs.Lexeme.{terminal_of}
use Rattle.gb_script.specs.declared.text.Lexeme.{Lexeme}
use Rattle.gb_print.proofs.Reading.{lexeme}

-- the token that a piece of this size at the front of bytes is, if it is one, before others
abbrev pub lexed_at : What → List ℕ → ℕ → List Lexeme → List Lexeme
lexed_at (IsToken kind) i size later = lexeme (terminal_of kind (take size i)) (utf8_lossy (take size i)) ∷ later
lexed_at Blank i size later = later
lexed_at Unclosed i size later = later
lexed_at Faulty i size later = later

-- the tokens behind so many bytes
unfoldable pub lexed_after : ℕ → List ℕ → List Lexeme
lexed_after n [] = []
lexed_after (suc n) (b ∷ rest) = lexed_after n rest
lexed_after zero (b ∷ rest) = lexed_at (first_piece (b ∷ rest)).what (b ∷ rest) (first_piece (b ∷ rest)).size (lexed_after ((first_piece (b ∷ rest)).size - 1) rest)

unfoldable pub lexed : List ℕ → List Lexeme
lexed i = lexed_after 0 i

after_drop : (n : ℕ) (i : List ℕ) → lexed_after n i ≡ lexed (drop n i)
unfolding lexed lexed_after
after_drop zero i = refl
after_drop (suc n) [] = refl
after_drop (suc n) (b ∷ i) = after_drop n i

-- the token that stands in front
pub lexed_token : (b : ℕ) (rest : List ℕ) (k : Kind) (n : ℕ) → first_piece (b ∷ rest) ≡ token k (suc n)
    → lexed (b ∷ rest) ≡ lexeme (terminal_of k (take (suc n) (b ∷ rest))) (utf8_lossy (take (suc n) (b ∷ rest))) ∷ lexed (drop n rest)
unfolding lexed lexed_after
lexed_token b rest k n e =
    let less : suc n - 1 ≡ n = omega arith in
    ap (λ (p : Piece). lexed_at p.what (b ∷ rest) p.size (lexed_after (p.size - 1) rest)) e
    ∙ ap (λ l. lexeme (terminal_of k (take (suc n) (b ∷ rest))) (utf8_lossy (take (suc n) (b ∷ rest))) ∷ l) (ap (λ m. lexed_after m rest) less ∙ after_drop n rest)

-- The first byte passes the test.
abbrev pub ahead : (ℕ → Bool) → List ℕ → Bool
ahead p [] = false
ahead p (b ∷ rest) = p b

prefix_more : (p : ℕ → Bool) (b : ℕ) (w mid : List ℕ) (t : Bool) → p b ≡ t → list_all p (b ∷ w) ≡ true → (list_all p w ≡ true → prefix_len p (w ++ mid) ≡ length w)
    → prefix_len p ((b ∷ w) ++ mid) ≡ length (b ∷ w)
prefix_more p b w mid true e h more = let all : list_all p w ≡ true = rw e at h in let n = more all in rw e (omega (arith, n))
prefix_more p b w mid false e h more = let no : false ≡ true = rw e at h in absurd cc

pub prefix_is : (p : ℕ → Bool) (w mid : List ℕ) → list_all p w ≡ true → ahead p mid ≡ false → prefix_len p (w ++ mid) ≡ length w
prefix_is p [] [] h a = refl
prefix_is p [] (b ∷ mid) h a = rw a refl
prefix_is p (b ∷ w) mid h a = prefix_more p b w mid (p b) refl h (λ all. prefix_is p w mid all a)
