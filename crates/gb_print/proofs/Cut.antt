-- Bytes that fall into pieces up to others, all on one line.
use Rattle.std.specs.Prelude.{ℕ, suc, ◌≡◌, ◌+◌, ◌<◌, ◌≤◌, ◌==◌, Bool, true, false, not, ◌&&◌, List, [], ◌∷◌, ◌++◌, length, take, drop}
use Rattle.std.specs.List.{list_all}
use Rattle.std.proofs.Common.{refl, ap, ap₂, sym, ◌∙◌, arith, append_assoc, length-append, length-take, take-append-drop}
use Rattle.gb_lex.specs.declared.token.What.{What}
use Rattle.gb_lex.specs.declared.token.What.TheVariants.{Faulty}
use Rattle.gb_lex.specs.declared.token.Piece.{Piece}
use Rattle.gb_lex.specs.Piece.{first_piece, pieces_of}
use Rattle.gb_lex.proofs.PieceLemmas.{pieces_of-first, first_piece-within}

-- a piece that is no byte which starts no token
abbrev pub is_whole : What → Bool
is_whole Faulty = false
is_whole _ = true

abbrev pub whole_piece : Piece → Bool
whole_piece p = is_whole p.what

abbrev pub on_line : ℕ → Bool
on_line b = not (b == 10)

-- how many bytes pieces have
abbrev pub total : List Piece → ℕ
total [] = 0
total (p ∷ ps) = p.size + total ps

pub record Cut (i j : List ℕ) : Type 0 where
  pub front : List ℕ
  pub is : i ≡ front ++ j
  pub one_line : list_all on_line front ≡ true
  pub pieces : List Piece
  pub split : pieces_of i ≡ pieces ++ pieces_of j
  pub sizes : total pieces ≡ length front
  pub whole : list_all whole_piece pieces ≡ true

total_append : (ps qs : List Piece) → total (ps ++ qs) ≡ total ps + total qs
total_append [] qs = omega arith
total_append (p ∷ ps) qs = let h = total_append ps qs in omega arith

and_both : (a b : Bool) → (a && b) ≡ true → (a ≡ true) × (b ≡ true)
and_both true b h = (refl, h)
and_both false b h = absurd cc

pub all_append : {A : Type 0} (p : A → Bool) (xs ys : List A) → list_all p xs ≡ true → list_all p ys ≡ true → list_all p (xs ++ ys) ≡ true
all_append p [] ys h k = k
all_append p (x ∷ xs) ys h k = let parts = and_both (p x) (list_all p xs) h in ap₂ (λ a b. a && b) parts.0 (all_append p xs ys parts.1 k)

pub cut_none : {i : List ℕ} → Cut i i
cut_none = record { front = []; is = refl; one_line = refl; pieces = []; split = refl; sizes = refl; whole = refl }

pub cut_more : {i j k : List ℕ} → Cut i j → Cut j k → Cut i k
cut_more {k = k} a b = record {
  front = a.front ++ b.front;
  is = a.is ∙ ap (λ l. a.front ++ l) b.is ∙ sym (append_assoc a.front b.front k);
  one_line = all_append on_line a.front b.front a.one_line b.one_line;
  pieces = a.pieces ++ b.pieces;
  split = a.split ∙ ap (λ l. a.pieces ++ l) b.split ∙ sym (append_assoc a.pieces b.pieces (pieces_of k));
  sizes = total_append a.pieces b.pieces ∙ ap₂ (λ m n. m + n) a.sizes b.sizes ∙ sym (length-append a.front b.front);
  whole = all_append whole_piece a.pieces b.pieces a.whole b.whole;
}

taken : (b m : ℕ) (l : List ℕ) → m ≤ length l → length (take (suc m) (b ∷ l)) ≡ suc m
taken b m l f = let t = length-take m l in omega (arith, t)

pub cut_piece : (b : ℕ) (rest : List ℕ) (n : ℕ) → (first_piece (b ∷ rest)).size ≡ suc n → is_whole (first_piece (b ∷ rest)).what ≡ true → list_all on_line (take (suc n) (b ∷ rest)) ≡ true → Cut (b ∷ rest) (drop n rest)
cut_piece b rest n e w h =
    let p = first_piece (b ∷ rest) in
    let within : p.size ≤ length (b ∷ rest) = (first_piece-within b rest).1 in
    let some : 0 < p.size = (first_piece-within b rest).0 in
    let fits : suc n ≤ suc (length rest) = omega (arith, within, e) in
    let n_fits : n ≤ length rest = omega (arith, fits) in
    record {
      front = take (suc n) (b ∷ rest);
      is = ap (λ l. b ∷ l) (sym (take-append-drop n rest));
      one_line = h;
      pieces = p ∷ [];
      split = pieces_of-first (b ∷ rest) (omega arith) some ∙ ap (λ k. p ∷ pieces_of (drop k (b ∷ rest))) e;
      sizes = (let l : p.size + 0 ≡ suc n = omega (arith, e) in l) ∙ sym (taken b n rest n_fits);
      whole = ap (λ c. c && true) w;
    }

space_size : (j : List ℕ) → (first_piece (32 ∷ j)).size ≡ 1
unfolding first_piece
space_size j = refl

space_whole : (j : List ℕ) → is_whole (first_piece (32 ∷ j)).what ≡ true
unfolding first_piece
space_whole j = refl

pub cut_space : (i : List ℕ) → Cut (32 ∷ i) i
cut_space i = cut_piece 32 i 0 (space_size i) (space_whole i) refl
