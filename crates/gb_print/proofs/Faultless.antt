-- Bytes in which each token starts as some does.
use Rattle.std.specs.Prelude.{ℕ, ◌≡◌, ◌+◌, true, List, [], ◌∷◌, ◌++◌, Option, None}
use Rattle.std.specs.List.{list_all}
use Rattle.std.proofs.Common.{refl, ap, sym, ◌∙◌, append_assoc}
use Rattle.gb_lex.specs.declared.token.What.{What}
use Rattle.gb_lex.specs.declared.token.What.TheVariants.{Blank, Unclosed, Token as IsToken, Faulty}
use Rattle.gb_lex.specs.declared.token.Piece.{Piece}
use Rattle.gb_lex.specs.Lex.{or_fault, fault_among, fault_of}
use Rattle.gb_lex.specs.Piece.{first_piece, pieces_after, pieces_of}
use Rattle.gb_script.proofs.Stacks.{append_nil}
use Rattle.gb_print.proofs.Cut.{Cut, is_whole, whole_piece, all_append}
use Rattle.gb_print.proofs.Tokens.{both}

-- Bytes fall into pieces up to others, none of which is faulty.
pub record Whole (i j : List ℕ) : Type 0 where
  pub pieces : List Piece
  pub split : pieces_of i ≡ pieces ++ pieces_of j
  pub whole : list_all whole_piece pieces ≡ true

pub whole_cut : {i j : List ℕ} → Cut i j → Whole i j
whole_cut c = record { pieces = c.pieces; split = c.split; whole = c.whole }

pub whole_none : (i : List ℕ) → Whole i i
whole_none i = record { pieces = []; split = refl; whole = refl }

pub whole_more : {i j k : List ℕ} → Whole i j → Whole j k → Whole i k
whole_more {k = k} a b = record {
  pieces = a.pieces ++ b.pieces;
  split = a.split ∙ ap (λ l. a.pieces ++ l) b.split ∙ sym (append_assoc a.pieces b.pieces (pieces_of k));
  whole = all_append whole_piece a.pieces b.pieces a.whole b.whole;
}

pub whole_feed : (r : List ℕ) → Whole (10 ∷ r) r
unfolding first_piece pieces_after
whole_feed r = record { pieces = record { what = Blank; size = 1 } ∷ []; split = refl; whole = refl }

fault_by : (w : What) (at : ℕ) (later : Option ℕ) → is_whole w ≡ true → later ≡ None → or_fault w at later ≡ None
fault_by Blank at later h e = e
fault_by Unclosed at later h e = e
fault_by (IsToken k) at later h e = e
fault_by Faulty at later h e = absurd cc

no_fault : (at : ℕ) (ps : List Piece) → list_all whole_piece ps ≡ true → fault_among at ps ≡ None
no_fault at [] h = refl
no_fault at (p ∷ ps) h = let parts = both (whole_piece p) (list_all whole_piece ps) h in fault_by p.what at (fault_among (at + p.size) ps) parts.0 (no_fault (at + p.size) ps parts.1)

no_pieces : pieces_of [] ≡ []
unfolding pieces_after
no_pieces = refl

pub faultless : {i : List ℕ} → Whole i [] → fault_of i ≡ None
faultless w = ap (λ ps. fault_among 0 ps) (w.split ∙ ap (λ l. w.pieces ++ l) no_pieces ∙ append_nil w.pieces) ∙ no_fault 0 w.pieces w.whole
