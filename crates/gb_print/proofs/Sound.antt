-- What reads is a derivation, and its steps build its values, but for their places.
use Rattle.std.specs.Prelude.{ℕ, zero, suc, ◌≡◌, ◌+◌, ◌/◌, ◌%◌, ◌^◌, true, false, List, [], ◌∷◌, ◌++◌, length, map, drop, nat_eq, nat_le, slice_get}
use Rattle.std.proofs.Common.{refl, ap, ap₂, sym, ◌∙◌, subst, arith, append_assoc}
use Rattle.std.proofs.lemmas.Bool.{leb-true}
use Rattle.gb_script.specs.declared.table.Step.{Step}
use Rattle.gb_script.specs.declared.table.Symbol.{Symbol}
use Rattle.gb_script.specs.declared.table.Symbol.TheVariants.{Token, Part}
use Rattle.gb_script.specs.Grammar.{Grammar, Production, Allowed, has, step, Derives, choose, done as derives_done, token as derives_token}
use Rattle.gb_limits.specs.Lexeme.{kinds_of}
use Rattle.gb_script.specs.declared.action.Rule.{Rule}
use Rattle.gb_script.specs.declared.text.Lexeme.{Lexeme}
use Rattle.gb_script.specs.declared.text.Text.{Text}
use Rattle.gb_script.specs.declared.tree.Node.{Node}
use Rattle.gb_script.specs.declared.value.Value.{Value}
use Rattle.gb_script.specs.declared.value.Value.TheVariants.{Tree, Trees}
use Rattle.gb_script.specs.Text.{name_at, name_or_none}
use Rattle.gb_script.specs.Build.{built, IsTree}
use Rattle.gb_script.proofs.Frame.{run_front}
use Rattle.gb_print.specs.Nodes.{placeless}
use Rattle.gb_print.proofs.Reading.{lexeme, lexeme_kind, lexeme_kinds, first_name, bare, ruled, Reads, done, token, part}
use Rattle.gb_print.proofs.Bare.{bare_values, run_bare}

-- a token without its place
abbrev pub bare_lexeme : Lexeme → Lexeme
bare_lexeme l = lexeme l.terminal l.name

abbrev pub bare_lexemes : List Lexeme → List Lexeme
bare_lexemes ls = map bare_lexeme ls

-- A production that stops at nothing may stand before any token.
nothing_stops : (t : ℕ) → has 0 t ≡ false
nothing_stops t = let z : (0 / 2 ^ t) % 2 ≡ 0 = grind arith in ap (λ (n : ℕ). nat_eq n 1) z

pub always_allowed : (r : Production Rule) → r.stops ≡ 0 → (w : List ℕ) → Allowed r w
always_allowed r z [] = tt
always_allowed r z (t ∷ w) = ap (λ (s : ℕ). has s t) z ∙ nothing_stops t

pub drop_next : {A : Type 0} (p : ℕ) (xs : List A) (y : A) (ys : List A) → drop p xs ≡ y ∷ ys → drop (p + 1) xs ≡ ys
drop_next zero xs y ys e = ap (λ l. drop 1 l) e
drop_next (suc p) [] y ys e = absurd cc
drop_next (suc p) (x ∷ xs) y ys e = let n : suc p + 1 ≡ suc (p + 1) = omega arith in rw n (drop_next p xs y ys e)

-- the first of the tokens from a position on
pub name_here : (p : ℕ) (ls : List Lexeme) → name_or_none (slice_get ls p) ≡ first_name (drop p (bare_lexemes ls))
name_here zero [] = refl
name_here zero (l ∷ ls) = refl
name_here (suc p) [] = refl
name_here (suc p) (l ∷ ls) = name_here p ls

pub ruled_front : (r : Rule) (n : List ℕ) (us st : List Value) → nat_le r.takes (length us) ≡ true → ruled r n (us ++ st) ≡ ruled r n us ++ st
ruled_front r n us st h = run_front (bare n) (record { rule = r; at = 0 }) us st (leb-true r.takes (length us) h)

module _ (g : Grammar Rule) (t : Text) where
  -- From this position on, these symbols are derived up to a rest, and the steps build these values.
  pub record Derived (ss : List Symbol) (p : ℕ) (ls rest : List Lexeme) (vs : List Value) : Type 0 where
    pub end : ℕ
    pub rest_is : drop end (bare_lexemes t.lexemes) ≡ rest
    pub steps : List (Step Rule)
    pub derives : (tail : List Symbol) (ps : List (Step Rule)) → Derives g tail end (lexeme_kinds rest) ps → Derives g (ss ++ tail) p (lexeme_kinds ls) (steps ++ ps)
    pub builds : (ps : List (Step Rule)) (st : List Value) → bare_values (built t ps) ≡ st → bare_values (built t (steps ++ ps)) ≡ vs ++ st

  unfoldable pub derived : {ss : List Symbol} {ls rest : List Lexeme} {vs : List Value} → Reads g ss ls rest vs → (p : ℕ) → drop p (bare_lexemes t.lexemes) ≡ ls → Derived ss p ls rest vs
  derived done p e = record { end = p; rest_is = e; steps = []; derives = λ tail ps d. d; builds = λ ps st h. h }
  derived (token {ss = ss} {l = l} {ls = ls} {rest = rest} {vs = vs} k z d) p e =
      let below = derived d (p + 1) (drop_next p (bare_lexemes t.lexemes) l ls e) in
      record {
        end = below.end;
        rest_is = below.rest_is;
        steps = below.steps;
        derives = λ tail ps x. subst (λ (n : ℕ). Derives g (Token n ∷ (ss ++ tail)) p (lexeme_kind l ∷ lexeme_kinds ls) (below.steps ++ ps)) k (derives_token (below.derives tail ps x));
        builds = below.builds;
      }
  derived (part {n = n} {ss = ss} {ls = ls} {mid = mid} {rest = rest} {us = us} {vs = vs} {ws = ws} r i al fair enough is x y b d) p e =
      let inner = derived b p e in
      let behind = derived d inner.end inner.rest_is in
      let name : name_at t p ≡ first_name ls = name_here p t.lexemes ∙ ap first_name e in
      record {
        end = behind.end;
        rest_is = behind.rest_is;
        steps = step r p ∷ (inner.steps ++ behind.steps);
        derives = λ tail ps x. choose r i al
            (subst (λ (l : List (Step Rule)). Derives g (r.body ++ (ss ++ tail)) p (lexeme_kinds ls) l) (sym (append_assoc inner.steps behind.steps ps))
            (inner.derives (ss ++ tail) (behind.steps ++ ps) (behind.derives tail ps x)));
        builds = λ ps st h.
            run_bare t (step r p) (built t ((inner.steps ++ behind.steps) ++ ps))
            ∙ ap₂ (λ m l. ruled r.rule m l) name
            (ap (λ (l : List (Step Rule)). bare_values (built t l)) (append_assoc inner.steps behind.steps ps) ∙ inner.builds (behind.steps ++ ps) (vs ++ st) (behind.builds ps st h))
            ∙ ruled_front r.rule (first_name ls) us (vs ++ st) enough
            ∙ sym (append_assoc (ruled r.rule (first_name ls) us) vs st)
            ∙ ap (λ (l : List Value). l ++ st) is;
      }

  pub kinds_bare : (ls : List Lexeme) → lexeme_kinds (bare_lexemes ls) ≡ map lexeme_kind ls
  kinds_bare [] = refl
  kinds_bare (l ∷ ls) = ap (λ ks. lexeme_kind l ∷ ks) (kinds_bare ls)

  pub one_tree : (vs : List Value) (x : Node) → bare_values vs ≡ Tree x ∷ [] → (y : Node) × (vs ≡ Tree y ∷ []) × (placeless y ≡ x)
  one_tree [] x e = absurd cc
  one_tree (Tree y ∷ []) x e = (y, refl, cc)
  one_tree (Trees ys ∷ []) x e = absurd cc
  one_tree (v ∷ w ∷ vs) x e = absurd cc

  -- Tokens that read as a tree spell it, but for its places.
  unfoldable pub spelled : (n : ℕ) (x : Node) → Reads g (Part n ∷ []) (bare_lexemes t.lexemes) [] (Tree x ∷ []) → (y : Node) × IsTree g n (kinds_of t) t y × (placeless y ≡ x)
  spelled n x d =
      let all = derived d 0 refl in
      let built_so = all.builds [] [] refl in
      let tree = one_tree (built t (all.steps ++ [])) x built_so in
      let derives = subst (λ (ks : List ℕ). Derives g (Part n ∷ []) 0 ks (all.steps ++ [])) (kinds_bare t.lexemes) (all.derives [] [] derives_done) in
      (tree.0, (all.steps ++ [], derives, tree.1), tree.2)
