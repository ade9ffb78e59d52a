-- What the steps of a derivation build has such parts, where a table passes the tests.
use Rattle.std.specs.Prelude.{ℕ, zero, suc, ◌≡◌, ◌-◌, Bool, true, false, not, ◌&&◌, ◌||◌, nat_le, List, [], ◌∷◌, ◌++◌, length, take, drop, slice_get, Some}
use Rattle.std.specs.List.{list_all}
use Rattle.std.proofs.Common.{ap, sym, ◌∙◌, subst}
use Rattle.std.proofs.lemmas.Bool.{and_parts}
use Rattle.gb_script.specs.declared.table.Step.{Step}
use Rattle.gb_script.specs.declared.table.Symbol.{Symbol}
use Rattle.gb_script.specs.Grammar.{Grammar, Production, Derives, done, token, choose}
use Rattle.gb_script.specs.declared.action.Action.{Action}
use Rattle.gb_script.specs.declared.action.Action.TheVariants.{Nothing, Pass, Make, Enclose, Spell, Graft, Flat, Extend, Many, Lead, Attach}
use Rattle.gb_script.specs.declared.action.Rule.{Rule}
use Rattle.gb_script.specs.declared.head.Head.{Head}
use Rattle.gb_script.specs.declared.text.Text.{Text}
use Rattle.gb_script.specs.declared.tree.Node.{Node}
use Rattle.gb_script.specs.declared.value.Value.{Value}
use Rattle.gb_script.specs.declared.value.Value.TheVariants.{Tree, Trees}
use Rattle.gb_script.specs.Acts.{acts, flat_shape, flattens, sorts_of, sorts_ok, sorts_within}
use Rattle.gb_script.specs.Build.{built, IsTree}
use Rattle.gb_script.specs.Each.{Each}
use Rattle.gb_script.specs.Sorts.{Sort, is_nil, Language, ValueSort, one, many, Fits, next, HaveSorts}
use Rattle.gb_script.specs.Value.{flattened}
use Rattle.gb_script.proofs.Sorted.{front, sorts_together, row_sorts, leaving, builds_sorts}
use Rattle.gb_script.proofs.Sorts.{not_false, is_false, if_or, flat_sorted}
use Rattle.gb_script.proofs.Stacks.{append_nil}
use Rattle.gb_shown.proofs.MadeTrees.{is_product, is_writing, HasParts, HasSome, IsPlain, WritesSome, Suits, AllSuit, tree_of}

abbrev is_plain : Head → Bool
is_plain h = not (is_product h) && not (is_writing h)

-- the first of two sorts is that of lists with something in them
abbrev starts_some : List ValueSort → Bool
starts_some (many g ∷ u ∷ []) = not (is_nil g.first)
starts_some _ = false

-- An action of values of these sorts makes no such nodes, or as they are to be.
abbrev pub makes_well : Action → List ValueSort → Bool
makes_well (Make h) ts = not (is_product h) && (not (is_writing h) || starts_some ts)
makes_well (Spell h) ts = is_plain h
makes_well (Enclose h) ts = is_plain h
makes_well (Graft h) ts = is_plain h
makes_well (Lead h) ts = is_plain h
makes_well (Flat h) ts = not (is_writing h)
makes_well _ ts = true

abbrev pub row_well : (ℕ → List ValueSort) → Production Rule → Bool
row_well sorts r = makes_well r.rule.action (take r.rule.takes (sorts_of sorts r.body))

plain : (h : Head) → is_plain h ≡ true → IsPlain h
plain h e = let k = and_parts (not (is_product h)) (not (is_writing h)) e in (is_false (is_product h) k.0, is_false (is_writing h) k.1)

row_passes : (test : Production Rule → Bool) (g : Grammar Rule) → list_all test g ≡ true → (place : ℕ) (r : Production Rule) → slice_get g place ≡ Some r → test r ≡ true
row_passes test [] ok place r e = absurd cc
row_passes test (q ∷ g) ok zero r e = let same : q ≡ r = cc in subst (λ (x : Production Rule). test x ≡ true) same (and_parts (test q) (list_all test g) ok).0
row_passes test (q ∷ g) ok (suc place) r e = row_passes test g (and_parts (test q) (list_all test g) ok).1 place r e

module _ (l : Language) where
  some_fit : (s : Sort) (f : List Sort) (r : Sort) (xs : List Node) → Fits l (s ∷ f) r xs → HasSome xs
  some_fit s f r (x ∷ xs) (next d ds) = tt
  some_fit s f r [] d = elim d [ ]

  -- what is flattened isn't empty
  flat_some : (h : Head) (ts us : List ValueSort) (vs : List Value) → acts l (Flat h) ts us ≡ true → HaveSorts l ts vs → HasSome (flattened vs)
  flat_some h ts (one s ∷ []) vs e y = step (flat_shape ts).first (flat_shape ts).rest e (flat_sorted l ts vs y)
    where
      step : (f : List Sort) (r : Sort) → flattens l h f r s ≡ true → Fits l f r (flattened vs) → HasSome (flattened vs)
      step [] r i d = absurd (not_false i)
      step (a ∷ f) r i d = some_fit a f r (flattened vs) d
  flat_some h ts _ vs e y = absurd (not_false e)

  some_listed : (f : List Sort) (r : Sort) (xs : List Node) (v : Value) → not (is_nil f) ≡ true → Fits l f r xs → WritesSome (Trees xs ∷ v ∷ [])
  some_listed (s ∷ f) r (x ∷ xs) v e (next d ds) = tt
  some_listed (s ∷ f) r [] v e d = elim d [ ]
  some_listed [] r xs v e d = absurd (not_false e)

  written_some : (ts : List ValueSort) (vs : List Value) → starts_some ts ≡ true → HaveSorts l ts vs → WritesSome vs
  written_some (many g ∷ u ∷ []) (Trees xs ∷ v ∷ []) e y = some_listed g.first g.rest xs v e y.0
  written_some (many g ∷ u ∷ []) (Tree x ∷ vs) e y = absurd y.0
  written_some (many g ∷ u ∷ []) (Trees xs ∷ []) e y = absurd y.1
  written_some (many g ∷ u ∷ []) (Trees xs ∷ v ∷ w ∷ vs) e y = absurd y.1.1
  written_some (many g ∷ u ∷ []) [] e y = absurd y
  written_some _ vs e y = absurd (not_false e)

  made_well : (h : Head) (ts : List ValueSort) (vs : List Value) → makes_well (Make h) ts ≡ true → HaveSorts l ts vs → Suits (Make h) vs
  made_well h ts vs n y =
      let k = and_parts (not (is_product h)) (not (is_writing h) || starts_some ts) n in
      (is_false (is_product h) k.0, (λ e. if_or (WritesSome vs) (not (is_writing h)) (starts_some ts) k.1 (λ i. absurd (not_false (sym (is_false (is_writing h) i) ∙ e))) (λ i. written_some ts vs i y)))

  suits : (a : Action) (ts us : List ValueSort) (vs : List Value) → makes_well a ts ≡ true → acts l a ts us ≡ true → HaveSorts l ts vs → Suits a vs
  suits (Make h) ts us vs n e y = made_well h ts vs n y
  suits (Spell h) ts us vs n e y = plain h n
  suits (Enclose h) ts us vs n e y = plain h n
  suits (Graft h) ts us vs n e y = plain h n
  suits (Lead h) ts us vs n e y = plain h n
  suits (Flat h) ts us vs n e y = (is_false (is_writing h) n, flat_some h ts us vs e y)
  suits Nothing ts us vs n e y = tt
  suits Pass ts us vs n e y = tt
  suits Extend ts us vs n e y = tt
  suits Many ts us vs n e y = tt
  suits Attach ts us vs n e y = tt

  module _ (t : Text) (sorts : ℕ → List ValueSort) (g : Grammar Rule) (acting : sorts_ok l sorts g ≡ true) (well : list_all (row_well sorts) g ≡ true) where
    -- the values that a production takes
    taken : (ss : List Symbol) {at : ℕ} {w : List ℕ} (ps : List (Step Rule)) (r : Production Rule) (place : ℕ) → slice_get g place ≡ Some r → Derives g (r.body ++ ss) at w ps
        → HaveSorts l (take r.rule.takes (sorts_of sorts r.body)) (take r.rule.takes (built t ps))
    taken ss ps r place e d =
        let b = builds_sorts l t sorts g acting d in
        let whole : built t ps ≡ b.values = ap (λ (z : List (Step Rule)). built t z) (sym (append_nil ps)) ∙ (b.frame [] ∙ append_nil b.values) in
        let few = (leaving l r.rule.action r.rule.takes (sorts_of sorts r.body) (sorts r.part) (row_sorts l sorts g acting place r e)).takes in
        subst (λ (z : List Value). HaveSorts l (take r.rule.takes (sorts_of sorts r.body)) (take r.rule.takes z)) (sym whole)
        (front l r.rule.takes (sorts_of sorts r.body) (sorts_of sorts ss) b.values few (subst (λ (z : List ValueSort). HaveSorts l z b.values) (sorts_together l sorts r.body ss) b.sorted))

    row_suits : (ss : List Symbol) {at : ℕ} {w : List ℕ} (ps : List (Step Rule)) (r : Production Rule) (place : ℕ) → slice_get g place ≡ Some r → Derives g (r.body ++ ss) at w ps
        → Suits r.rule.action (take r.rule.takes (built t ps))
    row_suits ss ps r place e d =
        let k = r.rule.takes in
        let ts = sorts_of sorts r.body in
        let m = length (sorts r.part) - (length ts - k) in
        let row = and_parts (nat_le k (length ts)) (acts l r.rule.action (take k ts) (take m (sorts r.part)) && sorts_within (drop k ts) (drop m (sorts r.part))) (row_sorts l sorts g acting place r e) in
        let act = and_parts (acts l r.rule.action (take k ts) (take m (sorts r.part))) (sorts_within (drop k ts) (drop m (sorts r.part))) row.1 in
        suits r.rule.action (take k ts) (take m (sorts r.part)) (take k (built t ps)) (row_passes (row_well sorts) g well place r e) act.0 (taken ss ps r place e d)

    steps_suit : {ss : List Symbol} {at : ℕ} {w : List ℕ} {ps : List (Step Rule)} → Derives g ss at w ps → AllSuit t ps
    steps_suit done = tt
    steps_suit (token d) = steps_suit d
    steps_suit (choose {ss = ss} {ps = ps} r i al d) = (row_suits ss ps r i.place i.row_is d, steps_suit d)

    -- a tree that a text of a part spells
    pub parts_kept : (n : ℕ) (kinds : List ℕ) (x : Node) → IsTree g n kinds t x → Each HasParts x
    parts_kept n kinds x d = tree_of t d.0 x d.2 (steps_suit d.1)
