-- In a well-sorted tree a tuple has two parts at least, as an item behind its first part; a loop behind the first word of a statement
-- is such a statement's; and a statement that writes variables of a list has two parts.
use Rattle.std.specs.Prelude.{ℕ, zero, suc, ◌≡◌, ◌<◌, ◌≤◌, Bool, true, false, not, ◌&&◌, nat_lt, List, [], ◌∷◌}
use Rattle.std.specs.List.{list_all}
use Rattle.std.proofs.Common.{refl, ap, sym, ◌∙◌, ◌⊎◌, inl, inr, subst, arith}
use Rattle.std.proofs.lemmas.Bool.{and_parts, ltb-true, ltb-false, false≢true}
use Rattle.gb_script.specs.declared.head.Head.{Head}
use Rattle.gb_script.specs.declared.head.Head.TheVariants as head
use Rattle.gb_script.specs.declared.tree.Node.{Node}
use Rattle.gb_script.specs.Each.{Each, each, EachOf, none, more}
use Rattle.gb_script.specs.Sorts.{Sort, holds, Role, whole, item, list, Is, formed, listed, Parts, own, longer, Fits, end, more as more_fit, next}
use Rattle.gb_script.specs.Tree.{head_of, parts_of}
use Rattle.gb_language.specs.Sorts.{bracket_kind, loop_item_kind, loop_kind, named_loop_kind, statement_kind, form_sort, name_sort, statement_tail_sort, role, signature, signatures}
use Rattle.gb_shown.specs.Trees.{HasTwoParts, HasPart, WritesOne, HasItsParts}
use Rattle.gb_shown.proofs.MadeTrees.{is_writing}

abbrev pub is_tuple : Head → Bool
is_tuple head.Tuple = true
is_tuple _ = false

tuple_is : (h : Head) → is_tuple h ≡ true → h ≡ head.Tuple
tuple_is head.Tuple e = refl
tuple_is _ e = absurd (false≢true e)

abbrev pub is_loop : Head → Bool
is_loop head.NamedLoop = true
is_loop _ = false

loop_is : (h : Head) → is_loop h ≡ true → h ≡ head.NamedLoop
loop_is head.NamedLoop e = refl
loop_is _ e = absurd (false≢true e)

writing_is : (h : Head) → is_writing h ≡ true → h ≡ head.TupleStatement
writing_is head.TupleStatement e = refl
writing_is _ e = absurd (false≢true e)

abbrev pub AreTwo : List Node → Type 0
AreTwo (x ∷ y ∷ []) = Unit {0}
AreTwo _ = ⊥

-- what the sort of a node says of its parts
pub record IsInSort (x : Node) : Type 0 where
  pub tuple : is_tuple (head_of x) ≡ true → HasTwoParts (parts_of x)
  pub loop : is_loop (head_of x) ≡ true → HasItsParts head.NamedLoop (parts_of x)
  pub writing : is_writing (head_of x) ≡ true → AreTwo (parts_of x)

-- a sort without items of brackets and of loops
abbrev pub is_apart : Sort → Bool
is_apart s = not (holds s bracket_kind) && (not (holds s loop_item_kind) && not (holds s named_loop_kind))

abbrev role_apart : Role → Bool
role_apart whole = true
role_apart (item o j) = is_apart o
role_apart (list e) = is_apart e

-- Neither the parts of any head nor the first parts of items nor the nodes of lists are such items.

abbrev head_apart : Head → Bool
head_apart h = list_all is_apart (signature h).parts.first && is_apart (signature h).parts.rest

heads_apart : (h : Head) → head_apart h ≡ true
heads_apart head.Name = refl
heads_apart _ = refl

abbrev all_below : ℕ → (ℕ → Bool) → Bool
all_below zero test = true
all_below (suc n) test = test n && all_below n test

below : (n : ℕ) (test : ℕ → Bool) → all_below n test ≡ true → (k : ℕ) → k < n → test k ≡ true
below zero test a k l = absurd (omega (arith, l))
below (suc n) test a k l = step (nat_lt k n) refl (below n test (and_parts (test n) (all_below n test) a).1 k)
  where
    last : n ≤ k → k ≡ n
    last m = omega (arith, l, m)

    step : (b : Bool) → nat_lt k n ≡ b → (k < n → test k ≡ true) → test k ≡ true
    step true e f = f (ltb-true k n e)
    step false e f = subst (λ z. test z ≡ true) (sym (last (ltb-false k n e))) (and_parts (test n) (all_below n test) a).0

first_roles : all_below 113 (λ k. role_apart (role k)) ≡ true
first_roles = refl

roles_apart : (k : ℕ) → role_apart (role k) ≡ true
roles_apart k = step (nat_lt k 113) refl
  where
    not_below : (c : ℕ) → c ≤ 113 → nat_lt k 113 ≡ false → nat_lt k c ≡ false
    not_below c m e = other (nat_lt k c) refl
      where
        other : (b : Bool) → nat_lt k c ≡ b → b ≡ false
        other true i = let x = ltb-true k c i in let y = ltb-false k 113 e in absurd (omega (arith, x, y, m))
        other false i = refl

    step : (b : Bool) → nat_lt k 113 ≡ b → role_apart (role k) ≡ true
    step true e = below 113 (λ z. role_apart (role z)) first_roles k (ltb-true k 113 e)
    step false e =
        let a : nat_lt k 64 ≡ false = not_below 64 (omega arith) e in
        let b : nat_lt k 96 ≡ false = not_below 96 (omega arith) e in
        let c : nat_lt k 112 ≡ false = not_below 112 (omega arith) e in
        rw (a, b, c, e) refl

-- Trees.

some_parts : {k : ℕ} {xs : List Node} → Parts signatures head.Tuple k xs → HasPart xs
some_parts (own (next d ds)) = tt
some_parts (longer o j r e d) = tt

not_held : (s : Sort) (k : ℕ) → not (holds s k) ≡ true → holds s k ≡ true → ⊥
not_held s k a h = false≢true (sym (ap not h) ∙ a)

no_bracket : (s : Sort) → is_apart s ≡ true → holds s bracket_kind ≡ true → ⊥
no_bracket s a = not_held s bracket_kind (and_parts (not (holds s bracket_kind)) _ a).0

no_item : (s : Sort) → is_apart s ≡ true → (holds s loop_item_kind ≡ true → ⊥) × (holds s named_loop_kind ≡ true → ⊥)
no_item s a =
    let k = and_parts (not (holds s loop_item_kind)) (not (holds s named_loop_kind)) (and_parts (not (holds s bracket_kind)) _ a).1 in
    (not_held s loop_item_kind k.0, not_held s named_loop_kind k.1)

two_parts : {k : ℕ} {xs : List Node} (s : Sort) → is_apart s ≡ true → holds s k ≡ true → Parts signatures head.Tuple k xs → HasTwoParts xs
two_parts s a h (own f) = absurd (no_bracket s a h)
two_parts s a h (longer {xs = x ∷ xs} o j r e d) = tt
two_parts s a h (longer {xs = []} o j r e d) = absurd (some_parts d)

tuple_parts : (g : Head) {k : ℕ} {xs : List Node} (s : Sort) → is_apart s ≡ true → holds s k ≡ true → Parts signatures g k xs → is_tuple g ≡ true → HasTwoParts xs
tuple_parts g {k} {xs} s a h d e = two_parts s a h (subst (λ (z : Head). Parts signatures z k xs) (tuple_is g e) d)

-- Statements that write variables of a list.

same_item : (o p : Sort) (j k : ℕ) → item o j ≡ item p k → j ≡ k
same_item o p j k e = cc

not_whole : {A : Type 0} (o : Sort) (j : ℕ) → whole ≡ item o j → A
not_whole o j e = cc

statement_parts : {k : ℕ} {xs : List Node} → Parts signatures head.TupleStatement k xs → k ≡ statement_kind
statement_parts (own f) = refl
statement_parts (longer {k = k} o j r e d) = not_whole o j (sym (ap role (statement_parts d)) ∙ r)

nothing_in : {x : Node} → Is signatures [] x → ⊥
nothing_in (formed k m e d) = false≢true m
nothing_in (listed k o e r m n f) = false≢true m

no_more : {x : Node} {xs : List Node} → Fits signatures [] [] (x ∷ xs) → ⊥
no_more (more_fit d ds) = nothing_in d

two_statement : {k : ℕ} {xs : List Node} → Parts signatures head.TupleStatement k xs → AreTwo xs
two_statement (own (next d (next {xs = []} e f))) = tt
two_statement (own (next d (next {xs = x ∷ xs} e f))) = absurd (no_more f)
two_statement (longer {k = k} o j r e d) = not_whole o j (sym (ap role (statement_parts d)) ∙ r)

writing_parts : (g : Head) {k : ℕ} {xs : List Node} → Parts signatures g k xs → is_writing g ≡ true → AreTwo xs
writing_parts g {k} {xs} d e = two_statement (subst (λ (z : Head). Parts signatures z k xs) (writing_is g e) d)

-- Loops behind the first word of a statement.

writes_one : (h : Head) → (is_writing h ≡ true → ⊥) → WritesOne h
writes_one head.TupleStatement f = absurd (f refl)
writes_one _ f = tt

tail_writes : {x : Node} → Is signatures statement_tail_sort x → WritesOne (head_of x)
tail_writes {x} (formed k m e d) =
    writes_one (head_of x) (λ i. false≢true (subst (λ z. holds statement_tail_sort z ≡ true) (statement_parts (subst (λ (z : Head). Parts signatures z k (parts_of x)) (writing_is (head_of x) i) d)) m))
tail_writes {x} (listed k o e r m n f) = writes_one (head_of x) (λ i. false≢true (sym (ap is_writing e) ∙ i))

abbrev HasTail : List Node → Type 0
HasTail [] = ⊥
HasTail (t ∷ xs) = WritesOne (head_of t)

abbrev IsBehind : List Node → Type 0
IsBehind [] = ⊥
IsBehind (x ∷ xs) = HasTail xs

loop_behind : (v : Node) (xs : List Node) → IsBehind xs → HasItsParts head.NamedLoop (v ∷ xs)
loop_behind v [] h = absurd h
loop_behind v (x ∷ []) h = absurd h
loop_behind v (x ∷ t ∷ xs) h = h

-- a loop is of one of three kinds, by its parts
abbrev Stage : ℕ → List Node → Type 0
Stage k xs = ((k ≡ named_loop_kind) × HasTail xs) ⊎ (((k ≡ loop_item_kind) × IsBehind xs) ⊎ ((k ≡ loop_kind) × HasItsParts head.NamedLoop xs))

next_stage : (k j : ℕ) (o : Sort) (x : Node) (xs : List Node) → role k ≡ item o j → Stage k xs → Stage j (x ∷ xs)
next_stage k j o x xs r (inl (i, h)) = inr (inl (same_item o name_sort j loop_item_kind (sym r ∙ ap role i), h))
next_stage k j o x xs r (inr (inl (i, h))) = inr (inr (same_item o form_sort j loop_kind (sym r ∙ ap role i), loop_behind x xs h))
next_stage k j o x xs r (inr (inr (i, h))) = not_whole o j (sym (ap role i) ∙ r)

stage : {k : ℕ} {xs : List Node} → Parts signatures head.NamedLoop k xs → Stage k xs
stage (own (next d ds)) = inl (refl, tail_writes d)
stage (longer {k = k} {x = x} {xs = xs} o j r e d) = next_stage k j o x xs r (stage d)

of_stage : (s : Sort) → is_apart s ≡ true → (k : ℕ) (xs : List Node) → holds s k ≡ true → Stage k xs → HasItsParts head.NamedLoop xs
of_stage s a k xs m (inl (i, h)) = absurd ((no_item s a).1 (subst (λ z. holds s z ≡ true) i m))
of_stage s a k xs m (inr (inl (i, h))) = absurd ((no_item s a).0 (subst (λ z. holds s z ≡ true) i m))
of_stage s a k xs m (inr (inr (i, h))) = h

loop_parts : (g : Head) {k : ℕ} {xs : List Node} (s : Sort) → is_apart s ≡ true → holds s k ≡ true → Parts signatures g k xs → is_loop g ≡ true → HasItsParts head.NamedLoop xs
loop_parts g {k} {xs} s a m d e = of_stage s a k xs m (stage (subst (λ (z : Head). Parts signatures z k xs) (loop_is g e) d))

mutual
  pub in_sorts : {s : Sort} {x : Node} → is_apart s ≡ true → Is signatures s x → Each IsInSort x
  in_sorts {s} {x} a (formed k m e d) = each (record { tuple = tuple_parts (head_of x) s a m d; loop = loop_parts (head_of x) s a m d; writing = writing_parts (head_of x) d }) (parts_in d)
  in_sorts {s} {x} a (listed k o e r m n f) =
      each (record { tuple = λ i. absurd (false≢true (sym (ap is_tuple e) ∙ i)); loop = λ i. absurd (false≢true (sym (ap is_loop e) ∙ i)); writing = λ i. absurd (false≢true (sym (ap is_writing e) ∙ i)) })
      (nodes_in refl (subst (λ z. role_apart z ≡ true) r (roles_apart k)) f)

  parts_in : {h : Head} {k : ℕ} {xs : List Node} → Parts signatures h k xs → EachOf IsInSort xs
  parts_in {h} (own f) = let n = and_parts (list_all is_apart (signature h).parts.first) (is_apart (signature h).parts.rest) (heads_apart h) in nodes_in n.0 n.1 f
  parts_in (longer {k = k} o j r e d) = more (in_sorts (subst (λ z. role_apart z ≡ true) r (roles_apart k)) e) (parts_in d)

  nodes_in : {f : List Sort} {r : Sort} {xs : List Node} → list_all is_apart f ≡ true → is_apart r ≡ true → Fits signatures f r xs → EachOf IsInSort xs
  nodes_in a b end = none
  nodes_in a b (more_fit d ds) = more (in_sorts b d) (nodes_in refl b ds)
  nodes_in {f = s ∷ f} a b (next d ds) = let n = and_parts (is_apart s) (list_all is_apart f) a in more (in_sorts n.0 d) (nodes_in n.1 b ds)
