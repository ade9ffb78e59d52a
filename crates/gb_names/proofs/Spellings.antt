-- What types spell, head by head, and what the parts of a tuple spell.
use Rattle.std.proofs.Common.{◌≡◌, ℕ, zero, suc, ◌+◌, ◌<◌, ◌≤◌, List, [], ◌∷◌, ◌++◌, map, min, length, get_or, take, drop, Option, None, refl, ap, sym, ◌∙◌, arith}
use Rattle.std.proofs.lemmas.List.{append_assoc, drop_all, get_or-take, length-take}
use Rattle.gb_core.specs.declared.place.Place.{Place}
use Rattle.gb_core.specs.declared.ty.Ty.{Ty}
use Rattle.gb_core.specs.declared.ty.Ty.TheVariants as ty
use Rattle.gb_core.specs.declared.refusal.Refused.{Refused}
use Rattle.gb_script.specs.declared.head.Head.{Head}
use Rattle.gb_script.specs.declared.head.Head.TheVariants as head
use Rattle.gb_script.specs.declared.tree.Node.{Node}
use Rattle.gb_script.specs.Tree.{head_of, text_of, parts_of, place_of}
use Rattle.gb_goal.specs.Answers.{Answer, ◌>>=◌, Fails, not_built}
use Rattle.gb_goal.specs.Answers.Answer.{given, refused}
use Rattle.gb_goal.specs.Scope.{Declarations}
use Rattle.gb_names.specs.Types.{all_given, all_spelled, map_type, number_type, number_typing, option_type, spelling, spelled, with_number_types, with_spellings, words, Spelling}
use Rattle.gb_names.proofs.Answers.{passes}
use Rattle.gb_names.proofs.Nodes.{said_is}
use Rattle.gb_names.proofs.Parts.{left, one, two}

pub spelled_is : (t : Node) (ds : Declarations) (p : Place)
    → spelled t ds p ≡ spelling (head_of t) (text_of t) (with_spellings (parts_of t)) (place_of t) ds p
unfolding spelled
spelled_is t ds p = ap (λ f. f ds p) (said_is (λ h x ps q. spelling h x ps q) t)

pub words_are : (ts : List Node) → words (with_spellings ts) ≡ ts
words_are [] = refl
words_are (t ∷ ts) = ap (λ us. t ∷ us) (words_are ts)

pub no_type : (h : Head) (x : List ℕ) (us : List (Node × Spelling)) (q : Place) (ds : Declarations) (p : Place) → (h ≡ head.PlainType → ⊥) → (h ≡ head.IntType → ⊥) → (h ≡ head.BitsType → ⊥)
    → (h ≡ head.BracketedType → ⊥) → (h ≡ head.MapType → ⊥) → (h ≡ head.ProductType → ⊥) → (h ≡ head.OptionType → ⊥) → (h ≡ head.Name → ⊥) → (h ≡ head.Path → ⊥)
    → spelling h x us q ds p ≡ not_built p
unfolding spelling
no_type head.PlainType x us q ds p a b c d e f g i j = absurd (a refl)
no_type head.IntType x us q ds p a b c d e f g i j = absurd (b refl)
no_type head.BitsType x us q ds p a b c d e f g i j = absurd (c refl)
no_type head.BracketedType x us q ds p a b c d e f g i j = absurd (d refl)
no_type head.MapType x us q ds p a b c d e f g i j = absurd (e refl)
no_type head.ProductType x us q ds p a b c d e f g i j = absurd (f refl)
no_type head.OptionType x us q ds p a b c d e f g i j = absurd (g refl)
no_type head.Name x us q ds p a b c d e f g i j = absurd (i refl)
no_type head.Path x us q ds p a b c d e f g i j = absurd (j refl)
no_type _ x us q ds p a b c d e f g i j = refl

-- maps and options, by their parts
module _ (ds : Declarations) (p : Place) where
  abbrev pub map_of : Node → Ty → Answer Ty
  map_of b t = spelled b ds p >>= λ u. given (ty.Map t u)

  abbrev pub option_of : Ty → Answer Ty
  option_of t = given (ty.Opt t)

  pub map_is : (ts : List Node) (a b : Node) → 2 ≤ length ts → length ts < 3 → a ≡ get_or ts 0 a → b ≡ get_or ts 1 b → map_type (with_spellings ts) ds p ≡ (spelled a ds p >>= map_of b)
  map_is ts a b h k e f = ap (λ us. map_type (with_spellings us) ds p) (two ts a b h k e f)

  pub option_is : (ts : List Node) (a : Node) → 1 ≤ length ts → length ts < 2 → a ≡ get_or ts 0 a → option_type (with_spellings ts) ds p ≡ (spelled a ds p >>= option_of)
  option_is ts a h k e = ap (λ us. option_type (with_spellings us) ds p) (one ts a h k e)

-- what the parts of a tuple spell
abbrev pub answers : Declarations → Place → List Node → List (Answer Ty)
answers ds p ts = map (λ t. spelled t ds p) ts

-- with further ones behind those that are there
abbrev pub behind : List Ty → Answer (List Ty) → Answer (List Ty)
behind ts a = a >>= λ us. given (ts ++ us)

pub first_answers : (n : ℕ) (ds : Declarations) (p : Place) (ts : List Node) → all_spelled (take n (with_spellings ts)) ds p ≡ all_given (answers ds p (take n ts))
first_answers n ds p ts = ap all_given (each n ts)
  where
    each : (n : ℕ) (ts : List Node) → map (λ (a : Node × Spelling). a.1 ds p) (take n (with_spellings ts)) ≡ answers ds p (take n ts)
    each zero ts = refl
    each (suc n) [] = refl
    each (suc n) (t ∷ ts) = ap (λ xs. spelled t ds p ∷ xs) (each n ts)

pub behind_none : (a : Answer (List Ty)) → a ≡ behind [] a
behind_none (given ts) = refl
behind_none (refused w p) = refl

pub behind_one : (ts : List Ty) (t : Ty) (a : Answer Ty) (rest : List (Answer Ty)) → a ≡ given t → behind ts (all_given (a ∷ rest)) ≡ behind (ts ++ t ∷ []) (all_given rest)
behind_one ts t a rest e = ap (λ z. behind ts (all_given (z ∷ rest))) e ∙ next (all_given rest)
  where
    next : (b : Answer (List Ty)) → behind ts (b >>= λ us. given (t ∷ us)) ≡ behind (ts ++ t ∷ []) b
    next (given us) = ap given (sym (append_assoc ts (t ∷ []) us))
    next (refused w p) = refl

pub behind_refused : (ts : List Ty) (a : Answer Ty) (rest : List (Answer Ty)) (e : Refused) → Fails a e → Fails (behind ts (all_given (a ∷ rest))) e
behind_refused ts a rest e h = passes (all_given (a ∷ rest)) (λ us. given (ts ++ us)) e (passes a (λ x. all_given rest >>= λ xs. given (x ∷ xs)) e h)

-- what is left of the first parts, at one of them and behind all
module _ (n i : ℕ) (ts : List Node) where
  pub next_part : (x : Node) → i < min (length ts) n → x ≡ get_or ts i x → drop i (take n ts) ≡ x ∷ drop (i + 1) (take n ts)
  next_part x h e = left (take n ts) i x (rw (length-take n ts) (omega (arith, h))) (e ∙ sym (get_or-take n ts i x (omega (arith, h))))

  pub no_part : min (length ts) n ≤ i → drop i (take n ts) ≡ []
  no_part h = drop_all i (take n ts) (rw (length-take n ts) (omega (arith, h)))

pub number_type_is : (t : Node) → number_type t ≡ number_typing (head_of t) (text_of t) (with_number_types (parts_of t))
unfolding number_type
number_type_is t = said_is (λ h x ps p. number_typing h x ps) t

pub no_number_type : (h : Head) (x : List ℕ) (ps : List (Node × Option Ty)) → (h ≡ head.PlainType → ⊥) → (h ≡ head.IntType → ⊥) → (h ≡ head.BracketedType → ⊥) → number_typing h x ps ≡ None
unfolding number_typing
no_number_type head.PlainType x ps a b c = absurd (a refl)
no_number_type head.IntType x ps a b c = absurd (b refl)
no_number_type head.BracketedType x ps a b c = absurd (c refl)
no_number_type _ x ps a b c = refl
