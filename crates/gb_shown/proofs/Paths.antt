-- Names with dots between them: one alone, and one behind others.
use Rattle.std.proofs.Common.{◌≡◌, ℕ, ◌==◌, Bool, true, false, ◌&&◌, if◌then◌else◌, List, [], ◌∷◌, ◌++◌, refl, ap, sym, ◌∙◌, subst}
use Rattle.std.proofs.lemmas.Bool.{false≢true}
use Rattle.std.specs.List.{list_all}
use Rattle.gb_print.specs.Nodes.{with_byte, words}
use Rattle.gb_print.specs.Written.{is_name_text, is_path}
use Rattle.gb_print.proofs.LeavesShown.{all_bytes, one_word}
use Rattle.gb_print.proofs.NameWords.{name_facts}

pub name_is_path : (x : List ℕ) → is_name_text x ≡ true → is_path x ≡ true
name_is_path x h =
    let one : words x ≡ x ∷ [] = one_word x (all_bytes x (name_facts x h).0) in
    subst (λ ws. list_all is_name_text ws ≡ true) (sym one) (alone (is_name_text x) h)
  where
    alone : (b : Bool) → b ≡ true → (b && true) ≡ true
    alone true k = refl
    alone false k = k

-- the words of a name are one at least
pub data HasWord : List (List ℕ) → Type 0 where
  word : (w : List ℕ) (ws : List (List ℕ)) → HasWord (w ∷ ws)

with_first : (b : ℕ) (ws : List (List ℕ)) → HasWord ws → HasWord (with_byte b ws)
with_first b (w ∷ ws) h = word (b ∷ w) ws
with_first b [] h = elim h [ ]

has_word : (x : List ℕ) → HasWord (words x)
has_word [] = word [] []
has_word (b ∷ x) = by_dot (b == 46) (has_word x)
  where
    by_dot : (t : Bool) → HasWord (words x) → HasWord (if t then [] ∷ words x else with_byte b (words x))
    by_dot true h = word [] (words x)
    by_dot false h = with_first b (words x) h

behind_first : (b : ℕ) (vs ws : List (List ℕ)) → HasWord vs → with_byte b (vs ++ ws) ≡ with_byte b vs ++ ws
behind_first b (v ∷ vs) ws h = refl
behind_first b [] ws h = elim h [ ]

-- a dot stands between words
words_around : (m x : List ℕ) → words (m ++ 46 ∷ x) ≡ words m ++ words x
words_around [] x = refl
words_around (b ∷ m) x = by_dot (b == 46) (words_around m x)
  where
    by_dot : (t : Bool) → words (m ++ 46 ∷ x) ≡ words m ++ words x → (if t then [] ∷ words (m ++ 46 ∷ x) else with_byte b (words (m ++ 46 ∷ x))) ≡ (if t then [] ∷ words m else with_byte b (words m)) ++ words x
    by_dot true e = ap (λ ws. [] ∷ ws) e
    by_dot false e = ap (with_byte b) e ∙ behind_first b (words m) (words x) (has_word m)

all_both : (vs ws : List (List ℕ)) → list_all is_name_text vs ≡ true → list_all is_name_text ws ≡ true → list_all is_name_text (vs ++ ws) ≡ true
all_both [] ws h k = k
all_both (v ∷ vs) ws h k = step (is_name_text v) (λ i. all_both vs ws i k) h
  where
    step : (b : Bool) → (list_all is_name_text vs ≡ true → list_all is_name_text (vs ++ ws) ≡ true) → (b && list_all is_name_text vs) ≡ true → (b && list_all is_name_text (vs ++ ws)) ≡ true
    step true behind i = behind i
    step false behind i = absurd (false≢true i)

pub path_behind : (m x : List ℕ) → is_path m ≡ true → is_path x ≡ true → is_path (m ++ 46 ∷ x) ≡ true
path_behind m x h k = subst (λ ws. list_all is_name_text ws ≡ true) (sym (words_around m x)) (all_both (words m) (words x) h k)
