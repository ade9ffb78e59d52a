-- Lines of an input, from those of a text that it begins with.
use Rattle.std.proofs.Common.{◌≡◌, ◌⊎◌, inl, inr, ℕ, zero, suc, ◌-◌, ◌<◌, ◌≤◌, Bool, true, false, List, [], ◌∷◌, ◌++◌, length, take, drop, arith, refl, ap, sym, subst, ◌∙◌, if◌then◌else◌, append_assoc, length-append, length-drop}
use Rattle.std.specs.Prelude.{not, nat_lt}
use Rattle.std.proofs.lemmas.Bool.Decides.{nat_tests}
use Rattle.std.proofs.lemmas.List.{append-nil, take-append-le, drop-drop}
use Rattle.gb_core.specs.declared.place.Place.{Place}
use Rattle.gb_lex.specs.declared.token.Cut.{Cut}
use Rattle.gb_lex.specs.declared.token.Cut.TheVariants.{Command, Rest, End}
use Rattle.gb_lex.specs.Lex.{cut_of}
use Rattle.gb_lex.specs.PlaceAfter.{place_after}
use Rattle.gb_goal.specs.Answers.{Answer}
use Rattle.gb_theory.specs.Outcome.{start}
use Rattle.gb_session.specs.History.{History, fresh_history}
use Rattle.gb_session.specs.Commands.{EntryLeads}
use Rattle.gb_theory.proofs.Cuts.{cut_of-within, cut_of-rest, cut_of-End, cut_of-Rest}
use Rattle.gb_app.specs.Screens.{input_name, AreScreens, told, behind, counted, line_of, kept_line, length_line, unclosed_line, Closes, Tells, Writes, is_long}
use Rattle.gb_app.specs.Typing.{Typed, IsInput, IsWithin, IsNoLine, TailOf, LeadsOn}
use Rattle.gb_app.proofs.Stable.{cut_stays}

-- a test of numbers is true where it holds, and false where it doesn't
is_less : (k n : ℕ) (t : Bool) → nat_lt k n ≡ t → k < n → nat_lt k n ≡ true
is_less k n true e h = e
is_less k n false e h = absurd (let more : n ≤ k = grind (arith, nat_tests) in omega (arith, more, h))

not_less : (k n : ℕ) (t : Bool) → nat_lt k n ≡ t → n ≤ k → nat_lt k n ≡ false
not_less k n true e h = absurd (let less : k < n = grind (arith, nat_tests) in omega (arith, less, h))
not_less k n false e h = e

less_of : (k n : ℕ) (t : Bool) → nat_lt k n ≡ t → not t ≡ false → k < n
less_of k n true e f = grind (arith, nat_tests)
less_of k n false e f = absurd (cc)

-- a line with a byte behind it counts
pub counted_inside : (g : Bool) (n k : ℕ) → k < n → counted g n (Command k) ≡ Command k
counted_inside true n k h = rw (is_less k n (nat_lt k n) refl h) refl
counted_inside false n k h = refl

pub counted_ended : (n : ℕ) (c : Cut) → counted false n c ≡ c
counted_ended n (Command k) = refl
counted_ended n End = refl
counted_ended n Rest = refl

chosen : (t : Bool) (to k : ℕ) → (if t then Rest else Command to) ≡ Command k → (t ≡ false) × (to ≡ k)
chosen true to k e = absurd (cc)
chosen false to k e = let is : to ≡ k = cc in (refl, is)

-- a line that counts is a cut, and where the input goes on a byte stands behind it
pub of_counted : (g : Bool) (n : ℕ) (c : Cut) (k : ℕ) → counted g n c ≡ Command k → (c ≡ Command k) × (g ≡ true → k < n)
of_counted true n (Command to) k e =
    let x = chosen (not (nat_lt to n)) to k e in
    (ap Command x.1, λ on. let less = less_of to n (nat_lt to n) refl x.0 in omega (arith, less, x.1))
of_counted false n (Command to) k e = (e, λ on. absurd (cc))
of_counted g n End k e = absurd (cc)
of_counted g n Rest k e = absurd (cc)

-- a line has a byte at least, and ends within its text
pub line-within : (g : Bool) (rest : List ℕ) (k : ℕ) → line_of g rest ≡ Command k → (0 < k) × (k ≤ length rest)
line-within g rest k e = cut_of-within rest 0 k (omega arith) (of_counted g (length rest) (cut_of rest 0) k e).0

take_front : (n : ℕ) (xs ys : List ℕ) → length xs ≤ n → take n (xs ++ ys) ≡ xs ++ take (n - length xs) ys
take_front n [] ys h = ap (λ (k : ℕ). take k ys) (omega arith)
take_front zero (x ∷ xs) ys h = absurd (omega (arith, h))
take_front (suc n) (x ∷ xs) ys h =
    ap (λ (zs : List ℕ). x ∷ zs) (take_front n xs ys (omega (arith, h)) ∙ ap (λ (k : ℕ). xs ++ take k ys) (omega arith))

drop_front : (n : ℕ) (xs ys : List ℕ) → n ≤ length xs → drop n (xs ++ ys) ≡ drop n xs ++ ys
drop_front zero xs ys h = refl
drop_front (suc n) [] ys h = absurd (omega (arith, h))
drop_front (suc n) (x ∷ xs) ys h = drop_front n xs ys (omega (arith, h))

no_front : (n : ℕ) (xs : List ℕ) → xs ≡ [] → take n xs ≡ []
no_front zero [] e = refl
no_front (suc n) [] e = refl
no_front n (x ∷ xs) e = absurd (cc)

-- what stands behind a place of an input that begins with a text
rest_in : (most : ℕ) (input text more : List ℕ) (from : ℕ) → input ≡ text ++ more → length text ≤ most → from ≤ length text
    → drop from (take most input) ≡ drop from text ++ take (most - length text) more
rest_in most input text more from e size within =
    ap (λ (xs : List ℕ). drop from (take most xs)) e ∙ ap (drop from) (take_front most text more size)
    ∙ drop_front from text (take (most - length text) more) within

-- an input that ended isn't too long
pub short : (input text more : List ℕ) → input ≡ text ++ more → more ≡ [] → length text ≤ 1048576 → is_long input ≡ false
short input text more e none size =
    let same : length input ≡ length text = ap length (e ∙ ap (λ (xs : List ℕ). text ++ xs) none ∙ append-nil text) in
    not_less 1048576 (length input) (nat_lt 1048576 (length input)) refl (omega (arith, same, size))

line_stays : (ended g : Bool) (s m : List ℕ) (k : ℕ) → cut_of s 0 ≡ Command k → (not ended ≡ true → k < length s) → (ended ≡ true → m ≡ [])
    → (ended ≡ true → g ≡ false) → line_of g (s ++ m) ≡ Command k
line_stays false g s m k e less none closed =
    let inside : k < length s = less refl in
    subst (λ (c : Cut). counted g (length (s ++ m)) c ≡ Command k) (sym (cut_stays s m k e inside))
    (counted_inside g (length (s ++ m)) k (omega (arith, length-append s m, inside)))
line_stays true g s m k e less none closed =
    subst (λ (x : Bool). counted x (length (s ++ m)) (cut_of (s ++ m) 0) ≡ Command k) (sym (closed refl))
    (counted_ended (length (s ++ m)) (cut_of (s ++ m) 0)
    ∙ ap (λ (xs : List ℕ). cut_of (s ++ xs) 0) (none refl) ∙ ap (λ (xs : List ℕ). cut_of xs 0) (append-nil s) ∙ e)

-- a cut of a text is a line of it where the input ended, or a byte stands behind it
pub line_there : (ended : Bool) (text : List ℕ) (from to : ℕ) → from ≤ length text → from < to → cut_of text from ≡ Command to → (ended ≡ false → to < length text)
    → line_of (not ended) (drop from text) ≡ Command (to - from)
line_there true text from to within some e behind = counted_ended (length (drop from text)) (cut_of (drop from text) 0) ∙ cut_of-rest text from to e
line_there false text from to within some e behind =
    let less : to < length text = behind refl in
    ap (counted true (length (drop from text))) (cut_of-rest text from to e)
    ∙ counted_inside true (length (drop from text)) (to - from) (omega (arith, length-drop from text, less, some))

-- a line that has no byte behind it doesn't count where the input goes on
counted_outside : (n k : ℕ) → n ≤ k → counted true n (Command k) ≡ Rest
counted_outside n k h = rw (not_less k n (nat_lt k n) refl h) refl

pub line_waits : (text : List ℕ) (from to : ℕ) → from ≤ length text → from < to → cut_of text from ≡ Command to → length text ≤ to → IsNoLine (line_of true (drop from text))
line_waits text from to within some e over =
    subst IsNoLine (sym (ap (counted true (length (drop from text))) (cut_of-rest text from to e)
    ∙ counted_outside (length (drop from text)) (to - from) (omega (arith, length-drop from text, over, some, within)))) tt

-- a text that holds no whole command has no line
pub no_line : (g : Bool) (text : List ℕ) (from : ℕ) (c : Cut) → c ≡ cut_of text from → (c ≡ End) ⊎ (c ≡ Rest) → IsNoLine (line_of g (drop from text))
no_line g text from c is (inl e) = subst (λ (x : Cut). IsNoLine (counted g (length (drop from text)) x)) (sym (cut_of-End text from (sym is ∙ e))) tt
no_line g text from c is (inr e) = subst (λ (x : Cut). IsNoLine (counted g (length (drop from text)) x)) (sym (cut_of-Rest text from (sym is ∙ e))) tt

-- an input that goes on behind the longest text is too long
pub long : (input text more : List ℕ) → input ≡ text ++ more → length text ≡ 1048576 → 0 < length more → is_long input ≡ true
long input text more e size some =
    let same : length input ≡ length (text ++ more) = ap length e in
    is_less 1048576 (length input) (nat_lt 1048576 (length input)) refl (omega (arith, same, size, some, length-append text more))

-- its first bytes are the text
pub first_bytes : (most : ℕ) (input text more : List ℕ) → input ≡ text ++ more → length text ≡ most → take most input ≡ text
first_bytes most input text more e size =
    let none : most - length text ≡ 0 = omega (arith, size) in
    ap (take most) e ∙ take_front most text more (omega (arith, size)) ∙ ap (λ (k : ℕ). text ++ take k more) none ∙ append-nil text

-- a line of a text is one of each input that begins with the text
pub line_in : (ended : Bool) (input text : List ℕ) (from k : ℕ) → IsInput ended text input → length text ≤ 1048576 → from ≤ length text
    → line_of (not ended) (drop from text) ≡ Command k
    → (line_of (is_long input) (drop from (take 1048576 input)) ≡ Command k) × (take k (drop from (take 1048576 input)) ≡ take k (drop from text))
line_in ended input text from k is size within line =
    let s : List ℕ = drop from text in
    let m : List ℕ = take (1048576 - length text) is.0 in
    let r : drop from (take 1048576 input) ≡ s ++ m = rest_in 1048576 input text is.0 from is.1 size within in
    let c = of_counted (not ended) (length s) (cut_of s 0) k line in
    let stays : line_of (is_long input) (s ++ m) ≡ Command k =
    line_stays ended (is_long input) s m k c.0 c.1 (λ e. no_front (1048576 - length text) is.0 (is.2 e))
    (λ e. short input text is.0 is.1 (is.2 e) size) in (
      subst (λ (xs : List ℕ). line_of (is_long input) xs ≡ Command k) (sym r) stays,
      ap (take k) r ∙ take-append-le k s m (line-within (not ended) s k line).1,
    )

moved : (n : ℕ) (g : Bool) (h j : History) (at place : Place) (xs ys out : List ℕ) → h ≡ j → at ≡ place → xs ≡ ys → Writes n g h at xs out → Writes n g j place ys out
moved n g h j at place xs ys out a b c w =
    subst (λ (x : History). Writes n g x place ys out) a (subst (λ (x : Place). Writes n g h x ys out) b (subst (λ (x : List ℕ). Writes n g h at x out) c w))

-- a line that is answered leads on
pub line_on : (ended : Bool) (t u : Typed) (to : ℕ) (r : Answer History) → IsWithin t.text t.point → t.point.from < to
    → line_of (not ended) (drop t.point.from t.text) ≡ Command (to - t.point.from)
    → EntryLeads t.session (take (to - t.point.from) (drop t.point.from t.text)) t.point.at r
    → u.session ≡ behind t.session r → u.point.at ≡ place_after t.point.at (take (to - t.point.from) (drop t.point.from t.text)) → u.point.from ≡ to
    → LeadsOn ended t u (told r)
line_on ended t u to r within less line entry session at from = λ input out is tail.
    let k : ℕ = to - t.point.from in
    let l = line_in ended input t.text t.point.from k is within.size within.from line in
    let rest : List ℕ = drop t.point.from (take 1048576 input) in
    let there : drop k rest ≡ drop to (take 1048576 input) = drop-drop k t.point.from (take 1048576 input) ∙ ap (λ (n : ℕ). drop n (take 1048576 input)) (omega arith) in
    let on : Writes tail.0 (is_long input) (behind t.session r) (place_after t.point.at (take k rest)) (drop k rest) out =
    moved tail.0 (is_long input) u.session (behind t.session r) u.point.at (place_after t.point.at (take k rest)) (drop u.point.from (take 1048576 input)) (drop k rest) out
    session (at ∙ ap (place_after t.point.at) (sym l.1)) (ap (λ (n : ℕ). drop n (take 1048576 input)) from ∙ sym there) tail.1 in (
      suc tail.0,
      subst (λ (c : Cut). Tells c (Writes tail.0 (is_long input)) t.session t.point.at rest (told r ++ out)) (sym l.0)
          (r, subst (λ (p : List ℕ). EntryLeads t.session p t.point.at r) (sym l.1) entry, (out, on, refl)),
    )

-- where nothing is answered nothing changes
pub stays : (ended : Bool) (t : Typed) → LeadsOn ended t t []
stays ended t = λ input out is tail. tail

-- one answer behind another
pub goes_on : (ended : Bool) (t u v : Typed) (a b : List ℕ) → u.text ≡ t.text → LeadsOn ended t u a → LeadsOn ended u v b → LeadsOn ended t v (a ++ b)
goes_on ended t u v a b text first second = λ input out is tail.
    subst (λ (x : List ℕ). TailOf t input x) (sym (append_assoc a b out))
    (first input (b ++ out) is (second input out (subst (λ x. IsInput ended x input) (sym text) is) tail))

-- where each line comes to something
module _ (answers : (h : History) (text : List ℕ) (at : Place) → (r : Answer History) × EntryLeads h text at r) where
  abbrev Some_text : Bool → History → Place → List ℕ → Type 0
  Some_text g h at rest = (n : ℕ) × (out : List ℕ) × Writes n g h at rest out

  some : (c : Cut) (g : Bool) (h : History) (at : Place) (rest : List ℕ) → line_of g rest ≡ c
      → ((k : ℕ) → line_of g rest ≡ Command k → (next : History) (place : Place) → Some_text g next place (drop k rest)) → Some_text g h at rest
  some (Command k) g h at rest e go =
      let r = answers h (take k rest) at in
      let more = go k e (behind h r.0) (place_after at (take k rest)) in
      (suc more.0, told r.0 ++ more.1, subst (λ (c : Cut). Tells c (Writes more.0 g) h at rest (told r.0 ++ more.1)) (sym e) (r.0, r.1, (more.1, more.2, refl)))
  some End true h at rest e go = (zero, length_line, subst (λ (c : Cut). Closes true c h at rest length_line) (sym e) refl)
  some Rest true h at rest e go = (zero, length_line, subst (λ (c : Cut). Closes true c h at rest length_line) (sym e) refl)
  some End false h at rest e go =
      let out : List ℕ = kept_line (length h.earlier) in (zero, out, subst (λ (c : Cut). Closes false c h at rest out) (sym e) refl)
  some Rest false h at rest e go =
      let out : List ℕ = unclosed_line (place_after at rest) ++ kept_line (length h.earlier) in
      (zero, out, subst (λ (c : Cut). Closes false c h at rest out) (sym e) refl)

  some_within : (size : ℕ) (g : Bool) (h : History) (at : Place) (rest : List ℕ) → length rest ≤ size → Some_text g h at rest
  some_within zero g h at rest within =
      some (line_of g rest) g h at rest refl (λ k e next place. absurd (let l = line-within g rest k e in omega (arith, l.0, l.1, within)))
  some_within (suc size) g h at rest within =
      some (line_of g rest) g h at rest refl
      (λ k e next place. some_within size g next place (drop k rest) (let l = line-within g rest k e in omega (arith, l.0, l.1, within, length-drop k rest)))

  -- each input has screens
  pub some_screens : (input : List ℕ) → (out : List ℕ) × AreScreens input out
  some_screens input =
      let rest : List ℕ = take 1048576 input in
      let x = some_within (length rest) (is_long input) (fresh_history input_name true) start rest (omega arith) in
      (x.1, (x.0, x.2))

  -- something is written for each input from here on
  pub some_tail : (t : Typed) (input : List ℕ) → (out : List ℕ) × TailOf t input out
  some_tail t input =
      let rest : List ℕ = drop t.point.from (take 1048576 input) in
      let x = some_within (length rest) (is_long input) t.session t.point.at rest (omega arith) in
      (x.1, (x.0, x.2))
