-- Pairs at the start: first values, and one for each read.
use Rattle.std.proofs.Common.{◌≡◌, inl, ℕ, zero, suc, ◌≤◌, ◌<◌, Bool, true, false, ◌||◌, if◌then◌else◌, Option, Some, List, [], ◌∷◌, ◌++◌, length, refl, ap, sym, ◌∙◌, subst, arith}
use Rattle.std.proofs.lemmas.Bool.{false≢true}
use Rattle.gb_core.specs.declared.ty.Ty.{Ty}
use Rattle.gb_core.specs.declared.ty.Ty.TheVariants as ty
use Rattle.gb_core.specs.declared.value.Value.{Value}
use Rattle.gb_terms.specs.declared.op.Read.{Read}
use Rattle.gb_terms.specs.Equal.{read_eq}
use Rattle.gb_meaning.specs.Names.{Name}
use Rattle.gb_meaning.specs.Values.{Types, values, first, has}
use Rattle.gb_meaning.specs.Setting.{Setting}
use Rattle.gb_meaning.specs.Meanings.{value_in}
use Rattle.gb_meaning.specs.State.{State}
use Rattle.gb_meaning.specs.Terms.{read_at}
use Rattle.gb_labels.specs.declared.things.Source.{Source}
use Rattle.gb_labels.specs.declared.things.Source.TheVariants.{Variable, Opened, Place}
use Rattle.gb_labels.specs.declared.things.Thing.{Thing}
use Rattle.gb_labels.specs.Things.{modules_of, is_once, is_noted}
use Rattle.gb_closing_laws.specs.Pairs.{IsPair, AreMatched, Pairing}
use Rattle.gb_closing_laws.specs.Related.{ReadTypes, Related}
use Rattle.gb_closing_laws.specs.Needs.{times, HasFirsts, HasRoom}
use Rattle.gb_closing_laws.specs.Model.{HasReadValues}
use Rattle.gb_closing_laws.proofs.Extending.{IsLonger, extend, related_longer}
use Rattle.gb_closing_laws.proofs.Noted.{Each, names_at, is_variable, names_of, read_is}
use Rattle.gb_closing_laws.proofs.Room.{times_first, times_more, room_assoc}

-- first values, where there is a use for them
abbrev pub firsts_for : Types → Types → Name → ℕ → List (Value × Value)
firsts_for t u m zero = []
firsts_for t u m (suc n) = (first t (ty.Glob m), first u (ty.Glob m)) ∷ []

-- they need as much room as one value that is there where they have a use
pub firsts_few : (t u : Types) (m : Name) (n k : ℕ) → (0 < n → 0 < k) → length (firsts_for t u m n) ≤ k
firsts_few t u m zero k l = omega arith
firsts_few t u m (suc n) k l = let a = l (omega arith) in omega (arith, a)

first_pair : (t u : Types) (m : Name) (n : ℕ) → 0 < n → IsPair (firsts_for t u m n) (first t (ty.Glob m)) (first u (ty.Glob m))
first_pair t u m zero l = absurd (omega arith)
first_pair t u m (suc n) l = inl (refl, refl)

-- of the modules of a list
module _ (t u : Types) (opened : List Name)
    (there : (m : Name) → 0 < times m opened → (has t (ty.Glob m) (first t (ty.Glob m)) ≡ true) × (has u (ty.Glob m) (first u (ty.Glob m)) ≡ true)) where
  pub matched_firsts : (m : Name) (n : ℕ) → (0 < n → (has t (ty.Glob m) (first t (ty.Glob m)) ≡ true) × (has u (ty.Glob m) (first u (ty.Glob m)) ≡ true)) →
      AreMatched (values t (ty.Glob m)) (values u (ty.Glob m)) (firsts_for t u m n)
  matched_firsts m zero k = tt
  matched_firsts m (suc n) k = (k (omega arith), tt, tt)

  abbrev pub starting : Pairing t u
  starting = record { pairs = λ m. firsts_for t u m (times m opened); matched = λ m. matched_firsts m (times m opened) (there m) }

  firsts_there : (ms : List Name) → ((m : Name) → times m ms ≤ times m opened) → HasFirsts t u starting.pairs ms
  firsts_there [] k = tt
  firsts_there (m ∷ ms) k =
      let a = k m in
      let b = times_first m ms in
      (first_pair t u m (times m opened) (omega (arith, a, b)), firsts_there ms (λ n. let c = k n in let d = times_more n m ms in omega (arith, c, d)))

  pub has_firsts : HasFirsts t u starting.pairs opened
  has_firsts = firsts_there opened (λ m. omega arith)

-- a read of a type whose parts are counted
abbrev pub LabelledAt : ReadTypes → Source → Ty → List Name → Type 0
LabelledAt T (Variable r) a ms = (T r ≡ Some a) × (modules_of a ≡ Some ms)
LabelledAt T _ a ms = Unit {0}

abbrev pub IsLabelled : ReadTypes → Thing → Type 0
IsLabelled T x = LabelledAt T x.source x.ty (names_at x)

same_type : (a b : Ty) (o : Option Ty) → o ≡ Some a → o ≡ Some b → a ≡ b
same_type a b o e f = cc

module _ (g h : Setting) (same_sizes : g.types.size ≡ h.types.size) (T : ReadTypes) (s : State) (held : HasReadValues g T s) (own : Read → Value) where
  -- values that are related to those of the reads that are noted
  pub record Chosen (P : Pairing g.types h.types) (is_there : Read → Bool) (ns : List Name) : Type 0 where
    pub pairing : Pairing g.types h.types
    pub longer : IsLonger g.types h.types P pairing
    pub room : HasRoom g.types h.types pairing.pairs ns
    pub label : Read → Value
    pub related : (r : Read) (a : Ty) → T r ≡ Some a → is_there r ≡ true → Related g.types h.types pairing.pairs a (value_in (read_at g r a s)) (label r)
    pub other : (r : Read) → is_there r ≡ false → label r ≡ own r

  one_chosen : (o : Source) (a : Ty) (ms : List Name) (xs : List Thing) → LabelledAt T o a ms → (P : Pairing g.types h.types) (ns : List Name) →
      HasRoom g.types h.types P.pairs (((if is_variable o then ms else []) ++ names_of is_variable xs) ++ ns) →
      ((Q : Pairing g.types h.types) → HasRoom g.types h.types Q.pairs (names_of is_variable xs ++ ns) → Chosen Q (λ r. is_noted xs (Variable r)) ns) →
      Chosen P (λ r. is_once (Variable r) o || is_noted xs (Variable r)) ns
  one_chosen (Opened t) a ms xs l P ns room rest = rest P room
  one_chosen Place a ms xs l P ns room rest = rest P room
  one_chosen (Variable q) a ms xs l P ns room rest =
      let v = held q a l.0 in
      let n = extend g.types h.types same_sizes a ms l.1 P (names_of is_variable xs ++ ns) v.0 v.2 (room_assoc g.types h.types P.pairs ms (names_of is_variable xs) ns room) in
      let c = rest n.pairing n.room in
      let here : Related g.types h.types c.pairing.pairs a (value_in (read_at g q a s)) n.value =
      subst (λ z. Related g.types h.types c.pairing.pairs a (value_in z) n.value) (sym v.1) (related_longer g.types h.types n.pairing c.pairing c.longer a v.0 n.value n.related) in
      record {
        pairing = c.pairing;
        longer = λ m y z k. c.longer m y z (n.longer m y z k);
        room = c.room;
        label = λ r. if read_eq q r then n.value else c.label r;
        related = λ r b e k. at_read c.pairing n.value c.label here c.related r b e (read_eq q r) refl k;
        other = λ r k. at_other n.value c.label c.other r (read_eq q r) k;
      }
    where
      at_read : (Q : Pairing g.types h.types) (w : Value) (label : Read → Value) → Related g.types h.types Q.pairs a (value_in (read_at g q a s)) w →
          ((r : Read) (b : Ty) → T r ≡ Some b → is_noted xs (Variable r) ≡ true → Related g.types h.types Q.pairs b (value_in (read_at g r b s)) (label r)) →
          (r : Read) (b : Ty) → T r ≡ Some b → (d : Bool) → read_eq q r ≡ d → (d || is_noted xs (Variable r)) ≡ true → Related g.types h.types Q.pairs b (value_in (read_at g r b s)) (if d then w else label r)
      at_read Q w label here others r b e true p k =
          subst (λ z. Related g.types h.types Q.pairs b (value_in (read_at g z b s)) w) (read_is q r p)
          (subst (λ z. Related g.types h.types Q.pairs z (value_in (read_at g q z s)) w) (same_type a b (T q) l.0 (ap T (read_is q r p) ∙ e)) here)
      at_read Q w label here others r b e false p k = others r b e k

      at_other : (w : Value) (label : Read → Value) → ((r : Read) → is_noted xs (Variable r) ≡ false → label r ≡ own r) → (r : Read) (d : Bool) → (d || is_noted xs (Variable r)) ≡ false →
          (if d then w else label r) ≡ own r
      at_other w label others r true k = absurd (false≢true (sym k))
      at_other w label others r false k = others r k

  pub choose : (xs : List Thing) → Each (IsLabelled T) xs → (P : Pairing g.types h.types) (ns : List Name) → HasRoom g.types h.types P.pairs (names_of is_variable xs ++ ns) →
      Chosen P (λ r. is_noted xs (Variable r)) ns
  choose [] k P ns room = record {
    pairing = P;
    longer = λ m y z q. q;
    room = room;
    label = own;
    related = λ r a e n. absurd (false≢true n);
    other = λ r n. refl;
  }
  choose (x ∷ xs) k P ns room = one_chosen x.source x.ty (names_at x) xs k.0 P ns room (λ Q r. choose xs k.1 Q ns r)
