-- The places that variables name.
use Rattle.std.proofs.Common.{◌≢◌, List, [], ◌∷◌, ◌++◌}
use Rattle.std.specs.List.{AllByRecursion}
use Rattle.gb_core.specs.declared.var.Var.{Var}
use Rattle.gb_meaning.specs.Values.{Types}
use Rattle.gb_laws.specs.Cells.{Key}
use Rattle.gb_laws.specs.Writes.{keys_of, IsNone, Spares}

-- of each place that one of these variables names
abbrev pub EachNamed : Types → (Key → Type 0) → List Var → Type 0
EachNamed t P xs = AllByRecursion (λ x. AllByRecursion P (keys_of t x)) xs

pub named_append : (t : Types) (P : Key → Type 0) (xs ys : List Var) → EachNamed t P (xs ++ ys) → EachNamed t P xs × EachNamed t P ys
named_append t P [] ys h = (tt, h)
named_append t P (x ∷ xs) ys h = let z = named_append t P xs ys h.1 in ((h.0, z.0), z.1)

pub named_both : (t : Types) (P : Key → Type 0) (xs ys : List Var) → EachNamed t P xs → EachNamed t P ys → EachNamed t P (xs ++ ys)
named_both t P [] ys h k = k
named_both t P (x ∷ xs) ys h k = (h.0, named_both t P xs ys h.1 k)

keys_weaken : (P Q : Key → Type 0) → ((k : Key) → P k → Q k) → (ks : List Key) → AllByRecursion P ks → AllByRecursion Q ks
keys_weaken P Q f [] h = tt
keys_weaken P Q f (k ∷ ks) h = (f k h.0, keys_weaken P Q f ks h.1)

pub named_weaken : (t : Types) (P Q : Key → Type 0) → ((k : Key) → P k → Q k) → (xs : List Var) → EachNamed t P xs → EachNamed t Q xs
named_weaken t P Q f [] h = tt
named_weaken t P Q f (x ∷ xs) h = (keys_weaken P Q f (keys_of t x) h.0, named_weaken t P Q f xs h.1)

none_of : (k : Key) (ks : List Key) → AllByRecursion (λ q. k ≢ q) ks → IsNone k ks
none_of k [] h = tt
none_of k (q ∷ ks) h = (h.0, none_of k ks h.1)

-- a place that is none of these is spared
pub named_spares : (t : Types) (k : Key) (xs : List Var) → EachNamed t (λ q. k ≢ q) xs → Spares t xs k
named_spares t k [] h = tt
named_spares t k (x ∷ xs) h = (none_of k (keys_of t x) h.0, named_spares t k xs h.1)
