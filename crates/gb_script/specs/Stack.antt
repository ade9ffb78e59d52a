-- What the machine keeps of its stack.
use Rattle.std.specs.Prelude.{◌≡◌, ℕ, ◌<◌, List, [], ◌∷◌, ◌++◌, Bool, true, false}
use Rattle.std.specs.List.{All}
use Rattle.gb_script.specs.declared.table.Symbol.{Symbol}
use Rattle.gb_script.specs.declared.table.Symbol.TheVariants.{Token, Part}
use Rattle.gb_script.specs.declared.table.Step.{Step}
use Rattle.gb_script.specs.Grammar.{Grammar, has, Derives}
use Rattle.gb_script.specs.Check.{Claims, claim_of}

module _ {R : Type 0} where
  -- The kinds of token that these symbols may start with are among those that may follow the part.
  abbrev pub Followed : Grammar R → Claims → ℕ → List Symbol → Type 0
  Followed g c n ss = (t at : ℕ) (w : List ℕ) (ps : List (Step R)) → t < 128 → Derives g ss at (t ∷ w) ps → has (claim_of c n).follow t ≡ true

  -- The parts on the stack are known and followed as claimed, and the end stands last.
  abbrev pub Good : Grammar R → Claims → List Symbol → Type 0
  Good g c [] = Unit {0}
  Good g c (Token k ∷ ss) = (k ≡ 0 → ss ≡ []) × (k < 128) × Good g c ss
  Good g c (Part n ∷ ss) = (n < c.count) × Followed g c n ss × Good g c ss

  -- Before this token, at this position, the stack `from` becomes `to` by these steps.
  pub record Expands (g : Grammar R) (t at : ℕ) (from : List Symbol) (qs : List (Step R)) (to : List Symbol) : Type 0 where
    pub here : All (λ q. q.at ≡ at) qs
    pub back : (w : List ℕ) (ps : List (Step R)) → Derives g to at (t ∷ w) ps → Derives g from at (t ∷ w) (qs ++ ps)
    pub forth : (w : List ℕ) (ps : List (Step R)) → Derives g from at (t ∷ w) ps → (rest : List (Step R)) × (ps ≡ qs ++ rest) × Derives g to at (t ∷ w) rest

  -- Nothing goes on with this token at this position.
  abbrev pub Stuck : Grammar R → ℕ → ℕ → List Symbol → Type 0
  Stuck g t at ss = (w : List ℕ) (ps : List (Step R)) → Derives g ss at (t ∷ w) ps → ⊥

  -- After these tokens, up to this position, the stack `start` has become `to` by these steps.
  pub record Reads (g : Grammar R) (start : List Symbol) (at : ℕ) (before : List ℕ) (qs : List (Step R)) (to : List Symbol) : Type 0 where
    pub early : All (λ q. q.at < at) qs
    pub back : (w : List ℕ) (ps : List (Step R)) → Derives g to at w ps → Derives g start 0 (before ++ w) (qs ++ ps)
    pub forth : (w : List ℕ) (ps : List (Step R)) → Derives g start 0 (before ++ w) ps → (rest : List (Step R)) × (ps ≡ qs ++ rest) × Derives g to at w rest

  -- The steps grew, and the token stands on top of the stack.
  pub record Moved (g : Grammar R) (c : Claims) (t at : ℕ) (from : List Symbol) (old : List (Step R)) (to : List Symbol) (new : List (Step R)) : Type 0 where
    pub steps : List (Step R)
    pub grown : new ≡ old ++ steps
    pub expands : Expands g t at from steps to
    pub good : Good g c to

  -- Nothing goes on with the token, and the steps grew.
  pub record Halted (g : Grammar R) (t at : ℕ) (from : List Symbol) (old new : List (Step R)) : Type 0 where
    pub steps : List (Step R)
    pub grown : new ≡ old ++ steps
    pub stuck : Stuck g t at from

  -- The machine moved over the token, or nothing goes on with it.
  abbrev pub Advanced : Bool → Grammar R → Claims → ℕ → ℕ → List Symbol → List (Step R) → List Symbol → List (Step R) → Type 0
  Advanced true g c t at from old to new = Moved g c t at from old (Token t ∷ to) new
  Advanced false g c t at from old to new = Halted g t at from old new
