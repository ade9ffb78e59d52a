-- What names stand for over which programs are chosen: a program hides what has its name, and a further one changes no other.
use Rattle.std.proofs.Common.{◌≡◌, inl, inr, if◌then◌else◌, List, [], ◌∷◌, ◌++◌, Bool, true, false, ◌||◌, bytes_eq, refl, sym, ◌∙◌}
use Rattle.std.proofs.lemmas.Bool.{false≢true}
use Rattle.gb_core.specs.declared.var.Var.{Var}
use Rattle.gb_meaning.specs.Names.{Name}
use Rattle.gb_meaning.specs.Program.{Routine}
use Rattle.gb_meaning.specs.Declared.{Declarations}
use Rattle.gb_meaning.specs.Modules.{Applied, Modules, with_module}
use Rattle.gb_meaning.specs.Adversary.{type_named, with_oracles, abstract_footprint}
use Rattle.gb_meaning.specs.Settings.{Chosen, is_chosen, program_footprint, with_abstract_footprints, with_abstract_programs}
use Rattle.gb_meaning.specs.Naming.{IsFresh}
use Rattle.gb_typing.specs.Naming.{chosen_names, IsAmong, IsKept}
use Rattle.gb_typing.proofs.KeptNames.{unless, among-behind, kept-behind}

module _ {X : Type 0} (f : Chosen → Applied X) where
  -- the modules, and what f makes of programs
  abbrev over : List Chosen → Modules X → Modules X
  over [] ms = ms
  over (c ∷ cs) ms = with_module (over cs ms) c.bind.name (f c)

  over-at : (cs : List Chosen) (ms ks : Modules X) (n : Name) → ms n ≡ ks n → over cs ms n ≡ over cs ks n
  over-at [] ms ks n e = e
  over-at (c ∷ cs) ms ks n e = λ i. if bytes_eq n c.bind.name then f c else over-at cs ms ks n e i

  hidden : (cs : List Chosen) (ms ks : Modules X) (n : Name) → IsAmong (chosen_names cs) n → over cs ms n ≡ over cs ks n
  hidden [] ms ks n x = absurd (false≢true x)
  hidden (c ∷ cs) ms ks n x =
      unless (bytes_eq n c.bind.name) (f c) (over cs ms n) (over cs ks n) (λ b. hidden cs ms ks n (among-behind c.bind.name (chosen_names cs) n x b))

  module _ (es : Declarations) (c : Chosen) (other : (n : Name) → IsFresh es n → bytes_eq n c.bind.name ≡ false) (rest : List Chosen) where
    further : (js : List Chosen) (ms ks : Modules X) (n : Name) → IsKept es (chosen_names js) n → ms n ≡ ks n →
        over (js ++ rest) ms n ≡ over (js ++ c ∷ rest) ks n
    further [] ms ks n (inl x) e = over-at rest ms ks n e ∙ sym (λ i. if other n x i then f c else over rest ks n)
    further [] ms ks n (inr x) e = absurd (false≢true x)
    further (j ∷ js) ms ks n k e =
        unless (bytes_eq n j.bind.name) (f j) (over (js ++ rest) ms n) (over (js ++ c ∷ rest) ks n)
        (λ b. further js ms ks n (kept-behind es j.bind.name (chosen_names js) n k b) e)

module _ (ds : Declarations) where
  abbrev its-program : Chosen → Applied Routine
  its-program c = with_oracles (type_named ds c.bind.ty) c.program

  abbrev its-footprint : Chosen → Applied (List Var)
  its-footprint c = abstract_footprint ds c.bind.name (type_named ds c.bind.ty)

  programs-over : (cs : List Chosen) (ms : Modules Routine) → with_abstract_programs ds cs ms ≡ over its-program cs ms
  programs-over [] ms = refl
  programs-over (c ∷ cs) ms = λ i. with_module (programs-over cs ms i) c.bind.name (its-program c)

  footprints-over : (cs : List Chosen) (ms : Modules (List Var)) → with_abstract_footprints ds cs ms ≡ over its-footprint cs ms
  footprints-over [] ms = refl
  footprints-over (c ∷ cs) ms = λ i. with_module (footprints-over cs ms i) c.bind.name (its-footprint c)

  pub programs-hidden : (cs : List Chosen) (ms ks : Modules Routine) (n : Name) → IsAmong (chosen_names cs) n →
      with_abstract_programs ds cs ms n ≡ with_abstract_programs ds cs ks n
  programs-hidden cs ms ks n x = (λ i. programs-over cs ms i n) ∙ hidden its-program cs ms ks n x ∙ sym (λ i. programs-over cs ks i n)

  pub footprints-hidden : (cs : List Chosen) (ms ks : Modules (List Var)) (n : Name) → IsAmong (chosen_names cs) n →
      with_abstract_footprints ds cs ms n ≡ with_abstract_footprints ds cs ks n
  footprints-hidden cs ms ks n x = (λ i. footprints-over cs ms i n) ∙ hidden its-footprint cs ms ks n x ∙ sym (λ i. footprints-over cs ks i n)

  module _ (es : Declarations) (c : Chosen) (other : (n : Name) → IsFresh es n → bytes_eq n c.bind.name ≡ false) (rest js : List Chosen) where
    pub programs-further : (ms ks : Modules Routine) (n : Name) → IsKept es (chosen_names js) n → ms n ≡ ks n →
        with_abstract_programs ds (js ++ rest) ms n ≡ with_abstract_programs ds (js ++ c ∷ rest) ks n
    programs-further ms ks n k e =
        (λ i. programs-over (js ++ rest) ms i n) ∙ further its-program es c other rest js ms ks n k e ∙ sym (λ i. programs-over (js ++ c ∷ rest) ks i n)

    pub footprints-further : (ms ks : Modules (List Var)) (n : Name) → IsKept es (chosen_names js) n → ms n ≡ ks n →
        with_abstract_footprints ds (js ++ rest) ms n ≡ with_abstract_footprints ds (js ++ c ∷ rest) ks n
    footprints-further ms ks n k e =
        (λ i. footprints-over (js ++ rest) ms i n) ∙ further its-footprint es c other rest js ms ks n k e ∙ sym (λ i. footprints-over (js ++ c ∷ rest) ks i n)

-- the globals that a program touches, by its name
pub touched-further : (es : Declarations) (c : Chosen) → ((n : Name) → IsFresh es n → bytes_eq n c.bind.name ≡ false) → (rest js : List Chosen) (n : Name) →
    IsKept es (chosen_names js) n → program_footprint (js ++ rest) n ≡ program_footprint (js ++ c ∷ rest) n
touched-further es c other rest [] n (inl x) = sym (λ i. if other n x i then c.program.footprint else program_footprint rest n)
touched-further es c other rest [] n (inr x) = absurd (false≢true x)
touched-further es c other rest (j ∷ js) n k =
    unless (bytes_eq n j.bind.name) j.program.footprint (program_footprint (js ++ rest) n) (program_footprint (js ++ c ∷ rest) n)
    (λ b. touched-further es c other rest js n (kept-behind es j.bind.name (chosen_names js) n k b))

-- whether a program is chosen under a name

either-alike : (b x y : Bool) → (b ≡ false → x ≡ y) → (b || x) ≡ (b || y)
either-alike true x y f = refl
either-alike false x y f = f refl

pub chosen-further : (es : Declarations) (c : Chosen) → ((n : Name) → IsFresh es n → bytes_eq n c.bind.name ≡ false) → (rest js : List Chosen) (n : Name) →
    IsKept es (chosen_names js) n → is_chosen (js ++ rest) n ≡ is_chosen (js ++ c ∷ rest) n
chosen-further es c other rest [] n (inl x) = sym (λ i. other n x i || is_chosen rest n)
chosen-further es c other rest [] n (inr x) = absurd (false≢true x)
chosen-further es c other rest (j ∷ js) n k =
    either-alike (bytes_eq n j.bind.name) (is_chosen (js ++ rest) n) (is_chosen (js ++ c ∷ rest) n)
    (λ b. chosen-further es c other rest js n (kept-behind es j.bind.name (chosen_names js) n k b))
