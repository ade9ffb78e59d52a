-- A claim is as true of labels.
use Rattle.std.proofs.Common.{◌≡◌, ◌+◌, ◌≤◌, ◌<◌, Bool, true, false, ◌&&◌, if◌then◌else◌, Option, Some, None, List, [], ◌∷◌, ◌++◌, refl, ap, sym, ◌∙◌, subst, arith}
use Rattle.std.specs.List.{flat_map, list_all, AllByRecursion}
use Rattle.std.specs.Option.{option_map}
use Rattle.std.proofs.lemmas.Bool.{false≢true, and_parts}
use Rattle.gb_core.specs.declared.ty.Ty.{Ty}
use Rattle.gb_core.specs.declared.ty.Ty.TheVariants as ty
use Rattle.gb_core.specs.declared.value.Value.{Value}
use Rattle.gb_core.specs.declared.value.Value.TheVariants.{Num}
use Rattle.gb_terms.specs.declared.op.Read.{Read}
use Rattle.gb_terms.specs.declared.op.Read.TheVariants.{Logical, Program}
use Rattle.gb_terms.specs.declared.op.Side.TheVariants as side
use Rattle.gb_terms.specs.declared.term.Term.{Term}
use Rattle.gb_meaning.specs.Names.{Name}
use Rattle.gb_meaning.specs.Values.{first, has}
use Rattle.gb_meaning.specs.Setting.{Setting}
use Rattle.gb_meaning.specs.Setting.Meaning.{finite}
use Rattle.gb_meaning.specs.Meanings.{value_in}
use Rattle.gb_meaning.specs.State.{State}
use Rattle.gb_meaning.specs.Terms.{Speaks, read_at, val}
use Rattle.gb_meaning.specs.Written.{type_of}
use Rattle.gb_meaning.proofs.Numberings.{lawful}
use Rattle.gb_laws.specs.Context.{IsSettingOf}
use Rattle.gb_laws.specs.Typing.{Context}
use Rattle.gb_laws.proofs.Sizes.{finite_sized}
use Rattle.gb_labels.specs.declared.things.Source.{Source}
use Rattle.gb_labels.specs.declared.things.Source.TheVariants.{Variable, Opened, Place}
use Rattle.gb_labels.specs.declared.things.Thing.{Thing}
use Rattle.gb_labels.specs.Labels.{Labels}
use Rattle.gb_walk.specs.Clash.{Exclusions}
use Rattle.gb_labels.specs.Reads.{reads_at}
use Rattle.gb_labels.specs.Things.{holds_glob, modules_of, things_at, is_noted, things_in, modules_in, reads_freely, counted, most_labels}
use Rattle.gb_closing_laws.specs.Pairs.{Pairing}
use Rattle.gb_closing_laws.specs.Related.{ReadTypes, ReadIs, Related, MeaningRelated, BoundRelated, StateRelated}
use Rattle.gb_closing_laws.specs.Needs.{names_in, times, quantified, opened, HasFirsts, HasRoom, IsCountedType}
use Rattle.gb_closing_laws.specs.Model.{AreAlike, AreApart, SaysOfMemories, HaveLabels, Reads, OfClaim, IsClaimed, HasReadValues, IsAsTrue, IsModelled}
use Rattle.gb_closing_laws.proofs.Globless.{globless, uncounted_modules}
use Rattle.gb_closing_laws.proofs.Relations.{related_itself, related_has, related_flip, flipped}
use Rattle.gb_closing_laws.proofs.Room.{times_append, room_first, room_last}
use Rattle.gb_closing_laws.proofs.Firsts.{firsts_left, firsts_right}
use Rattle.gb_closing_laws.proofs.LabelMeanings.{truth_related}
use Rattle.gb_closing_laws.proofs.States.{firsts_longer}
use Rattle.gb_closing_laws.proofs.Terms.{term_related}
use Rattle.gb_closing_laws.proofs.Noted.{Among, Each, each_at, each_append, each_left, each_right, each_of, noted_each, noted_source, read_noted, Stands, noted_stands, names_at, is_opened, is_variable, names_of, names_split, modules_names, modules_each, giver, given, noted_places}
use Rattle.gb_closing_laws.proofs.Seen.{none_seen}
use Rattle.gb_closing_laws.proofs.Counts.{SourceIs, ThingIs, term_things, things_term, ReadCounts, ThingCounts, term_counts, claim_places, claim_opens}
use Rattle.gb_closing_laws.proofs.Counted.{labels_room}
use Rattle.gb_closing_laws.proofs.Starting.{firsts_few, starting, has_firsts, LabelledAt, IsLabelled, Chosen, choose}

module _ (Q : Read → Ty → Type 0) where
  read_thing : (o : Source) (r : Read) (a : Ty) → SourceIs Q o a → o ≡ Variable r → Q r a
  read_thing o r a k e = subst (λ z. SourceIs Q z a) e k

  any_read : (r : Read) (a : Ty) → Q r a → ReadIs Q r a
  any_read (Logical i) a k = k
  any_read (Program v side.Own) a k = k
  any_read (Program v side.Left) a k = k
  any_read (Program v side.Right) a k = k
  any_read (Program v (side.Memory i)) a k = k
  any_read (Program v (side.Bound i)) a k = tt

  open_thing : (o : Source) (t : Term) (a : Ty) → SourceIs Q o a → o ≡ Opened t → a ≡ type_of t
  open_thing o t a k e = subst (λ z. SourceIs Q z a) e k

same_type : (a b : Ty) (o : Option Ty) → o ≡ Some a → o ≡ Some b → a ≡ b
same_type a b o e f = cc

no_type : (a : Ty) → ◌≡◌ {A = Option Ty} None (Some a) → ⊥
no_type a e = cc

-- Forms and things of a claim.

module _ (P : Thing → Type 0) where
  hyps_things : (hyps : List Term) → AllByRecursion (λ f. Each P (things_at f)) hyps → Each P (flat_map things_at hyps)
  hyps_things [] k = tt
  hyps_things (f ∷ hyps) k = each_append P (things_at f) (flat_map things_at hyps) k.0 (hyps_things hyps k.1)

  claim_things : (hyps : List Term) (t : Term) → OfClaim (λ f. Each P (things_at f)) hyps t → Each P (flat_map things_at hyps ++ things_at t)
  claim_things hyps t k = each_append P (flat_map things_at hyps) (things_at t) (hyps_things hyps k.0) k.1

  things_hyps : (hyps : List Term) → Each P (flat_map things_at hyps) → AllByRecursion (λ f. Each P (things_at f)) hyps
  things_hyps [] k = tt
  things_hyps (f ∷ hyps) k = (each_left P (things_at f) (flat_map things_at hyps) k, things_hyps hyps (each_right P (things_at f) (flat_map things_at hyps) k))

  things_claim : (hyps : List Term) (t : Term) → Each P (flat_map things_at hyps ++ things_at t) → OfClaim (λ f. Each P (things_at f)) hyps t
  things_claim hyps t k = (things_hyps hyps (each_left P (flat_map things_at hyps) (things_at t) k), each_right P (flat_map things_at hyps) (things_at t) k)

module _ (A B : Term → Type 0) (k : (f : Term) → A f → B f) where
  each_hyp : (hyps : List Term) → AllByRecursion A hyps → AllByRecursion B hyps
  each_hyp [] l = tt
  each_hyp (f ∷ hyps) l = (k f l.0, each_hyp hyps l.1)

  each_form : (hyps : List Term) (t : Term) → OfClaim A hyps t → OfClaim B hyps t
  each_form hyps t l = (each_hyp hyps l.0, k t l.1)

module _ {es : Exclusions} (c : Context) (g h : Setting) (i : IsSettingOf c g) (alike : AreAlike es g h) (apart : AreApart c) (closed : c.bound ≡ []) (j k : Speaks) (sj : SaysOfMemories g j) (sk : SaysOfMemories h k)
    (T : ReadTypes) (hyps : List Term) (t : Term) (claim : OfClaim (IsClaimed c T) hyps t) (s : State) (held : HasReadValues g T s) (freely : OfClaim (λ f. reads_freely es f ≡ true) hyps t)
    (ms : List Name) (are_counted : modules_in (things_in hyps t) ≡ Some ms) (labelled : HaveLabels g.types h.types (counted [] ms)) where
  abbrev things : List Thing
  things = flat_map things_at hyps ++ things_at t

  abbrev once : List Thing
  once = things_in hyps t

  abbrev Typed : Read → Ty → Type 0
  Typed r a = T r ≡ Some a

  typed_things : Each (ThingIs Typed) things
  typed_things = claim_things (ThingIs Typed) hyps t (each_form (IsClaimed c T) (λ f. Each (ThingIs Typed) (things_at f)) (λ f l. term_things Typed f l.reads) hyps t claim)

  typed_at : (x : Thing) → Among x things → ThingIs Typed x
  typed_at x q = each_at (ThingIs Typed) x things typed_things q

  typed_once : (y : Thing) → Among y once → ThingIs Typed y
  typed_once y q = each_at (ThingIs Typed) y once (noted_each (ThingIs Typed) [] things tt typed_things) q

  -- the type's parts of each thing that is noted are counted
  noted_one : (y : Thing) → Among y once → (ns : List Name) × (modules_of y.ty ≡ Some ns)
  noted_one y q = each_at (λ x. (ns : List Name) × (modules_of x.ty ≡ Some ns)) y once (modules_each once ms are_counted) q

  -- the noted thing in place of a thing has its type
  same_thing : (x : Thing) → Among x things → (w : Stands x once) → w.0.ty ≡ x.ty
  same_thing x q w = step x.source refl
    where
      step : (o : Source) → x.source ≡ o → w.0.ty ≡ x.ty
      step (Variable r) p = same_type w.0.ty x.ty (T r) (read_thing Typed w.0.source r w.0.ty (typed_once w.0 w.1) (w.2 ∙ p)) (read_thing Typed x.source r x.ty (typed_at x q) p)
      step (Opened u) p = open_thing Typed w.0.source u w.0.ty (typed_once w.0 w.1) (w.2 ∙ p) ∙ sym (open_thing Typed x.source u x.ty (typed_at x q) p)
      step Place p = ap (λ (z : Thing). z.ty) (w.3 p)

  labelled_one : (y : Thing) → Among y once → IsLabelled T y
  labelled_one y q = step y.source refl
    where
      step : (o : Source) → y.source ≡ o → LabelledAt T y.source y.ty (names_at y)
      step (Variable r) p =
          let n = noted_one y q in
          subst (λ z. LabelledAt T z y.ty (names_at y)) (sym p) (read_thing Typed y.source r y.ty (typed_once y q) p, n.1 ∙ ap Some (sym (ap names_in n.1)))
      step (Opened u) p = subst (λ z. LabelledAt T z y.ty (names_at y)) (sym p) tt
      step Place p = subst (λ z. LabelledAt T z y.ty (names_at y)) (sym p) tt

  -- the types of the claim's own reads
  abbrev its : ReadTypes
  its r = if is_noted things (Variable r) then T r else None

  counted_type : (x : Thing) → Among x things → IsCountedType x.ty
  counted_type x q = step (holds_glob x.ty) refl
    where
      step : (b : Bool) → holds_glob x.ty ≡ b → IsCountedType x.ty
      step false e = ([], uncounted_modules x.ty e)
      step true e = let w = noted_stands x [] things q e in subst IsCountedType (same_thing x q w) (noted_one w.0 w.1)

  counted_read : (x : Thing) → Among x things → ReadCounts its x.source x.ty
  counted_read x q = step x.source refl
    where
      step : (o : Source) → x.source ≡ o → ReadCounts its x.source x.ty
      step (Variable r) p =
          subst (λ z. ReadCounts its z x.ty) (sym p) (ap (λ b. if b then T r else None) (read_noted r x things q p) ∙ read_thing Typed x.source r x.ty (typed_at x q) p)
      step (Opened u) p = subst (λ z. ReadCounts its z x.ty) (sym p) tt
      step Place p = subst (λ z. ReadCounts its z x.ty) (sym p) tt

  all_counted : Each (ThingCounts its) things
  all_counted = each_of (ThingCounts its) things (λ x q. (counted_type x q, counted_read x q))

  -- Numbers.

  abbrev quantifiers : List Name
  quantifiers = flat_map quantified hyps ++ quantified t

  abbrev firsts : List Name
  firsts = flat_map opened hyps ++ opened t

  -- a module whose first values are needed is one of an option's value that is noted
  first_noted : (m : Name) → 0 < times m firsts → 0 < times m (names_of is_opened once)
  first_noted m l =
      let a = claim_opens m hyps t in
      let x = giver m is_opened things (omega (arith, a, l)) in
      let w = noted_stands x.0 [] things x.1 (holds x.0.ty (holds_glob x.0.ty) refl x.3) in
      given m is_opened w.0 once w.1 (ap is_opened w.2 ∙ x.2) (subst (λ z. 0 < times m (names_in (modules_of z))) (sym (same_thing x.0 x.1 w)) x.3)
    where
      holds : (a : Ty) (b : Bool) → holds_glob a ≡ b → 0 < times m (names_in (modules_of a)) → holds_glob a ≡ true
      holds a true e n = e
      holds a false e n = let z = ap (λ o. times m (names_in o)) (uncounted_modules a e) in absurd (omega (arith, z, n))

  within : (m : Name) → times m (names_of is_opened once) + (times m (names_of is_variable once) + times m quantifiers) ≤ times m ms
  within m =
      let a = claim_places m hyps t in
      let b = noted_places m [] things in
      let d = names_split m once in
      let e = ap (times m) (modules_names once ms are_counted) in
      omega (arith, a, b, d, e)

  first_there : (m : Name) → 0 < times m firsts → (has g.types (ty.Glob m) (first g.types (ty.Glob m)) ≡ true) × (has h.types (ty.Glob m) (first h.types (ty.Glob m)) ≡ true)
  first_there m l = (
    (lawful g.types (ty.Glob m)).has_at 0 (finite_sized g.types i.inhabited (ty.Glob m) refl),
    (lawful h.types (ty.Glob m)).has_at 0 (finite_sized h.types alike.inhabited (ty.Glob m) refl),
  )

  abbrev start : Pairing g.types h.types
  start = starting g.types h.types firsts first_there

  start_room : HasRoom g.types h.types start.pairs (names_of is_variable once ++ quantifiers)
  start_room =
      labels_room g.types h.types start.pairs ms (names_of is_variable once ++ quantifiers) labelled
      (λ m.
      let a = within m in
      let b = times_append m (names_of is_variable once) quantifiers in
      let d = firsts_few g.types h.types m (times m firsts) (times m (names_of is_opened once)) (first_noted m) in
      omega (arith, a, b, d))

  abbrev own_at : Read → Option Ty → Value
  own_at r None = Num 0
  own_at r (Some a) = value_in (read_at g r a s)

  abbrev own : Read → Value
  own r = own_at r (T r)

  chosen : Chosen g h alike.sizes T s held own start (λ r. is_noted once (Variable r)) quantifiers
  chosen = choose g h alike.sizes T s held own once (each_of (IsLabelled T) once labelled_one) start quantifiers start_room

  abbrev found : Pairing g.types h.types
  found = chosen.pairing

  -- the value that is chosen for a read is related to its own
  label_related : (r : Read) (a : Ty) → T r ≡ Some a → is_noted things (Variable r) ≡ true → Related g.types h.types found.pairs a (value_in (read_at g r a s)) (chosen.label r)
  label_related r a e n = step (is_noted once (Variable r)) refl
    where
      without : is_noted once (Variable r) ≡ false → (b : Bool) → holds_glob a ≡ b → holds_glob a ≡ false
      without u false p = p
      without u true p =
          let w = noted_source (Variable r) things n in
          let d = same_type w.0.ty a (T r) (read_thing Typed w.0.source r w.0.ty (typed_at w.0 w.1) w.2) e in
          let y = noted_stands w.0 [] things w.1 (ap holds_glob d ∙ p) in
          absurd (false≢true (sym u ∙ read_noted r y.0 once y.1 (y.2 ∙ w.2)))

      step : (b : Bool) → is_noted once (Variable r) ≡ b → Related g.types h.types found.pairs a (value_in (read_at g r a s)) (chosen.label r)
      step true u = chosen.related r a e u
      step false u =
          let v = held r a e in
          let here : own r ≡ value_in (read_at g r a s) = ap (own_at r) e in
          subst (λ z. Related g.types h.types found.pairs a (value_in (read_at g r a s)) z) (sym (chosen.other r u ∙ here))
          (related_itself g.types h.types alike.sizes found.pairs a (globless a (without u (holds_glob a) refl)) (value_in (read_at g r a s)) (subst (λ z. has g.types a (value_in z) ≡ true) (sym v.1) v.2))

  abbrev Valued : Read → Ty → Type 0
  Valued r a = has h.types a (chosen.label r) ≡ true

  -- and it is of the read's type
  label_has : (x : Thing) → Among x things → ThingIs Valued x
  label_has x q = step x.source refl
    where
      step : (o : Source) → x.source ≡ o → SourceIs Valued x.source x.ty
      step (Variable r) p =
          let e = read_thing Typed x.source r x.ty (typed_at x q) p in
          subst (λ z. SourceIs Valued z x.ty) (sym p)
          (related_has h.types g.types (sym alike.sizes) (flipped g.types h.types alike.sizes found) x.ty (chosen.label r) (value_in (read_at g r x.ty s))
          (related_flip g.types h.types alike.sizes found x.ty (value_in (read_at g r x.ty s)) (chosen.label r) (label_related r x.ty e (read_noted r x things q p))))
      step (Opened u) p = subst (λ z. SourceIs Valued z x.ty) (sym p) (open_thing Typed x.source u x.ty (typed_at x q) p)
      step Place p = subst (λ z. SourceIs Valued z x.ty) (sym p) tt

  -- in a state of the second setting that reads these values
  module _ (r : State) where
    abbrev IsLabel : Read → Ty → Type 0
    IsLabel x a = read_at h x a r ≡ finite (chosen.label x)

    abbrev AreRead : Read → Ty → Type 0
    AreRead x a = MeaningRelated g.types h.types found.pairs a (read_at g x a s) (read_at h x a r)

    module _ (reads : Each (ThingIs IsLabel) things) where
      read_pair : (x : Read) (a : Ty) → its x ≡ Some a → MeaningRelated g.types h.types found.pairs a (read_at g x a s) (read_at h x a r)
      read_pair x a e = step (is_noted things (Variable x)) refl e
        where
          step : (b : Bool) → is_noted things (Variable x) ≡ b → (if b then T x else None) ≡ Some a → MeaningRelated g.types h.types found.pairs a (read_at g x a s) (read_at h x a r)
          step false n e = absurd (no_type a e)
          step true n e =
              let w = noted_source (Variable x) things n in
              let d = same_type w.0.ty a (T x) (read_thing Typed w.0.source x w.0.ty (typed_at w.0 w.1) w.2) e in
              let there : read_at h x a r ≡ finite (chosen.label x) =
              subst (λ z. read_at h x z r ≡ finite (chosen.label x)) d (read_thing IsLabel w.0.source x w.0.ty (each_at (ThingIs IsLabel) w.0 things reads w.1) w.2) in
              let v = held x a e in
              subst (λ z. MeaningRelated g.types h.types found.pairs a z (read_at h x a r)) (sym v.1)
              (subst (λ z. MeaningRelated g.types h.types found.pairs a (finite v.0) z) (sym there)
              (subst (λ z. Related g.types h.types found.pairs a (value_in z) (chosen.label x)) v.1 (label_related x a e n)))

      states : StateRelated g h found.pairs its c.bound [] s r
      states = record {
        reads = λ x a e. any_read AreRead x a (read_pair x a e);
        bound = subst (λ bs. BoundRelated g.types h.types found.pairs bs [] s.bound r.bound) (sym closed) tt;
      }

      form_true : (f : Term) → IsClaimed c T f → reads_freely es f ≡ true → Each (ThingCounts its) (things_at f) → HasFirsts g.types h.types found.pairs (opened f) → HasRoom g.types h.types found.pairs (quantified f) →
          IsAsTrue g j s h k r f
      form_true f l u n o q =
          truth_related g.types h.types alike.sizes found.pairs (type_of f) l.truth (val g j f s) (val h k f r)
          (term_related c g h i alike apart its j k sj sk f c [] refl l.typed (term_counts its es c [] f l.typed l.of_values u (none_seen c closed (reads_at f)) n) found s r o q states)

      hyps_true : (fs : List Term) → AllByRecursion (IsClaimed c T) fs → AllByRecursion (λ f. reads_freely es f ≡ true) fs → Each (ThingCounts its) (flat_map things_at fs) → HasFirsts g.types h.types found.pairs (flat_map opened fs) →
          HasRoom g.types h.types found.pairs (flat_map quantified fs) → AllByRecursion (IsAsTrue g j s h k r) fs
      hyps_true [] l u n o q = tt
      hyps_true (f ∷ fs) l u n o q = (
        form_true f l.0 u.0 (each_left (ThingCounts its) (things_at f) (flat_map things_at fs) n) (firsts_left g.types h.types found.pairs (opened f) (flat_map opened fs) o)
            (room_first g.types h.types found.pairs (quantified f) (flat_map quantified fs) q),
        hyps_true fs l.1 u.1 (each_right (ThingCounts its) (things_at f) (flat_map things_at fs) n) (firsts_right g.types h.types found.pairs (opened f) (flat_map opened fs) o)
            (room_last g.types h.types found.pairs (quantified f) (flat_map quantified fs) q),
      )

      still_first : HasFirsts g.types h.types found.pairs firsts
      still_first = firsts_longer g h T start found chosen.longer firsts (has_firsts g.types h.types firsts first_there)

      all_true : OfClaim (IsAsTrue g j s h k r) hyps t
      all_true = (
        hyps_true hyps claim.0 freely.0 (each_left (ThingCounts its) (flat_map things_at hyps) (things_at t) all_counted)
            (firsts_left g.types h.types found.pairs (flat_map opened hyps) (opened t) still_first) (room_first g.types h.types found.pairs (flat_map quantified hyps) (quantified t) chosen.room),
        form_true t claim.1 freely.1 (each_right (ThingCounts its) (flat_map things_at hyps) (things_at t) all_counted)
            (firsts_right g.types h.types found.pairs (flat_map opened hyps) (opened t) still_first) (room_last g.types h.types found.pairs (flat_map quantified hyps) (quantified t) chosen.room),
      )

  modelled : IsModelled g j s h k hyps t
  modelled = record {
    labels = chosen.label;
    values = each_form (λ f. Each (ThingIs Valued) (things_at f)) (Reads Valued) (things_term Valued) hyps t (things_claim (ThingIs Valued) hyps t (each_of (ThingIs Valued) things label_has));
    truths = λ r l. all_true r (claim_things (ThingIs (IsLabel r)) hyps t (each_form (Reads (IsLabel r)) (λ f. Each (ThingIs (IsLabel r)) (things_at f)) (term_things (IsLabel r)) hyps t l));
  }

counted_some : (o : Option (List Name)) (most : Labels) → option_map (counted []) o ≡ Some most → (ms : List Name) × (o ≡ Some ms) × (counted [] ms ≡ most)
counted_some None most e = absurd (cc)
counted_some (Some ms) most e = (ms, refl, labels_are (counted [] ms) most e)
  where
    labels_are : (a b : Labels) → Some a ≡ Some b → a ≡ b
    labels_are a b e = cc

-- where there are numbers of labels, no two reads through one bound memory clash
all_free : (es : Exclusions) (hyps : List Term) → list_all (reads_freely es) hyps ≡ true → AllByRecursion (λ f. reads_freely es f ≡ true) hyps
all_free es [] e = tt
all_free es (f ∷ hyps) e = let both = and_parts (reads_freely es f) (list_all (reads_freely es) hyps) e in (both.0, all_free es hyps both.1)

freely_some : (b : Bool) (o : Option Labels) (most : Labels) → (if b then o else None) ≡ Some most → (b ≡ true) × (o ≡ Some most)
freely_some true o most e = (refl, e)
freely_some false o most e = absurd (cc)

pub small_model : (es : Exclusions) (c : Context) (g h : Setting) → IsSettingOf c g → AreAlike es g h → AreApart c → c.bound ≡ [] → (j k : Speaks) → SaysOfMemories g j → SaysOfMemories h k →
    (T : ReadTypes) (hyps : List Term) (t : Term) → OfClaim (IsClaimed c T) hyps t → (most : Labels) → most_labels es hyps t ≡ Some most → HaveLabels g.types h.types most →
    (s : State) → HasReadValues g T s → IsModelled g j s h k hyps t
small_model es c g h i alike apart closed j k sj sk T hyps t claim most e labelled s held =
    let both = freely_some (list_all (reads_freely es) hyps && reads_freely es t) (option_map (counted []) (modules_in (things_in hyps t))) most e in
    let free = and_parts (list_all (reads_freely es) hyps) (reads_freely es t) both.0 in
    let n = counted_some (modules_in (things_in hyps t)) most both.1 in
    modelled c g h i alike apart closed j k sj sk T hyps t claim s held (all_free es hyps free.0, free.1) n.0 n.1 (subst (HaveLabels g.types h.types) (sym n.2) labelled)
