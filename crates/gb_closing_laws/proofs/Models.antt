-- A typed claim is as true in a setting with labels as in a setting, where the labels are as many as the claim has things of them.
use Rattle.std.proofs.Common.{◌≡◌, ℕ, ◌<◌, ◌≤◌, ◌⊎◌, Bool, true, false, ◌&&◌, if◌then◌else◌, Some, None, List, [], ◌∷◌, ◌++◌, length, refl, sym, subst}
use Rattle.std.specs.List.{list_all, AllByRecursion}
use Rattle.std.specs.Option.{option_map}
use Rattle.gb_core.specs.declared.ty.Ty.{Ty}
use Rattle.gb_core.specs.declared.ty.Ty.TheVariants as ty
use Rattle.gb_core.specs.declared.value.Value.{Value}
use Rattle.gb_core.specs.declared.var.Var.{Var}
use Rattle.gb_core.specs.declared.var.Var.TheVariants as var
use Rattle.gb_terms.specs.declared.op.Read.{Read}
use Rattle.gb_terms.specs.declared.op.Read.TheVariants.{Logical, Program}
use Rattle.gb_terms.specs.declared.op.Side.TheVariants as side
use Rattle.gb_terms.specs.declared.term.Term.{Term, Term', end_of-Head, more_of-Head}
use Rattle.gb_terms.specs.declared.term.Head.TheVariants as head
use Rattle.gb_meaning.specs.Judgments.{Judge, IsFair, speaking}
use Rattle.gb_meaning.specs.Memory.{Memory}
use Rattle.gb_meaning.specs.Names.{Name}
use Rattle.gb_meaning.specs.Setting.{Setting}
use Rattle.gb_meaning.specs.State.{State}
use Rattle.gb_meaning.specs.Values.{values}
use Rattle.gb_laws.proofs.Exact.{trying}
use Rattle.gb_laws.proofs.Fair.{is_fair}
use Rattle.gb_meaning.specs.Holds.{AreValues, context}
use Rattle.gb_laws.specs.Finite.{IsFinite, IsInhabited}
use Rattle.gb_typing.specs.Context.{Context, Frame, erased}
use Rattle.gb_typing.specs.Fits.{IsSettingOf}
use Rattle.gb_typing.specs.Typing.{IsTyped, IsForm}
use Rattle.gb_typing.proofs.Erased.{erased_typed}
use Rattle.gb_amb.proofs.Wider.{small}
use Rattle.gb_walk.specs.Clash.{Exclusions}
use Rattle.gb_labels.specs.Memories.{AreKeptApart}
use Rattle.gb_labels.specs.Labels.{Labels, choices, choice_at, count_of, labels}
use Rattle.gb_labels.specs.Things.{most_labels, modules_in, things_in, counted, reads_freely}
use Rattle.gb_closing_laws.specs.Related.{ReadTypes, ReadIs}
use Rattle.gb_closing_laws.specs.Model.{AreApart, SaysOfMemories, HaveLabels, IsOfValues, Reads, OfClaim, IsClaimed, HasReadValues, IsAsTrue, IsModelled}
use Rattle.gb_closing_laws.proofs.Modelled.{small_model}
use Rattle.gb_closing_laws.specs.Chosen.{AreAbove, chosen}
use Rattle.gb_closing_laws.specs.Settings.{label_count, with_labels}
use Rattle.gb_closing_laws.proofs.Stated.{ReadTys, IsReadIn, claim_reads, own_name, memories_for, values_for}
use Rattle.gb_closing_laws.proofs.Choices.{choice_is, counted_above, count_above, chosen_up_to, count_chosen, sizes_apart}
use Rattle.gb_closing_laws.proofs.Settings.{label_values, label_size, label_inhabited}
use Rattle.gb_closing_laws.proofs.Listing.{IsShorter, claim_listed, claim_read, each, own_longer}
use Rattle.gb_closing_laws.proofs.LabelsApart.{all_unnamed, excluded_reads, labels_apart}
use Rattle.gb_closing_laws.proofs.Placed.{IsInside, claim_placed}
use Rattle.gb_closing_laws.proofs.ReadStates as states

-- the greatest numbers are above 0
most_above : (es : Exclusions) (hs : List Term) (t : Term) (most : Labels) → most_labels es hs t ≡ Some most → AreAbove most
most_above es hs t most e = choose (list_all (reads_freely es) hs && reads_freely es t) e
  where
    step : (o : _) → option_map (counted []) o ≡ Some most → AreAbove most
    step (Some ms) e = let z : counted [] ms ≡ most = cc in subst AreAbove z (counted_above [] ms tt)
    step None e = cc

    choose : (b : Bool) → (if b then option_map (counted []) (modules_in (things_in hs t)) else None) ≡ Some most → AreAbove most
    choose true e = step (modules_in (things_in hs t)) e
    choose false e = cc

fair_says : (g : Setting) (i : Judge) → IsFair g i → SaysOfMemories g (speaking g i)
fair_says g i fair = record {
  all = λ p n ts a s. fair (Term' p (more_of-Head head.AllMemory end_of-Head) n ts a) s tt;
  some = λ p n ts a s. fair (Term' p (more_of-Head head.SomeMemory end_of-Head) n ts a) s tt;
}

all_claimed : (c : Context) (T : ReadTypes) (hs : List Term) → AllByRecursion (IsForm c) hs → AllByRecursion IsOfValues hs → AllByRecursion (Reads (λ r a. T r ≡ Some a)) hs → AllByRecursion (IsClaimed (erased c) T) hs
all_claimed c T [] w v r = tt
all_claimed c T (h ∷ hs) w v r = (record { typed = erased_typed c h w.0.typed; truth = w.0.truth; of_values = v.0; reads = r.0 }, all_claimed c T hs w.1 v.1 r.1)

module _ (b : Context) (g : Setting) (us : List Ty) (finite : AllByRecursion IsFinite us) (ns : List Frame) (fits : IsSettingOf (small b us ns) g) (apart : AreApart (erased b)) (es : Exclusions) (kept : AreKeptApart es g.types)
    (i : Judge) (fair : IsFair g i) (T : ReadTypes) (hs : List Term) (t : Term) (forms : OfClaim (IsForm (small b us ns)) hs t) (of_values : OfClaim IsOfValues hs t)
    (reads : OfClaim (Reads (λ r a. T r ≡ Some a)) hs t) (most : Labels) (counts : most_labels es hs t ≡ Some most) where
  abbrev rs : ReadTys
  rs = claim_reads hs t

  abbrev own : Name
  own = own_name (excluded_reads es ++ rs)

  abbrev num : Name → ℕ
  num = label_count g.types most

  -- the setting with labels, and a judge of it
  abbrev pub h : Setting
  h = with_labels own num g

  abbrev pub k : Judge
  k = trying h

  -- the name is longer than those of what restrictions exclude and of what is read
  shorter : AllByRecursion (λ q. IsShorter own q.0) (excluded_reads es) × AllByRecursion (λ q. IsShorter own q.0) rs
  shorter = each (λ q. IsShorter own q.0) (excluded_reads es) rs (own_longer (excluded_reads es ++ rs))

  inhabited : IsInhabited g.types
  inhabited = fits.types.inhabited

  above : AreAbove most
  above = most_above es hs t most counts

  pub inhabited_there : IsInhabited h.types
  inhabited_there = label_inhabited own num g.types inhabited (count_above g.types inhabited most above)

  -- variables that don't clash are kept apart there
  pub right_apart : AreKeptApart es h.types
  right_apart = labels_apart h.types own (λ a. (num a, refl)) es (all_unnamed own es shorter.0)

  -- the numbers of labels are a choice
  pub choice : (n : ℕ) × (n < choices most) × (choice_at most n ≡ chosen g.types most)
  choice = choice_is most (chosen g.types most) (chosen_up_to g.types inhabited most above)

  pub are_labels : (m : Name) (n : ℕ) → count_of (chosen g.types most) m ≡ Some n → values h.types (ty.Glob m) ≡ values h.types (labels n)
  are_labels m n e = subst (λ n. values h.types (ty.Glob m) ≡ values h.types (labels n)) (sym (count_chosen g.types inhabited most m n e)) (label_values own num g.types m)

  have_labels : HaveLabels g.types h.types most
  have_labels m n e =
      subst (λ x. ((values g.types (ty.Glob m)).size ≡ x) ⊎ ((x ≡ n) × (n ≤ (values g.types (ty.Glob m)).size))) (sym (label_size own num g.types m)) (sizes_apart g.types most m n e)

  module _ (s : State) (values_there : HasReadValues g T s) where
    pub model : IsModelled g (speaking g i) s h (speaking h k) hs t
    model =
        small_model es (erased (small b us ns)) g h fits.types (record { sizes = refl; inhabited = inhabited_there; left_once = fits.once; right_once = λ a. (refl, tt); operators = λ n. (refl, refl); left_apart = kept; right_apart = right_apart }) apart refl (speaking g i) (speaking h k) (fair_says g i fair) (fair_says h k (is_fair h)) T hs t
        (all_claimed (small b us ns) T hs forms.0 of_values.0 reads.0, record { typed = erased_typed (small b us ns) t forms.1.typed; truth = forms.1.truth; of_values = of_values.1; reads = reads.1 }) most counts have_labels s values_there

    -- values for the variables, and memories
    abbrev pub vs : List Value
    vs = values_for h.types model.labels 0 us

    abbrev pub ms : List Memory
    ms = memories_for h.types model.labels rs 0 (length ns)

    pub are_values : AreValues h.types us vs
    are_values = states.are_values h.types inhabited_there model.labels 0 us finite

    all_typed : (gs : List Term) → AllByRecursion (IsForm (small b us ns)) gs → AllByRecursion (IsTyped (small b us ns)) gs
    all_typed [] w = tt
    all_typed (f ∷ gs) w = (w.0.typed, all_typed gs w.1)

    inside : IsInside us ns (small b us ns)
    inside = record { logical = λ i. refl; named = refl; own = refl; left = refl; right = refl }

    one_known : (r : Read) (a : Ty) → ReadIs (IsReadIn us (length ns)) r a → IsReadIn us (length ns) r a
    one_known (Logical n) a w = w
    one_known (Program x side.Own) a w = w
    one_known (Program x side.Left) a w = w
    one_known (Program x side.Right) a w = w
    one_known (Program x (side.Memory n)) a w = w
    one_known (Program x (side.Bound n)) a w = bound x
      where
        bound : (x : Var) → IsReadIn us (length ns) (Program x (side.Bound n)) a
        bound (var.Global m y) = tt
        bound (var.Local y) = tt
        bound (var.Glob m) = tt

    known : (qs : ReadTys) → AllByRecursion (λ q. ReadIs (IsReadIn us (length ns)) q.0 q.1) qs → AllByRecursion (λ q. IsShorter own q.0) qs → AllByRecursion (λ q. IsReadIn us (length ns) q.0 q.1 × IsShorter own q.0) qs
    known [] w l = tt
    known (q ∷ qs) w l = ((one_known q.0 q.1 w.0, l.0), known qs w.1 l.1)

    -- what is read there is as true as it is in the state
    pub as_true : OfClaim (IsAsTrue g (speaking g i) s h (speaking h k) (context vs ms)) hs t
    as_true =
        model.truths (context vs ms)
        (claim_read _ hs t (states.all_given h inhabited_there model.labels own (λ a. (num a, refl)) us (length ns) rs
        (known rs (claim_listed _ hs t (claim_placed us ns (small b us ns) inside hs t (all_typed hs forms.0, forms.1.typed) of_values)) shorter.1) (claim_listed _ hs t model.values)))
