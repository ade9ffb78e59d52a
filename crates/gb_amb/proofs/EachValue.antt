-- What a form says of the last variable of the context, whatever its value, it says with a leading `forall` for it.
use Rattle.std.proofs.Common.{◌≡◌, ℕ, zero, suc, ◌==◌, Bool, true, false, if◌then◌else◌, inr, List, [], ◌∷◌, ◌++◌, length, get_or, Some, None, refl, ap, sym, ◌∙◌, subst}
use Rattle.std.proofs.Math.Dec.{eqb-suc-suc}
use Rattle.std.proofs.lemmas.Bool.{false≢true}
use Rattle.std.proofs.lemmas.Bool.Decides.{Decides-eqb}
use Rattle.gb_core.specs.declared.ty.Ty.{Ty}
use Rattle.gb_core.specs.declared.ty.Ty.TheVariants as ty
use Rattle.gb_core.specs.declared.value.Value.{Value}
use Rattle.gb_core.specs.declared.value.Value.TheVariants.{Num}
use Rattle.gb_terms.specs.declared.op.Read.{Read}
use Rattle.gb_terms.specs.declared.op.Read.TheVariants.{Logical, Program}
use Rattle.gb_terms.specs.declared.op.Side.{Side}
use Rattle.gb_terms.specs.declared.op.Side.TheVariants as side
use Rattle.gb_terms.specs.declared.term.Term.{Term}
use Rattle.gb_terms.specs.declared.term.Head.TheVariants as head
use Rattle.gb_terms.specs.Make.{node}
use Rattle.gb_walk.specs.declared.change.Change.TheVariants.{ToTerm}
use Rattle.gb_walk.specs.Change.{Changes, or_later, found_for_read, read_changed, term_changed}
use Rattle.gb_meaning.specs.Meanings.{truth}
use Rattle.gb_meaning.specs.Memory.{Memory}
use Rattle.gb_meaning.specs.Setting.{Setting}
use Rattle.gb_meaning.specs.Setting.Meaning.{finite}
use Rattle.gb_meaning.specs.State.{State, under}
use Rattle.gb_meaning.specs.State.Binding.{value as value_bound}
use Rattle.gb_meaning.specs.Terms.{Speaks, val}
use Rattle.gb_meaning.specs.Values.{has}
use Rattle.gb_meaning.specs.Judgments.{Judge, IsFair, speaking, den}
use Rattle.gb_meaning.proofs.Nodes.{term_is_node, val_node, denominator_node}
use Rattle.gb_laws.specs.Formed.{IsFormed}
use Rattle.gb_laws.specs.Led.{IsPut, put, Led}
use Rattle.gb_laws.specs.Uses.Use.{read as reads, bound, globals, starts, binds_own, binds_sides}
use Rattle.gb_laws.proofs.Forms.{form_followed}
use Rattle.gb_laws.proofs.Puts.{plain_node}
use Rattle.gb_meaning.proofs.Truths.{true_all}
use Rattle.gb_meaning.specs.Holds.{context}
use Rattle.gb_laws.specs.Finite.{IsFinite}
use Rattle.gb_laws.specs.Operators.{item}
use Rattle.gb_laws.specs.Typing as typed
use Rattle.gb_laws.specs.Typing.Binder.{value}
use Rattle.gb_typing.specs.Changes.{IsLeaf, Becomes, Leads, Made, Stays}
use Rattle.gb_typing.specs.Context.{Context, Frame, erased, frame_of, reframed, within}
use Rattle.gb_typing.specs.Typing.{IsFrame, IsForm}
use Rattle.gb_typing.specs.Fits.{IsSettingOf}
use Rattle.gb_typing.proofs.Changed.{changed}
use Rattle.gb_typing.proofs.Every.{leaf_moved, side_of}
use Rattle.gb_typing.proofs.Formed.{formed}
use Rattle.gb_typing.proofs.Forms.{form_made, made_form}
use Rattle.gb_typing.proofs.Made.{made_node}
use Rattle.gb_typing.proofs.Sound.{procedures_sound, sound_form}
use Rattle.gb_typing.proofs.Substituted.{finite_no_distribution}
use Rattle.gb_typing.proofs.Uses.{uses_of, uses_typed}
use Rattle.gb_amb.proofs.States.{not_in, value_after}
use Rattle.gb_amb.proofs.Wider.{item_here, small}
use Rattle.gb_amb.specs.Lemmas.{for_each_value}

-- what stands before the last one
item_before : (us : List Ty) (u t : Ty) (i : ℕ) → (length us == i) ≡ false → item (us ++ u ∷ []) i ≡ Some t → item us i ≡ Some t
item_before [] u t zero n e = absurd (false≢true (sym n ∙ (Decides-eqb 0 0).1 refl))
item_before [] u t (suc i) n e = e
item_before (x ∷ us) u t zero n e = e
item_before (x ∷ us) u t (suc i) n e = item_before us u t i (sym (eqb-suc-suc (length us) i) ∙ n) e

same_some : (t u : Ty) → Some t ≡ Some u → t ≡ u
same_some t u e = cc

module _ (b : Context) (us : List Ty) (u : Ty) (ns : List Frame) (fin : IsFinite u) where
  abbrev wide : Context
  wide = small b (us ++ u ∷ []) ns

  abbrev behind : Context
  behind = within (small b us ns) (value u) None

  abbrev nearest : Term
  nearest = node (head.Bound 0) [] u

  abbrev to_bound : Changes
  to_bound = ToTerm (Logical (length us)) nearest ∷ []

  nearest_made : (f l k : Frame) → Made (reframed behind f l k) u nearest
  nearest_made f l k = made_node (reframed behind f l k) (head.Bound 0) [] [] u (finite_no_distribution u fin, refl) tt [] tt

  -- the last variable has this type
  last_type : (i : ℕ) (t : Ty) → length us ≡ i → item (us ++ u ∷ []) i ≡ Some t → u ≡ t
  last_type i t e w = same_some u t (sym (item_here us u) ∙ ap (item (us ++ u ∷ [])) e ∙ w)

  value_sides : (r : Side) → typed.IsSide (erased wide) r → typed.IsSide (erased behind) r × (frame_of wide r ≡ frame_of behind r)
  value_sides side.Own w = (tt, refl)
  value_sides side.Left w = (tt, refl)
  value_sides side.Right w = (tt, refl)
  value_sides (side.Memory i) w = (w, refl)
  value_sides (side.Bound i) w = absurd w

  read_becomes : (r : Read) (t : Ty) → IsLeaf wide (head.Read r) t → Becomes true behind t r (found_for_read to_bound r) (head.Read (read_changed to_bound r))
  read_becomes (Logical i) t w = by_test (length us == i) refl
    where
      by_test : (k : Bool) → (length us == i) ≡ k → Becomes true behind t (Logical i) (or_later k nearest None) (head.Read (Logical i))
      by_test true e = (plain_node (head.Bound 0) [] u tt tt, λ f l k z p. subst (λ t. Made (reframed behind f l k) t nearest) (last_type i t ((Decides-eqb (length us) i).0 e) w.0.1) (nearest_made f l k))
      by_test false e = ((w.0.0, item_before us u t i e w.0.1), tt)
  read_becomes (Program x r) t w = let k = value_sides r (side_of wide x r t w) in leaf_moved wide behind (λ n y u e. e) (λ a e. e) r r k.0 k.1 x t w

  leads : Leads true to_bound wide behind
  leads = record {
    reads = read_becomes;
    bounds = λ i t w. absurd w;
    sides = λ r w. let k = value_sides r w.0 in (k.0, subst IsFrame k.1 w.1);
    places = λ r w. w;
    global = λ n x t e. e;
    operator = λ n o e. e;
    procedure = λ p. refl;
    has_globals = λ a e. e;
  }

  stays : Stays to_bound
  stays = record { own = λ r e. e; sides = λ r e. e }

  pub value_typed : (f : Term) → IsForm wide f → IsForm (small b us ns) (for_each_value (length us) u f)
  value_typed f w =
      let k = changed true f to_bound wide behind leads (inr (stays, refl)) w.typed in
      let body : IsForm behind (term_changed f to_bound) = record { typed = k.typed; truth = k.written ∙ w.truth } in
      form_made (small b us ns) _
      (made_node (small b us ns) (head.All u) (ty.Bool ∷ []) (term_changed f to_bound ∷ []) ty.Bool (fin, (refl, (refl, tt))) tt [] (made_form behind (term_changed f to_bound) body))

  module _ (g : Setting) (fits : IsSettingOf (small b us ns) g) (j : Judge) (fair : IsFair g j) where
    abbrev speaks : Speaks
    speaks = speaking g j

    fits_wide : IsSettingOf wide g
    fits_wide = record { types = record { inhabited = fits.types.inhabited; operators = fits.types.operators; distributions = fits.types.distributions }; once = fits.once; procedures = fits.procedures }

    nearest_put : IsPut g nearest
    nearest_put = record {
      formed = subst IsFormed (term_is_node (head.Bound 0) [] u) (tt, tt, tt);
      plain = plain_node (head.Bound 0) [] u tt tt;
      denominator = denominator_node g (head.Bound 0) [] u;
    }

    module _ (vs : List Value) (same : length vs ≡ length us) (ms : List Memory) (v : Value) where
      abbrev below : State
      below = under (context vs ms) (value_bound (finite v))

      abbrev more : State
      more = context (vs ++ v ∷ []) ms

      led : Led g speaks to_bound (uses_of wide) below more
      led (reads (Logical i) t) k = by_test (length us == i) (ap (λ n. n == i) same)
        where
          by_test : (c : Bool) → (length vs == i) ≡ c → put g speaks (or_later c nearest None) (finite (get_or vs i (Num 0))) below ≡ finite (get_or (vs ++ v ∷ []) i (Num 0))
          by_test true e = val_node g speaks (head.Bound 0) [] u below ∙ ap finite (sym (value_after vs v i ∙ ap (λ c. if c then v else get_or vs i (Num 0)) e))
          by_test false e = ap finite (sym (value_after vs v i ∙ ap (λ c. if c then v else get_or vs i (Num 0)) e))
      led (reads (Program x side.Own) t) k = refl
      led (reads (Program x side.Left) t) k = refl
      led (reads (Program x side.Right) t) k = refl
      led (reads (Program x (side.Memory i)) t) k = refl
      led (reads (Program x (side.Bound i)) t) k = absurd (not_in wide x t k)
      led (bound i) k = absurd (false≢true k)
      led (globals x r) k = absurd (false≢true k)
      led (starts side.Own) k = absurd (false≢true k)
      led (starts side.Left) k = absurd (false≢true k)
      led (starts side.Right) k = absurd (false≢true k)
      led (starts (side.Memory i)) k = refl
      led (starts (side.Bound i)) k = absurd (false≢true k)
      led binds_own k = ((λ e q m. val_node g speaks (head.Bound 0) [] u _ ∙ sym (val_node g speaks (head.Bound 0) [] u q)), tt)
      led binds_sides k = ((λ e q m o. val_node g speaks (head.Bound 0) [] u _ ∙ sym (val_node g speaks (head.Bound 0) [] u q)), tt)

      value_means : (f : Term) → IsForm wide f → val g speaks (term_changed f to_bound) below ≡ val g speaks f more
      value_means f w =
          form_followed g j fair f (formed wide f w.typed) (sound_form g wide (procedures_sound wide g fits_wide) f w.typed) to_bound (uses_of wide) below more (nearest_put, tt) led (uses_typed wide f w.typed)

    pub value_true : (f : Term) → IsForm wide f → (vs : List Value) → length vs ≡ length us → (ms : List Memory) →
        ((v : Value) → has g.types u v ≡ true → den g j f (context (vs ++ v ∷ []) ms) ≡ true) → den g j (for_each_value (length us) u f) (context vs ms) ≡ true
    value_true f w vs same ms h = (true_all g j u (term_changed f to_bound) (context vs ms)).1 (λ v k. ap truth (value_means vs same ms v f w) ∙ h v k)
