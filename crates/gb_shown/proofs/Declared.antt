-- What commands declare, and the enumerations that they list.
use Rattle.std.proofs.Common.{◌≡◌, ℕ, zero, suc, Bool, true, false, is_some, if◌then◌else◌, bytes_eq, List, [], ◌∷◌, ◌++◌, append-nil, drop, length, map, take, Some, None, refl, ap, sym, ◌∙◌, subst}
use Rattle.std.proofs.lemmas.Bool.{false≢true}
use Rattle.std.proofs.lemmas.Slice.Eq.{bytes_eq-Decides}
use Rattle.std.specs.List.{AllByRecursion, slice_get}
use Rattle.gb_core.specs.declared.place.Place.{Place}
use Rattle.gb_core.specs.declared.refusal.Why.TheVariants.{UnknownName}
use Rattle.gb_core.specs.declared.ty.Ty as X
use Rattle.gb_core.specs.declared.ty.Ty.{Ty, out-Ty}
use Rattle.gb_core.specs.declared.ty.Ty.TheVariants as ty
use Rattle.gb_core.specs.declared.ty.Ty.TheOpen as ty_layer
use Rattle.gb_terms.specs.declared.decl.Param.{Param}
use Rattle.gb_goal.specs.Answers.{given_or}
use Rattle.gb_goal.specs.Answers.Answer.{given}
use Rattle.gb_goal.specs.Interfaces.{signatures_of}
use Rattle.gb_goal.specs.Scope.{Declarations, entry_of, module_type_of}
use Rattle.gb_goal.specs.declared.module_type.MayCall.{MayCall}
use Rattle.gb_goal.specs.declared.module_type.Oracle.{Oracle}
use Rattle.gb_goal.specs.declared.module_type.Signature.{Signature}
use Rattle.gb_goal.specs.declared.scope.Entry.{Entry}
use Rattle.gb_goal.specs.declared.scope.Entry.TheVariants as entry
use Rattle.gb_script.specs.declared.head.Head.{Head}
use Rattle.gb_script.specs.declared.head.Head.TheVariants as head
use Rattle.gb_script.specs.declared.tree.Node.{Node}
use Rattle.gb_script.specs.Tree.{head_of, text_of, parts_of, place_of}
use Rattle.gb_names.specs.Types.{type_of}
use Rattle.gb_elab_prog.specs.Entries.{entries_by, entries_given}
use Rattle.gb_elab_prog.specs.Fresh.{free}
use Rattle.gb_elab_prog.specs.Bound.{parameter_name}
use Rattle.gb_elab_prog.specs.ModuleTypes.{may_call, module_type_at, module_type_entries, oracle, oracles, param, parameter, parameters, signature, signatures, signatures_named as signatures_of_parameter, signed, unsigned, without_parameters}
use Rattle.gb_elab_prog.specs.Operators.{operator_entry}
use Rattle.gb_elab_prog.specs.Procedures.{formals, result_type}
use Rattle.gb_elab_prog.specs.Types.{only, new, constants as declared_constants, without, enumeration as declared_enumeration, enumeration_type, type_entries}
use Rattle.gb_elab_laws.proofs.Given.{given_bind, given_is, if_refused, not_given, some_given}
use Rattle.gb_print_names.specs.declared.bound_names.Enumeration.{Enumeration}
use Rattle.gb_print_names.specs.Names.{constants}
use Rattle.gb_print.specs.Written.{is_name_text, is_name_there, is_path, is_path_there, is_word_here}
use Rattle.gb_print.specs.Written as w
use Rattle.gb_shown.specs.Named.{IsNamedVariable}
use Rattle.gb_shown.specs.Rules.{IsNamedLocal}
use Rattle.gb_shown.proofs.Sequents.{all_append}
use Rattle.gb_shown.specs.Scopes.{AreNamedOracles, IsNamedEntry, IsNamedOracle, IsNamedParam, IsNamedScope, IsNamedSignature}
use Rattle.gb_shown.specs.Words.{HasItsNames, IsName, IsReadTree}
use Rattle.gb_mods.specs.Asked.{signature_of}
use Rattle.gb_shown.proofs.Asked.{signature_found, signatures_there}
use Rattle.gb_shown.proofs.Given.{same_some}
use Rattle.gb_shown.proofs.Paths.{name_is_path}
use Rattle.gb_session.specs.Commands.{enumerated, enumeration}
use Rattle.gb_shown.proofs.Entries.{operator_entry_named}
use Rattle.gb_shown.proofs.Later.{all_so}
use Rattle.gb_shown.proofs.Members.{formals_named, result_named}
use Rattle.gb_shown.proofs.OfForms.{OfForms}
use Rattle.gb_shown.proofs.Trees.{AreRead, names_of, parts_read}
use Rattle.gb_shown.proofs.Stages.{AreDeclared, in_front}

out_enumeration : (x : List ℕ) (n : ℕ) → out-Ty (ty.Enumeration x n) ≡ ty_layer.Enumeration x n
unfolding X.out-Ty denote.Hole.Carrier.out
out_enumeration x n = refl

-- words stand in a list of names from a number on
abbrev AllAt : List (List ℕ) → ℕ → List Node → Type 0
AllAt ns i [] = Unit {0}
AllAt ns i (x ∷ xs) = (slice_get ns i ≡ Some (text_of x)) × AllAt ns (suc i) xs

shifted : (n : List ℕ) (ns : List (List ℕ)) (i : ℕ) (xs : List Node) → AllAt ns i xs → AllAt (n ∷ ns) (suc i) xs
shifted n ns i [] k = tt
shifted n ns i (x ∷ xs) k = (k.0, shifted n ns (suc i) xs k.1)

all_at : (m : ℕ) (xs : List Node) → AllAt (map text_of xs) 0 (take m xs)
all_at zero xs = tt
all_at (suc m) [] = tt
all_at (suc m) (x ∷ xs) = (refl, shifted (text_of x) (map text_of xs) 0 (take m xs) (all_at m xs))

take_names : (m : ℕ) (xs : List Node) → AllByRecursion IsName xs → AllByRecursion IsName (take m xs)
take_names zero xs k = tt
take_names (suc m) [] k = tt
take_names (suc m) (x ∷ xs) k = (k.0, take_names m xs k.1)

-- an enumeration that is listed last is found where none before it has its name
listed_last : (es : List Enumeration) (ds : Declarations) (x : List ℕ) (ns : List (List ℕ)) → AreDeclared es ds → is_some (entry_of ds x) ≡ false →
    constants (es ++ record { name = x; constants = ns } ∷ []) x ≡ ns
listed_last [] ds x ns k f = ap (λ b. if b then ns else []) ((bytes_eq-Decides x x).1 refl)
listed_last (e ∷ es) ds x ns k f = step (bytes_eq e.name x) refl (listed_last es ds x ns k.1 f)
  where
    step : (b : Bool) → bytes_eq e.name x ≡ b → constants (es ++ record { name = x; constants = ns } ∷ []) x ≡ ns →
        (if b then e.constants else constants (es ++ record { name = x; constants = ns } ∷ []) x) ≡ ns
    step true same behind = absurd (false≢true (sym f ∙ subst (λ y. is_some (entry_of ds y) ≡ true) ((bytes_eq-Decides e.name x).0 same) k.0))
    step false same behind = behind

none_behind : (ps : List Node) (added out : Declarations) → without ps added ≡ given out → added ≡ out
none_behind [] added out e = given_is added out e
none_behind (p ∷ ps) added out e = absurd (not_given _ _ out e)

module _ (es : List Enumeration) (x : Node) (size : ℕ) (ns : List (List ℕ)) (found : constants es (text_of x) ≡ ns) (path : is_path (text_of x) ≡ true) where
  abbrev t : Ty
  t = enumeration_type x size

  -- a constant of the enumeration
  constant_named : (i : ℕ) (y : Node) → IsName y → slice_get ns i ≡ Some (text_of y) → IsNamedEntry es (entry.Constant (record { ty = t; number = i }))
  constant_named i y n at = (
    path,
    subst (λ l. is_word_here es l i ≡ true) (sym (out_enumeration (text_of x) size))
        (subst (λ z. is_name_there (slice_get z i) ≡ true) (sym found) (subst (λ o. is_name_there o ≡ true) (sym at) n)),
  )

  all_constants : (ds : Declarations) (i : ℕ) (added : Declarations) → IsNamedScope es added → (ys : List Node) → AllByRecursion IsName ys → AllAt ns i ys → (out : Declarations) →
      declared_constants ds t i added ys ≡ given out → IsNamedScope es out
  all_constants ds i added k [] n at out e = subst (IsNamedScope es) (given_is added out e) k
  all_constants ds i added k (y ∷ ys) n at out e =
      let a = given_bind (new ds added y) _ out e in
      all_constants ds (suc i) (added ++ only y (entry.Constant (record { ty = t; number = i })))
      (all_append (λ d. (is_path d.0 ≡ true) × IsNamedEntry es d.1) added _ k ((name_is_path (text_of y) n.0, constant_named i y n.0 at.0), tt)) ys n.1 at.1 out a.2

  type_named : (c : Node) → IsName c → slice_get ns 0 ≡ Some (text_of c) → IsNamedEntry es (entry.Type t)
  type_named c n at = (
    w.enumeration (out_enumeration (text_of x) size) path,
    subst (λ z. is_path_there (slice_get z 0) ≡ true) (sym found) (subst (λ o. is_path_there o ≡ true) (sym at) (name_is_path (text_of c) n)),
  )

-- the type stands in front
still_there : (ds : Declarations) (t : Ty) (i : ℕ) (added : Declarations) (ys : List Node) (out : Declarations) (x : List ℕ) → is_some (entry_of added x) ≡ true → declared_constants ds t i added ys ≡ given out → is_some (entry_of out x) ≡ true
still_there ds t i added [] out x h e = subst (λ z. is_some (entry_of z x) ≡ true) (given_is added out e) h
still_there ds t i added (y ∷ ys) out x h e =
    let a = given_bind (new ds added y) _ out e in still_there ds t (suc i) (added ++ only y _) ys out x (in_front added _ x h) a.2

itself : (x : Node) (e : Entry) → is_some (entry_of (only x e) (text_of x)) ≡ true
itself x e = ap (λ b. is_some (if b then Some e else None)) ((bytes_eq-Decides (text_of x) (text_of x)).1 refl)

module _ (forms : OfForms) (es : List Enumeration) (ds : Declarations) (k : IsNamedScope es ds) (listed : AreDeclared es ds) where
  -- what is declared is named with what is listed, which is declared
  abbrev AddsNamed : List Enumeration → Declarations → Type 0
  AddsNamed es' added = IsNamedScope (es ++ es') added × AreDeclared es' added

  one_added : (x : Node) → IsName x → (e : Entry) → IsNamedEntry es e → AddsNamed [] (only x e)
  one_added x n e h = subst (λ l. IsNamedScope l (only x e) × Unit {0}) (sym (append-nil es)) (((name_is_path (text_of x) n, h), tt), tt)

  enumeration_named : (x : Node) → IsName x → is_some (entry_of ds (text_of x)) ≡ false → (c : Node) (cs : List Node) → AllByRecursion IsName (c ∷ cs) → (added : Declarations) →
      declared_enumeration ds x (take 256 (c ∷ cs)) (drop 256 (c ∷ cs)) ≡ given added → AddsNamed (record { name = text_of x; constants = map text_of (c ∷ cs) } ∷ []) added
  enumeration_named x n fresh c cs ns added e =
      let all = c ∷ cs in
      let size = length (take 256 all) in
      let later = es ++ record { name = text_of x; constants = map text_of all } ∷ [] in
      let found = listed_last es ds (text_of x) (map text_of all) listed fresh in
      let path = name_is_path (text_of x) n in
      let t = enumeration_type x size in
      let a = given_bind (declared_constants ds t 0 (only x (entry.Type t)) (take 256 all)) (λ z. without (drop 256 all) z) added e in
      let same = none_behind (drop 256 all) a.0 added a.2 in
      let first : IsNamedScope later (only x (entry.Type t)) = ((path, type_named later x size (map text_of all) found path c ns.0 refl), tt) in
      subst (λ z. IsNamedScope later z × AreDeclared (record { name = text_of x; constants = map text_of all } ∷ []) z) same (
        all_constants later x size (map text_of all) found path ds 0 (only x (entry.Type t)) first (take 256 all) (take_names 256 all ns) (all_at 256 all) a.0 a.1,
        (still_there ds t 0 (only x (entry.Type t)) (take 256 all) a.0 (text_of x) (itself x (entry.Type t)) a.1, tt),
      )

  types_named : (x : Node) → IsName x → is_some (entry_of ds (text_of x)) ≡ false → (h : Head) (ps : List Node) → HasItsNames h ps → AreRead ps → (p : Place) (added : Declarations) →
      type_entries ds x h ps p ≡ given added → AddsNamed (enumeration x h ps) added
  types_named x n fresh head.AbstractType ps ns r p added e = subst (AddsNamed []) (given_is _ added e) (one_added x n entry.AbstractType tt)
  types_named x n fresh head.TypeAlias (t ∷ []) ns r p added e =
      let a = given_bind (type_of ds t) _ added e in
      let u = forms.type es ds k t r.0 a.0 a.1 in
      subst (AddsNamed []) (given_is _ added a.2) (one_added x n (entry.Type a.0) (u.written, u.first))
  types_named x n fresh head.TypeAlias [] ns r p added e = absurd (not_given _ _ added e)
  types_named x n fresh head.TypeAlias (t ∷ u ∷ ps) ns r p added e = absurd (not_given _ _ added e)
  types_named x n fresh head.Enumeration (c ∷ cs) ns r p added e = enumeration_named x n fresh c cs ns added e
  types_named x n fresh head.Enumeration [] ns r p added e = absurd (not_given _ _ added e)
  types_named x n fresh _ ps ns r p added e = absurd (not_given _ _ added e)

  -- the procedures that a module type asks for
  abbrev AreSignatures : List Signature → Type 0
  AreSignatures ss = AllByRecursion IsNamedSignature ss

  -- the procedures of a parameter, which has a name
  params_found : (qs : List Param) → AllByRecursion IsNamedParam qs → (x : List ℕ) (ss : List Signature) → signatures_of_parameter ds qs x ≡ Some ss → (is_name_text x ≡ true) × AreSignatures ss
  params_found [] w x ss e = absurd (cc)
  params_found (q ∷ qs) w x ss e = step (bytes_eq q.name x) refl (params_found qs w.1 x ss) e
    where
      step : (b : Bool) → bytes_eq q.name x ≡ b → (signatures_of_parameter ds qs x ≡ Some ss → (is_name_text x ≡ true) × AreSignatures ss) →
          (if b then Some (signatures_of (module_type_of ds q.ty)) else signatures_of_parameter ds qs x) ≡ Some ss → (is_name_text x ≡ true) × AreSignatures ss
      step true i later f = (ap is_name_text (sym ((bytes_eq-Decides q.name x).0 i)) ∙ w.0, subst AreSignatures (same_some f) (signatures_there es ds k q.ty))
      step false i later f = later f

  oracle_named : (qs : List Param) → AllByRecursion IsNamedParam qs → (h : Head) (ns : List Node) (p : Place) (o : Oracle) → oracle ds qs h ns p ≡ given o → IsNamedOracle o
  oracle_named qs w head.Oracle (x ∷ f ∷ []) p o e =
      let a = given_bind (given_or (signatures_of_parameter ds qs (text_of x)) (UnknownName (text_of x)) (place_of x)) _ o e in
      let s = params_found qs w (text_of x) a.0 (some_given (signatures_of_parameter ds qs (text_of x)) (UnknownName (text_of x)) (place_of x) a.0 a.1) in
      let b = given_bind (given_or (signature_of a.0 (text_of f)) (UnknownName (text_of f)) (place_of f)) _ o a.2 in
      subst IsNamedOracle (given_is _ o b.2) (s.0, (signature_found a.0 s.1 (text_of f) b.0 (some_given (signature_of a.0 (text_of f)) (UnknownName (text_of f)) (place_of f) b.0 b.1)).0)
  oracle_named qs w head.Oracle [] p o e = absurd (not_given _ _ o e)
  oracle_named qs w head.Oracle (x ∷ []) p o e = absurd (not_given _ _ o e)
  oracle_named qs w head.Oracle (x ∷ f ∷ y ∷ ns) p o e = absurd (not_given _ _ o e)
  oracle_named qs w _ ns p o e = absurd (not_given _ _ o e)

  oracles_named : (qs : List Param) → AllByRecursion IsNamedParam qs → (os : List Oracle) → AllByRecursion IsNamedOracle os → (ts : List Node) (us : List Oracle) → oracles ds qs os ts ≡ given us → AllByRecursion IsNamedOracle us
  oracles_named qs w os v [] us e = subst (AllByRecursion IsNamedOracle) (given_is os us e) v
  oracles_named qs w os v (t ∷ ts) us e =
      let a = given_bind (oracle ds qs (head_of t) (parts_of t) (place_of t)) _ us e in
      oracles_named qs w (os ++ a.0 ∷ []) (all_append IsNamedOracle os (a.0 ∷ []) v (oracle_named qs w (head_of t) (parts_of t) (place_of t) a.0 a.1, tt)) ts us a.2

  may_call_named : (qs : List Param) → AllByRecursion IsNamedParam qs → (h : Head) (ns : List Node) (p : Place) (m : MayCall) → may_call ds qs h ns p ≡ given m → AreNamedOracles m
  may_call_named qs w head.AllOracles ns p m e = subst AreNamedOracles (given_is _ m e) tt
  may_call_named qs w head.Oracles ns p m e = let a = given_bind (oracles ds qs [] ns) _ m e in subst AreNamedOracles (given_is _ m a.2) (oracles_named qs w [] tt ns a.0 a.1)
  may_call_named qs w _ ns p m e = absurd (not_given _ _ m e)

  signed_named : (qs : List Param) → AllByRecursion IsNamedParam qs → (x : Node) → IsName x → (fs r os : Node) → IsReadTree fs → IsReadTree r → (s : Signature) → signed ds qs x fs r os ≡ given s → IsNamedSignature s
  signed_named qs w x n fs r os h u s e =
      let a = given_bind (formals ds [] (parts_of fs)) _ s e in
      let b = given_bind (result_type ds (parts_of r)) _ s a.2 in
      let c = given_bind (may_call ds qs (head_of os) (parts_of os) (place_of os)) _ s b.2 in
      let params = all_so (IsNamedLocal es) IsNamedVariable (λ v l. l.0) a.0 (formals_named forms es ds k [] tt (parts_of fs) (parts_read fs h) a.0 a.1) in
      subst IsNamedSignature (given_is _ s c.2) (record {
        name = n;
        typed = record { params = params; result = result_named forms es ds k (parts_of r) (parts_read r u) b.0 b.1 };
        oracles = may_call_named qs w (head_of os) (parts_of os) (place_of os) c.0 c.1;
      })

  signature_named : (qs : List Param) → AllByRecursion IsNamedParam qs → (ss : List Signature) → AreSignatures ss → (h : Head) (ns : List Node) → HasItsNames h ns → AreRead ns → (p : Place) (us : List Signature) → signature ds qs ss h ns p ≡ given us → AreSignatures us
  signature_named qs v ss w head.Signature (x ∷ fs ∷ r ∷ os ∷ []) n m p us e =
      let a = given_bind (unsigned ss x) _ us e in
      let b = given_bind (signed ds qs x fs r os) _ us a.2 in
      subst AreSignatures (given_is _ us b.2) (all_append IsNamedSignature ss (b.0 ∷ []) w (signed_named qs v x n fs r os m.1.0 m.1.1.0 b.0 b.1, tt))
  signature_named qs v ss w head.Signature [] n m p us e = absurd (not_given _ _ us e)
  signature_named qs v ss w head.Signature (x ∷ []) n m p us e = absurd (not_given _ _ us e)
  signature_named qs v ss w head.Signature (x ∷ a ∷ []) n m p us e = absurd (not_given _ _ us e)
  signature_named qs v ss w head.Signature (x ∷ a ∷ b ∷ []) n m p us e = absurd (not_given _ _ us e)
  signature_named qs v ss w head.Signature (x ∷ a ∷ b ∷ c ∷ d ∷ ns) n m p us e = absurd (not_given _ _ us e)
  signature_named qs v ss w _ ns n m p us e = absurd (not_given _ _ us e)

  signatures_named : (qs : List Param) → AllByRecursion IsNamedParam qs → (ss : List Signature) → AreSignatures ss → (ts : List Node) → AreRead ts → (us : List Signature) → signatures ds qs ss ts ≡ given us → AreSignatures us
  signatures_named qs v ss w [] r us e = subst AreSignatures (given_is ss us e) w
  signatures_named qs v ss w (t ∷ ts) r us e =
      let a = given_bind (signature ds qs ss (head_of t) (parts_of t) (place_of t)) _ us e in
      signatures_named qs v a.0 (signature_named qs v ss w (head_of t) (parts_of t) (names_of t r.0) (parts_read t r.0) (place_of t) a.0 a.1) ts r.1 us a.2

  -- the parameters of a module type
  parameter_named : (qs : List Param) → AllByRecursion IsNamedParam qs → (h : Head) (ns : List Node) → HasItsNames h ns → (p : Place) (us : List Param) → parameter ds qs h ns p ≡ given us → AllByRecursion IsNamedParam us
  parameter_named qs w head.ModuleParameter (x ∷ t ∷ []) n p us e =
      let a = given_bind (parameter_name ds None qs x) _ us e in
      let b = given_bind (module_type_at ds t) _ us a.2 in
      let c = given_bind (without_parameters (let m = b.0 in m.params) (place_of t)) _ us b.2 in
      subst (AllByRecursion IsNamedParam) (given_is _ us c.2) (all_append IsNamedParam qs (param x t ∷ []) w (n, tt))
  parameter_named qs w head.ModuleParameter [] n p us e = absurd (not_given _ _ us e)
  parameter_named qs w head.ModuleParameter (x ∷ []) n p us e = absurd (not_given _ _ us e)
  parameter_named qs w head.ModuleParameter (x ∷ t ∷ u ∷ ns) n p us e = absurd (not_given _ _ us e)
  parameter_named qs w _ ns n p us e = absurd (not_given _ _ us e)

  parameters_named : (qs : List Param) → AllByRecursion IsNamedParam qs → (ts : List Node) → AreRead ts → (us : List Param) → parameters ds qs ts ≡ given us → AllByRecursion IsNamedParam us
  parameters_named qs w [] r us e = subst (AllByRecursion IsNamedParam) (given_is qs us e) w
  parameters_named qs w (t ∷ ts) r us e =
      let a = given_bind (parameter ds qs (head_of t) (parts_of t) (place_of t)) _ us e in
      parameters_named a.0 (parameter_named qs w (head_of t) (parts_of t) (names_of t r.0) (place_of t) a.0 a.1) ts r.1 us a.2

  module_type_named : (x : Node) → IsName x → (ps ts : List Node) → AreRead ps → AreRead ts → (added : Declarations) → module_type_entries ds x ps ts ≡ given added → AddsNamed [] added
  unfolding module_type_entries
  module_type_named x n ps ts s r added e =
      let a = given_bind (free ds x) _ added e in
      let b = given_bind (parameters ds [] ps) _ added a.2 in
      let c = given_bind (signatures ds b.0 [] ts) _ added b.2 in
      let params = parameters_named [] tt ps s b.0 b.1 in
      subst (AddsNamed []) (given_is _ added c.2)
      (one_added x n (entry.ModuleType (record { params = b.0; signatures = c.0 })) (record { params = params; signatures = signatures_named b.0 params [] tt ts r c.0 c.1 }))

  entries_by_named : (h : Head) (ps : List Node) → HasItsNames h ps → AreRead ps → (p : Place) (added : Declarations) → entries_by ds h ps p ≡ given added → AddsNamed (enumerated h ps) added
  entries_by_named head.TypeDeclaration (x ∷ d ∷ []) n r p added e =
      let a = given_bind (free ds x) _ added e in
      let f = if_refused (is_some (entry_of ds (text_of x))) _ _ _ _ a.1 in
      types_named x n f.0 (head_of d) (parts_of d) (names_of d r.1.0) (parts_read d r.1.0) (place_of d) added a.2
  entries_by_named head.TypeDeclaration [] n r p added e = absurd (not_given _ _ added e)
  entries_by_named head.TypeDeclaration (x ∷ []) n r p added e = absurd (not_given _ _ added e)
  entries_by_named head.TypeDeclaration (x ∷ d ∷ y ∷ ps) n r p added e = absurd (not_given _ _ added e)
  entries_by_named head.OperatorDeclaration (x ∷ d ∷ []) n r p added e =
      let a = given_bind (free ds x) _ added e in
      let b = given_bind (operator_entry ds (head_of d) (parts_of d) (place_of d)) _ added a.2 in
      subst (AddsNamed []) (given_is _ added b.2) (one_added x n b.0 (operator_entry_named forms es ds k (head_of d) (parts_of d) (parts_read d r.1.0) (place_of d) b.0 b.1))
  entries_by_named head.OperatorDeclaration [] n r p added e = absurd (not_given _ _ added e)
  entries_by_named head.OperatorDeclaration (x ∷ []) n r p added e = absurd (not_given _ _ added e)
  entries_by_named head.OperatorDeclaration (x ∷ d ∷ y ∷ ps) n r p added e = absurd (not_given _ _ added e)
  entries_by_named head.ModuleType (x ∷ qs ∷ ss ∷ []) n r p added e = module_type_named x n (parts_of qs) (parts_of ss) (parts_read qs r.1.0) (parts_read ss r.1.1.0) added e
  entries_by_named head.ModuleType [] n r p added e = absurd (not_given _ _ added e)
  entries_by_named head.ModuleType (x ∷ []) n r p added e = absurd (not_given _ _ added e)
  entries_by_named head.ModuleType (x ∷ qs ∷ []) n r p added e = absurd (not_given _ _ added e)
  entries_by_named head.ModuleType (x ∷ qs ∷ ss ∷ y ∷ ps) n r p added e = absurd (not_given _ _ added e)
  entries_by_named _ ps n r p added e = absurd (not_given _ _ added e)

  -- what a command declares
  pub entries_named : (t : Node) → IsReadTree t → (added : Declarations) → entries_given ds t ≡ given added → AddsNamed (enumerated (head_of t) (parts_of t)) added
  entries_named t r added e = entries_by_named (head_of t) (parts_of t) (names_of t r) (parts_read t r) (place_of t) added e
