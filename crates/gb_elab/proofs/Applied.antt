-- Names at arguments.
use Rattle.std.proofs.Common.{◌≡◌, ◌≤◌, ◌<◌, List, [], ◌∷◌, length, get_or, drop, Option, refl, ap, sym, ◌∙◌, arith}
use Rattle.gb_core.specs.declared.place.Place.{Place}
use Rattle.gb_core.specs.declared.ty.Ty.{Ty}
use Rattle.gb_names.specs.declared.bindings.Binding.{Binding}
use Rattle.gb_script.specs.declared.head.Head.TheVariants as head
use Rattle.gb_script.specs.declared.tree.Node.{Node}
use Rattle.gb_script.specs.Tree.{head_of, text_of, parts_of}
use Rattle.gb_names.specs.Environment.{Environment}
use Rattle.gb_names.specs.Names.{path}
use Rattle.gb_elab.specs.Forms.{applied, applied_form, application, with_meanings}

-- nothing is behind the first of no elements
pub none_behind : {A : Type 0} (xs : List A) → length xs < 1 → drop 1 xs ≡ xs
none_behind [] h = refl
none_behind (x ∷ xs) h = absurd (omega (arith, h))

module _ (ts : List Node) (f : Node) (p : Place) (at : Environment) (bound : List Binding) (w : Option Ty) where
  pub by_name : 1 ≤ length ts → f ≡ get_or ts 0 f → head_of f ≡ head.Name
      → applied_form (with_meanings ts) p at bound w ≡ applied (text_of f) (with_meanings (drop 1 ts)) p at bound w
  by_name h e k = first ts h e
    where
      first : (us : List Node) → 1 ≤ length us → f ≡ get_or us 0 f → applied_form (with_meanings us) p at bound w ≡ applied (text_of f) (with_meanings (drop 1 us)) p at bound w
      first [] h e = absurd (omega (arith, h))
      first (g ∷ us) h e =
          ap (λ z. application (head_of z) (text_of z) (parts_of z) (with_meanings us) p at bound w) (sym e)
          ∙ ap (λ k. application k (text_of f) (parts_of f) (with_meanings us) p at bound w) k

  pub by_path : 1 ≤ length ts → f ≡ get_or ts 0 f → head_of f ≡ head.Path
      → applied_form (with_meanings ts) p at bound w ≡ applied (path (parts_of f)) (with_meanings (drop 1 ts)) p at bound w
  by_path h e k = first ts h e
    where
      first : (us : List Node) → 1 ≤ length us → f ≡ get_or us 0 f → applied_form (with_meanings us) p at bound w ≡ applied (path (parts_of f)) (with_meanings (drop 1 us)) p at bound w
      first [] h e = absurd (omega (arith, h))
      first (g ∷ us) h e =
          ap (λ z. application (head_of z) (text_of z) (parts_of z) (with_meanings us) p at bound w) (sym e)
          ∙ ap (λ k. application k (text_of f) (parts_of f) (with_meanings us) p at bound w) k
