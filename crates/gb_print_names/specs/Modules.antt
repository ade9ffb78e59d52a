-- Modules, procedures and module binders.
use Rattle.std.specs.Prelude.{List, [], ◌∷◌, codes}
use Rattle.gb_terms.specs.declared.module.Mexp.{Mexp, fold-Mexp}
use Rattle.gb_terms.specs.declared.module.Mexp.TheOpen as layer
use Rattle.gb_terms.specs.declared.module.ProcRef.{ProcRef}
use Rattle.gb_terms.specs.declared.module.Bound.{Bound}
use Rattle.gb_terms.specs.declared.module.Bind.{Bind}
use Rattle.gb_print_names.specs.declared.bound_names.Known.{Known}
use Rattle.gb_print_names.specs.Text.{Writing, ◌▸◌, nothing, word, number, separated}
use Rattle.gb_print_names.specs.BoundNames.{Name}
use Rattle.gb_print_names.specs.Names.{module_name}

abbrev pub Shown : Type 0
Shown = List Known → Writing

abbrev pub at_module : layer.Mexp-F Shown → Shown
at_module (layer.Name x) bound = word (module_name bound x)
at_module (layer.Apply x ms) bound = word (module_name bound x) ▸ word (codes "(") ▸ separated (codes ", ") (λ m. m bound) ms ▸ word (codes ")")

-- a module expression
abbrev pub module_text : Mexp → Shown
module_text = fold-Mexp Shown at_module

abbrev pub procedure : List Known → ProcRef → Writing
procedure bound p = module_text p.module bound ▸ word (codes ".") ▸ word p.name

abbrev pub excluded : List Known → Name → Writing
excluded bound x = word (codes "-") ▸ word (module_name bound x)

-- the modules whose globals aren't touched
abbrev pub restriction : List Known → List Name → Writing
restriction bound [] = nothing
restriction bound (x ∷ xs) =
    word (codes " {") ▸ separated (codes ", ") (excluded bound) (x ∷ xs) ▸ word (codes "}")

-- a bound on calls
abbrev pub limit : List Known → Bound → Writing
limit bound b =
    separated (codes " + ") word b.procs ▸ word (codes " : {") ▸ procedure bound b.oracle ▸ word (codes " <= ") ▸ number b.most ▸ word (codes "}")

abbrev pub limits : List Known → List Bound → Writing
limits bound [] = nothing
limits bound (b ∷ bs) = word (codes " [") ▸ separated (codes ", ") (limit bound) (b ∷ bs) ▸ word (codes "]")

-- an abstract module under a name: its module type, its restriction and its bounds
abbrev pub abstract_module : List Known → Name → Bind → Writing
abstract_module bound x b =
    word x ▸ word (codes " <: ") ▸ word b.ty ▸ restriction bound b.minus ▸ limits bound b.bounds
