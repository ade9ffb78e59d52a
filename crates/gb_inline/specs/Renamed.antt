-- Statements with other names for their locals.
use Rattle.std.specs.Prelude.{if◌then◌else◌, List, [], ◌∷◌, map, bytes_eq}
use Rattle.gb_core.specs.declared.var.Var.{Var}
use Rattle.gb_core.specs.declared.var.Var.TheVariants.{Local}
use Rattle.gb_terms.specs.declared.op.Read.TheVariants.{Program}
use Rattle.gb_terms.specs.declared.op.Side.TheVariants.{Own}
use Rattle.gb_terms.specs.declared.term.Head.TheVariants.{Read, Assign, Sample, Call, If, While, Call', If', While'}
use Rattle.gb_terms.specs.declared.term.Instr.{Instr, Row_of-Instr, end_of-Instr, more_of-Instr}
use Rattle.gb_terms.specs.Make.{node}
use Rattle.gb_walk.specs.declared.change.Change.{Change}
use Rattle.gb_walk.specs.declared.change.Change.TheVariants.{ToTerm}
use Rattle.gb_walk.specs.Change.{Changes, term_changed}
use Rattle.gb_meaning.specs.Commands.{terms_in}
use Rattle.gb_meaning.specs.Names.{Name}
use Rattle.gb_inline.specs.declared.fresh.Renaming.{Renaming}

abbrev pub Renamings : Type 0
Renamings = List Renaming

-- the new name of a local; the first one counts
abbrev pub name_renamed : Renamings → Name → Name
name_renamed [] x = x
name_renamed (r ∷ rs) x = if bytes_eq r.old x then r.new.name else name_renamed rs x

abbrev pub var_renamed : Renamings → Var → Var
var_renamed rs (Local x) = Local (name_renamed rs x)
var_renamed rs x = x

-- reads of a local become reads of its new name
abbrev pub read_renamed : Renaming → Change
read_renamed r = ToTerm (Program (Local r.old) Own) (node (Read (Program (Local r.new.name) Own)) [] r.new.ty)

abbrev pub reads_renamed : Renamings → Changes
reads_renamed rs = map read_renamed rs

-- The same in statements: it is told how reads change, and what becomes of what is written.
module _ (cs : Changes) (rs : Renamings) where
  abbrev mutual
    pub statement_renamed : Instr → Instr
    statement_renamed (Assign xs e) = Assign (map (var_renamed rs) xs) (term_changed e cs)
    statement_renamed (Sample x d) = Sample (var_renamed rs x) (term_changed d cs)
    statement_renamed (Call' xs p n es) = Call (map (var_renamed rs) xs) p (map (λ e. term_changed e cs) (terms_in es))
    statement_renamed (If' e m a n b) = If (term_changed e cs) (record { list = row_renamed a }) (record { list = row_renamed b })
    statement_renamed (While' e v n a) = While (term_changed e cs) (term_changed v cs) (record { list = row_renamed a })

    pub row_renamed : {n : _} → Row_of-Instr n → List Instr
    row_renamed end_of-Instr = []
    row_renamed (more_of-Instr i is) = statement_renamed i ∷ row_renamed is

  -- the same of lists
  abbrev pub each_renamed : List Instr → List Instr
  each_renamed [] = []
  each_renamed (i ∷ is) = statement_renamed i ∷ each_renamed is
