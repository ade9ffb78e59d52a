-- Reads through the left or the right memory.
use Rattle.std.specs.Prelude.{Bool, not, ◌&&◌, ◌||◌}
use Rattle.std.specs.List.{list_any}
use Rattle.gb_terms.specs.declared.op.Side.{Side}
use Rattle.gb_terms.specs.declared.term.Term.{Term}
use Rattle.gb_terms.specs.declared.term.Head.{Head}
use Rattle.gb_terms.specs.declared.term.Head.TheOpen as layer
use Rattle.gb_terms.specs.declared.term.Head.TheFolds.{fold-Term, fold-Head}
use Rattle.gb_terms.specs.Equal.{side_eq}
use Rattle.gb_walk.specs.Change.{is_left_or_right, is_read_through}

-- whether a term reads through a memory, by whether an argument of its head does
abbrev pub Reading : Type 0
Reading = Side → Bool → Bool

-- The programs of judgments read their own memories alone.
abbrev pub at_head : layer.Head-F Reading (Unit {0}) (Unit {0}) (Unit {0}) (Side → Bool) → Reading
at_head (layer.Read r) s below = is_read_through (side_eq s) r || below
at_head (layer.Glob m through) s below = side_eq s through || below
at_head (layer.Pr p through) s below = side_eq s through || below
at_head (layer.Equiv a b) s below = not (is_left_or_right s) && below
at_head _ s below = below

abbrev pub at_instr : layer.Instr-F Reading (Unit {0}) (Unit {0}) (Unit {0}) (Side → Bool) → Unit {0}
at_instr i = tt

abbrev pub at_subject : layer.Subject-F Reading (Unit {0}) (Unit {0}) (Unit {0}) (Side → Bool) → Unit {0}
at_subject s = tt

abbrev pub at_cmd : layer.Cmd-F Reading (Unit {0}) (Unit {0}) (Unit {0}) (Side → Bool) → Unit {0}
at_cmd c = tt

abbrev pub at_term : layer.Term-F Reading (Unit {0}) (Unit {0}) (Unit {0}) (Side → Bool) → Side → Bool
at_term t s = t.head s (list_any (λ f. f s) t.args)

-- whether a term reads through the left or the right memory, outside of the equivalences in it, which bind both
abbrev pub reads_side : Term → Side → Bool
reads_side = fold-Term Reading (Unit {0}) (Unit {0}) (Unit {0}) (Side → Bool) at_head at_instr at_subject at_cmd at_term

abbrev pub head_reads_side : Head → Reading
head_reads_side = fold-Head Reading (Unit {0}) (Unit {0}) (Unit {0}) (Side → Bool) at_head at_instr at_subject at_cmd at_term
