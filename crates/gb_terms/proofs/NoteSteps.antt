-- Noting the reads of a tree is noting those of its parts in turn.
use Rattle.std.proofs.Common.{◌≡◌, ℕ, ◌+◌, ◌<◌, List, ◌∷◌, ◌++◌, map, drop, length, get_or, sym, ap, ◌∙◌}
use Rattle.std.proofs.lemmas.List.{at_drop_more}
use Rattle.gb_terms.specs.declared.term.Term.{Term}
use Rattle.gb_terms.specs.declared.term.Subject.{Subject}
use Rattle.gb_terms.specs.declared.term.Cmd.{Cmd}
use Rattle.gb_terms.specs.declared.term.Head.TheOpen as layer
use Rattle.gb_terms.specs.declared.term.Head.TheVariants.{Equiv, If, While, rolls-Equiv}
use Rattle.gb_terms.specs.declared.term.Head.TheViews.{out-Term}
use Rattle.gb_terms.specs.declared.term.Head.TheFolds.{fold_out-Term, fold-roll-Head, fold-roll-Instr}
use Rattle.gb_terms.specs.Reads.{Reads, noted, joined, at_head, at_instr, at_subject, at_cmd, at_term, term_reads, head_reads, subject_reads, instr_reads, cmd_reads}
use Rattle.gb_terms.proofs.Once.{noted_append}

-- three lists in turn
three : (seen a b c : Reads) → noted seen (a ++ (b ++ c)) ≡ noted (noted (noted seen a) b) c
three seen a b c = noted_append seen a (b ++ c) ∙ noted_append (noted seen a) b c

pub note_out : (seen : Reads) (t : Term) → noted seen (term_reads t) ≡ noted (noted seen (head_reads (out-Term t).head)) (joined (map term_reads (out-Term t).args))
note_out seen t =
    ap (noted seen) (fold_out-Term Reads Reads Reads Reads Reads at_head at_instr at_subject at_cmd at_term t)
    ∙ noted_append seen (head_reads (out-Term t).head) (joined (map term_reads (out-Term t).args))

pub note_Equiv : (seen : Reads) (s t : Subject) → noted seen (head_reads (Equiv s t)) ≡ noted (noted seen (subject_reads s)) (subject_reads t)
note_Equiv seen s t =
    ap (λ h. noted seen (head_reads h)) (sym (rolls-Equiv s t))
    ∙ ap (noted seen) (fold-roll-Head Reads Reads Reads Reads Reads at_head at_instr at_subject at_cmd at_term (layer.Equiv s t))
    ∙ noted_append seen (subject_reads s) (subject_reads t)

pub note_If : (seen : Reads) (e : Term) (a b : Cmd) → noted seen (instr_reads (If e a b)) ≡ noted (noted (noted seen (term_reads e)) (cmd_reads a)) (cmd_reads b)
unfolding Rattle.gb_terms.specs.declared.term.Head.TheViews.roll-Instr denote.Hole.Carrier.roll
note_If seen e a b =
    ap (noted seen) (fold-roll-Instr Reads Reads Reads Reads Reads at_head at_instr at_subject at_cmd at_term (layer.If e a b))
    ∙ three seen (term_reads e) (cmd_reads a) (cmd_reads b)

pub note_While : (seen : Reads) (e v : Term) (a : Cmd) → noted seen (instr_reads (While e v a)) ≡ noted (noted (noted seen (term_reads e)) (term_reads v)) (cmd_reads a)
unfolding Rattle.gb_terms.specs.declared.term.Head.TheViews.roll-Instr denote.Hole.Carrier.roll
note_While seen e v a =
    ap (noted seen) (fold-roll-Instr Reads Reads Reads Reads Reads at_head at_instr at_subject at_cmd at_term (layer.While e v a))
    ∙ three seen (term_reads e) (term_reads v) (cmd_reads a)

-- one part more of a list
pub note_more : {X : Type 0} (f : X → Reads) (seen : Reads) (xs : List X) (i : ℕ) (x : X) → i < length xs → x ≡ get_or xs i x → noted seen (joined (map f (drop i xs))) ≡ noted (noted seen (f x)) (joined (map f (drop (i + 1) xs)))
note_more f seen xs i x h e =
    at_drop_more (λ ys. noted seen (joined (map f ys))) xs i x h
    ∙ ap (λ y. noted seen (joined (map f (y ∷ drop (i + 1) xs)))) (sym e)
    ∙ noted_append seen (f x) (joined (map f (drop (i + 1) xs)))
