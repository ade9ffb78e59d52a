-- What is printed of procedures reads as their trees: as paths, and at their arguments.
use Rattle.std.specs.Prelude.{ℕ, ◌≡◌, List, [], ◌∷◌, ◌++◌, codes}
use Rattle.std.proofs.Common.{ap, ap₂, sym, ◌∙◌, subst, append_assoc}
use Rattle.gb_script.specs.declared.table.Symbol.TheVariants.{Part}
use Rattle.gb_terms.specs.declared.module.ProcRef.{ProcRef}
use Rattle.gb_script.specs.declared.head.Head.TheVariants as head
use Rattle.gb_script.specs.declared.tree.Node.{Node}
use Rattle.gb_script.specs.declared.value.Value.TheVariants.{Tree}
use Rattle.gb_print_names.specs.declared.bound_names.Known.{Known}
use Rattle.gb_print_names.specs.Text.{Text}
use Rattle.gb_print_names.specs.Names.{module_name}
use Rattle.gb_print_names.specs.Modules as print
use Rattle.gb_print.specs.Nodes as nodes
use Rattle.gb_print.specs.Types as type_tree
use Rattle.gb_print.specs.Written.{IsWrittenModule, name, apply, more_module, IsWrittenProcedure}
use Rattle.gb_print.proofs.Levels.{Before, Spelt}
use Rattle.gb_print.proofs.Atoms.{FormPart, form_trees}
use Rattle.gb_print.proofs.Pieces.{Writes, literal, both_written}
use Rattle.gb_print.proofs.Shown.{writes_same}
use Rattle.gb_print.proofs.ModuleWords.{called_trees}
use Rattle.gb_print.proofs.ExpressionsShown.{name_text, apply_text, expression_shown, expressions_shown, trees_are, called_are}
use Rattle.gb_print.proofs.ProceduresShown.{IsSubject, arguments_text, procedure_subject, call_reads, subject_of}
use Rattle.gb_print.proofs.StatementsRead.{IsStatement, call_statement}
use Rattle.gb_print.proofs.FunctorsRead.{functor_text, functor_reads, path_parts, functor_call_reads, functor_statement}

pub record ShowsProcedure (stage : ℕ) (bound : List Known) (f : ProcRef) : Type 0 where
  pub text : Before
  pub writes : Writes (print.procedure bound f) text
  pub path_node : Node
  pub path_is : type_tree.procedure_tree f bound ≡ path_node
  pub subject : IsSubject stage text path_node
  pub call : (fs : List (FormPart stage)) (mid : Text) → Spelt stage (Part 68 ∷ []) (text (40 ∷ arguments_text fs mid)) mid (Tree (type_tree.call_tree f (form_trees fs) bound) ∷ [])
  pub statement : (fs : List (FormPart stage)) → IsStatement stage (λ mid. text (40 ∷ arguments_text fs (59 ∷ mid))) (type_tree.call_tree f (form_trees fs) bound)

module _ (stage : ℕ) (bound : List Known) (f : ProcRef) where
  by_module : IsWrittenModule bound f.module → IsWrittenProcedure bound f → ShowsProcedure stage bound f
  by_module (name {x = x} e h) w =
      let m = module_name bound x in
      let called = λ (fs : List (FormPart stage)).
      sym (ap (λ l. type_tree.call_at bound f.name (form_trees fs) l) e ∙ ap (λ l. nodes.tree head.Call l) (sym (append_assoc (nodes.word_nodes m) (nodes.word f.name ∷ []) (nodes.list (form_trees fs) ∷ [])))) in
      record {
        text = λ mid. m ++ (46 ∷ (f.name ++ mid));
        writes = both_written (both_written (writes_same (name_text bound f.module x e) (literal m)) (literal (codes "."))) (literal f.name);
        path_node = nodes.tree head.ProcedurePath (nodes.word_nodes m ++ nodes.word f.name ∷ []);
        path_is = ap (λ l. type_tree.procedure_at bound f.name l) e;
        subject = procedure_subject m f.name h w.name_is;
        call = λ fs mid. subst (λ t. Spelt stage (Part 68 ∷ []) (m ++ (46 ∷ (f.name ++ (40 ∷ arguments_text fs mid)))) mid (Tree t ∷ [])) (called fs) (call_reads m f.name fs mid h w.name_is);
        statement = λ fs. subst (λ t. IsStatement stage (λ mid. m ++ (46 ∷ (f.name ++ (40 ∷ arguments_text fs (59 ∷ mid))))) t) (called fs) (call_statement m f.name fs h w.name_is);
      }
  by_module (apply {n = n} {x = x} {ms = ms} e h (more_module d ds)) w =
      let m = module_name bound x in
      let a = expression_shown stage bound d in
      let b = expressions_shown stage bound ds in
      let called = λ (fs : List (FormPart stage)).
      sym (ap (λ l. type_tree.call_at bound f.name (form_trees fs) l) e
      ∙ ap (λ l. nodes.tree head.FunctorCall ((nodes.word_nodes m ++ nodes.list l ∷ nodes.word f.name ∷ []) ++ nodes.list (form_trees fs) ∷ [])) (ap₂ (λ y ys. y ∷ ys) a.called_is (called_are bound ms ∙ b.called))
      ∙ ap (λ l. nodes.tree head.FunctorCall l) (append_assoc (nodes.word_nodes m) (nodes.list (called_trees a.part b.parts) ∷ nodes.word f.name ∷ []) (nodes.list (form_trees fs) ∷ []))) in
      record {
        text = λ mid. m ++ functor_text a.part b.parts f.name w.name_is mid;
        writes = both_written (both_written (writes_same (apply_text bound f.module x (n ∷ ms) e)
            (both_written (both_written (both_written (literal m) (literal (codes "("))) (both_written a.writes b.writes)) (literal (codes ")")))) (literal (codes "."))) (literal f.name);
        path_node = nodes.tree head.FunctorPath (nodes.word_nodes m ++ path_parts a.part b.parts f.name w.name_is);
        path_is = ap (λ l. type_tree.procedure_at bound f.name l) e
            ∙ ap (λ l. nodes.tree head.FunctorPath (nodes.word_nodes m ++ nodes.list l ∷ nodes.word f.name ∷ [])) (ap₂ (λ y ys. y ∷ ys) a.tree_is (trees_are bound ms ∙ b.trees));
        subject = subject_of (λ mid f. functor_reads a.part b.parts _ w.name_is m mid h f);
        call = λ fs mid. subst (λ t. Spelt stage (Part 68 ∷ []) (m ++ functor_text a.part b.parts f.name w.name_is (40 ∷ arguments_text fs mid)) mid (Tree t ∷ [])) (called fs) (functor_call_reads a.part b.parts f.name w.name_is m fs mid h);
        statement = λ fs. subst (λ t. IsStatement stage (λ mid. m ++ functor_text a.part b.parts f.name w.name_is (40 ∷ arguments_text fs (59 ∷ mid))) t) (called fs) (functor_statement a.part b.parts f.name w.name_is m fs h);
      }

  pub procedure_written : IsWrittenProcedure bound f → ShowsProcedure stage bound f
  procedure_written w = by_module w.module_is w
