-- What is printed of module binders reads as their trees.
use Rattle.std.specs.Prelude.{ℕ, ◌≡◌, true, false, ◌&&◌, List, [], ◌∷◌, ◌++◌, map, codes}
use Rattle.std.specs.List.{list_all}
use Rattle.std.specs.Fmt.{decimal}
use Rattle.std.proofs.Common.{refl, ap, ap₂, sym, ◌∙◌, subst}
use Rattle.gb_script.specs.declared.table.Symbol.TheVariants.{Part}
use Rattle.gb_goal.specs.Answers.{nowhere}
use Rattle.gb_lex.specs.Byte.{is_word_byte}
use Rattle.gb_terms.specs.declared.module.Mexp.{Mexp, out-Mexp}
use Rattle.gb_terms.specs.declared.module.Mexp.TheOpen as layer
use Rattle.gb_terms.specs.declared.module.ProcRef.{ProcRef}
use Rattle.gb_terms.specs.declared.module.Bind.{Bind}
use Rattle.gb_terms.specs.declared.module.Bound.{Bound}
use Rattle.gb_script.specs.declared.head.Head.TheVariants as head
use Rattle.gb_script.specs.declared.tree.Node.{Node}
use Rattle.gb_script.specs.declared.value.Value.TheVariants.{Tree}
use Rattle.gb_print_names.specs.declared.bound_names.Known.{Known}
use Rattle.gb_print_names.specs.Text.{Text, Writing, ◌▸◌, each, word, separated}
use Rattle.gb_print_names.specs.BoundNames.{Name}
use Rattle.gb_print_names.specs.Names.{module_name}
use Rattle.gb_print_names.specs.Modules as print
use Rattle.gb_print.specs.Nodes as nodes
use Rattle.gb_print.specs.Types as type_tree
use Rattle.gb_print.specs.Heads as tree
use Rattle.gb_print.specs.Written.{is_path, is_name_text, in_range, is_module_here, is_oracle_here, are_names, is_limit_here, is_bind_here}
use Rattle.gb_print.proofs.Lexed.{ahead}
use Rattle.gb_print.proofs.Tokens.{both}
use Rattle.gb_print.proofs.Symbols.{close_round, forall_word, comma_word}
use Rattle.gb_print.proofs.Levels.{Before, Spelt, end, tok, row, followed}
use Rattle.gb_print.proofs.Operands.{grown_node, opens}
use Rattle.gb_print.proofs.NameWords.{name_reads, name_start, start_begins}
use Rattle.gb_print.proofs.Atoms.{for_all}
use Rattle.gb_print.proofs.Pieces.{Writes, literal, both_written, empty_written, Shows}
use Rattle.gb_print.proofs.Shown.{writes_same}
use Rattle.gb_print.proofs.ExpressionsShown.{name_text}
use Rattle.gb_print.proofs.BoundsRead.{LimitPart, more_excluded, excluded_text, more_names, limit_text, limit_node, limit_nodes, more_limits, limits_text, module_reads}
use Rattle.gb_print.proofs.Productions as p

-- A module by its name.

-- the name of a module
record Named (bound : List Known) (m : Mexp) : Type 0 where
  name : Text
  is : out-Mexp m ≡ layer.Name name
  path : is_path (module_name bound name) ≡ true

named_by : (bound : List Known) (m : Mexp) (l : layer.Mexp-F Mexp) → out-Mexp m ≡ l → is_module_here bound l ≡ true → Named bound m
named_by bound m (layer.Name x) e h = record { name = x; is = e; path = h }
named_by bound m (layer.Apply x ms) e h = absurd cc

named : (bound : List Known) (m : Mexp) → is_module_here bound (out-Mexp m) ≡ true → Named bound m
named bound m h = named_by bound m (out-Mexp m) refl h

oracle_written : (bound : List Known) (f : ProcRef) (n : Named bound f.module) → Writes (print.procedure bound f) (λ mid. module_name bound n.name ++ (46 ∷ (f.name ++ mid)))
oracle_written bound f n = both_written (both_written (writes_same (name_text bound f.module n.name n.is) (literal (module_name bound n.name))) (literal (codes "."))) (literal f.name)

-- Restrictions.

more_excluded_written : (bound : List Known) (xs : List Name) → Writes (each (λ x. word (codes ", ") ▸ print.excluded bound x) xs) (more_excluded (map (module_name bound) xs))
more_excluded_written bound [] = empty_written
more_excluded_written bound (x ∷ xs) = both_written (both_written (literal (codes ", ")) (both_written (literal (codes "-")) (literal (module_name bound x)))) (more_excluded_written bound xs)

excluded_written : (bound : List Known) (xs : List Name) → Writes (print.restriction bound xs) (excluded_text (map (module_name bound) xs))
excluded_written bound [] = empty_written
excluded_written bound (x ∷ xs) =
    both_written (both_written (literal (codes " {")) (both_written (both_written (literal (codes "-")) (literal (module_name bound x))) (more_excluded_written bound xs))) (literal (codes "}"))

paths_are : (bound : List Known) (xs : List Name) → map (λ m. nodes.path (module_name bound m)) xs ≡ map nodes.path (map (module_name bound) xs)
paths_are bound [] = refl
paths_are bound (x ∷ xs) = ap (λ l. nodes.path (module_name bound x) ∷ l) (paths_are bound xs)

-- Bounds on calls.

record ShowsNames (xs : List Name) : Type 0 where
  pub first : Text
  pub others : List Text
  pub are : xs ≡ first ∷ others
  pub writes : Writes (separated (codes " + ") word xs) (λ mid. first ++ more_names others mid)

more_names_written : (xs : List Name) → Writes (each (λ x. word (codes " + ") ▸ word x) xs) (more_names xs)
more_names_written [] = empty_written
more_names_written (x ∷ xs) = both_written (both_written (literal (codes " + ")) (literal x)) (more_names_written xs)

names_shown : (xs : List Name) → are_names xs ≡ true → ShowsNames xs
names_shown [] h = absurd cc
names_shown (x ∷ xs) h = record { first = x; others = xs; are = refl; writes = both_written (literal x) (more_names_written xs) }

record ShowsLimit (bound : List Known) (b : Bound) : Type 0 where
  pub part : LimitPart
  pub writes : Writes (print.limit bound b) (limit_text part)
  pub tree_is : type_tree.bound_tree bound b ≡ limit_node part

limit_shown : (bound : List Known) (b : Bound) → is_limit_here bound b ≡ true → ShowsLimit bound b
limit_shown bound b h =
    let front = both (are_names b.procs && is_oracle_here bound b.oracle) (in_range b.most) h in
    let first = both (are_names b.procs) (is_oracle_here bound b.oracle) front.0 in
    let parts = both (is_module_here bound (out-Mexp b.oracle.module)) (is_name_text b.oracle.name) first.1 in
    let n = named bound b.oracle.module parts.0 in
    let xs = names_shown b.procs first.0 in
    record {
      part = record {
        first = xs.first;
        others = xs.others;
        names = sym (ap are_names xs.are) ∙ first.0;
        path = module_name bound n.name;
        is_path_there = n.path;
        name = b.oracle.name;
        is_name_there = parts.1;
        most = b.most;
        range = front.1;
      };
      writes = both_written (both_written (both_written (both_written (both_written xs.writes (literal (codes " : {"))) (oracle_written bound b.oracle n)) (literal (codes " <= "))) (literal (decimal b.most))) (literal (codes "}"));
      tree_is = ap₂ (λ l k. nodes.tree head.QueryBound (nodes.list (map nodes.word l) ∷ nodes.list (nodes.tree head.Limit (type_tree.limit_parts k ++ nodes.number b.most ∷ []) ∷ []) ∷ []))
          xs.are (ap (λ m. type_tree.oracle_words bound b.oracle.name m) n.is);
    }

record ShowsMoreLimits (bound : List Known) (bs : List Bound) : Type 0 where
  pub parts : List LimitPart
  pub writes : Writes (each (λ b. word (codes ", ") ▸ print.limit bound b) bs) (more_limits parts)
  pub trees : map (type_tree.bound_tree bound) bs ≡ limit_nodes parts

more_limits_shown : (bound : List Known) (bs : List Bound) → list_all (is_limit_here bound) bs ≡ true → ShowsMoreLimits bound bs
more_limits_shown bound [] h = record { parts = []; writes = empty_written; trees = refl }
more_limits_shown bound (b ∷ bs) h =
    let facts = both (is_limit_here bound b) (list_all (is_limit_here bound) bs) h in
    let l = limit_shown bound b facts.0 in
    let ls = more_limits_shown bound bs facts.1 in
    record {
      parts = l.part ∷ ls.parts;
      writes = both_written (both_written (literal (codes ", ")) l.writes) ls.writes;
      trees = ap₂ (λ x xs. x ∷ xs) l.tree_is ls.trees;
    }

record ShowsLimits (bound : List Known) (bs : List Bound) : Type 0 where
  pub parts : List LimitPart
  pub writes : Writes (print.limits bound bs) (limits_text parts)
  pub trees : map (type_tree.bound_tree bound) bs ≡ limit_nodes parts

limits_shown : (bound : List Known) (bs : List Bound) → list_all (is_limit_here bound) bs ≡ true → ShowsLimits bound bs
limits_shown bound [] h = record { parts = []; writes = empty_written; trees = refl }
limits_shown bound (b ∷ bs) h =
    let facts = both (is_limit_here bound b) (list_all (is_limit_here bound) bs) h in
    let l = limit_shown bound b facts.0 in
    let ls = more_limits_shown bound bs facts.1 in
    record {
      parts = l.part ∷ ls.parts;
      writes = both_written (both_written (literal (codes " [")) (both_written l.writes ls.writes)) (literal (codes "]"));
      trees = ap₂ (λ x xs. x ∷ xs) l.tree_is ls.trees;
    }

-- Module binders.

pub record ShowsModule (stage : ℕ) (bound : List Known) (x : Name) (b : Bind) : Type 0 where
  pub behind : Before
  pub parts : List Node
  pub writes : Writes (print.abstract_module bound x b) (λ mid. x ++ behind mid)
  pub apart : (mid : Text) → ahead is_word_byte (behind mid) ≡ false
  pub reads : (mid : Text) → ahead is_word_byte mid ≡ false → Spelt stage (Part 97 ∷ []) (behind mid) mid (Tree (nodes.tree head.ModuleBind parts) ∷ [])
  pub tree_is : type_tree.abstract_module bound x b ≡ nodes.tree head.ModuleBind (nodes.word x ∷ parts)

pub module_shown : (stage : ℕ) (bound : List Known) (x : Name) (b : Bind) → is_bind_here bound b ≡ true → ShowsModule stage bound x b
module_shown stage bound x b h =
    let front = both (is_path b.ty && list_all is_path (map (module_name bound) b.minus)) (list_all (is_limit_here bound) b.bounds) h in
    let facts = both (is_path b.ty) (list_all is_path (map (module_name bound) b.minus)) front.0 in
    let ls = limits_shown bound b.bounds front.1 in
    let ms = map (module_name bound) b.minus in
    record {
      behind = λ mid. codes " <: " ++ (b.ty ++ excluded_text ms (limits_text ls.parts mid));
      parts = nodes.path b.ty ∷ nodes.list (map nodes.path ms) ∷ nodes.list (limit_nodes ls.parts) ∷ [];
      writes = both_written (both_written (both_written (both_written (literal x) (literal (codes " <: "))) (literal b.ty)) (excluded_written bound b.minus)) ls.writes;
      apart = λ mid. refl;
      reads = λ mid f. module_reads b.ty ms ls.parts mid facts.0 facts.1 f;
      tree_is = ap₂ (λ l k. nodes.tree head.ModuleBind (nodes.word x ∷ nodes.path b.ty ∷ nodes.list l ∷ nodes.list k ∷ [])) (paths_are bound b.minus) ls.trees;
    }

module _ {stage : ℕ} where
  module_bind : {bound : List Known} {x : Name} {b : Bind} → is_name_text x ≡ true → (m : ShowsModule stage bound x b) (mid : Text)
      → Spelt stage (Part 94 ∷ []) (40 ∷ (x ++ m.behind (41 ∷ mid))) mid (Tree (nodes.tree head.ModuleBind (nodes.word x ∷ m.parts)) ∷ [])
  module_bind {x = x} h m mid =
      let rest = m.behind (41 ∷ mid) in
      let s = name_start x h in
      row p.bind_open_round (p.is_bind_open_round stage) refl refl (ap (λ z. Tree z ∷ []) (grown_node (Tree (nodes.word x) ∷ []) head.ModuleBind [] m.parts nowhere))
      (tok (opens (record { byte = s.0; more = s.1 ++ rest; is = ap (λ l. l ++ rest) s.2; begins = start_begins s.0 s.3 }))
      (followed (name_reads x rest h (m.apart (41 ∷ mid)))
      (row p.bind_rest_module_bound (p.is_bind_rest_module_bound stage) refl refl refl (followed (m.reads (41 ∷ mid) refl) (tok (close_round mid) end)) end))) end

  pub over_modules : {f : Writing} {y : Node} (bound : List Known) (x : Name) (b : Bind) → is_name_text x ≡ true → ShowsModule stage bound x b → Shows stage f y
      → Shows stage (λ before. f (word (codes "), ") (print.abstract_module bound x b (word (codes "forall (") before)))) (tree.quantified (codes "forall") (type_tree.abstract_module bound x b) (y ∷ []))
  over_modules {f = f} {y = y} bound x b h m s =
      subst (λ t. Shows stage (λ before. f (word (codes "), ") (print.abstract_module bound x b (word (codes "forall (") before)))) (tree.quantified (codes "forall") t (y ∷ []))) (sym m.tree_is)
      (record {
        text = λ mid. codes "forall (" ++ (x ++ m.behind (codes "), " ++ s.text mid));
        bar = s.bar;
        writes = both_written (literal (codes "forall (")) (both_written m.writes (both_written (literal (codes "), ")) s.writes));
        ends = λ before. s.ends _;
        form = record {
          starts = λ mid. record { byte = 102; more = codes "orall (" ++ (x ++ m.behind (codes "), " ++ s.text mid)); is = refl; begins = refl };
          reads = λ mid f.
              let rest = codes ", " ++ s.text mid in
              for_all (module_bind h m rest) (forall_word (40 ∷ (x ++ m.behind (41 ∷ rest)))) (comma_word (s.text mid)) s.form f;
        };
      })
