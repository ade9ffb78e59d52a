use Rattle.std.proofs.Common.{rules, ◌≡◌, ◌++◌, false, is_some}
use Rattle.gb_goal.specs.Binders.{binder_entries}
use Rattle.gb_goal.specs.Scope.{entry_of}
use Rattle.gb_script.specs.Tree.{text_of}
use Rattle.gb_elab_prog.proofs.New.{none_of}
use Rattle.gb_elab_prog.proofs.context.refuse_named.Goals as goal

pub returns-else-is_taken-clause-free : goal.returns-else-is_taken-clause-free
returns-else-is_taken-clause-free c =
    let n : is_some (entry_of (c.args.scope.now ++ binder_entries c.args.binds.now) (text_of c.args.name.now)) ≡ false = search rules in none_of _ n
