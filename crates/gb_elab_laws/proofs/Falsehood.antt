-- `false` is no lemma.
use Rattle.std.proofs.Common.{◌≡◌, ℕ, [], subst}
use Rattle.std.proofs.lemmas.Bool.{false≢true}
use Rattle.gb_core.specs.declared.value.Value.{out-Value}
use Rattle.gb_meaning.specs.Names.{Name}
use Rattle.gb_meaning.specs.Values.{World}
use Rattle.gb_meaning.specs.Setting.{Setting}
use Rattle.gb_laws.proofs.Exact.{trying}
use Rattle.gb_laws.proofs.Fair.{is_fair}
use Rattle.gb_meaning.specs.Declared.{Declarations}
use Rattle.gb_meaning.specs.Settings.{Table, setting}
use Rattle.gb_meaning.specs.Holds.{EachProgram, IsTrueSequent, IsModel, interpretation, declared_modules, Holds}
use Rattle.gb_elab_laws.specs.Falsehood.{falsehood}

not_true : (ds : Declarations) (w : World) (size : Name → ℕ) (table : Table) →
    ¬ (IsTrueSequent ds falsehood (interpretation w size table))
unfolding out-Value denote.Hole.Carrier.out
not_true ds w size table h =
    let g : Setting = setting ds (interpretation w size table) in false≢true (h [] tt [] tt (trying g) (is_fair g))

pub no_lemma : (ds : Declarations) (w : World) (size : Name → ℕ) (table : Table) →
    IsModel ds (interpretation w size table) → declared_modules ds ≡ [] → ¬ (Holds ds falsehood)
no_lemma ds w size table model e h =
    not_true ds w size table
    (subst (λ bs. EachProgram ds bs (interpretation w size table) (IsTrueSequent ds falsehood)) e (h w size table model))
