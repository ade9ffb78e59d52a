-- Written by tools/actions.py: the table passes its tests.
use Rattle.std.specs.Prelude.{◌≡◌, true}
use Rattle.std.proofs.Common.{refl}
use Rattle.gb_language.specs.declared.rows.TheConstants.{ROWS, PLACES}
use Rattle.gb_language.specs.declared.bodies.TheConstants.{SYMBOLS}
use Rattle.gb_language.specs.Claims.{claims}
use Rattle.gb_script.specs.Grammar.{grammar_of}
use Rattle.gb_language.specs.Sorts.{part_sorts, signatures}
use Rattle.gb_language.specs.Spelling.{spelling}
use Rattle.gb_language.specs.Language.{still_kinds}
use Rattle.gb_script.specs.Acts.{sorts_ok}
use Rattle.gb_script.specs.Spelled.{spellings_ok, still_ok}
use Rattle.gb_script.specs.Check.{productions_ok, places_ok, grammar_ok}
use Rattle.gb_script.proofs.Bodies.{bodies, in_order, grammar_with, grammar_passes}

ordered : in_order 0 ROWS (bodies SYMBOLS) ≡ true
ordered = refl

scripts_productions : productions_ok (claims 0) (grammar_with 0 ROWS (bodies SYMBOLS)) ≡ true
scripts_productions = refl

scripts_places : places_ok PLACES (claims 0).count ROWS ≡ true
scripts_places = refl

pub scripts_pass : grammar_ok 0 (claims 0) PLACES ROWS SYMBOLS ≡ true
scripts_pass = grammar_passes 0 SYMBOLS (claims 0) PLACES ROWS ordered scripts_productions scripts_places

goals_productions : productions_ok (claims 1) (grammar_with 1 ROWS (bodies SYMBOLS)) ≡ true
goals_productions = refl

goals_places : places_ok PLACES (claims 1).count ROWS ≡ true
goals_places = refl

pub goals_pass : grammar_ok 1 (claims 1) PLACES ROWS SYMBOLS ≡ true
goals_pass = grammar_passes 1 SYMBOLS (claims 1) PLACES ROWS ordered goals_productions goals_places

pub scripts_sorted : sorts_ok signatures part_sorts (grammar_of 0 ROWS SYMBOLS) ≡ true
scripts_sorted = refl

pub scripts_spelled : spellings_ok spelling (grammar_of 0 ROWS SYMBOLS) ≡ true
scripts_spelled = refl

pub scripts_still : still_ok signatures part_sorts still_kinds (grammar_of 0 ROWS SYMBOLS) ≡ true
scripts_still = refl

pub goals_sorted : sorts_ok signatures part_sorts (grammar_of 1 ROWS SYMBOLS) ≡ true
goals_sorted = refl

pub goals_spelled : spellings_ok spelling (grammar_of 1 ROWS SYMBOLS) ≡ true
goals_spelled = refl

pub goals_still : still_ok signatures part_sorts still_kinds (grammar_of 1 ROWS SYMBOLS) ≡ true
goals_still = refl
