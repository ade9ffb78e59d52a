-- The same, of references.
use Rattle.gb_steps.specs.declared.chances.Chance as chance
use Rattle.gb_steps.specs.declared.chances.Bounded as bounded
use Rattle.gb_steps.specs.declared.chances.Compared as compared
use Rattle.gb_steps.specs.Chances.{Chance, Bounded, Compared}

abbrev pub chance_seen : chance.Chance → Chance
chance_seen k = record { procedure = k.procedure.now; arguments = k.arguments.now; memory = k.memory; event = k.event.now }

abbrev pub bounded_seen : bounded.Bounded → Bounded
bounded_seen b = record { chance = chance_seen b.chance; rel = b.rel; bound = b.bound.now }

abbrev pub compared_seen : compared.Compared → Compared
compared_seen c = record { rel = c.rel; left = chance_seen c.left; right = chance_seen c.right }
