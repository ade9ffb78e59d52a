use Rattle.std.proofs.Common.{refl}
use Rattle.gb_closing_laws.proofs.Terms.{term_related}
use Rattle.gb_closing_laws.proofs.label_laws.related_terms.Goals as goal

pub returns : goal.returns
returns c = λ es c' g h i alike apart j k sj sk T vss t w m. term_related c' g h i alike apart T j k sj sk t c' vss refl w m
