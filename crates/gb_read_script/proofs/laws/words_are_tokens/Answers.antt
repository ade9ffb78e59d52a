use Rattle.gb_limits.specs.Lexeme.{kinds_of}
use Rattle.gb_read_script.specs.GoalLines.{part_of}
use Rattle.gb_read_script.specs.Goal.{goal_text}
use Rattle.gb_read_script.proofs.GoalNumbers.{goal_in_range}
use Rattle.gb_read_script.proofs.Words.{all_words, all_in_range}
use Rattle.gb_read_script.proofs.laws.words_are_tokens.Goals as goal

pub returns-clause-trees : goal.returns-clause-trees
returns-clause-trees c = λ part t x d. all_words t x (c.texts_are_spelled.ensures.texts part (kinds_of t) t x d)

pub returns-clause-lines : goal.returns-clause-lines
returns-clause-lines c = λ l x d. all_words l.text x (c.texts_are_spelled.ensures.lines (part_of l.sort) (kinds_of l.text) l.text x d)

pub returns-clause-range : goal.returns-clause-range
returns-clause-range c = λ part t x n d. all_in_range t n x (all_words t x (c.texts_are_spelled.ensures.texts part (kinds_of t) t x d))

pub returns-clause-goals : goal.returns-clause-goals
returns-clause-goals c = λ bytes a n d.
    goal_in_range (λ l x h z. all_in_range l.text h x (all_words l.text x (c.texts_are_spelled.ensures.lines (part_of l.sort) (kinds_of l.text) l.text x z))) (goal_text bytes) d.0 a n d.1 d.2
