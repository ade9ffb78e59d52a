-- Judgments as they stand in a form, of references.
use Rattle.gb_goal.specs.Goal.{Goal, code_of}
use Rattle.gb_goal.specs.Goal.Goal.{hoare, phoare, equiv, ambient}
use Rattle.gb_prog.specs.declared.judged.Judged.{Judged}
use Rattle.gb_prog.specs.declared.judged.Judged.TheVariants as judged

-- the goal that a judgment is
abbrev pub goal_judged : Judged → Goal
goal_judged (judged.Hoare s p q) = hoare (code_of s.now) p.now q.now
goal_judged (judged.Phoare s r p q b) = phoare (code_of s.now) r p.now q.now b.now
goal_judged (judged.Equiv s u p q) = equiv (code_of s.now) (code_of u.now) p.now q.now
goal_judged (judged.Other f) = ambient f.now
