use Rattle.std.proofs.Common.{subst}
use Rattle.gb_goal.specs.Answers.{Answers}
use Rattle.gb_linear.specs.Closing.{linear_answer}
use Rattle.gb_smt.specs.Leaves.{leaves_of}
use Rattle.gb_smt.specs.Apply.{IsResult}
use Rattle.gb_theory.proofs.Steps.{abstract_meets, ambient_meets, body_meets, known_meets, linear_meets, programs_meet, rewrite_meets, smt_meets, use_meets, while_meets}
use Rattle.gb_theory.proofs.tactics.apply.Goals as goal

pub returns-in-OnBodies : goal.returns-in-OnBodies
returns-in-OnBodies c = body_meets c.args.scope.now c.args.step.now.rule c.in-OnBodies.rule c.args.step.now.place c.args.goal.now c.on_bodies.result c.in-OnBodies.is c.on_bodies.ensures

pub returns-in-While : goal.returns-in-While
returns-in-While c = while_meets c.args.scope.now c.args.step.now.rule c.in-While.kept c.args.step.now.place c.args.goal.now c.apply-in-While.result c.in-While.is c.apply-in-While.ensures

pub returns-in-CallKnown : goal.returns-in-CallKnown
returns-in-CallKnown c =
    known_meets c.args.scope.now c.args.step.now.rule c.in-CallKnown.acts c.in-CallKnown.known c.args.step.now.place c.args.goal.now c.apply-in-CallKnown.result c.in-CallKnown.is
    c.apply-in-CallKnown.ensures

pub returns-in-Abstract : goal.returns-in-Abstract
returns-in-Abstract c =
    abstract_meets c.args.scope.now c.args.step.now.rule c.in-Abstract.rule c.args.step.now.place c.args.goal.now c.apply-in-Abstract.result c.in-Abstract.is c.apply-in-Abstract.ensures

pub returns-in-Smt : goal.returns-in-Smt
returns-in-Smt c =
    smt_meets c.args.scope.now c.args.step.now.rule c.in-Smt.known c.args.step.now.place c.args.goal.now c.apply-in-Smt.result c.in-Smt.is
    (subst (λ known. IsResult c.args.scope.now (leaves_of known c.args.goal.now) c.args.step.now.place c.apply-in-Smt.result) c.as_slice.ensures c.apply-in-Smt.ensures.answer)

pub returns-in-Ambient : goal.returns-in-Ambient
returns-in-Ambient c = ambient_meets c.args.scope.now c.args.step.now.rule c.in-Ambient.rule c.args.step.now.place c.args.goal.now c.apply-in-Ambient.result c.in-Ambient.is c.apply-in-Ambient.ensures

pub returns-in-Linear : goal.returns-in-Linear
returns-in-Linear c =
    linear_meets c.args.scope.now c.args.step.now.rule c.in-Linear.multiples c.args.step.now.place c.args.goal.now c.apply-in-Linear.result c.in-Linear.is
    (subst (λ ms. Answers (linear_answer ms c.args.step.now.place c.args.goal.now) c.apply-in-Linear.result) c.as_slice-in-Linear.ensures c.apply-in-Linear.ensures)

pub returns-in-Use : goal.returns-in-Use
returns-in-Use c = use_meets c.args.scope.now c.args.step.now.rule c.in-Use.rule c.args.step.now.place c.args.goal.now c.apply-in-Use.result c.in-Use.is c.apply-in-Use.ensures

pub returns-in-Rewrite : goal.returns-in-Rewrite
returns-in-Rewrite c =
    rewrite_meets c.args.scope.now c.args.step.now.rule c.in-Rewrite.rule c.args.step.now.place c.args.goal.now c.apply-in-Rewrite.result c.in-Rewrite.is c.apply-in-Rewrite.ensures

pub returns-in-Transform : goal.returns-in-Transform
returns-in-Transform c =
    programs_meet c.args.scope.now c.args.step.now.rule c.in-Transform.acts c.in-Transform.rule c.args.step.now.place c.args.goal.now c.on_programs.result c.in-Transform.is c.on_programs.ensures
