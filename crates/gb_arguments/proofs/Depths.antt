-- Procedures call those before them: a number that falls from a procedure to each that it calls.
use Rattle.std.proofs.Common.{◌≡◌, inl, inr, ◌≤◌, List, [], ◌∷◌, ◌++◌, map, length, length-append, Option, refl, ap, ◌∙◌, arith}
use Rattle.gb_core.specs.declared.var.Var.{Var}
use Rattle.gb_core.specs.declared.var.Var.TheVariants as var
use Rattle.gb_terms.specs.declared.module.ProcRef.{ProcRef}
use Rattle.gb_goal.specs.Instances.{put_in_reference}
use Rattle.gb_meaning.specs.Footprints.{of_callee}
use Rattle.gb_meaning.specs.Modules.{Reading}
use Rattle.gb_typing.specs.Alike.{LooksAtCalls}
use Rattle.gb_typing.specs.Following.{FollowsCalls}
use Rattle.gb_mods.specs.Called.{calls}
use Rattle.gb_mods.proofs.Closed.{IsIn}
use Rattle.gb_arguments.proofs.FootprintBodies.{each_call}
use Rattle.gb_arguments.proofs.Calls.{calls_put}

-- what stands for these procedures, one after another
abbrev pub together : (ProcRef → Option (List Var)) → List ProcRef → List Var
together F [] = []
together F (q ∷ qs) = of_callee (F q) ++ together F qs

-- one entry more than all procedures that it calls have
abbrev pub depth_read : Reading (List Var)
depth_read F p = var.Local [] ∷ together F (calls p.body.list)

together_same : (F G : ProcRef → Option (List Var)) (qs : List ProcRef) → ((q : ProcRef) → IsIn qs q → F q ≡ G q) → together F qs ≡ together G qs
together_same F G [] h = refl
together_same F G (q ∷ qs) h = λ i. of_callee (h q (inl refl) i) ++ together_same F G qs (λ r k. h r (inr k)) i

pub depth_looks : LooksAtCalls depth_read
depth_looks F G p w = ap (λ z. var.Local [] ∷ z) (together_same F G (calls p.body.list) (each_call (λ q. F q ≡ G q) p.body.list w))

together_map : (F : ProcRef → Option (List Var)) (f : ProcRef → ProcRef) (qs : List ProcRef) → together F (map f qs) ≡ together (λ q. F (f q)) qs
together_map F f [] = refl
together_map F f (q ∷ qs) = ap (λ n. of_callee (F (f q)) ++ n) (together_map F f qs)

pub depth_follows : FollowsCalls depth_read
depth_follows F s p = ap (λ z. var.Local [] ∷ z) (ap (together F) (calls_put s p.body.list) ∙ together_map F (put_in_reference s) (calls p.body.list))

pub below : (F : ProcRef → Option (List Var)) (qs : List ProcRef) (q : ProcRef) → IsIn qs q → length (of_callee (F q)) ≤ length (together F qs)
below F [] q h = absurd h
below F (x ∷ qs) q (inl e) =
    let k : length (of_callee (F x)) ≡ length (of_callee (F q)) = ap (λ r. length (of_callee (F r))) e in
    let l = length-append (of_callee (F x)) (together F qs) in
    omega (arith, k, l)
below F (x ∷ qs) q (inr h) = let k = below F qs q h in let l = length-append (of_callee (F x)) (together F qs) in omega (arith, k, l)
