-- Procedures call those before them: a number that falls from a procedure to each that it calls.
use Rattle.std.proofs.Common.{◌≡◌, inl, inr, ℕ, suc, ◌+◌, ◌≤◌, ◌<◌, List, [], ◌∷◌, map, Option, Some, None, refl, ap, ◌∙◌, arith}
use Rattle.gb_terms.specs.declared.decl.Proc.{Proc}
use Rattle.gb_terms.specs.declared.module.ProcRef.{ProcRef}
use Rattle.gb_goal.specs.Instances.{put_in_reference}
use Rattle.gb_goal.specs.Scope as scope
use Rattle.gb_goal.specs.Scope.{procedure_of}
use Rattle.gb_meaning.specs.Declared.{declared}
use Rattle.gb_meaning.specs.Holds.{declared_modules}
use Rattle.gb_meaning.specs.Modules.{Reading, modules_of, no_module, procedure_at}
use Rattle.gb_typing.specs.Alike.{LooksAtCalls}
use Rattle.gb_typing.specs.Following.{FollowsCalls}
use Rattle.gb_typing.specs.Scopes.{nothing, IsTypedScope}
use Rattle.gb_typing.proofs.ScopesAlike.{script_alike}
use Rattle.gb_mods.specs.Called.{calls}
use Rattle.gb_mods.proofs.Closed.{IsIn}
use Rattle.gb_elab_laws.proofs.FootprintBodies.{each_call}
use Rattle.gb_elab_laws.proofs.Instances.{calls_put}
use Rattle.gb_elab_laws.proofs.ReadProcedures.{read_there}

abbrev depth_of : Option ℕ → ℕ
depth_of None = 0
depth_of (Some n) = n

abbrev total : (ProcRef → Option ℕ) → List ProcRef → ℕ
total F [] = 0
total F (q ∷ qs) = depth_of (F q) + total F qs

abbrev depth_read : Reading ℕ
depth_read F p = suc (total F (calls p.body.list))

total_same : (F G : ProcRef → Option ℕ) (qs : List ProcRef) → ((q : ProcRef) → IsIn qs q → F q ≡ G q) → total F qs ≡ total G qs
total_same F G [] h = refl
total_same F G (q ∷ qs) h = λ i. depth_of (h q (inl refl) i) + total_same F G qs (λ r k. h r (inr k)) i

depth_looks : LooksAtCalls depth_read
depth_looks F G p w = ap suc (total_same F G (calls p.body.list) (each_call (λ q. F q ≡ G q) p.body.list w))

total_map : (F : ProcRef → Option ℕ) (f : ProcRef → ProcRef) (qs : List ProcRef) → total F (map f qs) ≡ total (λ q. F (f q)) qs
total_map F f [] = refl
total_map F f (q ∷ qs) = ap (λ n. depth_of (F (f q)) + n) (total_map F f qs)

depth_follows : FollowsCalls depth_read
depth_follows F s p = ap suc (ap (total F) (calls_put s p.body.list) ∙ total_map F (put_in_reference s) (calls p.body.list))

below : (F : ProcRef → Option ℕ) (qs : List ProcRef) (q : ProcRef) → IsIn qs q → depth_of (F q) ≤ total F qs
below F [] q h = absurd h
below F (x ∷ qs) q (inl e) = let k : depth_of (F x) ≡ depth_of (F q) = ap (λ r. depth_of (F r)) e in omega (arith, k)
below F (x ∷ qs) q (inr h) = let k = below F qs q h in omega (arith, k)

module _ (ds : scope.Declarations) (scoped : IsTypedScope (declared ds)) (none : declared_modules (declared ds) ≡ []) where
  abbrev pub rank : ProcRef → ℕ
  rank r = depth_of (procedure_at (modules_of depth_read (λ k. no_module) (declared ds)) r)

  pub falls : (r : ProcRef) (p : Proc) → procedure_of ds r ≡ Some p → (q : ProcRef) → IsIn (calls p.body.list) q → rank q < rank r
  falls r p e q h =
      let F = procedure_at (modules_of depth_read (λ k. no_module) (declared ds)) in
      let k = below F (calls p.body.list) q h in
      let s : rank r ≡ suc (total F (calls p.body.list)) = ap depth_of (read_there depth_read depth_looks depth_follows (λ k. no_module) ds scoped (script_alike ds none nothing (λ k. no_module) (λ k. no_module)) r p e) in
      omega (arith, k, s)
