-- Quotients from inverses.
use Rattle.std.proofs.Common.{ap, ◌∙◌, sym}
use Rattle.p3_theory.specs.Rings.Ring.{Ops, Hom, IsInverse}

-- a map that keeps the operations keeps inverses
pub inverse_kept : {A B : Type 0} {O : Ops A} {P : Ops B} {h : A → B} → Hom O P h → (x y : A) → IsInverse O x y → IsInverse P (h x) (h y)
inverse_kept {h = h} k x y e = sym (k.mul x y) ∙ ap h e ∙ k.one
