-- The value of a polynomial at a lane is its value there.
use Rattle.std.proofs.Common.{◌≡◌, ◌<◌, ◌*◌, ◌/◌, ◌%◌, ℕ, List, length, replicate, ap, ap₂, ◌∙◌}
use mathlib.Core.Path.{fun_ext}
use Rattle.std.proofs.Math.Nat.{mod-lt}
use Rattle.p3_field.specs.Ring.{Ops, Hom}
use Rattle.p3_field.specs.Powers.{eval, power, sum_of}
use Rattle.p3_field.specs.Homomorphism.{map-power, sum-map}
use Rattle.p3_field.specs.Polynomial.{at}
use Rattle.p3_field.specs.Lanes.{lane, at_replicate}
use Rattle.p3_field.specs.Rows.{rows}
use Rattle.p3_field.specs.RowRing.{constant, item-constant}
use Rattle.p3_field.specs.VectorLanes.{vector_lane, some-width, part-below}

-- a map that keeps the operations and gives each coefficient back keeps values of polynomials
pub keeps_values : {A V : Type 0} {O : Ops V} {Q : Ops A} {h : V → A} {e : A → V} → Hom O Q h → ((c : A) → h (e c) ≡ c) → (cs : List A) (x : V)
    → h (eval Q O e x cs) ≡ eval Q Q (λ c. c) (h x) cs
keeps_values {O = O} {Q = Q} {h = h} {e = e} k back cs x =
    sum-map O Q h k (length cs) (λ i. O.mul (e (at Q cs i)) (power O x i))
    ∙ ap (sum_of Q (length cs)) (fun_ext (λ i. k.mul (e (at Q cs i)) (power O x i) ∙ ap₂ Q.mul (back (at Q cs i)) (map-power k x i)))

-- a packing in every part that has one value in all lanes has it at each lane
pub lane_of_constant : {P B : Type 0} (n : ℕ) (O : Ops P) (Q : Ops B) (lanes : P → List B) (w i : ℕ) (v : P) (c : B) → i < w * n → lanes v ≡ replicate w c
    → vector_lane {n = n} O Q lanes w i (constant rows O v) ≡ c
lane_of_constant n O Q lanes w i v c h e =
    ap (lane Q lanes (i % w)) (item-constant rows O v (i / w) (part-below w n i h))
    ∙ at_replicate w (i % w) c Q.zero (lanes v) (mod-lt i (some-width w n i h)) e
