-- Laws of a ring, from maps that keep the operations and tell values apart.
use Rattle.std.specs.Prelude.{◌≡◌, ◌<◌, ℕ}
use Rattle.std.proofs.Common.{ap, ◌∙◌, sym}
use Rattle.p3_theory.specs.Rings.Ring.{Ops, RingLaws, Hom}

module _ {A B : Type 0} (O : Ops A) (P : Ops B) (w : ℕ) (lane : ℕ → A → B) (homs : (k : ℕ) → k < w → Hom O P (lane k))
    (apart : (x y : A) → ((k : ℕ) → k < w → lane k x ≡ lane k y) → x ≡ y) (l : RingLaws P) where
  pub laws_by_lanes : RingLaws O
  laws_by_lanes = record {
    add_comm = λ x y. apart _ _ (λ k h. (homs k h).add x y ∙ l.add_comm (lane k x) (lane k y) ∙ sym ((homs k h).add y x));
    add_assoc = λ x y z. apart _ _ (λ k h.
        (homs k h).add (O.add x y) z ∙ ap (λ v. P.add v (lane k z)) ((homs k h).add x y) ∙ l.add_assoc (lane k x) (lane k y) (lane k z)
        ∙ sym ((homs k h).add x (O.add y z) ∙ ap (P.add (lane k x)) ((homs k h).add y z)));
    add_zero = λ x. apart _ _ (λ k h. (homs k h).add x O.zero ∙ ap (P.add (lane k x)) (homs k h).zero ∙ l.add_zero (lane k x));
    add_neg = λ x. apart _ _ (λ k h. (homs k h).add x (O.neg x) ∙ ap (P.add (lane k x)) ((homs k h).neg x) ∙ l.add_neg (lane k x) ∙ sym (homs k h).zero);
    mul_comm = λ x y. apart _ _ (λ k h. (homs k h).mul x y ∙ l.mul_comm (lane k x) (lane k y) ∙ sym ((homs k h).mul y x));
    mul_assoc = λ x y z. apart _ _ (λ k h.
        (homs k h).mul (O.mul x y) z ∙ ap (λ v. P.mul v (lane k z)) ((homs k h).mul x y) ∙ l.mul_assoc (lane k x) (lane k y) (lane k z)
        ∙ sym ((homs k h).mul x (O.mul y z) ∙ ap (P.mul (lane k x)) ((homs k h).mul y z)));
    mul_one = λ x. apart _ _ (λ k h. (homs k h).mul x O.one ∙ ap (P.mul (lane k x)) (homs k h).one ∙ l.mul_one (lane k x));
    mul_add = λ x y z. apart _ _ (λ k h.
        (homs k h).mul x (O.add y z) ∙ ap (P.mul (lane k x)) ((homs k h).add y z) ∙ l.mul_add (lane k x) (lane k y) (lane k z)
        ∙ sym ((homs k h).add (O.mul x y) (O.mul x z) ∙ ap (λ v. P.add v (lane k (O.mul x z))) ((homs k h).mul x y)
        ∙ ap (P.add (P.mul (lane k x) (lane k y))) ((homs k h).mul x z)));
  }
