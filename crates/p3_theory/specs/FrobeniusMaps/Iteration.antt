-- A map taken many times, and its orbits.
use Rattle.std.specs.Prelude.{◌≡◌, ◌+◌, ◌*◌, ◌/◌, ◌%◌, ℕ, refl}
use Rattle.std.proofs.Common.{ap, arith, ◌∙◌, sym, zero, suc}
use Rattle.std.proofs.Math.Nat.{mod-add-div}
use Rattle.p3_theory.specs.Rings.Ring.{Ops}
use Rattle.p3_theory.specs.FrobeniusMaps.Frobenius.{iterate}

-- b times s b times .. , n factors in all
abbrev pub orbit : {B : Type 0} → Ops B → (B → B) → ℕ → B → B
orbit O s zero b = O.one
orbit O s (suc n) b = O.mul b (orbit O s n (s b))

module _ {B : Type 0} (s : B → B) where
  pub iterate_out : (n : ℕ) (b : B) → s (iterate s n b) ≡ iterate s (n + 1) b
  iterate_out zero b = refl
  iterate_out (suc n) b = iterate_out n (s b) ∙ (let e : suc (n + 1) ≡ suc n + 1 = omega arith in ap (λ k. iterate s k b) e)

  pub iterate_add : (m n : ℕ) (b : B) → iterate s (m + n) b ≡ iterate s m (iterate s n b)
  iterate_add m zero b = let e : m + 0 ≡ m = omega arith in ap (λ k. iterate s k b) e
  iterate_add m (suc n) b = (let e : m + suc n ≡ suc (m + n) = omega arith in ap (λ k. iterate s k b) e) ∙ iterate_add m n (s b)

  whole_turns : (D : ℕ) → ((b : B) → iterate s D b ≡ b) → (q : ℕ) (b : B) → iterate s (D * q) b ≡ b
  whole_turns D h zero b = let e : D * 0 ≡ 0 = omega arith in ap (λ k. iterate s k b) e
  whole_turns D h (suc q) b = (let e : D * suc q ≡ D + D * q = omega arith in ap (λ k. iterate s k b) e) ∙ iterate_add D (D * q) b
      ∙ ap (iterate s D) (whole_turns D h q b) ∙ h b

  -- a map that is the identity after D times depends on the count modulo D
  pub iterate_remainder : (D : ℕ) → ((b : B) → iterate s D b ≡ b) → (n : ℕ) (b : B) → iterate s (n % D) b ≡ iterate s n b
  iterate_remainder D h n b =
      let e : n ≡ n % D + D * (n / D) = omega (arith, mod-add-div n D) in
      sym (ap (λ k. iterate s k b) e ∙ iterate_add (n % D) (D * (n / D)) b ∙ ap (iterate s (n % D)) (whole_turns D h (n / D) b))
