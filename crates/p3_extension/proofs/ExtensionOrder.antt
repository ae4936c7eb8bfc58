-- The order of an extension, found by multiplying as often as the degree says.
use Rattle.std.proofs.Common.{◌≡◌, ◌<◌, ◌≤◌, ◌*◌, ◌^◌, ℕ, suc, Option, Some, None, sym, ap, ◌∙◌, arith}
use Rattle.std.proofs.Math.Nat.{pow-suc, pow-le-pow_right}
use Rattle.std.proofs.lemmas.Bool.Decides.{nat_tests}
use Rattle.p3_extension.specs.Orders.{extension_size}

size_below : (n D : ℕ) → n ^ D < 2 ^ 128 → Some (n ^ D) ≡ extension_size (Some n) D
size_below n D h = grind (arith, nat_tests)

size_past : (n D : ℕ) → 2 ^ 128 ≤ n ^ D → None ≡ extension_size (Some n) D
size_past n D h = grind (arith, nat_tests)

-- the power was found
pub order_found : (s : Option ℕ) (n m D : ℕ) → s ≡ Some n → m ≡ n ^ D → m < 2 ^ 128 → Some m ≡ extension_size s D
order_found s n m D e p b =
    let below : n ^ D < 2 ^ 128 = rw p at b in
    ap Some p ∙ size_below n D below ∙ sym (ap (λ z. extension_size z D) e)

-- a product on the way was too large
pub order_too_large : (s : Option ℕ) (n m i D : ℕ) → s ≡ Some n → i < D → m ≡ n ^ i → 2 ^ 128 ≤ m * n → None ≡ extension_size s D
order_too_large s n m i D e h p b =
    let above : 0 < n = grind arith in
    let next : suc i ≤ D = omega arith in
    let product : 2 ^ 128 ≤ n ^ suc i = rw (p, sym (pow-suc n i)) at b in
    let grows : n ^ suc i ≤ n ^ D = pow-le-pow_right above next in
    let past : 2 ^ 128 ≤ n ^ D = omega (arith, product, grows) in
    size_past n D past ∙ sym (ap (λ z. extension_size z D) e)
