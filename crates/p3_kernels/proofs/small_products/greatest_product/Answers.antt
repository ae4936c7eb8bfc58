use Rattle.std.proofs.Common.{◌≤◌, ◌-◌, arith}
use Rattle.std.proofs.Math.Nat.{mul-le-mul}
use Rattle.p3_kernels.proofs.small_products.greatest_product.Goals as goal

pub overflow_mul-result : goal.overflow_mul-result
overflow_mul-result c =
    let small : c.args.order - 1 ≤ 255 = omega (arith, c.requires.fits) in
    let most = mul-le-mul small small in
    record { fits = omega (arith, most) }
