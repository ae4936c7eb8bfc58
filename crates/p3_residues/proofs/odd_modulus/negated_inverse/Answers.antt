use Rattle.std.proofs.Common.{◌≡◌, ◌+◌, ◌*◌, ◌%◌, ℕ, refl, arith}
use Rattle.p3_residues.proofs.PowerQuotients.{square_of_multiple}
use Rattle.p3_residues.proofs.odd_modulus.negated_inverse.Goals as goal

pub returns : goal.returns
returns c =
    let m = c.args.modulus in
    let a = c.twice_as_many_digits-of_2_digits in
    let b = c.twice_as_many_digits-of_4_digits in
    let d = c.twice_as_many_digits-of_8_digits in
    let e = c.twice_as_many_digits-of_16_digits in
    let f = c.twice_as_many_digits in
    let w : ℕ = 18446744073709551616 in
    let one : (m * 1 + 1) % 2 ≡ 0 = omega (arith, c.requires) in
    let two = square_of_multiple 2 w (m * 1 + 1) (m * a.result + 1) refl a.ensures one in
    let four = square_of_multiple 4 w (m * a.result + 1) (m * b.result + 1) refl b.ensures two in
    let eight = square_of_multiple 16 w (m * b.result + 1) (m * d.result + 1) refl d.ensures four in
    let sixteen = square_of_multiple 256 w (m * d.result + 1) (m * e.result + 1) refl e.ensures eight in
    square_of_multiple 65536 w (m * e.result + 1) (m * f.result + 1) refl f.ensures sixteen
