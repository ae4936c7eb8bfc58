-- What words in Montgomery's form are multiplied by, and where a word is in that form or its own residue.
use Rattle.std.specs.Prelude.{◌≡◌, ◌<◌, ◌*◌, ◌%◌, ◌^◌, ℕ, true, false}
use Rattle.std.proofs.Common.{arith}
use Rattle.std.proofs.lemmas.Bool.{false≢true}

-- words below an order p hold residues times 2^32: i is the inverse of p modulo 2^32, and k that of 2^32 modulo p
pub record IsMontgomery (p i k : ℕ) : Type 0 where
  pub short : p < 2 ^ 31
  pub inverts_order : (p * i) % 2 ^ 32 ≡ 1
  pub undoes_scale : (2 ^ 32 * k) % p ≡ 1

-- of words in another form nothing is said
pub no_inverse : {p k : ℕ} → 0 < 0 → IsMontgomery p 0 k
no_inverse h = absurd (omega (arith, h))

-- words in that form aren't said to be their own residues
pub not_plain : {k : ℕ} → false ≡ true → k ≡ 1
not_plain h = absurd (false≢true h)
