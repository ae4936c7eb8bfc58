-- The values of the example's field as the residues modulo 2^31 - 1.
use Rattle.std.specs.Prelude.{◌≡◌, ◌<◌, ◌%◌, ℕ, refl}
use Rattle.std.proofs.Common.{ap, lit<, subst}
use Rattle.std.proofs.Math.Nat.{mod-eq_of_lt, mod-lt}
use Rattle.std.proofs.Math.Bridge.{le_prop}
use Rattle.p3_field.specs.Ring.{Ops}
use Rattle.p3_field.specs.Residues.{IsResidues, residue_ops}
use Rattle.example_mersenne31.specs.declared.value.Mersenne31.{Mersenne31}
use Rattle.example_mersenne31.specs.declared.words.TheConstants.{P}

-- the canonical value: the word that is stored
abbrev pub canon : Mersenne31 → ℕ
canon x = x.word

-- the value of a number's residue
abbrev pub of : ℕ → Mersenne31
of n = record { word = n % P; below = mod-lt n (lit< tt) }

-- the operations of residues
abbrev pub ops : Ops Mersenne31
ops = residue_ops P canon of

-- the word settles the value
pub same_word : (x y : Mersenne31) → x.word ≡ y.word → x ≡ y
same_word x y e =
    let by : (w : ℕ) → w < P → Mersenne31 = λ w h. record { word = w; below = h } in
    (subst (λ v. (k : v < P) → by x.word x.below ≡ by v k) e (λ k. ap (by x.word) (le_prop x.below k))) y.below

-- the values are the residues modulo 2^31 - 1
pub is : IsResidues P canon of
is = record {
  above_one = lit< tt;
  canon_of = λ n. refl;
  of_canon = λ x. same_word _ _ (mod-eq_of_lt x.below);
}
