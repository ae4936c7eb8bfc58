-- Two-adic generators of the extension by X^2 = -1, by the numbers of both coefficients.
use Rattle.std.specs.Prelude.{ℕ, List, [], ◌∷◌, refl}
use Rattle.p3_field.specs.{ExtField, Binomial}
use Rattle.p3_field.specs.Ring.{Hom}
use Rattle.p3_field.specs.Polynomial.{binomial}
use Rattle.p3_field.specs.Residues.{residues, of_keeps}
use Rattle.p3_field.specs.TableEntries.{binomial-along}
use Rattle.p3_field.specs.TwoAdicCoefficients.{AreExtensionGenerators, GeneratorEquations, coefficients-along, entry, equations_generate}
use Rattle.p3_field.specs.Values.{value_of}
use Rattle.example_mersenne31.specs.declared.value.Mersenne31.{Mersenne31}
use Rattle.example_mersenne31.specs.Elements.{of, ops, is}
use Rattle.example_mersenne31.specs.declared.words.TheConstants.{P}

-- the coefficients of the generators, a row for each number of bits
abbrev pub generator_table : List (List ℕ)
generator_table =
    (1 ∷ 0 ∷ []) ∷
    (2147483646 ∷ 0 ∷ []) ∷
    (0 ∷ 2147483646 ∷ []) ∷
    (32768 ∷ 2147450879 ∷ []) ∷
    (590768354 ∷ 978592373 ∷ []) ∷
    (1179735656 ∷ 1241207368 ∷ []) ∷
    (1567857810 ∷ 456695729 ∷ []) ∷
    (1774253895 ∷ 1309288441 ∷ []) ∷
    (736262640 ∷ 1553669210 ∷ []) ∷
    (1819216575 ∷ 1662816114 ∷ []) ∷
    (1323191254 ∷ 1936974060 ∷ []) ∷
    (605622498 ∷ 1964232216 ∷ []) ∷
    (343674985 ∷ 501786993 ∷ []) ∷
    (1995316534 ∷ 149306621 ∷ []) ∷
    (2107600913 ∷ 1378821388 ∷ []) ∷
    (541476169 ∷ 2101081972 ∷ []) ∷
    (2135874973 ∷ 483411332 ∷ []) ∷
    (2097144245 ∷ 1684033590 ∷ []) ∷
    (1662322247 ∷ 670236780 ∷ []) ∷
    (1172215635 ∷ 595888646 ∷ []) ∷
    (241940101 ∷ 323856519 ∷ []) ∷
    (1957194259 ∷ 2139647100 ∷ []) ∷
    (1957419629 ∷ 1541039442 ∷ []) ∷
    (1062045235 ∷ 1824580421 ∷ []) ∷
    (1929382196 ∷ 1664698822 ∷ []) ∷
    (1889294251 ∷ 331248939 ∷ []) ∷
    (1214231414 ∷ 1646302518 ∷ []) ∷
    (1765392370 ∷ 461136547 ∷ []) ∷
    (1629751483 ∷ 66485474 ∷ []) ∷
    (1501355827 ∷ 1439063420 ∷ []) ∷
    (509778402 ∷ 800467507 ∷ []) ∷
    (311014874 ∷ 1584694829 ∷ []) ∷
    (1166849849 ∷ 1117296306 ∷ []) ∷ []

-- the generator for so many bits
abbrev pub generator : ℕ → ExtField Mersenne31 2 (Binomial Mersenne31) Mersenne31
generator bits = value_of (of (entry generator_table bits 0) ∷ of (entry generator_table bits 1) ∷ []) refl

-- X^2 + 1, on numbers
abbrev by_minus_one : List ℕ
by_minus_one = binomial (residues P) 2 ((residues P).neg 1)

generator_equations : GeneratorEquations (residues P) 2 by_minus_one 32 (entry generator_table)
generator_equations = record { trivial = refl; squares = refl; minus_one = λ _. refl }

-- each row squared is the row before it, from minus one and one upward
pub generators : AreExtensionGenerators ops 2 (binomial ops 2 (ops.neg ops.one)) 32 (λ bits i. of (entry generator_table bits i))
generators =
    let keeps : Hom (residues P) ops of = of_keeps is in
    coefficients-along keeps 2 by_minus_one (binomial ops 2 (ops.neg ops.one)) (binomial-along keeps 2 ((residues P).neg 1)) 32 (entry generator_table)
    (equations_generate (residues P) 2 by_minus_one 32 (entry generator_table) generator_equations)
