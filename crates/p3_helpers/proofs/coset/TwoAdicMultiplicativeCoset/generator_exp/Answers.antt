use Rattle.std.proofs.Common.{◌≡◌, ◌≤◌, ◌/◌, ◌-◌, ◌^◌, ◌%◌, ap, ap₂, ◌∙◌, arith}
use Rattle.std.proofs.Math.Nat.{mod-lt}
use Rattle.std.proofs.lemmas.Nat.{pow_pos}
use Rattle.p3_theory.specs.Rings.Ring.{ring_of}
use Rattle.p3_theory.specs.Rings.Powers.{power}
use Rattle.p3_theory.specs.Rings.Basics.{one-mul}
use Rattle.p3_theory.specs.Roots.Cosets.{digit_is_one, digit_is_zero, halved_digits}
use Rattle.p3_helpers.proofs.coset.TwoAdicMultiplicativeCoset.generator_exp.Goals as goal
use Rattle.p3_helpers.proofs.coset.TwoAdicMultiplicativeCoset.generator_exp.Goals.{then-rest-eq1, else-rest-eq1}

pub loop-rest-init : goal.loop-rest-init
loop-rest-init g c =
    let o = g.F.PrimeCharacteristicRing.ops in
    let k = c.args.self.now.log_size in
    let generator = g.F.TwoAdicField.two_adic k in
    let reduced : c.args.exp % c.size.result ≡ c.args.exp % 2 ^ k = ap (λ n. c.args.exp % n) c.size.ensures in
    record {
      power_is = ap₂ (λ p n. o.mul p (power o generator n)) c.one-gen_power.ensures reduced
          ∙ one-mul (ring_of g.met.F.PrimeCharacteristicRing.ring) (power o generator (c.args.exp % 2 ^ k));
      digits = rw reduced (mod-lt c.args.exp (pow_pos k));
      within = omega arith;
    }

pub loop-rest-preserved : goal.loop-rest-preserved
loop-rest-preserved g c =
    let o = g.F.PrimeCharacteristicRing.ops in
    let m = g.met.F.PrimeCharacteristicRing in
    let generators = g.met.F.TwoAdicField.generators in
    let generator = g.F.TwoAdicField.two_adic in
    let n = c.loop-rest.rest in
    let i = c.loop-rest.i in
    let p = c.loop-rest.gen_power in
    let kept = c.loop-rest.invariant in
    let bits = halved_digits i n (omega (arith, c.loop-rest-test.true)) kept.digits in
    let given : i ≤ g.F.TwoAdicField.TWO_ADICITY = omega (arith, kept.within, c.args.self.now.within) in
    let left = power o (generator (i - 1)) (n / 2) in
    record {
      power_is = elim c.if-rest-eq1.branch [
        | then-rest-eq1 w ↦
            let multiplied : c.if-rest-eq1.gen_power ≡ o.mul p (generator i) =
            w.gen_power-is ∙ m.mul_assigns.exact _ _ _ w.mul_assign.ensures.after ∙ ap (o.mul p) w.two_adic_generator.ensures in
            ap (λ z. o.mul z left) multiplied ∙ digit_is_one m.ring generators p i n bits.0 given w.if-rest-eq1.true ∙ kept.power_is
        | else-rest-eq1 w ↦
            ap (λ z. o.mul z left) w.gen_power-is ∙ digit_is_zero m.ring generators p i n bits.0 given w.if-rest-eq1.false ∙ kept.power_is
      ];
      digits = bits.1;
      within = omega (arith, kept.within);
    }
