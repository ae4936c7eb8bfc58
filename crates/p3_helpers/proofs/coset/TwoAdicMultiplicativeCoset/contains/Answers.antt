use Rattle.std.proofs.Common.{rules, ◌≡◌, ◌^◌, ◌↔◌, IsTrue, refl, sym, ap, ◌∙◌, arith}
use Rattle.p3_theory.specs.Rings.Powers.{power}
use Rattle.p3_theory.specs.Rings.PowerProducts.{power_of_two_more}
use Rattle.p3_theory.specs.Roots.Cosets.{agree_later, member_agrees, agreeing_is_member}
use Rattle.p3_helpers.proofs.coset.TwoAdicMultiplicativeCoset.contains.Goals as goal

pub returns-then-eq : goal.returns-then-eq
returns-then-eq g c =
    let o = g.F.PrimeCharacteristicRing.ops in
    let ring = g.met.F.PrimeCharacteristicRing.ring in
    let coset = c.args.self.now in
    let x = c.args.element in
    let k = coset.log_size in
    let same : c.loop.element ≡ c.loop.shift = search rules in
    let agree : power o x (2 ^ k) ≡ power o coset.shift (2 ^ k) =
    agree_later ring x coset.shift c.loop.counter k (omega arith) (sym c.loop.invariant.element_is ∙ same ∙ c.loop.invariant.shift_is) in
    record {
      value = (λ _. agree, λ _. refl);
      members = λ _. refl;
      no_others = λ domain _.
          agreeing_is_member ring g.met.F.TwoAdicField.generators domain k coset.within coset.shift coset.shift_inverse x coset.unit agree;
    }

pub returns : goal.returns
returns g c =
    let o = g.F.PrimeCharacteristicRing.ops in
    let ring = g.met.F.PrimeCharacteristicRing.ring in
    let generators = g.met.F.TwoAdicField.generators in
    let coset = c.args.self.now in
    let x = c.args.element in
    let k = coset.log_size in
    let done : c.loop.counter ≡ k = omega arith in
    let element_is : c.loop.element ≡ power o x (2 ^ k) = c.loop.invariant.element_is ∙ ap (λ i. power o x (2 ^ i)) done in
    let shift_is : c.loop.shift ≡ power o coset.shift (2 ^ k) = c.loop.invariant.shift_is ∙ ap (λ i. power o coset.shift (2 ^ i)) done in
    let equal = g.met.F.Field.equals c.loop.element c.loop.shift in
    let same : IsTrue c.eq-2.result ↔ (c.loop.element ≡ c.loop.shift) = search (equal, rules) in
    let agrees : IsTrue c.eq-2.result → power o x (2 ^ k) ≡ power o coset.shift (2 ^ k) = λ h. sym element_is ∙ same.0 h ∙ shift_is in
    let found : power o x (2 ^ k) ≡ power o coset.shift (2 ^ k) → IsTrue c.eq-2.result = λ e. same.1 (element_is ∙ e ∙ sym shift_is) in
    record {
      value = (agrees, found);
      members = λ m. found (member_agrees ring generators k coset.within coset.shift x m);
      no_others = λ domain h.
          agreeing_is_member ring generators domain k coset.within coset.shift coset.shift_inverse x coset.unit (agrees h);
    }

pub loop-preserved : goal.loop-preserved
loop-preserved g c =
    let ring = g.met.F.PrimeCharacteristicRing.ring in
    record {
      shift_is = power_of_two_more ring c.args.self.now.shift c.loop.shift c.square-shift.result c.loop.counter c.loop.invariant.shift_is c.square-shift.ensures;
      element_is = power_of_two_more ring c.args.element c.loop.element c.square-element.result c.loop.counter c.loop.invariant.element_is c.square-element.ensures;
    }
