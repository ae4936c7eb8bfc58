use Rattle.std.proofs.Common.{◌≡◌, ◌<◌, ◌*◌, ◌%◌, ◌^◌, ◌∙◌, get_or, arith, subst, sym}
use Rattle.std.proofs.lemmas.List.Elements.{All-get_or}
use Rattle.p3_prime_fields.specs.contracts.form.U32Word.TheImpl as word_impl
use Rattle.p3_prime_fields.specs.contracts.montgomery.MontgomeryFormU32.TheImpl as impl
use Rattle.p3_c_words.proofs.StoredProducts.{words-of-products}
use Rattle.p3_c_words.proofs.stored.multiply_montgomery.Goals as goal

pub multiply_slice-requires : goal.multiply_slice-requires
multiply_slice-requires g c =
    let order = c.ORDER.ensures in
    record {
      lengths = c.requires.lengths;
      fits = omega (arith, order, g.M.MontgomeryModulus.fits);
      inverse = (λ ι. (order ι * c.INVERSE.ensures ι) % 2 ^ 32) ∙ g.M.MontgomeryModulus.inverts_order;
      left = λ k h. subst (λ n. get_or c.args.left.now k 0 < n) (sym order) (All-get_or (λ w. w < g.M.MontgomeryModulus.ORDER) c.args.left.now k 0 h c.requires.left);
    }

pub returns : goal.returns
returns g c =
    let left = c.args.left.now in
    let right = c.args.right.now in
    let made = c.multiply_slice.new.words in
    let order = c.ORDER.ensures in
    words-of-products (impl.ghosts g.row.M g.M.MontgomeryModulus g.M.MontgomeryModulus-dict) word_impl.ghosts (2 ^ 32) g.M.MontgomeryModulus.undoes_scale 0 left right made c.requires.lengths c.multiply_slice.ensures.length c.requires.left c.requires.right
    (λ k h. subst (λ p. get_or made k 0 < p) order (c.multiply_slice.ensures.below k h))
    (λ k h. subst (λ p. (get_or made k 0 * 2 ^ 32) % p ≡ (get_or left k 0 * get_or right k 0) % p) order (c.multiply_slice.ensures.value k h))
