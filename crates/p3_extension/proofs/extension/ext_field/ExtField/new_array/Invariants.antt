use Rattle.std.proofs.Common.{◌≡◌, [], length}
use Rattle.p3_theory.specs.Lists.ListItems.{ImagesBelow}
use Rattle.p3_extension.proofs.extension.ext_field.ExtField.new_array.Given as goal

abbrev pub invariant-loop-i : goal.invariant-loop-i
invariant-loop-i g l =
    (length l.output ≡ g.row.N) × ImagesBelow (λ x. x.value) [] l.fn.input l.output l.i
