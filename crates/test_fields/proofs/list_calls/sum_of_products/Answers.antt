use Rattle.std.proofs.Common.{lit<, refl}
use Rattle.test_fields.proofs.list_calls.sum_of_products.Goals as goal

pub dispatch_chunked_mixed_dot_product-requires-clause-chunk : goal.dispatch_chunked_mixed_dot_product-requires-clause-chunk
dispatch_chunked_mixed_dot_product-requires-clause-chunk g c = (2, lit< tt, refl)
