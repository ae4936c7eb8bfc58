use Rattle.std.proofs.Common.{ap, sym, ◌∙◌}
use Rattle.std.specs.Prelude.{unwrap_or}
use Rattle.std.proofs.lemmas.Iterator.Adapters.{option_map_id}
use Rattle.std.proofs.lemmas.Iterator.Consumers.{nth_from_yields_List}
use Rattle.std.proofs.lemmas.Option.{unwrap_or-slice_get}
use Rattle.p3_extension_traits.proofs.streams.RawDataSerializable.byte_at.Goals as goal

pub returns : goal.returns
returns g c =
    c.unwrap_or.ensures
    ∙ ap (λ o. unwrap_or o 0) (sym (option_map_id c.nth.result) ∙ nth_from_yields_List c.nth.result _ c.args.i c.nth.ensures.ran c.into_bytes-reader.ensures.all)
    ∙ unwrap_or-slice_get (g.Self.RawDataSerializable.bytes c.args.self) c.args.i 0
