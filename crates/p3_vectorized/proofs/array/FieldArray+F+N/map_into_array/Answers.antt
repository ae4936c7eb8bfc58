use Rattle.std.proofs.Common.{◌≡◌, ◌<◌, List, rules, arith, subst, sym, get_or}
use Rattle.std.specs.Fn.{Called, Takes}
use Rattle.p3_vectorized.proofs.EntryCalls.{callable-entries, maps-entries}
use Rattle.p3_vectorized.proofs.array.FieldArray+F+N.map_into_array.Goals as goal

pub from_fn-requires : goal.from_fn-requires
from_fn-requires g c =
    let fits = c.well_formed in (
      omega arith,
      callable-entries _ g.G.FnMut (λ s. s.1) (λ s. s.0.items ≡ c.args.self.items) g.F.Inhabited.inhabitant c.args.self.items g.row.N c.args.self.sized
          (λ p i y q kept h.
          let Calls : List g.row.F.Denot → Type 0 = λ xs. Called g.G.FnMut p.1 (get_or xs i g.F.Inhabited.inhabitant, tt) y q.1 in
          (subst Calls kept (search (rules, h.met)), search (rules, kept, h.met)))
          (λ p i kept below takes.
          let May : List g.row.F.Denot → Type 0 = λ xs. (i < g.row.N) × Takes g.G.FnMut p.1 (get_or xs i g.F.Inhabited.inhabitant, tt) in
          (search (rules, fits), subst May (sym kept) (below, takes)))
          _ (search rules) c.requires.callable,
    )

pub returns : goal.returns
returns g c =
    let maps =
    maps-entries _ g.G.FnMut (λ s. s.1) (λ s. s.0.items ≡ c.args.self.items) g.F.Inhabited.inhabitant c.args.self.items g.row.N c.args.self.sized
    (λ p i y q kept h.
    let Calls : List g.row.F.Denot → Type 0 = λ xs. Called g.G.FnMut p.1 (get_or xs i g.F.Inhabited.inhabitant, tt) y q.1 in
    (subst Calls kept (search (rules, h.met)), search (rules, kept, h.met)))
    c.from_fn.result _ (search rules) c.from_fn.ensures.items in
    record { items = maps }
