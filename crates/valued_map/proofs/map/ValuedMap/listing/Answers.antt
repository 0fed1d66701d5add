use Rattle.std.proofs.Common.{ℕ, ap, sym}
use Rattle.map_defs.specs.Kind.{Kind}
use Rattle.map_defs.specs.Rows.{Rows, made}
use Rattle.machine_defs.specs.Listing.{Listing, live_rows_from, rules_from}
use Rattle.label_laws.specs.Contents.{all_rules}
use Rattle.label_laws.proofs.ListedValues.{lists-values}
use Rattle.list_text.proofs.KindNames.{letter-names}
use Rattle.valued_map.proofs.ListingRules.{rules-all}
use Rattle.valued_map.proofs.map.ValuedMap.listing.Goals as goal

pub returns : goal.returns
returns g c =
    let rows : Rows = c.self.inside.links.rows in
    let n : ℕ = g.row.DIM in
    let values = c.in_ok-list_values.field-0.items in
    rw (← c.self.view_is, c.letter.ensures, c.dimension.ensures.dimension, c.made.ensures.made, c.in_ok-list_rows.ensures, c.in_ok-list_rules.ensures, sym (rules-all n c.self.inside.rules)) (
      values,
      lists-values g.K.Kind.kind n rows c.self.inside.labels c.self.inside.pool c.self.inside.rules c.self.invariant values c.in_ok-list_values.ensures,
      ap (λ (k : Kind). let l : Listing = record { kind = k; dim = n; made = made rows; rows = live_rows_from 0 rows; rules = rules_from 0 (all_rules n c.self.inside.rules); values = values; marks = c.args.marks.items } in l) (letter-names g.K.Kind.kind),
    )
