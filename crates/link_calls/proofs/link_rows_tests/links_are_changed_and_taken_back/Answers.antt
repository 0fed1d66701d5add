use Rattle.std.proofs.Common.{rules, arith}
use Rattle.link_calls.proofs.link_rows_tests.links_are_changed_and_taken_back.Goals as goal

pub reverse_plain-requires : goal.reverse_plain-requires
reverse_plain-requires g c = (
  omega arith,
  (
    (c.apply_plain.new.self.rows, record { begun = search rules; sound = search rules; fits = record { darts = search rules; links = search rules; stands = search rules; once = search rules; back = search rules; living = search rules; ends = search rules; free = search rules }; few = search rules; after = search rules }),
    search rules,
  ),
)
