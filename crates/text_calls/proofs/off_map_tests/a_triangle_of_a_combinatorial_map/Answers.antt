use Rattle.std.proofs.Common.{zero, suc, arith}
use Rattle.text_calls.proofs.off_map_tests.a_triangle_of_a_combinatorial_map.Goals as goal

pub check-requires : goal.check-requires
check-requires g c zero low = omega (arith, c.place-one.ensures, c.place-two.ensures)
check-requires g c (suc zero) low = omega (arith, c.place-two.ensures, c.place-three.ensures)
check-requires g c (suc (suc k)) low = absurd (omega arith)
