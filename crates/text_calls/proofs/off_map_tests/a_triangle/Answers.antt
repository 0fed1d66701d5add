use Rattle.std.proofs.Common.{zero, suc, arith}
use Rattle.text_calls.proofs.off_map_tests.a_triangle.Goals as goal

pub check-requires-2 : goal.check-requires-2
check-requires-2 g c zero low = omega (arith, c.place-one.ensures, c.place-two.ensures)
check-requires-2 g c (suc zero) low = omega (arith, c.place-two.ensures, c.place-three.ensures)
check-requires-2 g c (suc (suc k)) low = absurd (omega arith)
