use Rattle.std.proofs.Common.{take, Contains}
use Rattle.map_defs.specs.LinkWords.{LinkWord}
use Rattle.valued_map.specs.Changing.{AreAdded, IsUnsettledAt}
use Rattle.valued_map.proofs.touched.add_along_words.Given as goal

abbrev pub invariant-loop-word : goal.invariant-loop-word
invariant-loop-word g l =
    AreAdded l.links.rows (λ x. (w : LinkWord) × Contains (take l.word-index l.words) w × IsUnsettledAt g.K.Kind.kind g.row.DIM l.edit l.links.rows l.dim l.labels w l.change x)
    l.fn.touched.items l.touched.items
