use Rattle.map_kind.proofs.SingleLinks.{AreSingles}
use Rattle.map_kind.proofs.word.single_links.Given as goal

abbrev pub invariant-loop-link : goal.invariant-loop-link
invariant-loop-link l = AreSingles l.low l.link l.dim l.cell l.words.items
