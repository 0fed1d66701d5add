-- The triples of pairs, in place or in a list.
use Rattle.std.specs.Prelude.{List}
use Rattle.sewing.specs.Triples.{Triple}
use Rattle.sewing.specs.declared.pairs.Pairs.{Pairs}
use Rattle.sewing.specs.declared.pairs.Pairs.TheVariants.{Two, Four, Many}

abbrev pub triples_of : Pairs → List Triple
triples_of (Two triples) = triples
triples_of (Four triples) = triples
triples_of (Many triples) = triples.items
