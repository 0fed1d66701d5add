use Rattle.list_text.proofs.UnlistedDarts.{ArePassed}
use Rattle.list_text.proofs.links.unlisted_darts.Given as goal

abbrev pub invariant-loop-row : goal.invariant-loop-row
invariant-loop-row l = ArePassed l.listing.made l.rows l.row-index l.next l.darts.items
