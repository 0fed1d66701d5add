use Rattle.std.proofs.Common.{lit<}
use Rattle.map_calls.proofs.calls.load_links.Goals as goal

pub load_links-requires : goal.load_links-requires
load_links-requires g c =
    rw (c.deref-2.ensures.value, c.in_ok-places.ensures, c.deref.ensures.value) (
      lit< tt,
      (lit< tt, (c.requires, (c.in_ok-links.ensures.laws, (c.in_ok-vertices.ensures.members, (c.in_ok-vertices.ensures.ascending, c.in_ok-vertices.ensures.darts))))),
    )
