use Rattle.std.proofs.Common.{ℕ, List, ◌≡◌, ◌++◌, [], ◌∷◌, reverse, refl, sym, ap, subst, ◌∙◌, lit<}
use Rattle.map_defs.specs.Rows.{links_of, IsLive}
use Rattle.half_defs.specs.Orientation.{IsOddWalk}
use Rattle.orient_half.specs.Marks.{mark_at, IsReached}
use Rattle.orient_half.specs.Told.{IsWayBack}
use Rattle.orient_half.proofs.MarkFacts.{at-some, some-or_none, reached-sign}
use Rattle.orient_half.proofs.WaysBack.{odd-walk}
use Rattle.orient_half.proofs.WholeLinks.{rows-whole}
use Rattle.orient_half.proofs.walk.odd_walk.Goals as goal

pub walk_back-requires : goal.walk_back-requires
walk_back-requires g c = (
  lit< tt,
  (
    c.requires.closed,
    (
      c.requires.clash.held,
      (
        c.requires.clash.led,
        reached-sign (mark_at c.args.search.now.marks.items c.args.clash.dart) c.requires.clash.clashes.0 c.requires.clash.clashes.1,
      ),
    ),
  ),
)

pub link-requires : goal.link-requires
link-requires g c = (lit< tt, c.requires.clash.within)

pub unwrap-other-requires : goal.unwrap-other-requires
unwrap-other-requires g c =
    let reached : IsReached c.args.search.now.marks.items c.args.clash.dart =
    reached-sign (mark_at c.args.search.now.marks.items c.args.clash.dart) c.requires.clash.clashes.0 c.requires.clash.clashes.1 in
    some-or_none c.link.result (λ none. c.requires.closed (c.args.clash.dart, c.args.clash.link, c.requires.clash.held.live c.args.clash.dart reached, c.requires.clash.within, c.link.ensures.free.0 none))

pub walk_back-requires-2 : goal.walk_back-requires-2
walk_back-requires-2 g c =
    let to : c.unwrap-other.result ≡ links_of c.args.links.now.rows c.args.clash.link c.args.clash.dart =
    at-some (λ (other : ℕ). other ≡ links_of c.args.links.now.rows c.args.clash.link c.args.clash.dart) c.link.result c.unwrap-other.result c.unwrap-other.ensures c.link.ensures.linked in (
      lit< tt,
      (
        c.requires.closed,
        (
          c.requires.clash.held,
          (
            c.requires.clash.led,
            subst (IsReached c.args.search.now.marks.items) (sym to)
                (reached-sign (mark_at c.args.search.now.marks.items (links_of c.args.links.now.rows c.args.clash.link c.args.clash.dart)) c.requires.clash.clashes.0 c.requires.clash.clashes.2),
          ),
        ),
      ),
    )

pub returns : goal.returns
returns g c =
    let to : c.unwrap-other.result ≡ links_of c.args.links.now.rows c.args.clash.link c.args.clash.dart =
    at-some (λ (other : ℕ). other ≡ links_of c.args.links.now.rows c.args.clash.link c.args.clash.dart) c.link.result c.unwrap-other.result c.unwrap-other.ensures c.link.ensures.linked in
    let there : (way : List ℕ) × (c.walk_back.new.walk.items ≡ c.new-walk.result.items ++ way)
    × IsWayBack g.row.DIM (links_of c.args.links.now.rows) c.args.first c.args.search.now.marks.items c.args.clash.dart way = c.in_ok-walk_back.ensures in
    let back : (way : List ℕ) × (c.walk_back-2.new.walk.items ≡ c.push.new.self.items ++ way)
    × IsWayBack g.row.DIM (links_of c.args.links.now.rows) c.args.first c.args.search.now.marks.items c.unwrap-other.result way = c.in_ok-walk_back-2.ensures in
    let whole : c.walk_back-2.new.walk.items ≡ (reverse there.0 ++ c.args.clash.link ∷ []) ++ back.0 =
    back.1 ∙ ap (λ (xs : List ℕ). xs ++ back.0) (c.in_ok-push.ensures.items ∙ ap (λ (xs : List ℕ). xs ++ c.args.clash.link ∷ [])
    (c.reverse.ensures.items ∙ ap reverse (there.1 ∙ ap (λ (xs : List ℕ). xs ++ there.0) c.new-walk.ensures.items))) in
    record {
      start = refl;
      odd = subst (IsOddWalk g.row.DIM (links_of c.args.links.now.rows) c.args.first) (sym whole)
          (odd-walk g.row.DIM (IsLive c.args.links.now.rows) (links_of c.args.links.now.rows) c.args.search.now.marks.items c.args.first c.args.clash.dart c.args.clash.link there.0 back.0
          (rows-whole g.row.DIM c.args.links.now.rows c.link.ensures.sound c.requires.closed)
          (c.requires.clash.held.live c.args.clash.dart (reached-sign (mark_at c.args.search.now.marks.items c.args.clash.dart) c.requires.clash.clashes.0 c.requires.clash.clashes.1))
          c.requires.clash.within c.requires.clash.clashes there.2
          (subst (λ (x : ℕ). IsWayBack g.row.DIM (links_of c.args.links.now.rows) c.args.first c.args.search.now.marks.items x back.0) to back.2));
    }
