use Rattle.std.proofs.Common.{ℕ, ◌≡◌, ◌≤◌, sym, subst, ◌∙◌, Bool, not, MatchBool, Some, arith}
use Rattle.map_defs.specs.Rows.{links_of, IsLive}
use Rattle.orient_half.specs.Marks.{sign_at}
use Rattle.orient_half.specs.Searches.{IsGrown}
use Rattle.orient_half.proofs.Grown.{grown-trans}
use Rattle.orient_half.proofs.MarkFacts.{at-some}
use Rattle.orient_half.proofs.Spreading.{visited-more, followed-grown, followed-flips, followed-clashes}
use Rattle.orient_half.proofs.WholeLinks.{rows-whole, lands-live}
use Rattle.orient_half.proofs.search.visit.Goals as goal

pub mark-requires : goal.mark-requires
mark-requires g c = c.requires.held.room c.args.dart (c.requires.held.live c.args.dart (c.requires.queued c.args.dart c.requires.among))

pub give-requires-clause-room : goal.give-requires-clause-room
give-requires-clause-room g c =
    let told = rw c.unwrap-row.ensures at c.row.ensures in
    let leads : c.unwrap-other.result ≡ links_of c.args.links.now.rows c.loop-link.link c.args.dart =
    at-some (λ (other : ℕ). other ≡ c.entry.result) c.new.result c.unwrap-other.result c.unwrap-other.ensures c.new.ensures.same ∙ (c.entry.ensures ∙ told c.loop-link.link) in
    let within : c.loop-link.link ≤ g.row.DIM = omega (arith, c.loop-link-test.true, c.dimension-link-end.ensures.dimension) in
    c.loop-link.invariant.grown.held.room c.unwrap-other.result
    (subst (IsLive c.args.links.now.rows) (sym leads) (lands-live g.row.DIM (IsLive c.args.links.now.rows) (links_of c.args.links.now.rows)
    (rows-whole g.row.DIM c.args.links.now.rows c.see_sound.ensures.sound c.requires.closed) c.args.dart c.loop-link.link
    (c.requires.held.live c.args.dart (c.requires.queued c.args.dart c.requires.among)) within))

pub returns-then-not-branch-clause-grown : goal.returns-then-not-branch-clause-grown
returns-then-not-branch-clause-grown g c =
    let told = rw c.unwrap-row.ensures at c.row.ensures in
    let leads : c.unwrap-other.result ≡ links_of c.args.links.now.rows c.loop-link.link c.args.dart =
    at-some (λ (other : ℕ). other ≡ c.entry.result) c.new.result c.unwrap-other.result c.unwrap-other.ensures c.new.ensures.same ∙ (c.entry.ensures ∙ told c.loop-link.link) in
    let within : c.loop-link.link ≤ g.row.DIM = omega (arith, c.loop-link-test.true, c.dimension-link-end.ensures.dimension) in
    let grown : IsGrown g.row.DIM (IsLive c.args.links.now.rows) (links_of c.args.links.now.rows)
    c.loop-link.search.marks.items c.give.new.self.marks.items c.loop-link.search.queue.items c.give.new.self.queue.items =
    followed-grown g.row.DIM (IsLive c.args.links.now.rows) (links_of c.args.links.now.rows) c.args.dart c.loop-link.link c.unwrap-other.result c.unwrap.result
    c.args.search.now.marks.items c.loop-link.search.marks.items c.give.new.self.marks.items c.args.search.now.queue.items c.loop-link.search.queue.items c.give.new.self.queue.items
    (sym c.mark.ensures ∙ c.unwrap.ensures) leads c.loop-link.invariant
    (rows-whole g.row.DIM c.args.links.now.rows c.see_sound.ensures.sound c.requires.closed) within c.requires.among c.in_ok-give.ensures.given in
    grown-trans g.row.DIM (IsLive c.args.links.now.rows) (links_of c.args.links.now.rows)
    c.args.search.now.marks.items c.loop-link.search.marks.items c.give.new.self.marks.items c.args.search.now.queue.items c.loop-link.search.queue.items c.give.new.self.queue.items
    c.loop-link.invariant.grown grown

pub returns-then-not-branch-clause-clash : goal.returns-then-not-branch-clause-clash
returns-then-not-branch-clause-clash g c =
    let told = rw c.unwrap-row.ensures at c.row.ensures in
    let leads : c.unwrap-other.result ≡ links_of c.args.links.now.rows c.loop-link.link c.args.dart =
    at-some (λ (other : ℕ). other ≡ c.entry.result) c.new.result c.unwrap-other.result c.unwrap-other.ensures c.new.ensures.same ∙ (c.entry.ensures ∙ told c.loop-link.link) in
    let within : c.loop-link.link ≤ g.row.DIM = omega (arith, c.loop-link-test.true, c.dimension-link-end.ensures.dimension) in
    let grown : IsGrown g.row.DIM (IsLive c.args.links.now.rows) (links_of c.args.links.now.rows)
    c.loop-link.search.marks.items c.give.new.self.marks.items c.loop-link.search.queue.items c.give.new.self.queue.items =
    followed-grown g.row.DIM (IsLive c.args.links.now.rows) (links_of c.args.links.now.rows) c.args.dart c.loop-link.link c.unwrap-other.result c.unwrap.result
    c.args.search.now.marks.items c.loop-link.search.marks.items c.give.new.self.marks.items c.args.search.now.queue.items c.loop-link.search.queue.items c.give.new.self.queue.items
    (sym c.mark.ensures ∙ c.unwrap.ensures) leads c.loop-link.invariant
    (rows-whole g.row.DIM c.args.links.now.rows c.see_sound.ensures.sound c.requires.closed) within c.requires.among c.in_ok-give.ensures.given in (
      within,
      followed-clashes g.row.DIM (IsLive c.args.links.now.rows) (links_of c.args.links.now.rows) c.args.dart c.loop-link.link c.unwrap-other.result c.unwrap.result
          c.args.search.now.marks.items c.loop-link.search.marks.items c.give.new.self.marks.items c.args.search.now.queue.items c.loop-link.search.queue.items c.give.new.self.queue.items
          (sym c.mark.ensures ∙ c.unwrap.ensures) leads c.loop-link.invariant
          grown (subst (λ (b : Bool). MatchBool b (sign_at c.give.new.self.marks.items c.unwrap-other.result ≡ Some (not c.unwrap.result.positive)) (sign_at c.give.new.self.marks.items c.unwrap-other.result ≡ Some (not (not c.unwrap.result.positive))))
          c.if-not-branch.true c.in_ok-give.ensures.sign),
    )

pub loop-link-preserved : goal.loop-link-preserved
loop-link-preserved g c =
    let told = rw c.unwrap-row.ensures at c.row.ensures in
    let leads : c.unwrap-other.result ≡ links_of c.args.links.now.rows c.loop-link.link c.args.dart =
    at-some (λ (other : ℕ). other ≡ c.entry.result) c.new.result c.unwrap-other.result c.unwrap-other.ensures c.new.ensures.same ∙ (c.entry.ensures ∙ told c.loop-link.link) in
    let within : c.loop-link.link ≤ g.row.DIM = omega (arith, c.loop-link-test.true, c.dimension-link-end.ensures.dimension) in
    let grown : IsGrown g.row.DIM (IsLive c.args.links.now.rows) (links_of c.args.links.now.rows)
    c.loop-link.search.marks.items c.give.new.self.marks.items c.loop-link.search.queue.items c.give.new.self.queue.items =
    followed-grown g.row.DIM (IsLive c.args.links.now.rows) (links_of c.args.links.now.rows) c.args.dart c.loop-link.link c.unwrap-other.result c.unwrap.result
    c.args.search.now.marks.items c.loop-link.search.marks.items c.give.new.self.marks.items c.args.search.now.queue.items c.loop-link.search.queue.items c.give.new.self.queue.items
    (sym c.mark.ensures ∙ c.unwrap.ensures) leads c.loop-link.invariant
    (rows-whole g.row.DIM c.args.links.now.rows c.see_sound.ensures.sound c.requires.closed) within c.requires.among c.in_ok-give.ensures.given in
    visited-more g.row.DIM (IsLive c.args.links.now.rows) (links_of c.args.links.now.rows) c.args.dart c.loop-link.link
    c.args.search.now.marks.items c.loop-link.search.marks.items c.give.new.self.marks.items c.args.search.now.queue.items c.loop-link.search.queue.items c.give.new.self.queue.items
    c.loop-link.invariant grown (followed-flips g.row.DIM (IsLive c.args.links.now.rows) (links_of c.args.links.now.rows) c.args.dart c.loop-link.link c.unwrap-other.result c.unwrap.result
    c.args.search.now.marks.items c.loop-link.search.marks.items c.give.new.self.marks.items c.args.search.now.queue.items c.loop-link.search.queue.items c.give.new.self.queue.items
    (sym c.mark.ensures ∙ c.unwrap.ensures) leads c.loop-link.invariant
    grown (subst (λ (b : Bool). MatchBool b (sign_at c.give.new.self.marks.items c.unwrap-other.result ≡ Some (not c.unwrap.result.positive)) (sign_at c.give.new.self.marks.items c.unwrap-other.result ≡ Some (not (not c.unwrap.result.positive))))
    c.if-not-branch.false c.in_ok-give.ensures.sign))
