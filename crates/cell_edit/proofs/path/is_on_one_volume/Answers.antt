use Rattle.std.proofs.Common.{ℕ, ◌≡◌, ◌↔◌, ◌≤◌, ◌∙◌, List, Contains, slice_index, sym, subst, refl, arith}
use Rattle.std.proofs.lemmas.Bool.{false≢true}
use Rattle.std.proofs.lemmas.List.{get_or_default}
use Rattle.map_defs.specs.Rows.{links_of}
use Rattle.map_defs.specs.Cells.{InOrbit}
use Rattle.map_defs.specs.Insertion.{IsLinkedBy}
use Rattle.insert_laws.proofs.Paths.{held_at}
use Rattle.cell_edit.proofs.StarNumbers.{search-tells}
use Rattle.cell_edit.proofs.PathSides.{volume-of, listed-more, listed-volume}
use Rattle.cell_edit.proofs.path.is_on_one_volume.Goals as goal

pub returns-then-is_err : goal.returns-then-is_err
returns-then-is_err g c =
    let L = links_of c.args.links.now.rows in
    let volume : List ℕ = c.in_ok-volume.volume.items in
    let start : c.index-path-0.result ≡ slice_index c.args.path.now 0 = c.index-path-0.is ∙ get_or_default c.args.path.now 0 c.index-path-0.result 0 (omega (arith, c.requires.some)) in
    let members : (y : ℕ) → Contains c.in_ok-volume.volume.items y ↔ InOrbit (IsLinkedBy (links_of c.args.links.now.rows) (λ j. j ≤ 2)) (slice_index c.args.path.now 0) y =
    volume-of (links_of c.args.links.now.rows) c.args.path.now volume c.index-path-0.result start c.in_ok-volume.ensures.members in
    let one : c.dart-item.result ≡ slice_index c.args.path.now c.loop-dart.dart-index = c.dart-item.is ∙ get_or_default c.args.path.now c.loop-dart.dart-index c.dart-item.result 0 c.loop-dart-test.true in
    let found = search-tells volume c.dart-item.result c.binary_search.result c.in_ok-volume.ensures.ascending (rw c.deref.ensures.value at c.binary_search.ensures.position) in (
      λ true. absurd (false≢true true),
      λ all. absurd (found.1 (sym c.is_err.ensures.value ∙ c.if-is_err.true)
          (subst (Contains c.in_ok-volume.volume.items) (sym one) ((members (slice_index c.args.path.now c.loop-dart.dart-index)).1 (all (slice_index c.args.path.now c.loop-dart.dart-index) (held_at c.args.path.now c.loop-dart.dart-index c.loop-dart-test.true))))),
    )

pub loop-dart-preserved : goal.loop-dart-preserved
loop-dart-preserved g c =
    let volume : List ℕ = c.in_ok-volume.volume.items in
    let one : c.dart-item.result ≡ slice_index c.args.path.now c.loop-dart.dart-index = c.dart-item.is ∙ get_or_default c.args.path.now c.loop-dart.dart-index c.dart-item.result 0 c.loop-dart-test.true in
    let found = search-tells volume c.dart-item.result c.binary_search.result c.in_ok-volume.ensures.ascending (rw c.deref.ensures.value at c.binary_search.ensures.position) in
    listed-more volume c.args.path.now c.loop-dart.dart-index c.loop-dart.invariant (subst (Contains c.in_ok-volume.volume.items) one (found.0 (sym c.is_err.ensures.value ∙ c.if-is_err.false)))

pub returns : goal.returns
returns g c =
    let volume : List ℕ = c.in_ok-volume.volume.items in
    let start : c.index-path-0.result ≡ slice_index c.args.path.now 0 = c.index-path-0.is ∙ get_or_default c.args.path.now 0 c.index-path-0.result 0 (omega (arith, c.requires.some)) in
    let members : (y : ℕ) → Contains c.in_ok-volume.volume.items y ↔ InOrbit (IsLinkedBy (links_of c.args.links.now.rows) (λ j. j ≤ 2)) (slice_index c.args.path.now 0) y =
    volume-of (links_of c.args.links.now.rows) c.args.path.now volume c.index-path-0.result start c.in_ok-volume.ensures.members in
    (λ _. listed-volume (links_of c.args.links.now.rows) c.args.path.now volume c.loop-dart.dart-index (omega arith) members c.loop-dart.invariant, λ _. refl)
