use Rattle.std.proofs.Common.{◌≡◌, ◌<◌, ℕ, List, length, lit<, sym, refl, subst, Some, IsSome, Contains, arith}
use Rattle.map_defs.specs.Rows.{IsLive, links_of}
use Rattle.map_defs.specs.Cells.{InCell}
use Rattle.map_defs.specs.Values.{meaning_of}
use Rattle.store_defs.specs.Stores.{IsHeld}
use Rattle.store_defs.specs.Labelings.{id_of}
use Rattle.transport.specs.declared.pieces.Piece.{Piece}
use Rattle.store_defs.specs.Groups.{Group, rule_at, darts_in}
use Rattle.transport.specs.Pieces.{piece_at, AreBareCells, AreAllPieces, AreMerged}
use Rattle.transport.specs.Gathered.{AreApart}
use Rattle.transport.proofs.Finding.{sound_classes}
use Rattle.transport.proofs.CarryFacts.{bare_apart, bare_live, pieces_held, few_pieces}
use Rattle.transport.proofs.JoinFacts.{read_rule, all_of_dim}
use Rattle.transport.proofs.carrying.carried_cells.Goals as goal

pub pieces_of-requires : goal.pieces_of-requires
pieces_of-requires g c =
    (lit< tt, subst AreApart (sym c.deref.ensures.value) (bare_apart _ (sound_classes _ _ _ _ c.requires.sound) _ _ _ c.in_ok-cells.ensures))

pub merge_pieces-requires-clause-live : goal.merge_pieces-requires-clause-live
merge_pieces-requires-clause-live g c =
    let all = subst (λ (cells : List Group). AreAllPieces (id_of c.args.labels.now c.args.dim) cells c.in_ok-pieces.pieces.items) c.deref.ensures.value c.in_ok-pieces.ensures in
    let live = bare_live g.K.Kind.kind g.row.DIM c.args.links.now.rows c.requires.sound c.args.dim c.in_dim-darts.result.now c.in_ok-cells.cells.items c.in_ok-cells.ensures
    (λ d here. c.requires.live c.args.dim d (subst (λ (ds : List ℕ). Contains ds d) c.in_dim-darts.ensures here)) in
    subst (λ (ps : List Piece). (k : ℕ) → k < length ps → IsHeld c.args.pool.now (piece_at ps k).id) (sym c.deref-2.ensures.value)
    (pieces_held (IsLive c.args.links.now.rows) (id_of c.args.labels.now c.args.dim) (IsHeld c.args.pool.now) c.in_ok-cells.cells.items c.in_ok-pieces.pieces.items all live (c.requires.held c.args.dim))

pub merge_pieces-requires-clause-few : goal.merge_pieces-requires-clause-few
merge_pieces-requires-clause-few g c =
    let all = subst (λ (cells : List Group). AreAllPieces (id_of c.args.labels.now c.args.dim) cells c.in_ok-pieces.pieces.items) c.deref.ensures.value c.in_ok-pieces.ensures in
    let live = bare_live g.K.Kind.kind g.row.DIM c.args.links.now.rows c.requires.sound c.args.dim c.in_dim-darts.result.now c.in_ok-cells.cells.items c.in_ok-cells.ensures
    (λ d here. c.requires.live c.args.dim d (subst (λ (ds : List ℕ). Contains ds d) c.in_dim-darts.ensures here)) in
    let few = few_pieces g.K.Kind.kind g.row.DIM c.args.links.now.rows c.requires.sound (id_of c.args.labels.now c.args.dim) c.in_ok-cells.cells.items c.in_ok-pieces.pieces.items all live in
    subst (λ (ps : List Piece). length ps < 4294967296) (sym c.deref-2.ensures.value) few

pub returns : goal.returns
returns g c =
    let all = subst (λ (cells : List Group). AreAllPieces (id_of c.args.labels.now c.args.dim) cells c.in_ok-pieces.pieces.items) c.deref.ensures.value c.in_ok-pieces.ensures in
    let live = bare_live g.K.Kind.kind g.row.DIM c.args.links.now.rows c.requires.sound c.args.dim c.in_dim-darts.result.now c.in_ok-cells.cells.items c.in_ok-cells.ensures
    (λ d here. c.requires.live c.args.dim d (subst (λ (ds : List ℕ). Contains ds d) c.in_dim-darts.ensures here)) in
    let bare = subst (λ (ds : List ℕ). AreBareCells (InCell g.K.Kind.kind (links_of c.args.links.now.rows) c.args.dim) c.args.dim ds c.in_ok-cells.cells.items) c.in_dim-darts.ensures c.in_ok-cells.ensures in
    let low : c.args.dim < length c.args.rules.now = (let d = c.requires.dim in let r = c.requires.rules in omega arith) in
    let ruled : rule_at c.args.rules.now c.args.dim ≡ Some c.in-Some.rule = read_rule c.args.rules.now c.rules.inside.rules.items c.args.dim c.index.result.now c.in-Some.rule c.rules.view_is low c.index.ensures c.in-Some.is in
    all_of_dim g.K.Kind.kind (links_of c.args.links.now.rows) (IsLive c.args.links.now.rows) (id_of c.args.labels.now) c.args.pool.now (g.H.Hook.hook c.args.hook.now) c.args.rules.now (darts_in c.args.touched.now)
    c.args.dim c.in-Some.rule c.in_ok-cells.cells.items c.merge_pieces.new.cells.items c.in_ok-pieces.pieces.items ruled
    (sound_classes _ _ _ _ c.requires.sound) bare all live (c.requires.covered c.args.dim (subst IsSome (sym ruled) refl))
    (subst (λ (ps : List Piece). AreMerged (meaning_of (g.H.Hook.hook c.args.hook.now) c.in-Some.rule) c.args.pool.now ps (length ps) c.in_ok-cells.cells.items c.merge_pieces.new.cells.items) c.deref-2.ensures.value c.in_ok-merge_pieces.ensures)
