use Rattle.std.proofs.Common.{◌≡◌, List, length, take, drop, ◌-◌, nat_eq, ◌∙◌, ap, arith}
use Rattle.std.specs.List.{list_any}
use Rattle.std.proofs.lemmas.List.{take_min, take_all, length-drop}
use Rattle.transport.specs.declared.pieces.Piece.{Piece}
use Rattle.transport.proofs.tally.is_shown.Goals as goal

pub returns : goal.returns
returns c =
    let own : List Piece = take (length c.args.pieces.now - c.args.start) (drop c.args.start c.args.pieces.now) in
    let size = length-drop c.args.start c.args.pieces.now in
    let whole : own ≡ drop c.args.start c.args.pieces.now = take_all (length c.args.pieces.now - c.args.start) (drop c.args.start c.args.pieces.now) (omega arith) in
    c.has_id.ensures
    ∙ (ap (λ k. list_any (λ (p : Piece). nat_eq p.id c.args.id) (take k own)) c.min.ensures
    ∙ ap (list_any (λ (p : Piece). nat_eq p.id c.args.id)) (take_min 16 own ∙ ap (take 16) whole))
