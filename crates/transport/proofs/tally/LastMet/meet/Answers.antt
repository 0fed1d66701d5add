use Rattle.std.proofs.Common.{sym, ◌∙◌, arith}
use Rattle.transport.proofs.Meeting.{met_shown, met_few, met_many}
use Rattle.transport.proofs.tally.LastMet.meet.Goals as goal

pub returns-then-is_shown : goal.returns-then-is_shown
returns-then-is_shown c =
    met_shown c.args.pieces.now c.args.cell c.args.id c.args.self.now c.requires (sym c.is_shown.ensures ∙ c.if-is_shown.true)

pub returns-then-pieces-self-lt-FEW : goal.returns-then-pieces-self-lt-FEW
returns-then-pieces-self-lt-FEW c =
    let few = c.if-pieces-self-lt-FEW.true in
    met_few c.args.pieces.now c.args.cell c.args.id c.args.self.now c.requires (sym c.is_shown.ensures ∙ c.if-is_shown.false) (let low = c.requires.start in omega arith)

pub returns : goal.returns
returns c =
    let many = c.if-pieces-self-lt-FEW.false in
    met_many c.args.pieces.now c.args.cell c.args.id c.args.self.now c.requires c.meet_beside.new.self c.in_ok-again.again (sym c.is_shown.ensures ∙ c.if-is_shown.false) (let low = c.requires.start in omega arith)
    c.in_ok-again.ensures.start c.in_ok-again.ensures.after c.in_ok-again.ensures.again
