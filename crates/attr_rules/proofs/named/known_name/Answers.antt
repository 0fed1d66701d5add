use Rattle.std.proofs.Common.{sym, ◌∙◌}
use Rattle.attr_rules.proofs.NameFacts.{name-some, known-some, among-free}
use Rattle.attr_rules.proofs.named.known_name.Goals as goal

pub returns-then-knows : goal.returns-then-knows
returns-then-knows g c =
    let hook = g.H.Hook.hook c.args.hook.now in
    let lawful = g.met.H.Hook.lawful c.args.hook.now c.requires in
    let among = sym c.knows.ensures ∙ c.if-knows.true in
    let free = among-free hook.names c.args.name.now lawful.free among in
    c.new.ensures ∙ name-some c.args.name.now free.name ∙ sym (known-some hook.names c.args.name.now among)
