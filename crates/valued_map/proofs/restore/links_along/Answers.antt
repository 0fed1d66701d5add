use Rattle.std.proofs.Common.{◌∙◌, sym, lit<}
use Rattle.valued_map.proofs.restore.links_along.Goals as goal

pub links_back-requires : goal.links_back-requires
links_back-requires g c = let led = rw c.in-Back.is at c.requires.1 in (lit< tt, led.1)

pub links_forward-requires : goal.links_forward-requires
links_forward-requires g c = let led = rw c.in-Forth.is at c.requires.1 in (lit< tt, (c.requires.0, led.0, led.1, c.requires.2))

pub returns-in-Back-clause-rows : goal.returns-in-Back-clause-rows
returns-in-Back-clause-rows g c = λ others led. (let back = rw c.in-Back.is at led in c.links_back.ensures.rows ∙ sym back.0)

pub returns-in-Forth-clause-rows : goal.returns-in-Forth-clause-rows
returns-in-Forth-clause-rows g c = λ others led. (let forth = rw c.in-Forth.is at led in c.links_forward.ensures.rows others forth.0 forth.1)
