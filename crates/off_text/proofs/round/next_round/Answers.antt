use Rattle.std.proofs.Common.{lit<, subst, sym}
use Rattle.map_defs.specs.LinkWords.{IsWithin}
use Rattle.off_text.proofs.Rounds.{round-within}
use Rattle.off_text.proofs.round.next_round.Goals as goal

pub follow-requires : goal.follow-requires
follow-requires g c = (lit< tt, subst (IsWithin g.row.DIM) (sym c.round_word.ensures) (round-within g.K.Kind.kind g.row.DIM c.see_sound.ensures.low))
