use Rattle.std.proofs.Common.{subst}
use Rattle.map_defs.specs.Rows.{IsSound}
use Rattle.edit_laws.proofs.EditSound.{after-sound}
use Rattle.edit_laws.proofs.edit_makes_sound_rows.Goals as goal

pub returns : goal.returns
returns c k n edit old new led = subst (IsSound k n) led.after (after-sound k n old edit led.begun led.sound led.fits led.few)
