use Rattle.map_defs.specs.Rows.{IsLive}
use Rattle.transport.proofs.WholeMap.{whole_map}
use Rattle.transport.proofs.laws.groups_carry_the_whole_map.Goals as goal

pub returns : goal.returns
returns c k dim old new label pool hook rules touched groups i rule after sound cells values ruled others lived given kept =
    whole_map k dim new sound label pool hook rules touched groups cells values i rule ruled others (IsLive old) after lived given kept
