use Rattle.std.proofs.Common.{◌≡◌, take, All}
use Rattle.map_defs.specs.Rows.{IsLive}
use Rattle.map_core.proofs.map.Map.live_darts.Given as goal

abbrev pub invariant-loop-number : goal.invariant-loop-number
invariant-loop-number g l = record {
  items : l.darts.items ≡ take l.number-index l.numbers;
  live : All (IsLive l.self.state.present.rows) (take l.number-index l.numbers);
}
