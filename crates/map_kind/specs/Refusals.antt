-- The machine's refusal that each variant of `Refusal` stands for.
use Rattle.map_kind.specs.declared.refusal.Refusal.{Refusal}
use Rattle.map_kind.specs.declared.refusal.Refusal.TheVariants as told
use Rattle.map_defs.specs.Refusal as machine

abbrev pub meaning : Refusal → machine.Refusal
meaning told.Syntax = machine.Syntax
meaning told.BadDim = machine.BadDim
meaning told.NoDart = machine.NoDart
meaning told.NoRule = machine.NoRule
meaning told.NotFree = machine.NotFree
meaning told.Unsewable = machine.Unsewable
meaning told.AlreadyFree = machine.AlreadyFree
meaning told.OtherCell = machine.OtherCell
meaning told.SameCorner = machine.SameCorner
meaning told.NotClosed = machine.NotClosed
meaning told.Unpaired = machine.Unpaired
meaning told.NotRemovable = machine.NotRemovable
meaning told.NotContractible = machine.NotContractible
meaning told.Boundary = machine.Boundary
meaning told.Linked = machine.Linked
meaning told.BadCount = machine.BadCount
meaning told.MarkTaken = machine.MarkTaken
meaning told.NoMark = machine.NoMark
meaning told.NoPoint = machine.NoPoint
meaning told.ThinFace = machine.ThinFace
meaning told.Full = machine.Full
meaning told.NoRedo = machine.NoRedo
