use Rattle.std.proofs.Common.{rules}
use Rattle.map_io.proofs.FailingCalls.{told-contains}
use Rattle.map_io.proofs.memory.MemShelf.call.Goals as goal

pub returns-clause-fails : goal.returns-clause-fails
returns-clause-fails c = told-contains _ _ _ _ c.contains.result (search rules) (search rules) c.contains.ensures.cases
