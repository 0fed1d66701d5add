use Rattle.row_laws.proofs.RowBytes.{rows-short}
use Rattle.row_laws.proofs.rows_take_bytes.Goals as goal

pub returns : goal.returns
returns c = rows-short
