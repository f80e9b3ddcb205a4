use Rattle.rules.proofs.Gathered.{table-marks}
use borrow.Author.Rules.{rules}
use Rattle.rules.proofs.place_fits.Goals as goal

pub returns : goal.returns
returns c = rw (c.requires.marked.tables, (table-marks _).marked c.operand_at-x.result.index (search rules), c.operand_at-x.ensures)
