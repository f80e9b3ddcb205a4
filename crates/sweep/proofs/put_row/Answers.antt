use Prim.Native.Nat.{◌*◌}
use mathlib.Core.Path.{refl}
use native.Mathlib.Omega.{arith}
use mir.Facts.{to_z_pos}
use mir.Syntax.{w64}
use Rattle.sweep.proofs.Turns.{put_four}
use Rattle.sweep.proofs.put_row.Goals as goal

pub returns : goal.returns
returns c =
    rw (to_z_pos w64 {n = c.args.start} c.requires.start_bound.0, to_z_pos w64 {n = c.args.row.length} c.requires.start_bound.1, to_z_pos w64 {n = c.args.row.answer} (omega arith), to_z_pos w64 {n = c.args.row.constructor} c.requires.start_bound.2)
    (put_four c.args.rows.now c.args.i (4 * c.args.i) c.args.start c.args.row.length c.args.row.answer c.args.row.constructor refl c.requires.i_in_bounds)
