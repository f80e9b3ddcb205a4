use Rattle.rules.proofs.Minimum.{none-past-eight, none-past}
use Rattle.lists.proofs.Bools.{and_yes}
use borrow.Author.Tests.{le-leb}
use native.Mathlib.Omega.{arith}
use mathlib.Core.Path.{sym}
use Prim.Native.Nat.{◌*◌}
use Rattle.format.specs.Numbers.{longest}
use borrow.Author.Rules.{rules}
use Rattle.rules.proofs.minimum_ok.Goals as goal

pub returns-then-minimum-ge-PATTERN_BYTES : goal.returns-then-minimum-ge-PATTERN_BYTES
returns-then-minimum-ge-PATTERN_BYTES c =
    rw (none-past-eight c.args.c.pattern.mask c.args.c.minimum (search rules) c.if-minimum-ge-PATTERN_BYTES.true)
    (sym (and_yes _))

pub returns : goal.returns
returns c =
    rw (le-leb c.args.c.minimum longest (omega arith)) (none-past c.args.c.pattern.mask (8 * c.args.c.minimum))
