use Prim.Native.Nat.{ℕ, ◌+◌}
use mathlib.Core.Path.{◌≡◌, refl, ap}
use native.Mathlib.Omega.{arith}
use lib.ListN.{length}
use Rattle.printing.specs.Numerals.{base_number, digits_of}
use Rattle.printing.proofs.Numerals.{digits-length}
use Rattle.listing_parts.proofs.Appending.{number_put, number_is}
use Rattle.listing_parts.proofs.append_number.Goals.{After-unwrap}
use Rattle.listing_parts.proofs.append_number.Goals as goal

pub unwrap-requires : goal.unwrap-requires
unwrap-requires c = rw (number_is c.args.at (base_number c.args.base) c.args.n c.args.out.now _ _ _ c.requires refl c.put_plain-put.ensures)

-- all digits are written
count : (c : After-unwrap) → c.unwrap.result ≡ length (digits_of (base_number c.args.base) c.args.n)
count c =
    let all = number_is c.args.at (base_number c.args.base) c.args.n c.args.out.now _ _ _ c.requires refl c.put_plain-put.ensures in
    let is = c.unwrap.ensures in
    cc

pub overflow_add-result : goal.overflow_add-result
overflow_add-result c =
    omega (arith, count (goal.at.overflow_add-result c).After-unwrap, digits-length (base_number c.args.base) c.args.n)

pub returns : goal.returns
returns c =
    record {
      size = ap (λ (k : ℕ). c.args.at + k) (count (goal.at.returns c).After-unwrap);
      holds = number_put c.args.at (base_number c.args.base) c.args.n c.args.out.now _ _ _ c.requires refl c.put_plain-put.ensures;
    }
