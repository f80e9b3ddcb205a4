-- "The look number decides how a value is shown".
use Rattle.std.specs.Prelude.{ℕ, ◌-◌, ◌^◌, Bool, true, false, cond, eqb, ℤ, pos}
use Rattle.std.proofs.Math.IntN.{sub_ℕ}
use Rattle.bits.specs.Bits.{is_set}
use Rattle.printing.specs.declared.Base.TheVariants.{Decimal, Hexadecimal}
use Rattle.fields.specs.declared.Look.{Look}
use Rattle.fields.specs.declared.Look.TheVariants.{Number, Name}

-- "0 unsigned decimal, 1 signed decimal, 2 unsigned hex, 3 signed hex, 4 names"; no well-formed description has another one
unfoldable pub look_of : ℕ → Look
look_of look =
    cond (eqb look 0) (Number false Decimal)
    (cond (eqb look 1) (Number true Decimal)
    (cond (eqb look 2) (Number false Hexadecimal)
    (cond (eqb look 3) (Number true Hexadecimal)
    (cond (eqb look 4) Name
    (Number false Decimal)))))

-- "Signed looks take the top bit as the sign": of a value of so many bits
unfoldable pub signed_of : ℕ → ℕ → ℤ
signed_of bits value = cond (is_set value (bits - 1)) (sub_ℕ value (2 ^ bits)) (pos value)

-- the number that a value of so many bits is shown as
unfoldable pub number_of : Bool → ℕ → ℕ → ℤ
number_of signed bits value = cond signed (signed_of bits value) (pos value)
