-- What the check of a description sees to in every pattern.
use Rattle.std.specs.Prelude.{◌<◌, ◌^◌, ◌≡◌}
use Rattle.std.specs.Int.Bits.{bit_and}
use Rattle.format.specs.declared.Pattern.{Pattern}

-- the numbers fit their words, and "no value bit outside its mask"
pub record ValidPattern (p : Pattern) : Type 0 where
  pub mask : p.mask < 2 ^ 64
  pub value : p.value < 2 ^ 64
  pub contextmask : p.contextmask < 2 ^ 32
  pub contextvalue : p.contextvalue < 2 ^ 32
  pub masked : bit_and p.value p.mask ≡ p.value
  pub contextmasked : bit_and p.contextvalue p.contextmask ≡ p.contextvalue
