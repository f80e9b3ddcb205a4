-- "A count (2), then 1 to 4,095 nodes of four bytes: kind, bit, place (2)."
use Rattle.std.specs.Prelude.{ℕ, ◌+◌, ◌*◌, List}
use Rattle.format.specs.Bytes.{byte_at, u16_at}

abbrev pub most_nodes : ℕ
most_nodes = 4095

-- "65,535 for none", and the node of a fault that is no node's
abbrev pub no_place : ℕ
no_place = 65535

abbrev pub count_of : List ℕ → ℕ
count_of b = u16_at b 0

unfoldable pub kind_at : List ℕ → ℕ → ℕ
kind_at b i = byte_at b (4 * i + 2)

unfoldable pub bit_at : List ℕ → ℕ → ℕ
bit_at b i = byte_at b (4 * i + 3)

unfoldable pub place_at : List ℕ → ℕ → ℕ
place_at b i = u16_at b (4 * i + 4)
