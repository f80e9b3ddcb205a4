-- "Numbers of two or more bytes are little-endian unless a field says otherwise." A byte past the end reads as 0; nothing that is judged reads there.
use Rattle.std.specs.Prelude.{ℕ, ◌+◌, ◌*◌, List, get_or}

abbrev pub byte_at : List ℕ → ℕ → ℕ
byte_at b at = get_or b at 0

abbrev pub u16_at : List ℕ → ℕ → ℕ
u16_at b at = byte_at b at + 256 * byte_at b (at + 1)

abbrev pub u32_at : List ℕ → ℕ → ℕ
u32_at b at = u16_at b at + 65536 * u16_at b (at + 2)

abbrev pub u64_at : List ℕ → ℕ → ℕ
u64_at b at = u32_at b at + 4294967296 * u32_at b (at + 4)
