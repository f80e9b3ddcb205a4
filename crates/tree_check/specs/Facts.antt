-- What the theorems say of two answers that the tree check may give.
use Rattle.std.specs.Prelude.{ℕ, ◌≡◌, Some, None, Ok, Err}
use Rattle.tree_check.specs.Entry.{Answer}

-- the second answer is the first; where a leaf is wrong it names the same node, and its eight bytes and context are left open
abbrev pub Alike : Answer → Answer → Type 0
Alike (Ok (Some w)) r = (x : ℕ) × (y : ℕ) × (r ≡ Ok (Some (record { node = w.node; word = x; context = y })))
Alike (Ok None) r = r ≡ Ok None
Alike (Err e) r = r ≡ Err e
