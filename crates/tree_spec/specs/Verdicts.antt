-- Demand 3: what it says of a tree that it is accepted, or rejected.
use Rattle.std.specs.Prelude.{ℕ, zero, suc, ◌/◌, ◌%◌, ◌<◌, true, false, List, [], ◌∷◌, ◌≡◌, Option, Some, None}
use Rattle.format.specs.declared.Pattern.{Pattern}
use Rattle.tree_spec.specs.Nodes.{kind_at}
use Rattle.tree_spec.specs.Reach.{reach_of, proves_wrong, Input}
use Rattle.tree_spec.specs.declared.WrongLeaf.{WrongLeaf}

-- the first n bytes of a little-endian number
unfoldable pub bytes_of : ℕ → ℕ → List ℕ
bytes_of zero w = []
bytes_of (suc n) w = w % 256 ∷ bytes_of n (w / 256)

-- accepted exactly when for every input of eight or more bytes and every context the leaf reached says what demand 2 takes
pub record Accepts (first : ℕ) (at : ℕ → Pattern) (n : ℕ) (b : List ℕ) : Type 0 where
  pub leaf : (s : List ℕ) (c : ℕ) → Input s c → kind_at b (reach_of b s c) ≡ 0
  pub all : (s : List ℕ) (c : ℕ) → Input s c → proves_wrong first at n b s c (reach_of b s c) ≡ false

-- else the first wrong leaf is named with eight bytes and a context that prove it
pub record Rejects (first : ℕ) (at : ℕ → Pattern) (n : ℕ) (b : List ℕ) (i w c : ℕ) : Type 0 where
  pub input : Input (bytes_of 8 w) c
  pub leaf : kind_at b i ≡ 0
  pub reached : reach_of b (bytes_of 8 w) c ≡ i
  pub wrong : proves_wrong first at n b (bytes_of 8 w) c i ≡ true
  pub earlier : (s : List ℕ) (x : ℕ) → Input s x → reach_of b s x < i → proves_wrong first at n b s x (reach_of b s x) ≡ false

-- the check's answer is the first wrong leaf, if there is one
abbrev pub VerdictFor : ℕ → (ℕ → Pattern) → ℕ → List ℕ → Option WrongLeaf → Type 0
VerdictFor first at n b None = Accepts first at n b
VerdictFor first at n b (Some w) = Rejects first at n b w.node w.word w.context
