-- The text of a gap, byte by byte.
use Prim.Native.Nat.{ℕ, ◌+◌, ◌*◌, ◌≤◌, ◌<◌}
use mathlib.Core.List.{List, [], ◌∷◌, ◌++◌, append_assoc, append-nil}
use mathlib.Core.Path.{◌≡◌, refl, sym, ap, ◌∙◌}
use native.Mathlib.Numerals.{add-one}
use native.Mathlib.Omega.{arith}
use lib.ListN.{length, take, drop, get_or, length-append}
use lib.Seq.{take-suc, length-take-le, take_all}
use Rattle.printing.specs.Writing.{over}
use Rattle.printing.proofs.Writing.{over-take}
use Rattle.listing_parts.specs.Parts.{hex_digits, byte_word, byte_text, bytes_behind, bytes_text, gap_text}
use Rattle.listing_parts.specs.Put.{Put, Appended, GapBytes}
use Rattle.listing_parts.proofs.Appending.{over-over, put_first, put-more}

pub byte-long : (byte : ℕ) → length (byte_text byte) ≡ 4
unfolding byte_text hex_digits
byte-long byte = refl

behind-append : (x y : List ℕ) → bytes_behind (x ++ y) ≡ bytes_behind x ++ bytes_behind y
unfolding bytes_behind
behind-append [] y = refl
behind-append (byte ∷ x) y =
    ap (λ (l : List ℕ). 44 ∷ 32 ∷ l) (ap (λ (l : List ℕ). byte_text byte ++ l) (behind-append x y) ∙ sym (append_assoc (byte_text byte) (bytes_behind x) (bytes_behind y)))

behind-long : (x : List ℕ) → length (bytes_behind x) ≡ 6 * length x
unfolding bytes_behind
behind-long [] = refl
behind-long (byte ∷ x) = omega (arith, length-append (byte_text byte) (bytes_behind x), byte-long byte, behind-long x)

-- ".byte " and, for each byte, four of its text and two before it
pub gap-text-most : (x : List ℕ) → length (gap_text x) ≤ 6 + 6 * length x
unfolding gap_text bytes_text
gap-text-most [] = omega arith
gap-text-most (byte ∷ x) = omega (arith, length-append (byte_text byte) (bytes_behind x), byte-long byte, behind-long x)

-- bytes put one behind the other: none yet, and more behind them
appended-none : (at : ℕ) (l : List ℕ) → at ≤ length l → Appended at [] l l at
appended-none at l h = record { size = omega arith; holds = over-take at l h ∙ ap (λ (x : List ℕ). over x l) (sym (append-nil (take at l))) }

appended-more : (at : ℕ) (v w l m m' : List ℕ) (n n' : ℕ) → at ≤ length l → Appended at v l m n → Appended n w m m' n' → Appended at (v ++ w) l m' n'
appended-more at v w l m m' n n' h p q =
    record {
      size = omega (arith, length-append v w, p.size, q.size);
      holds =
          q.holds ∙ ap (λ (x : List ℕ). over (take n x ++ w) x) p.holds
          ∙ over-over (take at l ++ v) w l n (omega (arith, p.size, length-append (take at l) v, length-take-le at l h))
          ∙ ap (λ (x : List ℕ). over x l) (append_assoc (take at l) v w);
    }

-- the loop over a gap's bytes x, put behind the first `at` of l, after i of them
pub record Behind (x : List ℕ) (at : ℕ) (l m : List ℕ) (end i : ℕ) : Type 0 where
  pub room : at + 6 * length x ≤ length l
  pub few : i ≤ length x
  pub put : Appended at (bytes_behind (take i x)) l m end
  pub kept : length m ≡ length l

pub behind-none : (x : List ℕ) (at : ℕ) (l : List ℕ) → at + 6 * length x ≤ length l → Behind x at l l at 0
unfolding bytes_behind
behind-none x at l h = record { room = h; few = omega arith; put = appended-none at l (omega arith); kept = refl }

module _ (x : List ℕ) (at : ℕ) (l m : List ℕ) (end i : ℕ) (b : Behind x at l m end i) where
  pub behind-end : end ≡ at + 6 * i
  behind-end = omega (arith, b.put.size, behind-long (take i x), length-take-le i x b.few)

  pub behind-next : (m' w : List ℕ) (end' : ℕ) → i < length x → w ≡ 44 ∷ 32 ∷ byte_text (get_or x i 0) → Appended end w m m' end' → length m' ≡ length m
      → Behind x at l m' end' (i + 1)
  unfolding bytes_behind
  behind-next m' w end' h e q k =
      let next : bytes_behind (take (i + 1) x) ≡ bytes_behind (take i x) ++ w =
      ap (λ (j : ℕ). bytes_behind (take j x)) (add-one i) ∙ ap bytes_behind (take-suc x i 0 h)
      ∙ behind-append (take i x) (get_or x i 0 ∷ []) ∙ ap (λ (y : List ℕ). bytes_behind (take i x) ++ y) (one ∙ sym e) in
      record {
        room = b.room;
        few = omega arith;
        put = rw next (appended-more at (bytes_behind (take i x)) w l m m' end end' (omega (arith, b.room)) b.put q);
        kept = k ∙ b.kept;
      }
    where
      one : bytes_behind (get_or x i 0 ∷ []) ≡ 44 ∷ 32 ∷ byte_text (get_or x i 0)
      one = ap (λ (y : List ℕ). 44 ∷ 32 ∷ y) (append-nil (byte_text (get_or x i 0)))

  pub behind-all : length x ≤ i → Appended at (bytes_behind x) l m end
  behind-all h = rw (take_all i x h) at b.put

-- the first byte, then those behind it
pub gap-put : (x : List ℕ) (l m m' w : List ℕ) (n n' : ℕ) → GapBytes x l → w ≡ byte_word ++ byte_text (get_or x 0 0) → Appended 0 w l m n
    → Appended n (bytes_behind (drop 1 x)) m m' n' → Put (gap_text x) l m' n'
unfolding gap_text bytes_text
gap-put [] l m m' w n n' g e p q = absurd (omega (arith, g.some))
gap-put (byte ∷ x) l m m' w n n' g e p q =
    let long : length w ≡ 10 = ap length e ∙ omega (arith, byte-long byte) in
    let first : Put w l m n = put_first w l m n (omega (arith, g.room)) p in
    let all : w ++ bytes_behind x ≡ byte_word ++ byte_text byte ++ bytes_behind x = rw e refl in
    rw (← all) (put-more w (bytes_behind x) l m m' n n' first (omega (arith, g.room, g.few, behind-long x)) q)
