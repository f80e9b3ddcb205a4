-- The cases of document 01 that are marked with a star, and some of document 02, as one table: what the definitions give, and what
-- the documents say.
use Rattle.std.specs.Prelude.{ℕ, ◌*◌, Bool, true, false, ◌&&◌, List, [], ◌∷◌, ◌++◌, ◌≡◌, eqb, ℤ, pos, negsuc, nat_abs, length, get_or, replicate, take, Some, None, Ok}
use Rattle.format.specs.Example.{S}
use Rattle.format.specs.declared.Pattern.{Pattern}
use Rattle.choosing_spec.specs.Choosing.{choose, choice_number, choice_values}
use Rattle.choosing_spec.specs.Clashing.{clash_of, clash_number, clash_values}
use Rattle.table_query.specs.Asking as asking
use Rattle.table_query.specs.Asking.{ask_of}
use Rattle.clash_check.specs.Entry as clashing
use Rattle.clash_check.specs.Entry.{clash_answer}
use Rattle.decoding.specs.Decoding as decoding
use Rattle.decoding.specs.Decoding.{decode_of, rows_after}
use Rattle.text_decoding.specs.TextDecoding as texting
use Rattle.text_decoding.specs.TextDecoding.{decode_text_of, text_after}
use Rattle.tree_building_spec.specs.Tree.{tree_of, tree_bytes}
use Rattle.tree_building.specs.Building as building
use Rattle.tree_building.specs.Building.{build_of, build_after}
use Rattle.worked_theorems.specs.Branches.{B}
use Rattle.tree_check.specs.Entry.{Answers}

pub record Case : Type 0 where
  pub given : List ℕ
  pub said : List ℕ

unfoldable pub same : List ℕ → List ℕ → Bool
same [] [] = true
same [] (y ∷ ys) = false
same (x ∷ xs) [] = false
same (x ∷ xs) (y ∷ ys) = eqb x y && same xs ys

unfoldable pub all_hold : List Case → Bool
all_hold [] = true
all_hold (x ∷ xs) = same x.given x.said && all_hold xs

-- answers as numbers: that of document 01's table, then the values
unfoldable pub asks : ℕ → List ℕ → List ℕ
asks t s = asking.number_of (ask_of S t 0 s) ∷ asking.values_of (ask_of S t 0 s)

unfoldable pub clashes : ℕ → List ℕ
clashes t = clashing.number_of (clash_answer S t) ∷ clashing.values_of (clash_answer S t)

-- a pattern of the first two bytes, mask and value
unfoldable pub bytes : ℕ → ℕ → Pattern
bytes m v = record { mask = m; value = v; contextmask = 0; contextvalue = 0 }

unfoldable pub rows : List Pattern → ℕ → Pattern
rows ps j = get_or ps j (bytes 0 0)

-- "Patterns F0/10 and 0F/01", "with FF/11 added", "With FF 80/11 00 and FF 80/11 80 instead"
unfoldable pub two : List Pattern
two = bytes 0xf0 0x10 ∷ bytes 0x0f 0x01 ∷ []

unfoldable pub three : List Pattern
three = two ++ (bytes 0xff 0x11 ∷ [])

unfoldable pub halves : List Pattern
halves = two ++ (bytes 0x80ff 0x0011 ∷ bytes 0x80ff 0x8011 ∷ [])

unfoldable pub chooses : List Pattern → List ℕ → List ℕ
chooses ps s = let r = choose (rows ps) (length ps) s 0 in choice_number r ∷ choice_values r

unfoldable pub pairs : List Pattern → List ℕ
pairs ps = let r = clash_of (rows ps) (length ps) in clash_number r ∷ clash_values r

-- a row's numbers, one below zero as 1 and its magnitude, any other as 0 and itself
unfoldable pub signed_of : List ℤ → List ℕ
signed_of [] = []
signed_of (pos n ∷ zs) = 0 ∷ n ∷ signed_of zs
signed_of (negsuc n ∷ zs) = 1 ∷ nat_abs (negsuc n) ∷ signed_of zs

-- decoding to so many lent rows, whose numbers are 7 before, at an address: the answer, and the lent numbers afterwards
unfoldable pub decodes_by : List ℕ → (address n : ℕ) → List ℕ → List ℕ
decodes_by b address n s =
    (decoding.number_of (decode_of b 0 address s (4 * n)) ∷ decoding.values_of (decode_of b 0 address s (4 * n)))
    ++ signed_of (rows_after b 0 address s (replicate (4 * n) (pos 7)))

-- decoding to text into so many lent bytes, which are 63 before, at an address: the answer, and the lent bytes afterwards
unfoldable pub reads_by : List ℕ → (address n : ℕ) → List ℕ → List ℕ
reads_by b address n s =
    (texting.number_of (decode_text_of b 0 address s n) ∷ texting.values_of (decode_text_of b 0 address s n))
    ++ text_after b 0 address s (replicate n 63)

-- of S; it has no expression, so that the address plays no part
unfoldable pub decodes : ℕ → List ℕ → List ℕ
decodes n s = decodes_by S 0 n s

unfoldable pub reads : ℕ → List ℕ → List ℕ
reads n s = reads_by S 0 n s

-- the bytes of the tree that the rule makes for a table whose first constructor is 0
unfoldable pub grows : List Pattern → List ℕ
grows ps = tree_bytes (tree_of 0 (rows ps) (length ps))

-- building a tree of S into so many lent bytes, which are 63 before: the answer, and the lent bytes afterwards
unfoldable pub builds : (table n : ℕ) → List ℕ
builds t n = (building.number_of (build_of S t n) ∷ building.values_of (build_of S t n)) ++ build_after S t (replicate n 63)

-- a pattern, and one inside it that masks a context bit too
unfoldable pub nested : List Pattern
nested = bytes 1 1 ∷ record { mask = 1; value = 1; contextmask = 1; contextvalue = 1 } ∷ []

unfoldable pub cases : List Case
cases =
    -- "1F: .. weight 8"; 13, 25 and 30 choose constructors 1 and 2 and none
    record { given = asks 1 (0x1f ∷ []); said = 0 ∷ 3 ∷ 8 ∷ 0 ∷ 0 ∷ [] } ∷
    record { given = asks 1 (0x13 ∷ []); said = 0 ∷ 1 ∷ 4 ∷ 0 ∷ 0 ∷ [] } ∷
    record { given = asks 1 (0x25 ∷ 0xfe ∷ []); said = 0 ∷ 2 ∷ 4 ∷ 0 ∷ 0 ∷ [] } ∷
    record { given = asks 0 (0xfe ∷ []); said = 0 ∷ 0 ∷ 0 ∷ 0 ∷ 0 ∷ [] } ∷
    -- "Empty: 2, place 0. 30: 3, place 0, table 1."
    record { given = asks 1 []; said = 2 ∷ 0 ∷ 0 ∷ 0 ∷ 0 ∷ [] } ∷
    record { given = asks 1 (0x30 ∷ []); said = 3 ∷ 0 ∷ 1 ∷ 0 ∷ 0 ∷ [] } ∷
    record { given = asks 2 (0x30 ∷ []); said = 12 ∷ 2 ∷ 0 ∷ 0 ∷ 0 ∷ [] } ∷
    -- S has no clash
    record { given = clashes 0; said = 0 ∷ 0 ∷ 0 ∷ 0 ∷ 0 ∷ [] } ∷
    record { given = clashes 1; said = 0 ∷ 0 ∷ 0 ∷ 0 ∷ 0 ∷ [] } ∷
    -- "11 is ambiguous"
    record { given = chooses two (0x11 ∷ []); said = 4 ∷ 0 ∷ [] } ∷
    record { given = pairs two; said = 0 ∷ 1 ∷ 0 ∷ 1 ∷ [] } ∷
    -- "with FF/11 added, clear"
    record { given = chooses three (0x11 ∷ []); said = 0 ∷ 2 ∷ [] } ∷
    record { given = pairs three; said = 0 ∷ 0 ∷ [] } ∷
    -- "still a clash, though 11 40 has an answer"
    record { given = pairs halves; said = 0 ∷ 1 ∷ 0 ∷ 1 ∷ [] } ∷
    record { given = chooses halves (0x11 ∷ 0x40 ∷ []); said = 0 ∷ 2 ∷ [] } ∷
    record { given = chooses halves (0x11 ∷ []); said = 2 ∷ 0 ∷ [] } ∷
    -- "13: rows (0,1,0,1) (1,0,0,3)"
    record {
      given = decodes 2 (0x13 ∷ []);
      said =
          0 ∷ 2 ∷ 0 ∷ 0 ∷ 0 ∷
          0 ∷ 0 ∷ 0 ∷ 1 ∷ 0 ∷ 0 ∷ 0 ∷ 1 ∷
          0 ∷ 1 ∷ 0 ∷ 0 ∷ 0 ∷ 0 ∷ 0 ∷ 3 ∷ [];
    } ∷
    -- "1F: (0,3,0,1)"
    record { given = decodes 1 (0x1f ∷ []); said = 0 ∷ 1 ∷ 0 ∷ 0 ∷ 0 ∷ 0 ∷ 0 ∷ 0 ∷ 3 ∷ 0 ∷ 0 ∷ 0 ∷ 1 ∷ [] } ∷
    -- "25 FE: (0,2,0,2) (1,0,0,5) (0,0,1,1) (1,1,1,-2)", with a row more lent, which stays as it was
    record {
      given = decodes 5 (0x25 ∷ 0xfe ∷ []);
      said =
          0 ∷ 4 ∷ 0 ∷ 0 ∷ 0 ∷
          0 ∷ 0 ∷ 0 ∷ 2 ∷ 0 ∷ 0 ∷ 0 ∷ 2 ∷
          0 ∷ 1 ∷ 0 ∷ 0 ∷ 0 ∷ 0 ∷ 0 ∷ 5 ∷
          0 ∷ 0 ∷ 0 ∷ 0 ∷ 0 ∷ 1 ∷ 0 ∷ 1 ∷
          0 ∷ 1 ∷ 0 ∷ 1 ∷ 0 ∷ 1 ∷ 1 ∷ 2 ∷
          0 ∷ 7 ∷ 0 ∷ 7 ∷ 0 ∷ 7 ∷ 0 ∷ 7 ∷ [];
    } ∷
    -- the same with a row less lent
    record { given = decodes 1 (0x25 ∷ 0xfe ∷ []); said = 9 ∷ 0 ∷ 0 ∷ 0 ∷ 0 ∷ 0 ∷ 7 ∷ 0 ∷ 7 ∷ 0 ∷ 7 ∷ 0 ∷ 7 ∷ [] } ∷
    -- "25: 2, place 1. Empty: 2, place 0. 30: 3, place 0, table 1."
    record { given = decodes 1 (0x25 ∷ []); said = 2 ∷ 1 ∷ 0 ∷ 0 ∷ 0 ∷ 0 ∷ 7 ∷ 0 ∷ 7 ∷ 0 ∷ 7 ∷ 0 ∷ 7 ∷ [] } ∷
    record { given = decodes 0 []; said = 2 ∷ 0 ∷ 0 ∷ 0 ∷ 0 ∷ [] } ∷
    record { given = decodes 0 (0x30 ∷ []); said = 3 ∷ 0 ∷ 1 ∷ 0 ∷ 0 ∷ [] } ∷
    -- "13: .. "inc r3"", with two bytes more lent, which stay as they were
    record { given = reads 8 (0x13 ∷ []); said = 0 ∷ 6 ∷ 0 ∷ 0 ∷ 0 ∷ 105 ∷ 110 ∷ 99 ∷ 32 ∷ 114 ∷ 51 ∷ 63 ∷ 63 ∷ [] } ∷
    -- "1F: .. "halt""
    record { given = reads 4 (0x1f ∷ []); said = 0 ∷ 4 ∷ 0 ∷ 0 ∷ 0 ∷ 104 ∷ 97 ∷ 108 ∷ 116 ∷ [] } ∷
    -- the same with a byte less lent
    record { given = reads 3 (0x1f ∷ []); said = 9 ∷ 0 ∷ 0 ∷ 0 ∷ 0 ∷ 63 ∷ 63 ∷ 63 ∷ [] } ∷
    -- "25 FE: .. "add r5, -0x2""
    record { given = reads 12 (0x25 ∷ 0xfe ∷ []); said = 0 ∷ 12 ∷ 0 ∷ 0 ∷ 0 ∷ 97 ∷ 100 ∷ 100 ∷ 32 ∷ 114 ∷ 53 ∷ 44 ∷ 32 ∷ 45 ∷ 48 ∷ 120 ∷ 50 ∷ [] } ∷
    -- "25 80: -0x80; 25 7F: 0x7f"
    record { given = reads 13 (0x25 ∷ 0x80 ∷ []); said = 0 ∷ 13 ∷ 0 ∷ 0 ∷ 0 ∷ 97 ∷ 100 ∷ 100 ∷ 32 ∷ 114 ∷ 53 ∷ 44 ∷ 32 ∷ 45 ∷ 48 ∷ 120 ∷ 56 ∷ 48 ∷ [] } ∷
    record { given = reads 12 (0x25 ∷ 0x7f ∷ []); said = 0 ∷ 12 ∷ 0 ∷ 0 ∷ 0 ∷ 97 ∷ 100 ∷ 100 ∷ 32 ∷ 114 ∷ 53 ∷ 44 ∷ 32 ∷ 48 ∷ 120 ∷ 55 ∷ 102 ∷ [] } ∷
    -- "25: 2, place 1. Empty: 2, place 0. 30: 3, place 0, table 1."
    record { given = reads 1 (0x25 ∷ []); said = 2 ∷ 1 ∷ 0 ∷ 0 ∷ 0 ∷ 63 ∷ [] } ∷
    record { given = reads 0 []; said = 2 ∷ 0 ∷ 0 ∷ 0 ∷ 0 ∷ [] } ∷
    record { given = reads 0 (0x30 ∷ []); said = 3 ∷ 0 ∷ 1 ∷ 0 ∷ 0 ∷ [] } ∷
    -- S with a section 7: a branch by 16 bytes from the address after it, forwards and backwards, "jmp 0x112" and "jmp 0xf2" at 0x100
    record {
      given = decodes_by B 0x100 3 (0x40 ∷ 0x10 ∷ []);
      said =
          0 ∷ 3 ∷ 0 ∷ 0 ∷ 0 ∷
          0 ∷ 0 ∷ 0 ∷ 4 ∷ 0 ∷ 0 ∷ 0 ∷ 2 ∷
          0 ∷ 1 ∷ 0 ∷ 1 ∷ 0 ∷ 1 ∷ 0 ∷ 16 ∷
          0 ∷ 3 ∷ 0 ∷ 0 ∷ 0 ∷ 0 ∷ 0 ∷ 0x112 ∷ [];
    } ∷
    record { given = reads_by B 0x100 9 (0x40 ∷ 0x10 ∷ []); said = 0 ∷ 9 ∷ 0 ∷ 0 ∷ 0 ∷ 106 ∷ 109 ∷ 112 ∷ 32 ∷ 48 ∷ 120 ∷ 49 ∷ 49 ∷ 50 ∷ [] } ∷
    record { given = reads_by B 0x100 8 (0x40 ∷ 0xf0 ∷ []); said = 0 ∷ 8 ∷ 0 ∷ 0 ∷ 0 ∷ 106 ∷ 109 ∷ 112 ∷ 32 ∷ 48 ∷ 120 ∷ 102 ∷ 50 ∷ [] } ∷
    -- "no address wraps": "jmp -0xe" at 0, and 0x100000000 from the last address of 32 bits
    record { given = reads_by B 0 8 (0x40 ∷ 0xf0 ∷ []); said = 0 ∷ 8 ∷ 0 ∷ 0 ∷ 0 ∷ 106 ∷ 109 ∷ 112 ∷ 32 ∷ 45 ∷ 48 ∷ 120 ∷ 101 ∷ [] } ∷
    record {
      given = decodes_by B 0xffffffff 3 (0x40 ∷ 0xff ∷ []);
      said =
          0 ∷ 3 ∷ 0 ∷ 0 ∷ 0 ∷
          0 ∷ 0 ∷ 0 ∷ 4 ∷ 0 ∷ 0 ∷ 0 ∷ 2 ∷
          0 ∷ 1 ∷ 0 ∷ 1 ∷ 0 ∷ 1 ∷ 1 ∷ 1 ∷
          0 ∷ 3 ∷ 0 ∷ 0 ∷ 0 ∷ 0 ∷ 0 ∷ 0x100000000 ∷ [];
    } ∷
    -- a shift left by 63: -1 is the least number, 1 is outside, "refused with 13 and the operand's place", also with nothing lent
    record {
      given = decodes_by B 0 3 (0x50 ∷ 0xff ∷ []);
      said =
          0 ∷ 3 ∷ 0 ∷ 0 ∷ 0 ∷
          0 ∷ 0 ∷ 0 ∷ 5 ∷ 0 ∷ 0 ∷ 0 ∷ 2 ∷
          0 ∷ 1 ∷ 0 ∷ 1 ∷ 0 ∷ 1 ∷ 1 ∷ 1 ∷
          0 ∷ 3 ∷ 0 ∷ 1 ∷ 0 ∷ 0 ∷ 1 ∷ 0x8000000000000000 ∷ [];
    } ∷
    record { given = decodes_by B 0 0 (0x50 ∷ 0x01 ∷ []); said = 13 ∷ 0 ∷ 0 ∷ 0 ∷ 0 ∷ [] } ∷
    record { given = reads_by B 0 1 (0x50 ∷ 0x01 ∷ []); said = 13 ∷ 0 ∷ 0 ∷ 0 ∷ 0 ∷ 63 ∷ [] } ∷
    -- a refusal of the walk comes before it, and the same bytes of S are decoded as before
    record { given = reads_by B 0 1 (0x50 ∷ []); said = 2 ∷ 1 ∷ 0 ∷ 0 ∷ 0 ∷ 63 ∷ [] } ∷
    record { given = reads_by B 0x100 8 (0x13 ∷ []); said = 0 ∷ 6 ∷ 0 ∷ 0 ∷ 0 ∷ 105 ∷ 110 ∷ 99 ∷ 32 ∷ 114 ∷ 51 ∷ 63 ∷ 63 ∷ [] } ∷
    -- a tree of one leaf, with two bytes more lent, which stay as they were; a byte too few; no such table
    record { given = builds 0 8; said = 0 ∷ 6 ∷ 0 ∷ 0 ∷ 0 ∷ 1 ∷ 0 ∷ 0 ∷ 0 ∷ 0 ∷ 0 ∷ 63 ∷ 63 ∷ [] } ∷
    record { given = builds 0 5; said = 16 ∷ 0 ∷ 0 ∷ 0 ∷ 0 ∷ 63 ∷ 63 ∷ 63 ∷ 63 ∷ 63 ∷ [] } ∷
    record { given = builds 2 1; said = 12 ∷ 2 ∷ 0 ∷ 0 ∷ 0 ∷ 63 ∷ [] } ∷
    -- no byte is enough for no tree
    record { given = builds 1 0; said = 16 ∷ 0 ∷ 0 ∷ 0 ∷ 0 ∷ [] } ∷
    -- "byte bits before context bits": byte bit 0, none behind its zero side; context bit 0, with the outer and the inner pattern
    record {
      given = grows nested;
      said =
          5 ∷ 0 ∷
          1 ∷ 0 ∷ 2 ∷ 0 ∷
          0 ∷ 0 ∷ 0xff ∷ 0xff ∷
          2 ∷ 0 ∷ 4 ∷ 0 ∷
          0 ∷ 0 ∷ 0 ∷ 0 ∷
          0 ∷ 0 ∷ 1 ∷ 0 ∷ [];
    } ∷
    -- low bits first: the patterns of S's table 1 make 79 nodes
    record { given = take 2 (grows (bytes 0xf0 0x10 ∷ bytes 0xf0 0x20 ∷ bytes 0xff 0x1f ∷ [])); said = 79 ∷ 0 ∷ [] } ∷
    []

unfoldable pub holds : Bool
holds = all_hold cases

-- trees of one leaf: one that names constructor 0, and one that says none
abbrev pub leaf_zero : List ℕ
leaf_zero = 1 ∷ 0 ∷ 0 ∷ 0 ∷ 0 ∷ 0 ∷ []

abbrev pub leaf_none : List ℕ
leaf_none = 1 ∷ 0 ∷ 0 ∷ 0 ∷ 0xff ∷ 0xff ∷ []

-- the one claim: every case holds, and "table 0, one leaf 0: accepted. One leaf none: node 0 wrong."
pub record Starred : Type 0 where
  pub computed : holds ≡ true
  pub right : Answers S 0 leaf_zero (Ok None)
  pub wrong : Answers S 0 leaf_none (Ok (Some (record { node = 0; word = 0; context = 0 })))
