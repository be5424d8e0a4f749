-- P13 to P19: the text of the listing.
use Rattle.answers.specs.declared.Refusal.{Refusal}
use Rattle.std.specs.Prelude.{ℕ, zero, suc, ◌+◌, ◌/◌, ◌%◌, List, [], ◌∷◌, ◌++◌, cond, length, ltb, Result, Ok, Err}
use Rattle.answers.specs.Verdict.{Verdict, fitting}
use Rattle.box_rules.specs.Walk.{walk, ending}
use Rattle.box_rules.specs.Packets.{Packet, packets}

-- P15: "numbers decimal"; fuel n is enough, since n / 10 is less than n
unfoldable pub dec_in : ℕ → ℕ → List ℕ
dec_in zero n = (48 + n) ∷ []
dec_in (suc k) n = cond (ltb n 10) ((48 + n) ∷ []) (dec_in k (n / 10) ++ ((48 + n % 10) ∷ []))

-- P15: a number in decimal, without leading zeros
unfoldable pub dec : ℕ → List ℕ
dec n = dec_in n n

-- P15: a hexadecimal digit, A to F for 10 to 15
unfoldable pub glyph : ℕ → ℕ
glyph d = cond (ltb d 10) (48 + d) (55 + d)

-- P15: the last k digits in hexadecimal
unfoldable pub hex : ℕ → ℕ → List ℕ
hex zero n = []
hex (suc k) n = hex k (n / 16) ++ (glyph (n % 16) ∷ [])

-- P13: "instance number bytes type", and LF
unfoldable pub header : List ℕ
header =
    105 ∷ 110 ∷ 115 ∷ 116 ∷ 97 ∷ 110 ∷ 99 ∷ 101 ∷ 32 ∷ 110 ∷ 117 ∷ 109 ∷ 98 ∷ 101 ∷ 114 ∷ 32 ∷ 98 ∷ 121 ∷ 116 ∷ 101 ∷ 115 ∷ 32 ∷ 116 ∷ 121 ∷ 112 ∷ 101 ∷ 10 ∷ []

-- P14: "instance number bytes type", "`bytes` the packet's own payload"
unfoldable pub line : ℕ → ℕ → ℕ → ℕ → List ℕ
line instance number bytes kind = dec instance ++ (32 ∷ (dec number ++ (32 ∷ (dec bytes ++ (32 ∷ (hex 8 kind ++ (10 ∷ [])))))))

-- P14: "Lines stand in file order"
unfoldable pub lines : List Packet → List ℕ
lines [] = []
lines (p ∷ r) = line p.head.instance p.head.number (length p.payload) p.head.kind ++ lines r

-- P16: the word answer, a number, a place, and LF
unfoldable pub answer : ℕ → ℕ → List ℕ
answer n p = 97 ∷ 110 ∷ 115 ∷ 119 ∷ 101 ∷ 114 ∷ 32 ∷ (dec n ++ (32 ∷ (dec p ++ (10 ∷ []))))

-- P16, P17: "a refused walk gives the header and `answer` with number and place only"
abbrev pub text_after : Result ℕ Refusal → List ℕ → List ℕ
text_after (Ok count) ls = ls ++ answer 0 0
text_after (Err r) ls = answer r.number r.place

-- P13, P18: "a file of at most 64 KiB"; "A longer input gives the header and `answer 20 0`"
unfoldable pub listing : List ℕ → List ℕ
listing file = header ++ cond (ltb 65536 (length file)) (answer 20 0) (text_after (ending (walk file)) (lines (packets file)))

-- N6, P19: the listing in a lent buffer
unfoldable pub list_packets : List ℕ → ℕ → Verdict ℕ
list_packets file room = fitting room (listing file)
