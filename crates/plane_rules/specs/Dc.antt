-- R2 to R4, E2, E3 and E11: DC planes, read and written. "A DC plane is one bit per block: new DC = 2c + bit. Its calls need no table."
use Rattle.std.specs.Prelude.{Bool, List, [], ◌∷◌, map, ℕ, ◌-◌, ◌/◌, eqb, leb, ℤ, pos, negsuc, ◌+ℤ◌, ◌*ℤ◌, length}
use Rattle.std.specs.Int.Signed.{lt_z}
use Rattle.laws.specs.Index.{every}
use Rattle.answers.specs.Verdict.{Verdict, need, unless, fitting}
use Rattle.levels.specs.Level.{first_outside}
use Rattle.levels.specs.declared.Part.TheVariants.{Dc}
use Rattle.bit_rules.specs.Digits.{bin}
use Rattle.bit_rules.specs.Source.{Source, start, take_bit}
use Rattle.bit_rules.specs.Reader.{Reader, ◌>>=◌, done}
use Rattle.bit_rules.specs.Pack.{bytes_of}
use Rattle.plane_rules.specs.Plane.{readable, Writer, our_writer, writable, Plane, blocks_from, closed}

-- R4: "new DC = 2c + bit"
unfoldable pub new_dc : ℤ → Bool → ℤ
new_dc value b = pos 2 *ℤ value +ℤ pos (bin b)

-- R4: "one bit per block"; nothing stays open behind it
abbrev pub dc_block : Unit {0} → ℤ → List ℤ → Reader (List ℤ × Unit {0})
dc_block u c later = do
  b ← take_bit
  done (new_dc c b ∷ [], u)

-- R3, R4: the block with this number and those after it
unfoldable pub dc_blocks : ℕ → List ℤ → Source → Plane
dc_blocks block values s = blocks_from dc_block block tt values s

-- N7, L2, R2: reading: 20, 21, 11, 9, then 12, 13 and 18 as the bits are met
unfoldable pub read_dc : ℕ → ℕ → List ℤ → List ℕ → ℕ → Verdict ℤ
read_dc plane blocks values bytes room =
    need (every (readable plane blocks)) 20 0
    (need (eqb (length values) blocks) 21 0
    (unless 11 (first_outside Dc (plane - 1) values)
    (need (leb blocks room) 9 blocks
    (closed (dc_blocks 0 values (start bytes))))))

-- E3: "against their halves (DC downward, ..": negsuc n is -(n+1)
unfoldable pub dc_half : ℤ → ℤ
dc_half (pos n) = pos (n / 2)
dc_half (negsuc n) = negsuc (n / 2)

-- E3: whether a value is more than twice its half
unfoldable pub dc_bit : ℤ → Bool
dc_bit value = lt_z (pos 2 *ℤ dc_half value) value

-- E3, E10: the bytes of a plane: a bit a block
abbrev pub dc_bytes : List ℤ → List ℕ
dc_bytes values = bytes_of (map dc_bit values)

-- N8, E2, E11: writing: 20, 28, "in plane writing directly after 20", 21, 11, 9
unfoldable pub written_dc : Writer → ℕ → ℕ → List ℤ → ℕ → Verdict ℕ
written_dc writer plane blocks values room =
    need (every (readable plane blocks)) 20 0
    (need (writable writer plane) 28 0
    (need (eqb (length values) blocks) 21 0
    (unless 11 (first_outside Dc plane values)
    (fitting room (dc_bytes values)))))

-- E11: the call
abbrev pub write_dc : ℕ → ℕ → List ℤ → ℕ → Verdict ℕ
write_dc plane blocks values room = written_dc our_writer plane blocks values room
