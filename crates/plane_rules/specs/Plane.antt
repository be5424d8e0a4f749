-- What DC and AC planes share: the counts they take (R1, E1), who writes which level (E11), blocks one after another (R3), what must follow the last (R15).
use Rattle.std.specs.Prelude.{Bool, true, List, [], ◌∷◌, ◌++◌, ℕ, zero, suc, leb, ℤ, take, drop}
use Rattle.answers.specs.Verdict.{Verdict, given, refused, refusal_at, need}
use Rattle.answers.specs.declared.Refusal.{Refusal}
use Rattle.bit_rules.specs.Source.{Source, Out, got, stopped, only_padding}
use Rattle.bit_rules.specs.Reader.{Reader}

-- N14, R1, E1: "Plane j takes level j-1 values to level j; j is 1 to 4"; "0 to 1,024 blocks a call"; "The writer takes level j values, j 1 to 4"
abbrev pub readable : ℕ → ℕ → List Bool
readable plane blocks = leb 1 plane ∷ leb plane 4 ∷ leb blocks 1024 ∷ []

-- E11: who writes a plane: our writer, or "the rules of 01, which stay in the definitions for that use"
pub data Writer : Type 0 where
  our_writer : Writer
  the_rules : Writer

-- E11: 28, "level retired": "The writer refuses level 4 from now on."
abbrev pub writable : Writer → ℕ → Bool
writable our_writer plane = leb plane 3
writable the_rules plane = true

-- L2, R3: n blocks of m values
abbrev pub parts : ℕ → ℕ → List ℤ → List (List ℤ)
parts m zero values = []
parts m (suc n) values = take m values ∷ parts m n (drop m values)

-- R3: what reading the blocks comes to: the values and the data left, or a refusal
pub data Plane : Type 0 where
  read : List ℤ → Source → Plane
  refusing : Refusal → Plane

-- R3: values in front of those that follow
unfoldable pub onto : List ℤ → Plane → Plane
onto values (read more s) = read (values ++ more) s
onto values (refusing r) = refusing r

-- R3, N17: one block was read, and `next` reads on; or it was not: refusals "give the block and, as a second place, that offset of the last bit asked for"
abbrev pub in_block : {A : Type 0} → ℕ → (A → Source → Plane) → Out A → Plane
in_block block next (got a s) = next a s
in_block block next (stopped x) = refusing (refusal_at x.number block x.offset)

-- blocks one after another, the first with this number: `one` reads a block before later ones, and what it leaves open the next begins with
abbrev pub blocks_from : {A B : Type 0} → (A → B → List B → Reader (List ℤ × A)) → ℕ → A → List B → Source → Plane
blocks_from one block o [] s = read [] s
blocks_from one block o (b ∷ bs) s = in_block block (λ r t. onto r.0 (blocks_from one (suc block) r.1 bs t)) (one o b bs s)

-- B6, R15: "After the last block the unread bits of the byte must be ones and no byte may follow": else 18, "bytes read"
unfoldable pub closed : Plane → Verdict ℤ
closed (read values s) = need (only_padding s) 18 s.seen (given values)
closed (refusing r) = refused r
