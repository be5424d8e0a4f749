-- D11, which byte (A4): what the second place of a refused plane says of its data, said by what is read of other data, and not by how it was found.
use Rattle.std.specs.Prelude.{◌≡◌, ◌⊎◌, cond, List, [], ◌∷◌, ◌++◌, ℕ, ◌+◌, ◌-◌, ◌≤◌, ◌<◌, eqb, ℤ, length, get_or, take}
use Rattle.answers.specs.Verdict.{Verdict, refused, refusal_at}
use Rattle.bit_rules.specs.Table.{Table}
use Rattle.plane_rules.specs.Dc.{read_dc}
use Rattle.plane_rules.specs.AcRead.{read_ac}

-- D11: a byte, and with an FF the byte that was tested behind it
abbrev pub size : ℕ → ℕ
size byte = cond (eqb byte 255) 2 1

-- D11: what is read of data refuses them with n, p and q
abbrev pub Refuses : (List ℕ → Verdict ℤ) → List ℕ → ℕ → ℕ → ℕ → Type 0
Refuses reads bytes n p q = reads bytes ≡ refused (refusal_at n p q)

-- D11: of a call that reads coded data
pub record WhichByte (reads : List ℕ → Verdict ℤ) : Type 0 where
  -- 12: "the byte that was missing" is the one behind the data
  pub missing : (bytes : List ℕ) (p q : ℕ) → Refuses reads bytes 12 p q → q ≡ length bytes
  -- 13 to 17: a byte of the data
  pub below : (bytes : List ℕ) (n p q : ℕ) → 13 ≤ n → n ≤ 17 → Refuses reads bytes n p q → q < length bytes
  -- "13 gives its FF", and another byte than 00 stands behind it
  pub marker : (bytes : List ℕ) (p q : ℕ) → Refuses reads bytes 13 p q → (get_or bytes q 0 ≡ 255) × (q + 1 < length bytes) × (get_or bytes (q + 1) 0 ≡ 0 → ⊥)
  -- a byte that carries bits: no FF stands in front of it, so it is no FF's 00
  pub carries : (bytes : List ℕ) (n p q : ℕ) → 13 ≤ n → n ≤ 17 → Refuses reads bytes n p q → 0 < q → get_or bytes (q - 1) 0 ≡ 255 → ⊥
  -- it was asked for: data that are cut in front of it end early, and this is the byte that is missing
  pub asked : (bytes : List ℕ) (n p q : ℕ) → 13 ≤ n → n ≤ 17 → Refuses reads bytes n p q → (r : ℕ) × Refuses reads (take q bytes) 12 r q
  -- and it was the last: data are refused alike whatever stands behind it, and behind the byte that goes with an FF
  pub last : (bytes more : List ℕ) (n p q : ℕ) → 13 ≤ n → n ≤ 17 → Refuses reads bytes n p q
      → Refuses reads (take (q + size (get_or bytes q 0)) bytes ++ more) n p q

-- ---- the law at both ends of its ranges, which it would not give if it said less

-- D11: data that are refused with the one number or the other
abbrev pub Either : (List ℕ → Verdict ℤ) → List ℕ → ℕ → ℕ → ℕ → ℕ → Type 0
Either reads bytes n m p q = Refuses reads bytes n p q ⊎ Refuses reads bytes m p q

-- D11: cut there, the data end early; with the byte, and what goes with an FF, and two bytes FF behind it, they are refused as before
pub record ByteShown (reads : List ℕ → Verdict ℤ) : Type 0 where
  pub missing : (byte p q : ℕ) → Refuses reads (byte ∷ []) 12 p q → q ≡ 1
  pub below : (bytes : List ℕ) (p q : ℕ) → Either reads bytes 13 17 p q → q < length bytes
  pub marker : (bytes : List ℕ) (p q : ℕ) → Refuses reads bytes 13 p q → (get_or bytes q 0 ≡ 255) × (get_or bytes (q + 1) 0 ≡ 0 → ⊥)
  pub carries : (bytes : List ℕ) (p q : ℕ) → Either reads bytes 13 17 p (q + 1) → get_or bytes q 0 ≡ 255 → ⊥
  pub asked : (bytes : List ℕ) (p q : ℕ) → Either reads bytes 13 17 p q → (r : ℕ) × Refuses reads (take q bytes) 12 r q
  pub last : (bytes : List ℕ) (p q : ℕ) → Refuses reads bytes 13 p q → Refuses reads (take (q + size (get_or bytes q 0)) bytes ++ (255 ∷ 255 ∷ [])) 13 p q
  pub lastly : (bytes : List ℕ) (p q : ℕ) → Refuses reads bytes 17 p q → Refuses reads (take (q + size (get_or bytes q 0)) bytes ++ (255 ∷ 255 ∷ [])) 17 p q

-- D11: both readers of planes
pub record TellsWhichByte : Type 0 where
  pub dc : (plane blocks : ℕ) (values : List ℤ) (room : ℕ) → WhichByte (λ bytes. read_dc plane blocks values bytes room)
  pub ac : (plane blocks : ℕ) (codes : Table) (values : List ℤ) (room : ℕ) → WhichByte (λ bytes. read_ac plane blocks codes values bytes room)
  pub dc_shown : (plane blocks : ℕ) (values : List ℤ) (room : ℕ) → ByteShown (λ bytes. read_dc plane blocks values bytes room)
  pub ac_shown : (plane blocks : ℕ) (codes : Table) (values : List ℤ) (room : ℕ) → ByteShown (λ bytes. read_ac plane blocks codes values bytes room)
